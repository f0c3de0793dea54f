-- Some of the circuits of a file, as a file of their own. What a reader must believe.
-- Assumes nothing.
use Rattle.std.specs.Prelude.{◌<◌, suc, zero, ℕ, length, Bool, cond, true, List, [], ◌++◌, ◌∷◌, map, ◌≡◌}
use Rattle.records.specs.declared.Circuit.{Circuit}
use Rattle.method.specs.Line.{circuit}

-- the places below m that pass
unfoldable pub those : (ℕ → Bool) → ℕ → List ℕ
those p zero = []
those p (suc m) = those p m ++ cond (p m) (m ∷ []) []

-- the circuits that pass, in the order of the file
unfoldable pub picked : (ℕ → Bool) → List Circuit → List Circuit
picked p cs = map (circuit cs) (those p (length cs))

-- a file that has exactly the circuits of cs that pass, each once, in any order
pub record PartOf (p : ℕ → Bool) (cs part : List Circuit) : Type 0 where
  -- the place in the part of the circuit at place j of cs, and the place in cs of the circuit at place r of the part
  pub rank : ℕ → ℕ
  pub origin : ℕ → ℕ
  -- each that passes is there
  pub in_part : (j : ℕ) → j < length cs → p j ≡ true → (rank j < length part) × (origin (rank j) ≡ j)
  -- and no other is
  pub from_file : (r : ℕ) → r < length part → (origin r < length cs) × (p (origin r) ≡ true) × (rank (origin r) ≡ r)
  -- it is the same circuit
  pub same : (r : ℕ) → r < length part → circuit part r ≡ circuit cs (origin r)
