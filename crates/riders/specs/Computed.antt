-- The index as a list that computes. `proofs/RiderLaws.antt` shows `index_is`, that an index that was built is this list. What a reader must believe.
-- Assumes nothing.
use Rattle.std.specs.Prelude.{ℕ, zero, suc, ◌+◌, cond, List, [], ◌∷◌, ◌++◌, length, ltb}
use Rattle.basics.specs.Tools.{each}
use Rattle.records.specs.declared.Circuit.{Circuit}
use Rattle.method.specs.Line.{circuit, uses}
use Rattle.riders.specs.Index.{start_of}

-- x among rising numbers
unfoldable pub insert : ℕ → List ℕ → List ℕ
insert x [] = x ∷ []
insert x (y ∷ ys) = cond (ltb x y) (x ∷ y ∷ ys) (y ∷ insert x ys)

-- the numbers of those of the first j circuits that use link i, rising
unfoldable pub numbers_to : List Circuit → ℕ → ℕ → List ℕ
numbers_to cs i zero = []
numbers_to cs i (suc j) = cond (uses (circuit cs j) i) (insert (circuit cs j).number (numbers_to cs i j)) (numbers_to cs i j)

-- the stretches of links 1 to i
unfoldable pub stretches_to : List Circuit → ℕ → List ℕ
stretches_to cs zero = []
stretches_to cs (suc i) = stretches_to cs i ++ numbers_to cs (suc i) (length cs)

-- n + 1 starts, then the stretches
unfoldable pub index_of : ℕ → List Circuit → List ℕ
index_of n cs = each (start_of n cs) 1 (n + 1) ++ stretches_to cs n
