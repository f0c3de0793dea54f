-- Which row of a table is given, said without running through it. What a reader must believe.
-- Assumes nothing.
use Rattle.std.specs.Prelude.{ℕ, ◌<◌, ◌≡◌, List, [], ◌∷◌, length, get_or}
use Rattle.std.proofs.Math.Option.{none, some}
use Rattle.refusals.specs.Refusals.{number_of}
use Rattle.refusals.specs.declared.Refusal.{Refusal}
use Rattle.refusals.specs.Table.{Row}

-- row i of a table, counted from 0; past its end stands a row that never applies
abbrev pub row_at : List Row → ℕ → Row
row_at rows i = get_or rows i none

-- the refusal that is given: that of a row that applies, and no row before it does
pub record Given (rows : List Row) (r : Refusal) : Type 0 where
  pub index : ℕ
  pub below : index < length rows
  pub here : row_at rows index ≡ some r
  pub first : (i : ℕ) → i < index → row_at rows i ≡ none

-- the rows of a table stand in the order of these numbers: each, where it applies, gives its own
abbrev pub InOrder : List ℕ → List Row → Type 0
InOrder [] [] = Unit {0}
InOrder [] (row ∷ rows) = ⊥
InOrder (x ∷ xs) [] = ⊥
InOrder (x ∷ xs) (row ∷ rows) = ((r : Refusal) → row ≡ some r → number_of r.reason ≡ x) × InOrder xs rows

-- no row of the table applies
pub record NoneApplies (rows : List Row) : Type 0 where
  pub each : (i : ℕ) → i < length rows → row_at rows i ≡ none
