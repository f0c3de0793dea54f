-- A test of the joined file that is run file by file: what its answer is made of. Assumes nothing.
use Rattle.std.specs.Prelude.{ℕ, ◌≡◌, List, Result, Ok, Err}
use Rattle.std.proofs.Math.Option.{none, some}
use Rattle.refusals.specs.Table.{Row, row7}
use Rattle.refusals.specs.declared.Refusal.{Refusal}
use Rattle.two_files.specs.Rows.{counted}

-- the first row, where it applies, and else the second
abbrev pub or_else : Row → Row → Row
or_else none row = row
or_else (some r) row = some r

-- the answer of a test, with its place counted on from k records
abbrev pub counted_on : ℕ → Result ℕ Refusal → Result ℕ Refusal
counted_on k (Ok x) = Ok x
counted_on k (Err r) = Err (counted k r)

-- the place that a test answers, and 0 where it passes
abbrev pub place_of : Result ℕ Refusal → ℕ
place_of (Ok x) = 0
place_of (Err r) = r.place

-- no number stands twice in either file
pub record Unlike (old : List ℕ) (k : ℕ) (new : List ℕ) (m : ℕ) : Type 0 where
  pub in_old : row7 old k ≡ none
  pub in_new : row7 new m ≡ none
