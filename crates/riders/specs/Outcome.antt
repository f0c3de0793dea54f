-- What `index_riders` answers, and what the index buffer holds afterwards, for every input. What a reader must believe.
-- Assumes nothing.
use Rattle.std.specs.Prelude.{ℕ, ◌+◌, ◌/◌, ◌≡◌, List, [], ◌∷◌, ◌++◌, length, ltb, Result, Ok, Err}
use Rattle.std.proofs.Math.Option.{Option, none, some}
use Rattle.records.specs.Records.{circuits_in}
use Rattle.records.specs.declared.Circuit.{Circuit}
use Rattle.refusals.specs.Refusals.{refusal_in, if_refused}
use Rattle.refusals.specs.Table.{Row, whenever, verdict, row3}
use Rattle.refusals.specs.declared.Refusal.{Refusal}
use Rattle.refusals.specs.declared.Reason.TheVariants.{IndexRoom}
use Rattle.two_files.specs.Rows.{row14, two_file_rows, two_record_rows}
use Rattle.riders.specs.Index.{Index, cells_for}

-- what `index_riders` answers: how many cells the index has, or a refusal
abbrev pub Answer : Type 0
Answer = Result ℕ Refusal

-- the circuits of both files: those of the old one, then those of the new one
abbrev pub both_of : List ℕ → List ℕ → List Circuit
both_of old new = circuits_in (length old / 8 + length new / 8) (old ++ new)

-- 15: index buffer with fewer cells than are needed
abbrev pub row15 : ℕ → ℕ → Row
row15 needed has = whenever IndexRoom (ltb has needed)

-- the tests of an index, for a line of n links, the bytes of both files, and the length of the index buffer: two files as R-2 tests them, then 15
unfoldable pub index_table : ℕ → List ℕ → List ℕ → ℕ → List Row
index_table n old new has =
    two_file_rows old new
    ++ (row3 512 n
    ∷ (two_record_rows n (length old / 8) (length new / 8) old new
    ++ (row14 old (length old / 8) new (length new / 8) ∷ row15 (cells_for n (both_of old new)) has ∷ [])))

-- the verdict of the tests: the first refusal that applies, or else how many cells the index has
unfoldable pub judged : ℕ → List ℕ → List ℕ → List ℕ → Result ℕ Refusal
judged n old new before = verdict (index_table n old new (length before)) (cells_for n (both_of old new))

-- indexed, with how many cells, or refused, as the table says
abbrev pub answer_by : Result ℕ Refusal → ℕ → Answer
answer_by v cells = if_refused (refusal_in v) Err (Ok cells)

-- where the files were accepted one thing holds, and where they were refused another
abbrev pub IfAccepted : Option Refusal → Type 0 → Type 0 → Type 0
IfAccepted none accepted refused = accepted
IfAccepted (some r) accepted refused = refused

-- the answer and every cell of the index buffer: it holds the index of both files, or is as it was
pub record Outcome (n : ℕ) (old new before after : List ℕ) (answer : Answer) : Type 0 where
  pub answered : answer ≡ answer_by (judged n old new before) (cells_for n (both_of old new))
  pub indexed : IfAccepted (refusal_in (judged n old new before)) (Index n (both_of old new) before after) (after ≡ before)
