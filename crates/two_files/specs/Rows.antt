-- The rows of the table of refusals for two files of circuits, an old one and a new one. What a reader must believe.
-- Assumes nothing.
use Rattle.std.specs.Prelude.{ℕ, ◌+◌, ◌/◌, Bool, List, [], ◌∷◌, ◌++◌, length}
use Rattle.std.proofs.Math.Option.{none, some}
use Rattle.basics.specs.Tools.{any}
use Rattle.records.specs.Records.{number_in}
use Rattle.refusals.specs.declared.Refusal.{Refusal}
use Rattle.refusals.specs.declared.Reason.TheVariants.{NumberTaken}
use Rattle.refusals.specs.Table.{Row, wherever, no_end, first_record, has_number, row1, row2, row5, row6, row7}

-- a refusal with its place counted on from k records
abbrev pub counted : ℕ → Refusal → Refusal
counted k r = record { reason = r.reason; place = k + r.place; end = r.end }

-- a row of the new file: its place counts on from the k records of the old one
abbrev pub later : ℕ → Row → Row
later k none = none
later k (some r) = some (counted k r)

-- record j of the new file has a number that one of the k records of the old file has
unfoldable pub has_old : List ℕ → ℕ → List ℕ → ℕ → Bool
has_old old k new j = any (has_number old (number_in new j)) k

-- 14: a new record has a number that the old file has; k old records, m new ones
abbrev pub row14 : List ℕ → ℕ → List ℕ → ℕ → Row
row14 old k new m = later k (wherever NumberTaken no_end (first_record (has_old old k new) m))

-- TABLES, of pieces that operations on two files share. The bytes of both: whole records in each, the old file first, and not too many in all
unfoldable pub two_file_rows : List ℕ → List ℕ → List Row
two_file_rows old new = row1 old ∷ row1 new ∷ row2 (length old / 8 + length new / 8) ∷ []

-- the records of both, k old ones and m new ones, on a line of n links: 5 and 6 of the joined file, 7 within each file, the old one first
unfoldable pub two_record_rows : ℕ → ℕ → ℕ → List ℕ → List ℕ → List Row
two_record_rows n k m old new = row5 (old ++ new) (k + m) ∷ row6 n (old ++ new) (k + m) ∷ row7 old k ∷ later k (row7 new m) ∷ []
