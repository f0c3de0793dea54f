-- Bench cases of the tests of two files. `proofs/Cases.antt` shows that each holds. What a reader must believe.
-- Assumes nothing.
use Rattle.std.specs.Prelude.{ℕ, ◌+◌, ◌/◌, ◌≡◌, List, [], ◌∷◌, ◌++◌, length, replicate, Some, None, Result, Ok}
use Rattle.records.specs.Records.{file_of}
use Rattle.refusals.specs.Bench.{c, refused}
use Rattle.refusals.specs.Table.{Row, verdict}
use Rattle.refusals.specs.declared.Refusal.{Refusal}
use Rattle.refusals.specs.declared.Reason.TheVariants.{PartRecord, TooManyCircuits, NumberZero, WrongEnd, NumberTwice, NumberTaken}
use Rattle.refusals.specs.declared.End.TheVariants.{FirstPastLast, LastPastLine}
use Rattle.two_files.specs.Rows.{row14, two_file_rows, two_record_rows}

-- 1, 1, 2, 5, 6, 7, 7 and 14 of two files, on a line of n links
unfoldable pub two_table : ℕ → List ℕ → List ℕ → List Row
two_table n old new =
    two_file_rows old new ++ (two_record_rows n (length old / 8) (length new / 8) old new ++ (row14 old (length old / 8) new (length new / 8) ∷ []))

-- what a case says: for n links, bytes of an old file and of a new one, the tests answer so
pub data Case : Type 0 where
  tests : ℕ → List ℕ → List ℕ → Result ℕ Refusal → Case

-- a case holds
abbrev pub Holds : Case → Type 0
Holds (tests n old new v) = verdict (two_table n old new) (length old / 8 + length new / 8) ≡ v

-- every case of a table holds
abbrev pub AllHold : List Case → Type 0
AllHold [] = Unit {0}
AllHold (x ∷ cases) = Holds x × AllHold cases

-- the places and the order of the tests
unfoldable pub cases : List Case
cases =
    -- two files with other numbers pass, and so do none at all
    tests 5 (file_of (c 3 1 2 ∷ [])) (file_of (c 1 1 2 ∷ c 2 5 5 ∷ [])) (Ok 3) ∷
    tests 5 [] [] (Ok 0) ∷
    -- 1 is tested within each file: two halves of a record are none
    tests 5 (1 ∷ 0 ∷ 0 ∷ 0 ∷ []) (1 ∷ 0 ∷ 1 ∷ 0 ∷ []) (refused PartRecord 0 None) ∷
    tests 5 (file_of (c 3 1 2 ∷ [])) (1 ∷ []) (refused PartRecord 0 None) ∷
    -- 2 counts the records of both files: 2,049 are too many, 2,048 are not
    tests 5 (replicate 8192 0) (replicate 8200 0) (refused TooManyCircuits 0 None) ∷
    tests 5 (replicate 8192 0) (replicate 8192 0) (refused NumberZero 1 None) ∷
    -- 5 of both files comes before 6 of both, and 6 of both before 7
    tests 5 (file_of (c 1 3 9 ∷ [])) (file_of (c 0 1 1 ∷ [])) (refused NumberZero 2 None) ∷
    tests 5 (file_of (c 1 1 1 ∷ c 1 1 1 ∷ [])) (file_of (c 2 1 1 ∷ c 3 4 2 ∷ [])) (refused WrongEnd 4 (Some FirstPastLast)) ∷
    -- the old file comes first
    tests 5 (file_of (c 1 1 6 ∷ [])) (file_of (c 2 0 1 ∷ [])) (refused WrongEnd 1 (Some LastPastLine)) ∷
    tests 5 (file_of (c 4 1 1 ∷ c 4 1 1 ∷ [])) (file_of (c 5 1 1 ∷ c 5 1 1 ∷ [])) (refused NumberTwice 2 None) ∷
    -- 7 is tested within each file and before 14; its place counts on
    tests 5 (file_of (c 1 1 1 ∷ [])) (file_of (c 1 1 1 ∷ c 5 1 1 ∷ c 5 1 1 ∷ [])) (refused NumberTwice 4 None) ∷
    -- 14: the first new record with an old number; its place counts on
    tests 5 (file_of (c 1 1 1 ∷ c 2 1 1 ∷ [])) (file_of (c 3 1 1 ∷ c 2 4 4 ∷ c 1 1 1 ∷ [])) (refused NumberTaken 4 None) ∷
    []
