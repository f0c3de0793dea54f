-- Bench cases of the index, of the question and of the tests. `proofs/Cases.antt` shows `riders_hold`, that each holds. What a reader must believe.
-- Assumes nothing.
use Rattle.std.specs.Prelude.{ℕ, ◌≡◌, List, [], ◌∷◌, Some, None, Result, Ok}
use Rattle.records.specs.Records.{file_of}
use Rattle.refusals.specs.Bench.{c, refused}
use Rattle.refusals.specs.Table.{verdict}
use Rattle.refusals.specs.declared.Refusal.{Refusal}
use Rattle.refusals.specs.declared.Reason.TheVariants.{PartRecord, Links, NumberZero, WrongEnd, NumberTwice, NumberTaken, IndexRoom}
use Rattle.refusals.specs.declared.End.TheVariants.{LastPastLine}
use Rattle.riders.specs.Index.{cells_for, riders_at}
use Rattle.riders.specs.Outcome.{both_of, index_table}
use Rattle.riders.specs.Computed.{index_of}

-- what a case says
pub data Case : Type 0 where
  -- on n links the bytes of an old file and of a new one have this index
  index : ℕ → (old new : List ℕ) → List ℕ → Case
  -- on n links the question for link i finds this stretch in a buffer
  asked : (n i : ℕ) → List ℕ → List ℕ → Case
  -- on n links the tests say this of two files and a buffer of so many cells
  tests : ℕ → (old new : List ℕ) → ℕ → Result ℕ Refusal → Case

-- a case holds
abbrev pub Holds : Case → Type 0
Holds (index n old new cells) = index_of n (both_of old new) ≡ cells
Holds (asked n i cells stretch) = riders_at n i cells ≡ stretch
Holds (tests n old new has v) = verdict (index_table n old new has) (cells_for n (both_of old new)) ≡ v

-- every case of a table holds
abbrev pub AllHold : List Case → Type 0
AllHold [] = Unit {0}
AllHold (x ∷ cases) = Holds x × AllHold cases

-- the first two circuits of the listing, and its other two
unfoldable pub first_two : List ℕ
first_two = file_of (c 10 1 3 ∷ c 20 2 5 ∷ [])

unfoldable pub other_two : List ℕ
other_two = file_of (c 30 1 2 ∷ c 40 4 5 ∷ [])

-- their index on 5 links: six starts, the first is 6, then 10 30, 10 20 30, 10 20, 20 40, 20 40
unfoldable pub listing : List ℕ
listing = 6 ∷ 8 ∷ 11 ∷ 13 ∷ 15 ∷ 17 ∷ 10 ∷ 30 ∷ 10 ∷ 20 ∷ 30 ∷ 10 ∷ 20 ∷ 20 ∷ 40 ∷ 20 ∷ 40 ∷ []

-- the index
unfoldable pub indexes : List Case
indexes =
    index 5 first_two other_two listing ∷
    -- numbers rise whatever their file and their order in it
    index 5 other_two first_two listing ∷
    index 5 [] (file_of (c 40 4 5 ∷ c 30 1 2 ∷ c 20 2 5 ∷ c 10 1 3 ∷ [])) listing ∷
    -- no circuits: starts only, and all the same
    index 1 [] [] (2 ∷ 2 ∷ []) ∷
    -- a link that nobody uses has an empty stretch
    index 3 (file_of (c 7 3 3 ∷ [])) (file_of (c 5 1 1 ∷ [])) (4 ∷ 5 ∷ 5 ∷ 6 ∷ 5 ∷ 7 ∷ []) ∷
    []

-- the question
unfoldable pub questions : List Case
questions =
    -- from start i to before start i + 1, the last link too
    asked 5 1 listing (10 ∷ 30 ∷ []) ∷
    asked 5 2 listing (10 ∷ 20 ∷ 30 ∷ []) ∷
    asked 5 5 listing (20 ∷ 40 ∷ []) ∷
    -- a link outside the line
    asked 5 0 listing [] ∷
    asked 5 6 listing [] ∷
    asked 0 0 (0 ∷ 1 ∷ []) [] ∷
    -- a buffer of 3 cells has no room for the starts of 5 links, but for those of 2; a stretch may lie among the starts
    asked 5 1 (0 ∷ 2 ∷ 1 ∷ []) [] ∷
    asked 2 1 (0 ∷ 2 ∷ 1 ∷ []) (0 ∷ 2 ∷ []) ∷
    -- starts that fall, that lead past the buffer, and that lead just to its end
    asked 3 1 (3 ∷ 2 ∷ 3 ∷ 9 ∷ []) [] ∷
    asked 3 1 (0 ∷ 5 ∷ 3 ∷ 4 ∷ []) [] ∷
    asked 3 1 (1 ∷ 4 ∷ 3 ∷ 4 ∷ []) (4 ∷ 3 ∷ 4 ∷ []) ∷
    []

-- the tests
unfoldable pub refusals : List Case
refusals =
    -- 11 numbers and 6 starts are 17 cells; one cell short is 15
    tests 5 first_two other_two 17 (Ok 17) ∷
    tests 5 first_two other_two 16 (refused IndexRoom 0 None) ∷
    -- no circuits: the n + 1 starts are asked still
    tests 1 [] [] 2 (Ok 2) ∷
    tests 1 [] [] 1 (refused IndexRoom 0 None) ∷
    -- 3 after 2 and before 5; 512 is the limit
    tests 0 [] (file_of (c 0 1 1 ∷ [])) 0 (refused Links 0 None) ∷
    tests 513 [] [] 0 (refused Links 0 None) ∷
    -- two files are tested as in R-2, and 15 after all others
    tests 5 first_two (1 ∷ []) 0 (refused PartRecord 0 None) ∷
    tests 5 (file_of (c 7 1 9 ∷ [])) (file_of (c 0 1 1 ∷ [])) 0 (refused NumberZero 2 None) ∷
    tests 5 first_two (file_of (c 30 1 2 ∷ c 31 4 6 ∷ [])) 0 (refused WrongEnd 4 (Some LastPastLine)) ∷
    tests 1 (file_of (c 4 1 1 ∷ [])) (file_of (c 5 1 1 ∷ c 5 1 1 ∷ [])) 0 (refused NumberTwice 3 None) ∷
    tests 5 first_two (file_of (c 30 1 2 ∷ c 20 4 5 ∷ [])) 0 (refused NumberTaken 4 None) ∷
    []
