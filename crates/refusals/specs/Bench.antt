-- Bench cases of the tests: what is refused, with which number and place, and which end is told. `proofs/Cases.antt` shows that each holds. What a reader must believe.
-- Assumes nothing.
use Rattle.std.specs.Prelude.{ℕ, ◌≡◌, List, [], ◌∷◌, length, Option, Some, None, Result, Ok, Err}
use Rattle.records.specs.Records.{file_of}
use Rattle.records.specs.declared.Circuit.{Circuit}
use Rattle.records.specs.declared.Line.{Line}
use Rattle.refusals.specs.Table.{verdict, plan_table}
use Rattle.refusals.specs.declared.Refusal.{Refusal}
use Rattle.refusals.specs.declared.Reason.{Reason}
use Rattle.refusals.specs.declared.Reason.TheVariants.{Links, Wavelengths, NumberZero, WrongEnd, NumberTwice, FibreRoom, AssignmentRoom, WorkRoom, Grid}
use Rattle.refusals.specs.declared.End.{End}
use Rattle.refusals.specs.declared.End.TheVariants.{FirstZero, FirstPastLast, LastPastLine}

-- what a case says: for a line, circuits, and a fibre list, an assignment list and a work area of so many bytes, the tests answer so
pub data Case : Type 0 where
  tests : Line → List Circuit → (fibres assigns work : ℕ) → Result ℕ Refusal → Case

-- a case holds
abbrev pub Holds : Case → Type 0
Holds (tests line cs fibres assigns work v) = verdict (plan_table line (file_of cs) fibres assigns work) (length cs) ≡ v

-- every case of a table holds
abbrev pub AllHold : List Case → Type 0
AllHold [] = Unit {0}
AllHold (c ∷ cases) = Holds c × AllHold cases

-- n links and w wavelengths, on a grid
abbrev pub on : ℕ → ℕ → ℕ → Line
on n w grid = record { links = n; wavelengths = w; grid = grid }

-- circuit m [a, b]
abbrev pub c : ℕ → ℕ → ℕ → Circuit
c m a b = record { number = m; first = a; last = b }

-- refused for this reason, at this place, with this end told
abbrev pub refused : {A : Type 0} → Reason → ℕ → Option End → Result A Refusal
refused reason place end = Err (record { reason = reason; place = place; end = end })

-- cases 9 to 12, and lent areas that are just long enough and one byte short
unfoldable pub cases : List Case
cases =
    -- 9: 512 links and 40 wavelengths pass, 513 and 41 do not
    tests (on 512 40 1) [] 0 0 2048 (Ok 0) ∷
    tests (on 513 40 1) [] 0 0 2052 (refused Links 0 None) ∷
    tests (on 512 41 1) [] 0 0 2048 (refused Wavelengths 0 None) ∷
    -- 10: first = last = n passes, last = n + 1 does not
    tests (on 5 1 1) (c 7 5 5 ∷ []) 8 8 24 (Ok 1) ∷
    tests (on 4 1 1) (c 7 5 5 ∷ []) 8 8 20 (refused WrongEnd 1 (Some LastPastLine)) ∷
    -- 11: test 5 comes before test 6, though record 1 fails test 6
    tests (on 5 2 1) (c 1 3 9 ∷ c 0 1 1 ∷ []) 16 16 28 (refused NumberZero 2 None) ∷
    -- 12: the second record is the first that repeats
    tests (on 1 1 1) (c 4 1 1 ∷ c 4 1 1 ∷ c 4 1 1 ∷ []) 24 24 16 (refused NumberTwice 2 None) ∷
    -- one circuit
    tests (on 1 1 1) (c 7 1 1 ∷ []) 8 8 8 (Ok 1) ∷
    tests (on 1 1 1) (c 7 1 1 ∷ []) 7 8 8 (refused FibreRoom 0 None) ∷
    tests (on 1 1 1) (c 7 1 1 ∷ []) 8 7 8 (refused AssignmentRoom 0 None) ∷
    tests (on 1 1 1) (c 7 1 1 ∷ []) 8 8 7 (refused WorkRoom 0 None) ∷
    []

-- R-5: the limit of each grid, and grids that there are not
unfoldable pub grid_cases : List Case
grid_cases =
    tests (on 512 41 2) [] 0 0 2048 (Ok 0) ∷
    tests (on 512 80 2) [] 0 0 2048 (Ok 0) ∷
    tests (on 512 81 2) [] 0 0 2048 (refused Wavelengths 0 None) ∷
    tests (on 5 2 0) [] 0 0 20 (refused Grid 0 None) ∷
    tests (on 5 2 3) [] 0 0 20 (refused Grid 0 None) ∷
    -- cut to two bytes it would be 1, and the next, cut to four, 2
    tests (on 5 2 65537) [] 0 0 20 (refused Grid 0 None) ∷
    tests (on 5 2 4294967298) [] 0 0 20 (refused Grid 0 None) ∷
    -- 12 comes before 4, and after 3
    tests (on 5 0 3) [] 0 0 20 (refused Grid 0 None) ∷
    tests (on 0 2 3) [] 0 0 0 (refused Links 0 None) ∷
    []

-- R-6: which end is told
unfoldable pub end_cases : List Case
end_cases =
    -- first link 0, first past last, last past the line
    tests (on 5 1 1) (c 7 0 1 ∷ []) 8 8 24 (refused WrongEnd 1 (Some FirstZero)) ∷
    tests (on 5 1 1) (c 7 3 2 ∷ []) 8 8 24 (refused WrongEnd 1 (Some FirstPastLast)) ∷
    tests (on 5 1 1) (c 7 1 6 ∷ []) 8 8 24 (refused WrongEnd 1 (Some LastPastLine)) ∷
    -- first past last is told before last past the line, and first link 0 before it too
    tests (on 5 1 1) (c 7 9 8 ∷ []) 8 8 24 (refused WrongEnd 1 (Some FirstPastLast)) ∷
    tests (on 5 1 1) (c 7 0 9 ∷ []) 8 8 24 (refused WrongEnd 1 (Some FirstZero)) ∷
    -- the first record with any fault is told, though a later one has a fault that is tested earlier
    tests (on 5 1 1) (c 7 1 6 ∷ c 8 0 1 ∷ []) 16 16 28 (refused WrongEnd 1 (Some LastPastLine)) ∷
    tests (on 5 1 1) (c 6 1 1 ∷ c 7 3 2 ∷ c 8 0 1 ∷ []) 24 24 32 (refused WrongEnd 2 (Some FirstPastLast)) ∷
    []
