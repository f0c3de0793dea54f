-- The table of refusals, row by row, and which one is given. What a reader must believe.
-- Assumes nothing.
use Rattle.std.specs.Prelude.{ℕ, suc, ◌+◌, ◌-◌, ◌*◌, ◌/◌, ◌%◌, Bool, true, false, not, ◌&&◌, ◌||◌, cond, List, [], ◌∷◌, ◌++◌, length, leb, ltb, eqb, Option, Some, None, Result, Ok}
use Rattle.std.proofs.Math.Option.{Option as Maybe, none, some}
use Rattle.basics.specs.Tools.{any, seek}
use Rattle.records.specs.Records.{record_at, circuit_of, number_in}
use Rattle.records.specs.declared.Circuit.{Circuit}
use Rattle.records.specs.declared.Line.{Line}
use Rattle.grid.specs.Frequencies.{is_grid, limit_of}
use Rattle.refusals.specs.Refusals.{refused_or}
use Rattle.refusals.specs.declared.Refusal.{Refusal}
use Rattle.refusals.specs.declared.Reason.{Reason}
use Rattle.refusals.specs.declared.Reason.TheVariants.{PartRecord, TooManyCircuits, Links, Wavelengths, NumberZero, WrongEnd, NumberTwice, FibreRoom, AssignmentRoom, WorkRoom, Grid}
use Rattle.refusals.specs.declared.End.{End}
use Rattle.refusals.specs.declared.End.TheVariants.{FirstZero, FirstPastLast, LastPastLine}

-- a row of a table: the refusal, where it applies
abbrev pub Row : Type 0
Row = Maybe Refusal

-- a row that applies as a whole has place 0
abbrev pub whenever : Reason → Bool → Row
whenever reason true = some (record { reason = reason; place = 0; end = None })
whenever reason false = none

-- a row that applies to a record has that record's place, and tells which of its ends is wrong
abbrev pub wherever : Reason → (ℕ → Option End) → Maybe ℕ → Row
wherever reason end_at (some place) = some (record { reason = reason; place = place; end = end_at (place - 1) })
wherever reason end_at none = none

-- a row that is not about ends tells none of each record
abbrev pub no_end : ℕ → Option End
no_end i = None

-- the first of the first m records for which p holds, counted from 1
unfoldable pub first_record : (ℕ → Bool) → ℕ → Maybe ℕ
first_record p m = cond (ltb (seek p 0 m) m) (some (suc (seek p 0 m))) none

-- first link 0, or first past last, or last past n
unfoldable pub bad_ends : ℕ → Circuit → Bool
bad_ends n c = eqb c.first 0 || ltb c.last c.first || ltb n c.last

-- which end is wrong, tested in this order: first link 0; first past last; last past n
unfoldable pub wrong_end : ℕ → Circuit → Option End
wrong_end n c = cond (eqb c.first 0) (Some FirstZero) (cond (ltb c.last c.first) (Some FirstPastLast) (cond (ltb n c.last) (Some LastPastLine) None))

-- record i has the number x
abbrev pub has_number : List ℕ → ℕ → ℕ → Bool
has_number s x i = eqb (number_in s i) x

-- record i repeats the number of an earlier one
unfoldable pub repeats : List ℕ → ℕ → Bool
repeats s i = any (has_number s (number_in s i)) i

-- 1: circuit bytes not a multiple of 8
abbrev pub row1 : List ℕ → Row
row1 s = whenever PartRecord (not (eqb (length s % 8) 0))

-- 2: more than 2,048 circuits
abbrev pub row2 : ℕ → Row
row2 m = whenever TooManyCircuits (ltb 2048 m)

-- 3: n is not 1 to the limit
abbrev pub row3 : ℕ → ℕ → Row
row3 limit n = whenever Links (not (leb 1 n && leb n limit))

-- 4: w is not 1 to the limit
abbrev pub row4 : ℕ → ℕ → Row
row4 limit w = whenever Wavelengths (not (leb 1 w && leb w limit))

-- 12: the grid is neither 1 nor 2
abbrev pub row12 : ℕ → Row
row12 grid = whenever Grid (not (is_grid grid))

-- 5: a circuit number is 0
abbrev pub row5 : List ℕ → ℕ → Row
row5 s m = wherever NumberZero no_end (first_record (λ i. eqb (number_in s i) 0) m)

-- 6: first link 0, or first past last, or last past n; the first record with any of them, and the first of them that it has
abbrev pub row6 : ℕ → List ℕ → ℕ → Row
row6 n s m = wherever WrongEnd (λ i. wrong_end n (circuit_of (record_at s i))) (first_record (λ i. bad_ends n (circuit_of (record_at s i))) m)

-- 7: a circuit number stands twice
abbrev pub row7 : List ℕ → ℕ → Row
row7 s m = wherever NumberTwice no_end (first_record (repeats s) m)

-- 8: fibre list shorter than 8 × circuits bytes, as R-1 has it
abbrev pub row8 : ℕ → ℕ → Row
row8 m has = whenever FibreRoom (ltb has (8 * m))

-- 9: assignment list shorter than 8 × circuits bytes
abbrev pub row9 : ℕ → ℕ → Row
row9 m has = whenever AssignmentRoom (ltb has (8 * m))

-- 10: work area shorter than 4n + 4 × circuits bytes
abbrev pub row10 : ℕ → ℕ → ℕ → Row
row10 n m has = whenever WorkRoom (ltb has (4 * n + 4 * m))

-- what one test answers: its refusal, or the number x that it found
abbrev pub tested : Row → ℕ → Result ℕ Refusal
tested row x = refused_or row (Ok x)

-- the first row that applies is given; where none does, x
unfoldable pub verdict : List Row → ℕ → Result ℕ Refusal
verdict [] x = Ok x
verdict (row ∷ rows) x = refused_or row (verdict rows x)

-- TABLES, of pieces that operations share. The circuit bytes: whole records, not too many
unfoldable pub file_rows : List ℕ → List Row
file_rows s = row1 s ∷ row2 (length s / 8) ∷ []

-- the line: its links, its grid, and its wavelengths, as many as the grid has at most
unfoldable pub line_rows : Line → List Row
line_rows line = row3 512 line.links ∷ row12 line.grid ∷ row4 (limit_of line.grid) line.wavelengths ∷ []

-- the records of m circuits, on a line of n links
unfoldable pub record_rows : ℕ → ℕ → List ℕ → List Row
record_rows n m s = row5 s m ∷ row6 n s m ∷ row7 s m ∷ []

-- tests 1 to 7, with 12 before 4, for a line and circuit bytes s
unfoldable pub circuit_rows : Line → List ℕ → List Row
circuit_rows line s = file_rows s ++ (line_rows line ++ (record_rows line.links (length s / 8) s ++ []))

-- the lent areas that the planner asks for m circuits on n links, by their lengths
unfoldable pub area_rows : ℕ → ℕ → ℕ → ℕ → ℕ → List Row
area_rows n m fibres assigns work = row8 m fibres ∷ row9 m assigns ∷ row10 n m work ∷ []

-- the tests of the planner, for a line, the circuit bytes s, and the lengths of the fibre list, the assignment list and the work area
unfoldable pub plan_table : Line → List ℕ → ℕ → ℕ → ℕ → List Row
plan_table line s fibres assigns work = circuit_rows line s ++ (area_rows line.links (length s / 8) fibres assigns work ++ [])
