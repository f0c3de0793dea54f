-- What holds of the rows of a table, taken from its pieces and put together from them. Assumes nothing.
use Prim.Native.Nat.{ℕ, zero, suc, ◌+◌, ◌*◌, ◌/◌, ◌%◌, ◌<◌}
use mathlib.Core.Path.{◌≡◌}
use mathlib.Core.Bool.{Bool, true, false, not, ◌&&◌}
use mathlib.Core.List.{List, [], ◌∷◌, ◌++◌}
use mathlib.Core.Option.{Option, none, some}
use native.Mathlib.Omega.{arith}
use lib.ListN.{length}
use lib.Dec.{leb, ltb, eqb}
use Rattle.records.specs.Records.{record_at, circuit_of, number_in}
use Rattle.records.specs.declared.Line.{Line}
use Rattle.grid.specs.Frequencies.{is_grid, limit_of}
use Rattle.std.specs.Prelude.{Option as Told}
use Rattle.refusals.specs.Refusals.{number_of}
use Rattle.refusals.specs.declared.Refusal.{Refusal}
use Rattle.refusals.specs.declared.Reason.{Reason}
use Rattle.refusals.specs.declared.Reason.TheVariants.{PartRecord, TooManyCircuits, Links, Wavelengths, NumberZero, WrongEnd, NumberTwice, FibreRoom, AssignmentRoom, WorkRoom, Grid}
use Rattle.refusals.specs.declared.End.{End}
use Rattle.refusals.specs.Table.{Row, whenever, wherever, first_record, bad_ends, wrong_end, no_end, repeats, file_rows, line_rows, record_rows, circuit_rows, area_rows, plan_table}
use Rattle.refusals.specs.Given.{row_at, InOrder, NoneApplies}

-- NONE APPLIES: no row of an empty table
pub none_end : NoneApplies []
none_end = record { each = λ i h. absurd (omega arith) }

-- a row that does not apply, before others that do not
pub none_more : (row : Row) (rows : List Row) → row ≡ none → NoneApplies rows → NoneApplies (row ∷ rows)
none_more row rows e f = record { each = go }
  where
    go : (i : ℕ) → i < suc (length rows) → row_at (row ∷ rows) i ≡ none
    go zero h = e
    go (suc i) h = f.each i (omega arith)

-- the first row does not apply
pub none_first : (row : Row) (rows : List Row) → NoneApplies (row ∷ rows) → row ≡ none
none_first row rows f = f.each 0 (omega arith)

-- nor do the others
pub none_rest : (row : Row) (rows : List Row) → NoneApplies (row ∷ rows) → NoneApplies rows
none_rest row rows f = record { each = λ i h. f.each (suc i) (omega arith) }

-- no row of two pieces, from none of either
pub none_both : (rs rows : List Row) → NoneApplies rs → NoneApplies rows → NoneApplies (rs ++ rows)
none_both [] rows f g = g
none_both (row ∷ rs) rows f g = none_more row (rs ++ rows) (none_first row rs f) (none_both rs rows (none_rest row rs f) g)

-- of the first piece
pub none_left : (rs rows : List Row) → NoneApplies (rs ++ rows) → NoneApplies rs
none_left [] rows f = none_end
none_left (row ∷ rs) rows f = none_more row rs (none_first row (rs ++ rows) f) (none_left rs rows (none_rest row (rs ++ rows) f))

-- of the second piece
pub none_right : (rs rows : List Row) → NoneApplies (rs ++ rows) → NoneApplies rows
none_right [] rows f = f
none_right (row ∷ rs) rows f = none_right rs rows (none_rest row (rs ++ rows) f)

-- NUMBERS. A row that applies as a whole gives its number
pub whenever_gives : (x : Reason) (b : Bool) (r : Refusal) → whenever x b ≡ some r → number_of r.reason ≡ number_of x
whenever_gives x true r e = cc
whenever_gives x false r e = cc

-- a row that applies to a record gives its number
pub wherever_gives : (x : Reason) (end_at : ℕ → Told End) (o : Option ℕ) (r : Refusal) → wherever x end_at o ≡ some r → number_of r.reason ≡ number_of x
wherever_gives x end_at (some place) r e = cc
wherever_gives x end_at none r e = cc

-- two pieces, each in its order, stand in the order of both
pub in_order_both : (xs ys : List ℕ) (rs rows : List Row) → InOrder xs rs → InOrder ys rows → InOrder (xs ++ ys) (rs ++ rows)
in_order_both [] ys [] rows o p = p
in_order_both [] ys (row ∷ rs) rows o p = absurd o
in_order_both (x ∷ xs) ys [] rows o p = absurd o
in_order_both (x ∷ xs) ys (row ∷ rs) rows o p = (o.0, in_order_both xs ys rs rows o.1 p)

-- the circuit bytes
file_in_order : (s : List ℕ) → InOrder (1 ∷ 2 ∷ []) (file_rows s)
unfolding file_rows
file_in_order s = (whenever_gives PartRecord (not (eqb (length s % 8) 0)), (whenever_gives TooManyCircuits (ltb 2048 (length s / 8)), tt))

-- the line
pub line_in_order : (line : Line) → InOrder (3 ∷ 12 ∷ 4 ∷ []) (line_rows line)
unfolding line_rows
line_in_order line =
    let four = whenever_gives Wavelengths (not (leb 1 line.wavelengths && leb line.wavelengths (limit_of line.grid))) in
    (whenever_gives Links (not (leb 1 line.links && leb line.links 512)), (whenever_gives Grid (not (is_grid line.grid)), (four, tt)))

-- the records
record_in_order : (n m : ℕ) (s : List ℕ) → InOrder (5 ∷ 6 ∷ 7 ∷ []) (record_rows n m s)
unfolding record_rows
record_in_order n m s =
    let six = wherever_gives WrongEnd (λ i. wrong_end n (circuit_of (record_at s i))) (first_record (λ i. bad_ends n (circuit_of (record_at s i))) m) in
    (wherever_gives NumberZero no_end (first_record (λ i. eqb (number_in s i) 0) m), (six, (wherever_gives NumberTwice no_end (first_record (repeats s) m), tt)))

-- the lent areas
area_in_order : (n m fibres assigns work : ℕ) → InOrder (8 ∷ 9 ∷ 10 ∷ []) (area_rows n m fibres assigns work)
unfolding area_rows
area_in_order n m fibres assigns work =
    (whenever_gives FibreRoom (ltb fibres (8 * m)), (whenever_gives AssignmentRoom (ltb assigns (8 * m)), (whenever_gives WorkRoom (ltb work (4 * n + 4 * m)), tt)))

-- tests 1 to 7 and 12
circuits_in_order : (line : Line) (s : List ℕ) → InOrder (1 ∷ 2 ∷ 3 ∷ 12 ∷ 4 ∷ 5 ∷ 6 ∷ 7 ∷ []) (circuit_rows line s)
unfolding circuit_rows
circuits_in_order line s =
    let rs = record_rows line.links (length s / 8) s in
    let records = in_order_both (5 ∷ 6 ∷ 7 ∷ []) [] rs [] (record_in_order line.links (length s / 8) s) tt in
    let drawn = in_order_both (3 ∷ 12 ∷ 4 ∷ []) (5 ∷ 6 ∷ 7 ∷ []) (line_rows line) (rs ++ []) (line_in_order line) records in
    in_order_both (1 ∷ 2 ∷ []) (3 ∷ 12 ∷ 4 ∷ 5 ∷ 6 ∷ 7 ∷ []) (file_rows s) (line_rows line ++ (rs ++ [])) (file_in_order s) drawn

-- the tests of the planner stand in the order of their numbers, with 12 just before 4
pub plan_in_order : (line : Line) (s : List ℕ) (fibres assigns work : ℕ) → InOrder (1 ∷ 2 ∷ 3 ∷ 12 ∷ 4 ∷ 5 ∷ 6 ∷ 7 ∷ 8 ∷ 9 ∷ 10 ∷ []) (plan_table line s fibres assigns work)
unfolding plan_table
plan_in_order line s fibres assigns work =
    let rs = area_rows line.links (length s / 8) fibres assigns work in
    let areas = in_order_both (8 ∷ 9 ∷ 10 ∷ []) [] rs [] (area_in_order line.links (length s / 8) fibres assigns work) tt in
    in_order_both (1 ∷ 2 ∷ 3 ∷ 12 ∷ 4 ∷ 5 ∷ 6 ∷ 7 ∷ []) (8 ∷ 9 ∷ 10 ∷ []) (circuit_rows line s) (rs ++ []) (circuits_in_order line s) areas
