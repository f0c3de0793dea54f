-- The tests of an addition stand in the order of the paper. Assumes nothing.
use Prim.Native.Nat.{ℕ, ◌+◌, ◌*◌, ◌/◌, ◌%◌}
use mathlib.Core.Path.{◌≡◌}
use mathlib.Core.Bool.{not}
use mathlib.Core.List.{List, [], ◌∷◌, ◌++◌}
use mathlib.Core.Option.{Option, none, some}
use lib.ListN.{length}
use lib.Dec.{eqb, ltb}
use Rattle.records.specs.Records.{record_at, circuit_of, number_in}
use Rattle.records.specs.declared.Line.{Line}
use Rattle.refusals.specs.declared.Reason.TheVariants.{PartRecord, TooManyCircuits, NumberZero, WrongEnd, NumberTwice, FibreRoom, AssignmentRoom, WorkRoom, UnfitPlan, NumberTaken}
use Rattle.refusals.specs.Refusals.{number_of}
use Rattle.refusals.specs.declared.Refusal.{Refusal}
use Rattle.refusals.specs.declared.Reason.{Reason}
use Rattle.refusals.specs.Given.{InOrder}
use Rattle.refusals.specs.Table.{wherever, no_end, first_record, bad_ends, wrong_end, repeats, line_rows}
use Rattle.refusals.proofs.Pieces.{in_order_both, line_in_order, whenever_gives, wherever_gives}
use Rattle.register.specs.Areas.{Areas}
use Rattle.two_files.specs.Rows.{later, has_old, two_file_rows, two_record_rows}
use Rattle.two_files.proofs.LaterLaws.{later_gives}
use Rattle.adder.specs.Table.{unfit, room_rows, old_rows, add_table}
use Rattle.adder.specs.declared.Named.{Named}

-- the bytes of both files
files_in_order : (old new : List ℕ) → InOrder (1 ∷ 1 ∷ 2 ∷ []) (two_file_rows old new)
unfolding two_file_rows
files_in_order old new =
    (whenever_gives PartRecord (not (eqb (length old % 8) 0)), (whenever_gives PartRecord (not (eqb (length new % 8) 0)), (whenever_gives TooManyCircuits (ltb 2048 (length old / 8 + length new / 8)), tt)))

-- the records of both
records_in_order : (n k m : ℕ) (old new : List ℕ) → InOrder (5 ∷ 6 ∷ 7 ∷ 7 ∷ []) (two_record_rows n k m old new)
unfolding two_record_rows
records_in_order n k m old new =
    let s = old ++ new in
    let five = wherever_gives NumberZero no_end (first_record (λ i. eqb (number_in s i) 0) (k + m)) in
    let six = wherever_gives WrongEnd (λ i. wrong_end n (circuit_of (record_at s i))) (first_record (λ i. bad_ends n (circuit_of (record_at s i))) (k + m)) in
    (five, (six, (wherever_gives NumberTwice no_end (first_record (repeats old) k), (later_gives k NumberTwice (first_record (repeats new) m), tt))))

-- the lent areas
rooms_in_order : (n k m : ℕ) (named : Named) (fibres assigns work : ℕ) → InOrder (8 ∷ 9 ∷ 10 ∷ []) (room_rows n k m named fibres assigns work)
unfolding room_rows
rooms_in_order n k m named fibres assigns work =
    let eight = whenever_gives FibreRoom (ltb fibres (8 * (named.fibres + m))) in
    let nine = whenever_gives AssignmentRoom (ltb assigns (8 * (named.assignments + m))) in
    (eight, (nine, (whenever_gives WorkRoom (ltb work (4 * n + 4 * (k + m))), tt)))

-- the old plan, and the new numbers
old_in_order : (line : Line) (old new : List ℕ) (named : Named) (fibres assigns : List ℕ) → InOrder (13 ∷ 14 ∷ []) (old_rows line old new named fibres assigns)
unfolding old_rows
old_in_order line old new named fibres assigns =
    (whenever_gives UnfitPlan (unfit line old named fibres assigns), (later_gives (length old / 8) NumberTaken (first_record (has_old old (length old / 8) new) (length new / 8)), tt))

-- 1 and 7 stand twice, for the old file and for the new one; 12 stands just before 4
pub add_in_order : (line : Line) (old new : List ℕ) (named : Named) (lent : Areas)
    → InOrder (1 ∷ 1 ∷ 2 ∷ 3 ∷ 12 ∷ 4 ∷ 5 ∷ 6 ∷ 7 ∷ 7 ∷ 8 ∷ 9 ∷ 10 ∷ 13 ∷ 14 ∷ []) (add_table line old new named lent)
unfolding add_table
add_in_order line old new named lent =
    let k = length old / 8 in
    let m = length new / 8 in
    let files = two_file_rows old new in
    let each = two_record_rows line.links k m old new in
    let room = room_rows line.links k m named (length lent.fibres) (length lent.assigns) (length lent.work) in
    let plan = old_rows line old new named lent.fibres lent.assigns in
    let o₁ = in_order_both (13 ∷ 14 ∷ []) [] plan [] (old_in_order line old new named lent.fibres lent.assigns) tt in
    let o₂ = in_order_both (8 ∷ 9 ∷ 10 ∷ []) (13 ∷ 14 ∷ []) room (plan ++ [])
    (rooms_in_order line.links k m named (length lent.fibres) (length lent.assigns) (length lent.work)) o₁ in
    let o₃ = in_order_both (5 ∷ 6 ∷ 7 ∷ 7 ∷ []) (8 ∷ 9 ∷ 10 ∷ 13 ∷ 14 ∷ []) each (room ++ (plan ++ [])) (records_in_order line.links k m old new) o₂ in
    let o₄ = in_order_both (3 ∷ 12 ∷ 4 ∷ []) (5 ∷ 6 ∷ 7 ∷ 7 ∷ 8 ∷ 9 ∷ 10 ∷ 13 ∷ 14 ∷ []) (line_rows line) (each ++ (room ++ (plan ++ [])))
    (line_in_order line) o₃ in
    in_order_both (1 ∷ 1 ∷ 2 ∷ []) (3 ∷ 12 ∷ 4 ∷ 5 ∷ 6 ∷ 7 ∷ 7 ∷ 8 ∷ 9 ∷ 10 ∷ 13 ∷ 14 ∷ []) files (line_rows line ++ (each ++ (room ++ (plan ++ []))))
    (files_in_order old new) o₄
