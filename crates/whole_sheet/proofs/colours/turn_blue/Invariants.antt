-- `turn_blue`: the links of the run before i are blue. Assumes nothing.
use Prim.Native.Nat.{◌≤◌, max}
use Rattle.rows.specs.inner.Loops.{Written, one_row}
use Rattle.whole_sheet.proofs.colours.turn_blue.Given as goal

abbrev pub invariant-loop-i : goal.invariant-loop-i
invariant-loop-i l = (l.i ≤ max l.initial.i l.i-end) × Written (one_row 1) l.initial.i l.i l.initial.row l.row
