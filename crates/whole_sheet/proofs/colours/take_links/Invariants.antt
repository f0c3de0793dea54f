-- `take_links`: the circuit's links of the run before i are taken. Assumes nothing.
use Prim.Native.Nat.{◌≤◌, max}
use mathlib.Core.Bool.{cond}
use Rattle.method.specs.Line.{uses}
use Rattle.method.specs.Sheet.{taken, at}
use Rattle.rows.specs.inner.Loops.{Written}
use Rattle.whole_sheet.proofs.colours.take_links.Given as goal

abbrev pub invariant-loop-i : goal.invariant-loop-i
invariant-loop-i l = (l.i ≤ max l.initial.i l.i-end) × Written (λ x. cond (uses l.c x) taken (at l.initial.row x)) l.initial.i l.i l.initial.row l.row
