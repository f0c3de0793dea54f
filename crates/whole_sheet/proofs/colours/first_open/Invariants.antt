-- `first_open`: no link before i is open. Assumes nothing.
use Prim.Native.Nat.{◌+◌, ◌-◌}
use mathlib.Core.Path.{◌≡◌}
use lib.Dec.{eqb}
use lib.ListN.{length}
use Rattle.basics.specs.Tools.{seek}
use Rattle.method.specs.Sheet.{open', at, run_from}
use Rattle.whole_sheet.proofs.colours.first_open.Given as goal

abbrev pub invariant-loop-i : goal.invariant-loop-i
invariant-loop-i l = seek (λ x. eqb (at l.row x) open') l.i (length l.row + 1 - l.i) ≡ run_from (length l.row) l.row
