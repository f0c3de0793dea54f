-- `first_closed`: the links from the run's first to before i are open. Assumes nothing.
use Prim.Native.Nat.{◌+◌, ◌-◌}
use mathlib.Core.Path.{◌≡◌}
use mathlib.Core.Bool.{not}
use lib.Dec.{eqb}
use lib.ListN.{length}
use Rattle.basics.specs.Tools.{seek}
use Rattle.method.specs.Sheet.{open', at, run_past}
use Rattle.whole_sheet.proofs.colours.first_closed.Given as goal

abbrev pub invariant-loop-i : goal.invariant-loop-i
invariant-loop-i l = seek (λ x. not (eqb (at l.row x) open')) l.i (length l.row + 1 - l.i) ≡ run_past (length l.row) l.row
