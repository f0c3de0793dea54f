-- `all_light`: the links before i are in the run or blue. Assumes nothing.
use Prim.Native.Nat.{suc, ◌-◌, ◌≤◌}
use mathlib.Core.Path.{◌≡◌}
use Rattle.whole_sheet.specs.inner.Board.{light}
use Rattle.basics.specs.Tools.{every}
use Rattle.whole_sheet.proofs.colours.all_light.Given as goal

abbrev pub invariant-loop-i : goal.invariant-loop-i
invariant-loop-i l =
    (l.first ≤ l.i) × (every (light l.run l.row) l.i (suc l.last - l.i) ≡ every (light l.run l.row) l.first (suc l.last - l.first))
