-- `first_clash` meets its contract: each turn halves the places among which the first clash is. Assumes nothing.
use Prim.Native.Nat.{◌-◌, ◌≤◌, ◌<◌}
use mathlib.Core.Bool.{true, false}
use mathlib.Core.Path.{◌≡◌}
use Rattle.basics.specs.Tools.{any}
use Rattle.clashes.specs.Clashes.{clashes_in}
use Rattle.clashes.proofs.first_clash.Given as goal

abbrev pub invariant-loop-low : goal.invariant-loop-low
invariant-loop-low l = (l.low < l.high) × (l.high ≤ l.p) × (any (clashes_in l.circuits l.assigns) l.low ≡ false) × (any (clashes_in l.circuits l.assigns) l.high ≡ true)

abbrev pub decreases-loop-low : goal.decreases-loop-low
decreases-loop-low l = l.high - l.low
