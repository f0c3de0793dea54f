-- `entry_text::read_circuits` meets its contract. Assumes nothing.
use Prim.Native.Nat.{◌+◌, ◌-◌, ◌≤◌}
use mathlib.Core.Path.{◌≡◌}
use lib.ListN.{length}
use Rattle.entry_text.proofs.Readings.{Going}
use Rattle.entry_text.proofs.read_circuits.Given as goal

abbrev pub invariant-loop-line : goal.invariant-loop-line
invariant-loop-line l = (l.i ≤ length l.text + 1) × (l.number ≤ l.i + 1) × (length l.out ≡ length l.initial.out) × Going l.text l.start l.first l.initial.out l.i l.number l.count l.out

abbrev pub decreases-loop-line : goal.decreases-loop-line
decreases-loop-line l = length l.text + 1 - l.i
