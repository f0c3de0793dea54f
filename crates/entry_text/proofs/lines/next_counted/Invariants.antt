-- `next_counted` meets its contract: each turn walks past a line that does not count. Assumes nothing.
use Rattle.std.proofs.Common.{◌+◌, ◌-◌, ◌≤◌, length}
use Rattle.entry_text.specs.inner.Told.{Walked}
use Rattle.entry_text.proofs.lines.next_counted.Given as goal

abbrev pub invariant-loop-i : goal.invariant-loop-i
invariant-loop-i l = (l.i ≤ length l.text + 1) × (l.number ≤ l.i + 1) × Walked l.text l.start l.first l.i l.number × (l.start ≤ l.i)

abbrev pub decreases-loop-i : goal.decreases-loop-i
decreases-loop-i l = length l.text + 1 - l.i
