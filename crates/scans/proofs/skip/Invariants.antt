-- `skip`: the search goes on by N places. Assumes nothing.
use Rattle.std.proofs.Common.{◌-◌, ◌≤◌, ℕ, Bool}
use Rattle.scans.specs.inner.Chunks.{CameTo}
use Rattle.scans.specs.Scans.{Tells}
use Rattle.scans.proofs.skip.Given as goal

abbrev pub invariant-loop-i : goal.invariant-loop-i
invariant-loop-i g l =
    (l.from ≤ l.i) × (l.i ≤ l.to) × ((p : ℕ → Bool) → Tells (goal.F-post g l.passes) p l.from l.to → CameTo p l.from l.to l.i)

abbrev pub decreases-loop-i : goal.decreases-loop-i
decreases-loop-i g l = l.to - l.i
