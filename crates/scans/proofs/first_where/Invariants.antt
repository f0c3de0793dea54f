-- `first_where`: the search goes on by one place, from where `skip` has come. Assumes nothing.
use Rattle.std.proofs.Common.{ℕ, Bool}
use Rattle.scans.specs.inner.Chunks.{CameTo}
use Rattle.scans.specs.Scans.{Tells}
use Rattle.scans.proofs.first_where.Given as goal

abbrev pub invariant-loop-i : goal.invariant-loop-i
invariant-loop-i g l = (p : ℕ → Bool) → Tells (goal.F-post g l.passes) p l.from l.to → CameTo p l.from l.to l.i
