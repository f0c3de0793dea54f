-- `pick`: one place more, which stays if it passes. Assumes nothing.
use Prim.Native.Nat.{◌≤◌}
use mathlib.Core.Path.{◌≡◌}
use lib.ListN.{length}
use Rattle.riders.specs.inner.Picks.{meets, Picked}
use Rattle.riders.proofs.stretches.Shortlist.pick.Given as goal

abbrev pub invariant-loop-p : goal.invariant-loop-p
invariant-loop-p l = (length l.self.places ≡ 2048) × (l.many ≤ l.p) × Picked (meets l.a l.e l.columns) l.p l.many l.self.places
