-- `close_up`: places before p are closed up. Assumes nothing.
use Prim.Native.Nat.{◌≤◌}
use mathlib.Core.Path.{◌≡◌}
use lib.ListN.{length}
use Rattle.records.specs.Bytes.{cells_of}
use Rattle.queue.specs.inner.ClosedUp.{Closing}
use Rattle.queue.proofs.close_up.Given as goal

abbrev pub invariant-loop-p : goal.invariant-loop-p
invariant-loop-p l = (l.r ≤ l.p) × (length l.list ≡ length l.initial.list) × Closing l.m (cells_of l.initial.list) (cells_of l.list) l.p l.r
