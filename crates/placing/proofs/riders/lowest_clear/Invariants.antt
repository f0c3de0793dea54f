-- `lowest_clear` meets its contract: a search by one entry. Assumes nothing.
use Prim.Native.Nat.{suc, ◌-◌}
use mathlib.Core.Path.{◌≡◌}
use Rattle.basics.specs.Tools.{seek}
use Rattle.placing.specs.inner.Marking.{clear}
use Rattle.placing.proofs.riders.lowest_clear.Given as goal

abbrev pub invariant-loop-v : goal.invariant-loop-v
invariant-loop-v l = seek (clear l.busy) l.v (suc l.hi - l.v) ≡ seek (clear l.busy) l.lo (suc l.hi - l.lo)
