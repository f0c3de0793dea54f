-- `ride_kept` meets its contract: after j turns those kept of the first j circuits ride. Assumes nothing.
use lib.ListN.{length}
use Rattle.placing.specs.Riding.{kept_in}
use Rattle.placing.specs.inner.Rides.{RidingTo}
use Rattle.placing.proofs.ride_kept.Given as goal

abbrev pub invariant-loop-j : goal.invariant-loop-j
invariant-loop-j l = RidingTo l.many l.m l.circuits (kept_in l.m l.assigns l.kept) (length l.initial.ends) l.ends l.assigns l.chains.heads l.chains.next l.j
