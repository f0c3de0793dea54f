-- `ride_all` meets its contract: after j turns the first j circuits ride. Assumes nothing.
use mathlib.Core.Path.{◌≡◌}
use lib.ListN.{length}
use Rattle.placing.specs.Riding.{places_of}
use Rattle.placing.specs.inner.Rides.{RidingTo}
use Rattle.placing.proofs.ride_all.Given as goal

abbrev pub invariant-loop-j : goal.invariant-loop-j
invariant-loop-j l = (length l.chains.heads ≡ 2048) × (length l.chains.next ≡ 2048) × RidingTo l.many l.m l.circuits (places_of l.m l.assigns) (length l.initial.ends) l.ends l.assigns l.chains.heads l.chains.next l.j
