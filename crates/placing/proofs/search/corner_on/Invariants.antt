-- `corner_on` meets its contract: the riders passed are bounded by the corner. Assumes nothing.
use Prim.Native.Nat.{ℕ, ◌-◌}
use lib.ListN.{get_or}
use Rattle.records.specs.Chains.{entry_of}
use mathlib.Core.List.{List}
use Rattle.places.specs.Places.{Rider}
use Rattle.placing.specs.Riding.{Chained}
use Rattle.placing.specs.inner.Rides.{hops}
use Rattle.placing.specs.inner.Spots.{Cornering}
use Rattle.placing.proofs.search.corner_on.Given as goal

abbrev pub invariant-loop-at : goal.invariant-loop-at
invariant-loop-at l = (rs : List Rider) (A : List ℕ) → Chained rs l.ends A l.chains.next (get_or l.chains.heads (l.q - 1) 0) l.q → Cornering rs l.chains.next l.c l.q (entry_of l.at) l.x.until l.x.from

abbrev pub decreases-loop-at : goal.decreases-loop-at
decreases-loop-at l = hops l.chains.next 2048 (entry_of l.at)
