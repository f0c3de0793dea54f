-- `mark` meets its contract: the walk along the chain marks each rider that overlaps. Assumes nothing.
use Prim.Native.Nat.{◌-◌}
use mathlib.Core.List.{List}
use mathlib.Core.Path.{◌≡◌}
use lib.ListN.{get_or, length}
use Rattle.places.specs.Places.{Rider}
use Rattle.placing.specs.Riding.{Chained}
use Rattle.placing.specs.inner.Marking.{Marking}
use Rattle.placing.specs.inner.Rides.{hops}
use Rattle.placing.proofs.riders.mark.Given as goal

abbrev pub invariant-loop-j : goal.invariant-loop-j
invariant-loop-j l = (length l.busy ≡ 96) × ((rs : List Rider) → Chained rs l.ends l.assigns l.chains.next (get_or l.chains.heads (l.q - 1) 0) l.q → Marking rs l.chains.next l.c l.q l.z l.busy)

abbrev pub decreases-loop-j : goal.decreases-loop-j
decreases-loop-j l = hops l.chains.next 2048 l.z
