-- `spot_for` meets its contract: no fibre passed has a place for the circuit, and the corners stay right. Assumes nothing.
use Prim.Native.Nat.{◌+◌, ◌-◌, ◌≤◌}
use mathlib.Core.List.{List}
use Rattle.places.specs.Places.{Rider}
use Rattle.placing.specs.Riding.{Riding}
use Rattle.placing.specs.inner.Spots.{CornersHold, spans_in}
use Rattle.placing.proofs.SpotLaws.{NoneBefore}
use Rattle.placing.proofs.search.spot_for.Given as goal

abbrev pub invariant-loop-i : goal.invariant-loop-i
invariant-loop-i l =
    (l.from ≤ l.many)
    × ((rs : List Rider) → Riding l.many rs l.ends l.assigns l.chains.heads l.chains.next → CornersHold l.many l.waves.low l.waves.high rs l.initial.corners.untils l.initial.corners.froms → NoneBefore (spans_in l.many l.spans.firsts l.spans.lasts) l.waves.low l.waves.high rs l.c (l.from + 1) × CornersHold l.many l.waves.low l.waves.high rs l.corners.untils l.corners.froms)

abbrev pub decreases-loop-i : goal.decreases-loop-i
decreases-loop-i l = l.many - l.from
