-- `lowest_spot` meets its contract: no fibre passed takes the circuit. Assumes nothing.
use mathlib.Core.List.{List}
use Rattle.places.specs.Places.{Rider}
use Rattle.placing.specs.Riding.{spans_of, Riding}
use Rattle.placing.proofs.SpotLaws.{NoneBefore}
use Rattle.placing.proofs.search.lowest_spot.Given as goal

abbrev pub invariant-loop-q : goal.invariant-loop-q
invariant-loop-q l = (rs : List Rider) → Riding l.many rs l.ends l.assigns l.chains.heads l.chains.next → NoneBefore (spans_of l.many l.fibres) l.waves.low l.waves.high rs l.c l.q
