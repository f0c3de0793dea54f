-- `ask` meets its contract. Assumes nothing.
use mathlib.Core.Path.{subst}
use mathlib.Core.List.{List, [], ◌++◌, append-nil}
use native.Mathlib.Omega.{arith}
use Rattle.records.specs.Records.{circuits_in}
use Rattle.places.specs.Places.{Rider, riders}
use Rattle.placing.specs.Riding.{spans_of, places_of}
use Rattle.placing.specs.Found.{Spotted}
use Rattle.placing.proofs.ask.Goals as goal

pub lowest_spot-requires-clause-riding : goal.lowest_spot-requires-clause-riding
lowest_spot-requires-clause-riding c = let a = c.args in let b = c.requires in
    (riders (circuits_in a.m a.own.now) (places_of a.m a.assigns.now) ++ [], c.ride_all.ensures [] (λ d l. absurd (omega arith)) (omega (arith, b.1)) (omega (arith, b.1)) (omega (arith, b.4)))

pub returns : goal.returns
returns c = let a = c.args in let b = c.requires in
    subst (λ (rs : List Rider). Spotted (spans_of a.many a.fibres.now) a.waves.low a.waves.high rs a.c c.lowest_spot.result) (append-nil (riders (circuits_in a.m a.own.now) (places_of a.m a.assigns.now)))
    (c.lowest_spot.ensures (riders (circuits_in a.m a.own.now) (places_of a.m a.assigns.now) ++ []) (c.ride_all.ensures [] (λ d l. absurd (omega arith)) (omega (arith, b.1)) (omega (arith, b.1)) (omega (arith, b.4))))
