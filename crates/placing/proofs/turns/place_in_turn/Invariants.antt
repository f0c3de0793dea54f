-- `place_in_turn` meets its contract: after t turns the first t are placed. Assumes nothing.
use lib.ListN.{length}
use mathlib.Core.List.{List}
use mathlib.Core.Path.{◌≡◌}
use Rattle.records.specs.Bytes.{cells_of}
use Rattle.records.specs.Records.{circuits_in}
use Rattle.method.specs.Line.{Assignment}
use Rattle.places.specs.Places.{Rider}
use Rattle.placing.specs.Turns.{InTurn}
use Rattle.placing.specs.inner.Spots.{spans_in}
use Rattle.placing.specs.inner.Standing.{Standing}
use Rattle.placing.proofs.AllTurns.{Turning}
use Rattle.placing.proofs.turns.place_in_turn.Given as goal

abbrev pub invariant-loop-t : goal.invariant-loop-t
invariant-loop-t l =
    (old : List Rider) (gs : List Assignment) → length old ≡ l.sizes.before → InTurn l.sizes.circuits gs (cells_of l.order) → Standing l.sizes.fibres l.sizes.wavelengths old (circuits_in l.sizes.circuits l.new) gs l.initial.ends l.initial.assigns l.initial.chains.heads l.initial.chains.next l.initial.corners.untils l.initial.corners.froms
    → Turning (spans_in l.sizes.fibres l.spans.firsts l.spans.lasts) l.sizes.fibres l.sizes.wavelengths old (circuits_in l.sizes.circuits l.new) gs (cells_of l.order) l.t l.initial.assigns l.ends l.assigns l.chains.heads l.chains.next l.corners.untils l.corners.froms
