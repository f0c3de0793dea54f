-- `place_all` meets its contract: the columns are those of the fibres, and it begins with no corners. Assumes nothing.
use mathlib.Core.Path.{refl, ◌∙◌, sym}
use Rattle.records.specs.Bytes.{cells_of}
use Rattle.records.specs.Records.{circuits_in}
use Rattle.records.proofs.Files.{length_circuits_in}
use Rattle.placing.specs.Riding.{spans_of}
use Rattle.placing.proofs.AllTurns.{placed_by_columns, turns_ready}
use Rattle.placing.proofs.place_all.Goals as goal

pub place_in_turn-requires-clause-riding : goal.place_in_turn-requires-clause-riding
place_in_turn-requires-clause-riding c =
    let a = c.args in
    let y = c.requires.riding in
    let ds = circuits_in a.sizes.circuits a.new.now in
    let ready = turns_ready (spans_of a.sizes.fibres a.fibres.now) a.sizes.fibres a.sizes.wavelengths y.0 ds y.1 (cells_of a.order.now) a.ends.now a.assigns.now a.chains.now.heads a.chains.now.next _ _ 2048 (y.3 ∙ sym (length_circuits_in a.sizes.circuits a.new.now)) y.5 refl in
    (y.0, y.1, y.2, y.4, ready)

pub returns : goal.returns
returns c =
    let a = c.args in
    let ds = circuits_in a.sizes.circuits a.new.now in λ old gs n e i h.
    placed_by_columns a.sizes.fibres a.sizes.wavelengths a.fibres.now _ _ c.note_spans.ensures old ds gs (cells_of a.order.now) a.assigns.now _ _ _ _
    (c.place_in_turn.ensures old gs n i (turns_ready (spans_of a.sizes.fibres a.fibres.now) a.sizes.fibres a.sizes.wavelengths old ds gs (cells_of a.order.now) a.ends.now a.assigns.now a.chains.now.heads a.chains.now.next _ _ 2048 (e ∙ sym (length_circuits_in a.sizes.circuits a.new.now)) h refl))
