-- `strands::assigns::write_assignment` meets its contract: circuit, fibre and wavelength of the record are the definition's. Assumes nothing.
use Rattle.std.proofs.Common.{◌≡◌, ap, ◌∙◌, sym}
use native.Mathlib.Nat.{zero-add}
use Rattle.records.specs.Records.{circuits_in, put_record, assignment_bytes}
use Rattle.method.specs.Line.{circuit}
use Rattle.method.proofs.Circuits.{circuit_in_lem}
use Rattle.register.specs.Lists.{assignment_record}
use Rattle.strands.specs.inner.Area.{put_assignment}
use Rattle.strands.proofs.assigns.write_assignment.Goals as goal

pub returns : goal.returns
unfolding put_assignment assignment_record
returns c =
    let a = c.args in
    -- the number of circuit j
    let number : c.place_of-a.result.circuit ≡ (circuit (circuits_in a.job.circuits a.circuits.now) a.j).number =
    c.place_of-a.ensures.number ∙ ap (λ x. x.number) (sym (circuit_in_lem a.job.circuits a.circuits.now a.j c.requires.sources.1)) in
    c.put_record.ensures
    ∙ (λ i. put_record a.out.now a.j (assignment_bytes (record { circuit = number i; fibre = (c.place_of-a.ensures.placed.fibre_is ∙ sym (zero-add _)) i; wavelength = c.place_of-a.ensures.placed.wavelength_is i })))
