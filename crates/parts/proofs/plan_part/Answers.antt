-- `plan_part` meets its contract: the part is copied to a file of its own, and that is planned. Assumes nothing.
use Prim.Native.Nat.{◌/◌}
use lib.ListN.{length, length-map}
use mathlib.Core.Path.{◌∙◌}
use Rattle.records.specs.Bytes.{cells_of}
use Rattle.records.specs.Records.{circuits_of}
use Rattle.records.proofs.CellLaws.{length_cells_of}
use Rattle.method.specs.Line.{circuit}
use Rattle.parts.specs.Part.{chosen}
use Rattle.parts.proofs.Apart.{apart_asked, part_lent, part_settled}
use Rattle.parts.proofs.plan_part.Goals as goal

pub settle_part-requires : goal.settle_part-requires
settle_part-requires c =
    let a = c.args in
    let h = c.requires in
    let part = chosen (circuits_of a.circuits.now) (cells_of a.places.now) in
    let many = length-map (cells_of a.places.now) (circuit (circuits_of a.circuits.now)) ∙ length_cells_of a.places.now a.job.circuits h.listed in
    let lent = part_lent part a.job.circuits _ _ many c.copy_part.ensures in
    (length a.circuits.now / 8, apart_asked a.job.links a.job.wavelengths a.job.circuits a.job.from a.base a.places.now a.fibres.now a.assigns.now a.work.now a.circuits.now _ h lent)

pub returns : goal.returns
returns c =
    let a = c.args in
    let h = c.requires in
    let part = chosen (circuits_of a.circuits.now) (cells_of a.places.now) in
    let many = length-map (cells_of a.places.now) (circuit (circuits_of a.circuits.now)) ∙ length_cells_of a.places.now a.job.circuits h.listed in
    let lent = part_lent part a.job.circuits _ _ many c.copy_part.ensures in
    part_settled a.job.links a.job.wavelengths a.job.from a.base a.job.circuits (cells_of a.places.now) part _ _ _ _ many lent c.settle_part.ensures
