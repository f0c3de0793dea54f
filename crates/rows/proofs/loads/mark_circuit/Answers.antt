-- `mark_circuit`: one up at the first link; one down just past the last, if the line has that link. Assumes nothing.
use Rattle.std.proofs.Common.{refl, ap, ◌∙◌, arith}
use Rattle.records.specs.Bytes.{cells_of}
use Rattle.records.proofs.CellLaws.{length_cells_of}
use Rattle.rows.specs.inner.Loads.{mark_down}
use Rattle.rows.proofs.MarkLaws.{mark_stored, mark_past}
use Rattle.rows.proofs.loads.mark_circuit.Goals as goal

pub returns-then-past-n : goal.returns-then-past-n
returns-then-past-n c =
    let get = c.get-v in
    let put = c.put in
    let get2 = c.get-u in
    let put2 = c.put-then-past-n in
    let a = c.args in
    mark_stored _ _ a.past 65535 _ _ (omega arith) (omega arith) get2.ensures refl put2.ensures
    ∙ ap (mark_down a.past) (mark_stored _ _ a.first 1 _ _ (omega arith) (omega arith) get.ensures refl put.ensures)

pub returns-else-past-n : goal.returns-else-past-n
returns-else-past-n c =
    let get = c.get-v in
    let put = c.put in
    let a = c.args in
    mark_stored _ _ a.first 1 _ _ (omega arith) (omega arith) get.ensures refl put.ensures
    ∙ mark_past (cells_of a.cells.now) a.first a.past (omega (arith, length_cells_of a.cells.now a.n (omega arith)))
