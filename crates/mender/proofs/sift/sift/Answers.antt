-- `sift` meets its contract: the order, who is kept, and who is noted. Assumes nothing.
use Rattle.records.proofs.CellLaws.{length_cells_of}
use Rattle.mender.proofs.Sifting.{sifted}
use Rattle.mender.proofs.sift.sift.Goals as goal

pub returns : goal.returns
returns c =
    let sort = c.sort in
    let note-all = c.note_all in
    let keep-in-turn = c.keep_in_turn in
    let a = c.args in
    let s = a.damaged.circuits.now in
    let p = c.requires in
    let reg = p.register.1 in
    let y = note-all.ensures in
    sifted p.register.0 a.damaged.wavelengths a.damaged.m a.damaged.many s a.damaged.fibres.now a.damaged.assigns.now _ _ a.report.now _ _ _ _ _ _ reg (length_cells_of _ a.damaged.m sort.ensures.0)
    sort.ensures.1 keep-in-turn.ensures.0 keep-in-turn.ensures.1 y.0 y.1 y.2 y.3
