-- `paint_links`: the last rows are lent, and come back painted. Assumes nothing.
use Rattle.std.proofs.Common.{◌*◌, refl, ◌∙◌, arith, rules}
use borrow.Rule.Slice.PartMut.{mid_len}
use Rattle.rows.proofs.AreaLaws.{painted_lasts}
use Rattle.rows.proofs.sheet.paint_links.Goals as goal

pub returns : goal.returns
returns c =
    let paint = c.paint in
    let a = c.args in
    let t = painted_lasts a.file.links a.file.many a.start a.past a.v a.work.now _ _ c.requires.2 (paint.auto.lasts ∙ mid_len (2 * a.file.links) (4 * a.file.links) a.work.now (omega arith)) paint.ensures refl in
    record { room = search rules; needs = t.0; lasts = t.1; rows = t.2 }
