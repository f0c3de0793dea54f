-- `place`: the row is stored, and the links are taken. Assumes nothing.
use mathlib.Core.Path.{◌∙◌}
use native.Mathlib.Omega.{arith}
use Rattle.whole_sheet.proofs.Stepping.{placed}
use Rattle.method.proofs.Colours.{from_pos, past_le}
use Rattle.whole_sheet.proofs.table.place.Goals as goal

pub take_links-requires : goal.take_links-requires
take_links-requires c =
    let a = c.args in
    let b = c.requires.0 in
    let r = c.requires.1 in
    let p = from_pos a.job.links a.row.now in
    let q = past_le a.job.links a.row.now (omega (arith, r.there)) in
    let wide = b.wide in
    let line = b.file.line in
    (omega arith, omega arith, omega arith)

pub returns : goal.returns
returns c =
    let put = c.put in
    let circuit-at = c.record_at-c in
    let a = c.args in
    let b = c.requires.0 in
    let links = rw b.wide at c.take_links.ensures in
    placed a.job.links a.job.circuits a.k a.circuits.now a.work.now a.row.now a.run c.requires.1 a.j _ _ _ c.requires.2
    (put.auto.work ∙ b.room) circuit-at.ensures put.ensures links
