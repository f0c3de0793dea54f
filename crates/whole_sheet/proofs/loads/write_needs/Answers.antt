-- `write_needs`: links before i have their c(i). Assumes nothing.
use mathlib.Core.Path.{◌∙◌}
use native.Mathlib.Omega.{arith}
use Rattle.records.proofs.CellLaws.{length_cells_of, stored}
use Rattle.rows.proofs.Written.{written_turn, written_all}
use Rattle.whole_sheet.proofs.loads.write_needs.Goals as goal

pub loop-i-preserved : goal.loop-i-preserved
loop-i-preserved c =
    let put = c.put in
    let need-of = c.need_of-c in
    let l = c.loop-i in
    let a = c.args in (
      written_turn _ _ l.i _ _ _ _ l.invariant.0 (stored _ _ _ _ put.ensures) need-of.ensures.0 (omega arith)
          (omega (arith, length_cells_of a.cells.now a.job.links (omega arith))),
      put.auto.work ∙ l.invariant.1,
    )

pub returns : goal.returns
returns c =
    let l = c.loop-i in
    let a = c.args in
    written_all _ _ l.i _ _ l.invariant.0 (length_cells_of a.cells.now a.job.links (omega arith)) (omega arith)
