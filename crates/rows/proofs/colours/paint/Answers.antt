-- `paint`: links from `start` to before i have the last row. Assumes nothing.
use Rattle.std.proofs.Common.{refl, ◌∙◌, arith, rules}
use Rattle.records.proofs.CellLaws.{length_cells_of, stored}
use Rattle.rows.proofs.Written.{written_turn}
use Rattle.rows.proofs.ColourLaws.{paint_done}
use Rattle.rows.proofs.colours.paint.Goals as goal

pub loop-i-preserved : goal.loop-i-preserved
loop-i-preserved c =
    let l = c.loop-i in
    let put = c.put in
    let s = l.invariant.1.since in (
      search rules,
      written_turn _ _ l.i _ _ _ _ l.invariant.1 (stored _ _ _ _ put.ensures) refl (omega arith) (omega (arith, length_cells_of c.args.lasts.now c.args.n (omega arith))),
      put.auto.work ∙ l.invariant.2,
    )

pub returns : goal.returns
returns c =
    let l = c.loop-i in
    paint_done _ _ _ _ l.i _ _ (length_cells_of c.args.lasts.now c.args.n (omega arith)) (omega arith) (omega arith) l.invariant.1
