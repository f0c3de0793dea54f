-- `running_sum`: the first i links hold the sum of the cells up to them, and `sum` is the last of these. Assumes nothing.
use Rattle.std.proofs.Common.{◌≡◌, ◌+◌, ◌-◌, refl, ap, ◌∙◌, arith}
use Rattle.basics.specs.Tools.{sum}
use Rattle.records.proofs.CellLaws.{length_cells_of, stored}
use Rattle.rows.specs.inner.Loads.{sum_to}
use Rattle.rows.proofs.Written.{written_start, written_next, written_all, read_next}
use Rattle.rows.proofs.MarkLaws.{sum_turn}
use Rattle.rows.proofs.loads.running_sum.Goals as goal

pub loop-i-init : goal.loop-i-init
unfolding sum_to sum
loop-i-init c = (written_start _ _ _, refl, refl)

pub loop-i-preserved : goal.loop-i-preserved
loop-i-preserved c =
    let l = c.loop-i in
    let put = c.put in
    let a = c.args in
    let v = read_next _ l.cells l.i _ _ l.invariant.0 (omega arith) c.get-v.ensures in
    let k : l.i ≡ l.i + 1 - 1 = omega arith in
    let q = sum_turn _ (l.i + 1) _ _ _ (omega arith) (l.invariant.2 ∙ ap (sum_to _) k) v refl in
    (written_next _ l.i _ _ _ _ l.invariant.0 (stored _ _ _ _ put.ensures) q (omega (arith, length_cells_of a.cells.now a.n (omega arith))), put.auto.work ∙ l.invariant.1, q)

pub returns : goal.returns
returns c =
    let l = c.loop-i in
    let a = c.args in
    written_all _ _ (l.i + 1) _ _ l.invariant.0 (length_cells_of a.cells.now a.n (omega arith)) (omega arith)
