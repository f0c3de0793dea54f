-- `last_reds`: the first i links have their last red row. Assumes nothing.
use Rattle.std.proofs.Common.{ℕ, ◌-◌, ◌*◌, ap, ◌∙◌, arith}
use Rattle.records.specs.Bytes.{cells_of}
use Rattle.records.proofs.CellLaws.{length_cells_of}
use Rattle.rows.proofs.RedLaws.{red_need, red_need_low, red_turn, red_done}
use Rattle.rows.proofs.loads.last_reds.Goals as goal

pub overflow_sub-r : goal.overflow_sub-r
overflow_sub-r c =
    let l = c.loop-i in
    let get = c.get-c in
    let a = c.args in
    let v = red_need a.n l.i get.result _ (cells_of a.cells.now) l.cells l.invariant.0 (omega arith) (omega arith) get.ensures in
    let z = red_need_low a.n l.i get.result a.most (cells_of a.cells.now) c.requires.3 (omega arith) v in
    omega arith

pub loop-i-preserved : goal.loop-i-preserved
loop-i-preserved c =
    let l = c.loop-i in
    let get = c.get-c in
    let from = c.from in
    let put = c.put in
    let a = c.args in
    let v = red_need a.n l.i get.result _ (cells_of a.cells.now) l.cells l.invariant.0 (omega arith) (omega arith) get.ensures in (
      red_turn a.n l.i _ _ _ _ _ l.invariant.0 (length_cells_of a.cells.now (2 * a.n) (omega arith)) (omega arith) put.ensures (ap (λ (z : ℕ). (a.most - z) * a.w) (from.ensures ∙ v)),
      put.auto.work ∙ l.invariant.1,
    )

pub returns : goal.returns
returns c =
    let l = c.loop-i in
    let a = c.args in
    (omega arith, l.invariant.0.front, red_done a.n l.i _ _ _ l.invariant.0 (length_cells_of a.cells.now (2 * a.n) (omega arith)) (omega arith))
