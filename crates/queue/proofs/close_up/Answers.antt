-- `close_up`: places before p are closed up. Assumes nothing.
use borrow.Author.Rules.{rules}
use Prim.Native.Nat.{◌+◌, ◌*◌}
use mathlib.Core.Path.{refl, ◌∙◌, sym}
use native.Mathlib.Omega.{arith}
use Rattle.records.specs.Bytes.{cells_of}
use Rattle.records.proofs.CellLaws.{cell_is, length_cells_of, stored}
use Rattle.queue.proofs.Closing.{closing_start, closing_skip, closing_turn}
use Rattle.queue.proofs.close_up.Goals.{then-a-ne0, else-a-ne0}
use Rattle.queue.proofs.close_up.Goals as goal

pub loop-p-init : goal.loop-p-init
loop-p-init c =
    let a = c.args in
    (search rules, refl, closing_start a.m (cells_of a.list.now) (length_cells_of a.list.now (4 * a.m) (omega arith)))

pub loop-p-preserved : goal.loop-p-preserved
loop-p-preserved c =
    let a = c.args in
    let l = c.loop-p in
    let get = c.get-a in
    let m = a.m in
    let L = cells_of a.list.now in
    let p = l.p in
    let b = l.list in
    elim c.if-a-ne0.branch [
      | then-a-ne0 w ↦
          let put = w.put in
          let put₂ = w.put-then-a-ne0 in
          let put₃ = w.put-then-a-ne0-2 in (
            rw w.r-is (omega arith),
            rw w.list-is (put₃.auto.work ∙ put₂.auto.work ∙ put.auto.work ∙ l.invariant.1),
            rw (w.list-is, w.r-is)
                (closing_turn m p l.r get.result w.get-b.result w.get-j.result L (cells_of b) _ _ _ (omega arith) w.if-a-ne0.true
                (get.ensures ∙ cell_is b p (omega arith)) (w.get-b.ensures ∙ cell_is b (m + p) (omega arith)) (w.get-j.ensures ∙ cell_is b (2 * m + p) (omega arith))
                (stored _ _ _ _ put.ensures) (stored _ _ _ _ put₂.ensures) (stored _ _ _ _ put₃.ensures) l.invariant.2),
          )
      | else-a-ne0 w ↦ (
        rw w.r-is (omega arith),
        rw w.list-is l.invariant.1,
        rw (w.list-is, w.r-is) (closing_skip m p l.r L (cells_of b) (omega arith) (sym (get.ensures ∙ cell_is b p (omega arith)) ∙ w.if-a-ne0.false) l.invariant.2),
      )
    ]
