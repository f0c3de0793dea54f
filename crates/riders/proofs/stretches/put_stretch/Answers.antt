-- `put_stretch`: one of the shortlist more. Assumes nothing.
use borrow.Author.Rules.{rules}
use Prim.Native.Nat.{ℕ}
use mathlib.Core.Path.{ap, ◌∙◌, sym}
use lib.ListN.{get_or}
use Rattle.riders.proofs.PickLaws.{stretched_none, stretched_skip, stretched_more, row_room}
use Rattle.riders.specs.inner.Picks.{meets, listed, number_in}
use Rattle.riders.proofs.stretches.put_stretch.Goals.{then-meets, else-meets}
use Rattle.riders.proofs.stretches.put_stretch.Goals as goal

pub loop-q-init : goal.loop-q-init
loop-q-init c = stretched_none _ _ _ _

pub offset_bounds-index-end : goal.offset_bounds-index-end
offset_bounds-index-end c = let a = c.args in
    let w = row_room a.columns.now a.near.now a.link _ _ _ _ _ c.loop-q.invariant c.requires.room c.loop-q-test.true _ c.from-p.ensures (sym c.meets.ensures ∙ c.if-meets.true) in
    search rules

pub bounds-index-end : goal.bounds-index-end
bounds-index-end c = let a = c.args in
    row_room a.columns.now a.near.now a.link _ _ _ _ _ c.loop-q.invariant c.requires.room c.loop-q-test.true _ c.from-p.ensures (sym c.meets.ensures ∙ c.if-meets.true)

pub overflow_add-end : goal.overflow_add-end
overflow_add-end c = let a = c.args in
    let w = row_room a.columns.now a.near.now a.link _ _ _ _ _ c.loop-q.invariant c.requires.room c.loop-q-test.true _ c.from-p.ensures (sym c.meets.ensures ∙ c.if-meets.true) in
    search rules

pub loop-q-preserved : goal.loop-q-preserved
unfolding listed number_in
loop-q-preserved c = let a = c.args in
    let test = listed a.link a.columns.now a.near.now in
    let number = number_in a.columns.now a.near.now in
    let same = ap (meets a.link a.link a.columns.now) (sym c.from-p.ensures) ∙ sym c.meets.ensures in
    elim c.if-meets.branch [
      | then-meets w ↦
          let room = row_room a.columns.now a.near.now a.link _ _ _ _ _ c.loop-q.invariant c.requires.room c.loop-q-test.true _ c.from-p.ensures (sym c.meets.ensures ∙ w.if-meets.true) in
          stretched_more test number _ a.at _ _ _ c.loop-q.invariant (same ∙ w.if-meets.true) room _ _ _ (ap (λ (z : ℕ). get_or a.columns.now.numbers z 0) c.from-p.ensures) w.end-is w.index-is
      | else-meets w ↦ stretched_skip test number _ a.at _ _ _ c.loop-q.invariant (same ∙ w.if-meets.false) _ _ w.end-is w.index-is
    ]
