-- `grow` meets its contract: what its steps leave is the addition. Assumes nothing.
use Prim.Native.Nat.{◌*◌, ◌+◌, ◌-◌, ◌/◌, ◌≤◌}
use lib.ListN.{length}
use mathlib.Core.Path.{◌∙◌, refl}
use borrow.Rule.Slice.PartMut.{drop_put, mid_len, same_len_mid}
use borrow.Author.Rules.{rules}
use native.Mathlib.Omega.{arith}
use Rattle.adder.proofs.Growing.{few_new, grew, left_asked, old_short, short_new}
use Rattle.adder.proofs.grow.grow.Goals as goal

pub plan_left-added-requires : goal.plan_left-added-requires
plan_left-added-requires c = let a = c.args in let h = c.requires in
    let n = a.line.links in let k = length a.old.now / 8 in let m = length a.new.now / 8 in
    rw c.on-job.ensures (left_asked n a.line.wavelengths k m a.many a.old.now a.new.now a.fibres.now a.assigns.now a.work.now h _ _ c.find_places.ensures
    (same_len_mid (4 * n) (4 * n + 4 * (k + m) - 4 * n) a.work.now c.find_places.new.ends c.find_places.auto.ends))

pub overflow_add-result : goal.overflow_add-result
overflow_add-result c = let a = c.args in let h = c.requires in
    let n = a.line.links in let k = length a.old.now / 8 in let m = length a.new.now / 8 in
    let few' = few_new n a.line.wavelengths k m a.many a.old.now a.new.now a.fibres.now a.assigns.now a.work.now h _ _ c.find_places.ensures _ _ _ _ (rw c.on-job.ensures at c.plan_left-added.ensures) in
    omega arith

pub overflow_add-result-2 : goal.overflow_add-result-2
overflow_add-result-2 c = let a = c.args in let h = c.requires in
    let n = a.line.links in let k = length a.old.now / 8 in let m = length a.new.now / 8 in
    let short = old_short a.many a.fibres.now (λ i. search rules) in
    let short' = short_new n a.line.wavelengths k m a.many a.old.now a.new.now a.fibres.now a.assigns.now a.work.now h _ _ c.find_places.ensures _ _ _ _ (rw c.on-job.ensures at c.plan_left-added.ensures) in
    omega arith

pub returns : goal.returns
returns c = let a = c.args in let h = c.requires in
    let n = a.line.links in let k = length a.old.now / 8 in let m = length a.new.now / 8 in
    let W = a.work.now in
    let room : 4 * n + 4 * (k + m) ≤ length W = h.work_room in
    grew n a.line.wavelengths k m a.many a.old.now a.new.now a.fibres.now a.assigns.now W h _ _ c.find_places.ensures _ _ _ _ (rw c.on-job.ensures at c.plan_left-added.ensures)
    c.length_of-span.result c.floor_of_both-floor.result _ c.length_of-span.ensures c.floor_of_both-floor.ensures
    (drop_put (4 * n) (4 * n + 4 * (k + m)) W c.find_places.new.ends (omega arith) room (c.find_places.auto.ends ∙ mid_len (4 * n) (4 * n + 4 * (k + m)) W room)) refl
