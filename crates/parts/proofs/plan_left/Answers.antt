-- `plan_left` meets its contract: those that have no place are planned as a part of their file, with the fibre list from the old records on lent on. Assumes nothing.
use borrow.Author.Rules.{rules}
use Prim.Native.Nat.{◌*◌}
use lib.ListN.{length}
use lib.Seq.{length-take-le}
use borrow.Rule.Slice.PartMut.{mid_len}
use native.Mathlib.Omega.{arith}
use Rattle.parts.proofs.Leaving.{left_settled, part_asked, places_lent, tail_lent, tail_put}
use Rattle.parts.proofs.plan_left.Goals as goal

pub plan_part-counts-requires : goal.plan_part-counts-requires
plan_part-counts-requires c = let a = c.args in let h = c.requires in
    let k = c.note_left-left.result in
    let F = a.fibres.now in
    let table = c.note_left-left.new.places in
    part_asked a.job.links a.job.wavelengths a.job.from a.base a.job.circuits a.circuits.now F a.assigns.now a.work.now h k _ _
    c.note_left-left.ensures.0 (length-take-le (2 * k) table (omega arith)) (places_lent _ table k c.note_left-left.ensures.2) (mid_len (8 * a.job.from) (length F) F (omega arith))

pub returns : goal.returns
returns c = let a = c.args in let h = c.requires in
    let k = c.note_left-left.result in
    let F = a.fibres.now in
    let table = c.note_left-left.new.places in
    left_settled a.job.links a.job.wavelengths a.job.from a.base a.job.circuits a.circuits.now F a.assigns.now a.work.now h _ _ _ _ _ _ _ _
    (λ i. search rules) (places_lent _ table k c.note_left-left.ensures.2) (tail_lent (8 * a.job.from) F) (tail_put (8 * a.job.from) F _) (search rules) c.plan_part-counts.ensures
