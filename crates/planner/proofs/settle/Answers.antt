-- `settle`: phase one, phase two, and zeros. Assumes nothing.
use Rattle.std.proofs.Common.{◌≡◌, ℕ, ◌+◌, ◌*◌, length, replicate, ap, ◌∙◌}
use lib.Seq.{length-take-le, take_at}
use Rattle.planner.proofs.Settling.{assigned_is, cleared_is}
use Rattle.planner.proofs.settle.Goals as goal

pub returns : goal.returns
returns c =
    let first = c.fill_sheet-top in
    let lay = c.lay-counts in
    let fill = c.fill in
    let a = c.args in
    let m = a.job.circuits in
    let k = 4 * a.job.links + 4 * m in
    let p = c.requires in
    let l : length first.new.work ≡ k = first.auto.work ∙ length-take-le k a.work.now p.work_room in
    let q : length first.new.list ≡ 8 * m = first.auto.list ∙ length-take-le (8 * m) a.assigns.now p.assign_room in
    let z : length lay.new.work ≡ k = lay.auto.work ∙ ap length (take_at first.new.work _ k l) ∙ l in
    let zero : fill.new.self ≡ replicate k 0 = fill.ensures.after (λ y h. h) ∙ ap (λ (n : ℕ). replicate n 0) (ap length (take_at lay.new.work _ k z) ∙ z) in
    let r = lay.ensures.registered in
    record {
      registered = record {
        counted = r.counted;
        listed = r.listed;
        assigned = assigned_is m a.job.from a.circuits.now _ a.assigns.now first.new.list _ q r.assigned;
      };
      cleared = cleared_is k a.work.now first.new.work lay.new.work fill.new.self l z zero;
    }
