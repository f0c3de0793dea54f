-- `settle_whole`: phase one, phase two, and zeros. Assumes nothing.
use Rattle.std.proofs.Common.{◌≡◌, ℕ, ◌+◌, ◌*◌, length, replicate, ap, ◌∙◌}
use lib.Seq.{length-take-le, take_at}
use Rattle.planner.proofs.Settling.{cleared_is}
use Rattle.whole_sheet.proofs.settle_whole.Goals as goal

pub returns-clause-settled : goal.returns-clause-settled
returns-clause-settled c =
    let first = c.fill_whole-top in
    let lay = c.lay-counts in
    let fill = c.fill in
    let a = c.args in
    let k = 4 * a.job.links + 4 * a.job.circuits in
    let p = c.requires.admitted in
    let l : length first.new.work ≡ k = first.auto.work ∙ length-take-le k a.work.now p.work_room in
    let z : length lay.new.work ≡ k = lay.auto.work ∙ ap length (take_at first.new.work _ k l) ∙ l in
    let zero : fill.new.self ≡ replicate k 0 = fill.ensures.after (λ y h. h) ∙ ap (λ (n : ℕ). replicate n 0) (ap length (take_at lay.new.work _ k z) ∙ z) in
    record {
      registered = lay.ensures.registered;
      cleared = cleared_is k a.work.now first.new.work lay.new.work fill.new.self l z zero;
    }
