-- `prepare`: zeros, and then the c(i). Assumes nothing.
use Rattle.std.proofs.Common.{◌≡◌, ℕ, ◌+◌, ◌*◌, replicate, ap, ◌∙◌, arith}
use lib.Seq.{length-take-le}
use Rattle.records.specs.Records.{circuits_in}
use Rattle.rows.proofs.FillLaws.{zeros, back}
use Rattle.whole_sheet.proofs.prepare.Goals as goal

pub returns : goal.returns
returns c =
    let a = c.args in
    let fill = c.fill in
    let y = c.write_needs in
    let e : fill.new.self ≡ replicate (4 * a.job.links + 4 * a.job.circuits) 0 = fill.ensures.after (λ y h. h) ∙ ap (λ (k : ℕ). replicate k 0) c.requires.work_len in
    back a.job.links a.job.circuits a.job.wavelengths (circuits_in a.job.circuits a.circuits.now) fill.new.self y.new.cells (fill.ensures.len ∙ c.requires.work_len) (zeros a.job.links a.job.circuits _ e)
    (y.auto.cells ∙ length-take-le (2 * a.job.links) fill.new.self (omega (arith, fill.ensures.len))) y.ensures
