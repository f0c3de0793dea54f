-- `prepare`: zeros, then the c(i) in the first part, then the last red rows in the second. Assumes nothing.
use Rattle.std.proofs.Common.{◌≡◌, ℕ, ◌+◌, ◌*◌, replicate, sym, ap, ◌∙◌, arith}
use lib.Seq.{length-take-le}
use Rattle.records.specs.Records.{circuits_in}
use Rattle.records.proofs.Files.{length_circuits_in}
use Rattle.rows.proofs.FillLaws.{top_low, zeros, part_zero, back, front_long, front_low, ready}
use Rattle.rows.proofs.prepare.Goals as goal

pub count_needs-requires : goal.count_needs-requires
count_needs-requires c =
    let a = c.args in
    let fill = c.fill in
    let e : fill.new.self ≡ replicate (4 * a.n + 4 * a.m) 0 = fill.ensures.after (λ y h. h) ∙ ap (λ (k : ℕ). replicate k 0) c.requires.work_len in
    (c.requires.accepted, (length-take-le (2 * a.n) fill.new.self (omega (arith, fill.ensures.len)), part_zero a.n a.m _ (zeros a.n a.m _ e)))

pub last_reds-requires : goal.last_reds-requires
last_reds-requires c =
    let a = c.args in
    let fill = c.fill in
    let count_needs = c.count_needs in
    let e : fill.new.self ≡ replicate (4 * a.n + 4 * a.m) 0 = fill.ensures.after (λ y h. h) ∙ ap (λ (k : ℕ). replicate k 0) c.requires.work_len in
    let y = back a.n a.m a.w (circuits_in a.m a.circuits.now) fill.new.self count_needs.new.cells (fill.ensures.len ∙ c.requires.work_len) (zeros a.n a.m _ e)
    (count_needs.auto.cells ∙ length-take-le (2 * a.n) fill.new.self (omega (arith, fill.ensures.len))) count_needs.ensures.1 in
    let t = c.from-most.ensures ∙ count_needs.ensures.0 in
    let f = top_low a.n a.w a.m _ a.circuits.now c.requires.accepted t in
    (front_long a.n a.m a.w _ _ y, c.requires.accepted.file.line, omega arith, front_low a.n a.m a.w _ _ _ y t)

pub returns : goal.returns
returns c =
    let a = c.args in
    let fill = c.fill in
    let count_needs = c.count_needs in
    let last_reds = c.last_reds in
    let e : fill.new.self ≡ replicate (4 * a.n + 4 * a.m) 0 = fill.ensures.after (λ y h. h) ∙ ap (λ (k : ℕ). replicate k 0) c.requires.work_len in
    let y = back a.n a.m a.w (circuits_in a.m a.circuits.now) fill.new.self count_needs.new.cells (fill.ensures.len ∙ c.requires.work_len) (zeros a.n a.m _ e)
    (count_needs.auto.cells ∙ length-take-le (2 * a.n) fill.new.self (omega (arith, fill.ensures.len))) count_needs.ensures.1 in
    let t = c.from-most.ensures ∙ count_needs.ensures.0 in
    let f = top_low a.n a.w a.m _ a.circuits.now c.requires.accepted t in
    let r = ready a.n a.m a.w _ _ _ last_reds.new.cells (sym (length_circuits_in a.m a.circuits.now)) y t f last_reds.ensures.0 last_reds.ensures.1 last_reds.ensures.2 in
    record { room = r.0; top = t; sheet = r.1 }
