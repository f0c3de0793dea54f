-- `entry_text::enter` meets its contract. Assumes nothing.
use Rattle.std.proofs.Common.{◌/◌, length, sym, ◌∙◌, arith}
use Rattle.std.specs.Prelude.{Ok, Err}
use Rattle.std.proofs.lemmas.Result.{err_from_is_err_and}
use Rattle.entry_text.proofs.Headings.{told_within, right_long, right_headless, right_read}
use Rattle.entry_text.proofs.enter.Goals as goal

pub returns-then-text-gt1048576 : goal.returns-then-text-gt1048576
returns-then-text-gt1048576 c =
    let args = c.args in
    right_long args.text.now (length args.out.now / 8) args.out.now c.if-text-gt1048576.true

pub returns-in_err-opening : goal.returns-in_err-opening
returns-in_err-opening c =
    let s = c.args.text.now in
    let out = c.args.out.now in
    let p = err_from_is_err_and c.from_residual.result c.from_residual.ensures.1 in
    rw (p.1, p.2) (right_headless s (length out / 8) out _ (omega arith) (sym c.find_header.ensures ∙ c.in_err-opening.was))

pub read_circuits-requires : goal.read_circuits-requires
read_circuits-requires c =
    let b = told_within c.args.text.now c.in_ok-opening.opening (sym c.find_header.ensures ∙ c.in_ok-opening.was) in
    (omega arith, b.0, b.1)

pub returns-in_err-circuits : goal.returns-in_err-circuits
returns-in_err-circuits c =
    let s = c.args.text.now in
    let out = c.args.out.now in
    let r = c.read_circuits.ensures in
    let p = err_from_is_err_and c.from_residual-in_err-circuits.result c.from_residual-in_err-circuits.ensures.1 in
    rw (p.1, p.2) (right_read s (length out / 8) out _ c.in_ok-opening.opening (Err _) (omega arith) (sym c.find_header.ensures ∙ c.in_ok-opening.was)
    (sym c.in_err-circuits.was ∙ r.0) r.1)

pub returns : goal.returns
returns c =
    let s = c.args.text.now in
    let out = c.args.out.now in
    let r = c.read_circuits.ensures in
    right_read s (length out / 8) out _ c.in_ok-opening.opening (Ok _) (omega arith) (sym c.find_header.ensures ∙ c.in_ok-opening.was)
    (sym c.in_ok-circuits.was ∙ r.0) r.1
