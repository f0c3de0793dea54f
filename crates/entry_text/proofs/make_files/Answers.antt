-- `entry_text::make_files` meets its contract. Assumes nothing.
use Rattle.std.proofs.Common.{ℕ, ◌/◌, ap, length, arith}
use Rattle.entry_text.proofs.PairLaws.{made_both, made_neither, held}
use Rattle.entry_text.proofs.make_files.Goals as goal

pub returns-in_default : goal.returns-in_default
returns-in_default c =
    let w = c.write_message-message in
    made_neither c.args.text.now c.args.line.now c.args.circuits.now _ c.args.message.now _ (length c.args.circuits.now / 8) _ _ _
    (ap (λ (z : ℕ). z / 8) c.requires.1) c.enter-answer.ensures c.in_default.is w.ensures w.auto.out

pub overflow_mul-circuits : goal.overflow_mul-circuits
overflow_mul-circuits c =
    let e = c.in-Ok.entry in
    omega (arith, held _ _ _ _ e.header e.circuits _ c.enter-answer.ensures c.in-Ok.is)

pub returns : goal.returns
returns c =
    let e = c.in-Ok.entry in
    let w = c.write_message-message in
    made_both c.args.text.now _ c.args.circuits.now _ c.args.message.now _ (length c.args.circuits.now / 8) e.header _ e.circuits _ _
    (ap (λ (z : ℕ). z / 8) c.requires.1) c.enter-answer.ensures c.in-Ok.is c.write_line-line.ensures.0 (omega arith) w.ensures w.auto.out
