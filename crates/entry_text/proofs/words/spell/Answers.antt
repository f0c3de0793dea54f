-- `spell` meets its contract: each turn reads a digit, or tells that the number is none. Assumes nothing.
use Rattle.std.proofs.Common.{ap, ◌∙◌, sym, arith}
use Rattle.entry_text.specs.Entries.{below}
use Rattle.entry_text.proofs.Digits.{digit_ge, digit_on, no_digit, grown, told_over}
use Rattle.entry_text.proofs.words.spell.Goals as goal

pub returns-then-not-is_digit : goal.returns-then-not-is_digit
returns-then-not-is_digit c =
    let a = c.args in
    let l = c.loop-i in
    sym (ap (below a.limit) (no_digit a.text.now l.i a.e l.v (omega arith) (sym c.is_digit.ensures ∙ c.if-not-is_digit.true))) ∙ l.invariant.1

pub overflow_sub-text : goal.overflow_sub-text
overflow_sub-text c = digit_ge _ (sym c.is_digit.ensures ∙ c.if-not-is_digit.false)

pub returns-then-limit-v : goal.returns-then-limit-v
returns-then-limit-v c =
    let a = c.args in
    let l = c.loop-i in
    let f = c.from.ensures in
    sym (grown a.text.now l.i a.e l.v a.limit (omega arith) (sym c.is_digit.ensures ∙ c.if-not-is_digit.false) (omega arith)) ∙ l.invariant.1

pub loop-i-preserved : goal.loop-i-preserved
loop-i-preserved c =
    let a = c.args in
    let l = c.loop-i in
    (omega arith, rw c.from.ensures (ap (below a.limit) (sym (digit_on a.text.now l.i a.e l.v (omega arith) (sym c.is_digit.ensures ∙ c.if-not-is_digit.false))) ∙ l.invariant.1))

pub returns : goal.returns
returns c =
    let a = c.args in
    let l = c.loop-i in
    sym (told_over a.text.now l.i a.e l.v a.limit (omega arith) (omega arith)) ∙ l.invariant.1
