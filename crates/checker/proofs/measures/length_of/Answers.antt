-- `length_of` meets its contract: the sum so far is the length of the fibres passed. Assumes nothing.
use borrow.Author.Rules.{rules}
use mathlib.Core.Path.{ap, ◌∙◌}
use Rattle.records.specs.declared.FibreRecord.{FibreRecord}
use Rattle.method.specs.Line.{span_length}
use Rattle.register.specs.Plans.{span_of}
use Rattle.checker.proofs.Adding.{length_none, length_more}
use Rattle.checker.proofs.measures.length_of.Goals as goal

pub loop-i-init : goal.loop-i-init
loop-i-init c = (search rules, length_none c.args.fibres.now)

pub loop-i-preserved : goal.loop-i-preserved
loop-i-preserved c =
    let a = c.args in
    let l = c.loop-i in
    (search rules, length_more a.fibres.now l.i _ _ l.invariant.1 (c.span_of-all.ensures.0 ∙ ap (λ (f : FibreRecord). span_length (span_of f)) c.record_at.ensures))
