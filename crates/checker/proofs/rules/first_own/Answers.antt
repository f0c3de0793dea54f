-- `first_own` meets its contract: none before the assignment that is looked at breaks one of rules 4 to 7. Assumes nothing.
use mathlib.Core.Path.{◌∙◌, sym}
use Rattle.checker.specs.inner.Runs.{own_rules_in}
use Rattle.checker.proofs.Faults.{sound_more, told_some, told_none, broken_at, nothing_all}
use Rattle.checker.proofs.rules.first_own.Goals as goal

pub returns-in-Some : goal.returns-in-Some
returns-in-Some c =
    let a = c.args in
    let l = c.loop-j in
    let t = told_some _ _ (sym c.rule_at.ensures ∙ c.in-Some.is) in
    broken_at (own_rules_in a.w a.k a.circuits.now a.fibres.now a.assigns.now) a.m l.j _ c.loop-j-test.true t.0 t.1 l.invariant

pub loop-j-preserved : goal.loop-j-preserved
loop-j-preserved c =
    let a = c.args in
    let l = c.loop-j in
    sound_more (own_rules_in a.w a.k a.circuits.now a.fibres.now a.assigns.now) l.j l.invariant (told_none _ (sym c.rule_at.ensures ∙ c.in_default.is))

pub returns : goal.returns
returns c =
    let a = c.args in
    let l = c.loop-j in
    nothing_all (own_rules_in a.w a.k a.circuits.now a.fibres.now a.assigns.now) a.m l.j c.loop-j-test.false l.invariant
