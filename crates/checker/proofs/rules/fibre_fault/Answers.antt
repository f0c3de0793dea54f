-- `fibre_fault` meets its contract: no fibre before the one that is read is faulty. Assumes nothing.
use Rattle.std.specs.Prelude.{Option as Told}
use Prim.Native.Nat.{ℕ, ◌<◌}
use mathlib.Core.Path.{◌≡◌, ap, ◌∙◌, sym}
use mathlib.Core.List.{List}
use Rattle.records.specs.Records.{record_at, fibre_of}
use Rattle.records.specs.declared.FibreRecord.{FibreRecord}
use Rattle.checker.specs.Rules.{lowest_broken, rules_of_fibre, fibre_rules}
use Rattle.checker.specs.Checked.{fibres_in, rule_told}
use Rattle.checker.proofs.Faults.{sound_more, told_some, told_none, broken_at, nothing_all}
use Rattle.checker.proofs.Reading.{fibres_in_at}
use Rattle.checker.proofs.rules.fibre_fault.Goals as goal

-- what is told of a fibre that was read is its lowest rule
rule-is : (n k i : ℕ) (x : Told ℕ) (bytes : List ℕ) (f : FibreRecord) → i < k → f ≡ fibre_of (record_at bytes i) → x ≡ rule_told (lowest_broken (rules_of_fibre n i f))
    → rule_told (lowest_broken (fibre_rules n (fibres_in k bytes) i)) ≡ x
rule-is n k i x bytes f h e r = sym (r ∙ ap (λ (f : FibreRecord). rule_told (lowest_broken (rules_of_fibre n i f))) (e ∙ sym (fibres_in_at k bytes i _ h)))

pub returns-in-Some : goal.returns-in-Some
returns-in-Some c =
    let a = c.args in
    let l = c.loop-i in
    let t = told_some _ _ (rule-is a.n a.k l.i _ a.fibres.now _ c.loop-i-test.true c.record_at-f.ensures c.fibre_rule.ensures ∙ c.in-Some.is) in
    broken_at _ a.k l.i _ c.loop-i-test.true t.0 t.1 l.invariant

pub loop-i-preserved : goal.loop-i-preserved
loop-i-preserved c =
    let a = c.args in
    let l = c.loop-i in
    sound_more _ l.i l.invariant (told_none _ (rule-is a.n a.k l.i _ a.fibres.now _ c.loop-i-test.true c.record_at-f.ensures c.fibre_rule.ensures ∙ c.in_default.is))

pub returns : goal.returns
returns c =
    let a = c.args in
    let l = c.loop-i in
    nothing_all _ a.k l.i c.loop-i-test.false l.invariant
