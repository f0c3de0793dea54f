-- Nothing is lost in the plain struct of a check: the finding is told from it as it was, so no broken rule and no refusal is taken for a yes. Assumes nothing.
use Prim.Native.Nat.{ℕ, zero, suc, ◌≤◌}
use mathlib.Core.Path.{◌≡◌, refl, ap, sym, ◌∙◌}
use mathlib.Core.Logic.{⊎_elim}
use mathlib.Core.List.{List}
use native.Mathlib.Omega.{arith}
use lib.ListN.{length}
use Rattle.std.specs.Prelude.{Result, Ok, Err}
use Rattle.basics.proofs.Bools.{by_eq}
use Rattle.records.specs.Records.{circuits_of}
use Rattle.records.specs.declared.Circuit.{Circuit}
use Rattle.records.specs.declared.FibreRecord.{FibreRecord}
use Rattle.records.specs.declared.AssignmentRecord.{AssignmentRecord}
use Rattle.records.specs.declared.Line.{Line}
use Rattle.refusals.specs.Refusals.{number_of}
use Rattle.refusals.specs.declared.Refusal.{Refusal}
use Rattle.checker.specs.Checked.{assignments_of, checked, fibres_of}
use Rattle.checker.specs.Rules.{Breach, Rule, assignment_rules, fibre_rules}
use Rattle.checker.specs.Seen.{Seen}
use Rattle.checker.specs.Sound.{FirstBreach, FirstFault}
use Rattle.checker.specs.declared.Finding.{Finding}
use Rattle.checker.specs.declared.Finding.TheVariants.{Yes, No}
use Rattle.checker.proofs.Answers.{seen}
use Rattle.checker.proofs.Faults.{Rising, rising_numbered}
use Rattle.checker.proofs.First.{assignments_rise, fibres_rise}
use Rattle.exports.specs.declared.check.CheckAnswer.{CheckAnswer}
use Rattle.exports.specs.CheckExported.{CheckExported, flat_finding, told_finding, told_finding_by}
use Rattle.exports.specs.Numbers.{refusal_numbered}
use Rattle.exports.proofs.Numbers.{reason_named, refusal_told}

-- of places whose rules have numbers from 1 on, no fault has number 0
fault_named : (rules : ℕ → List Rule) (m : ℕ) (b : Breach) → ((i : ℕ) → Rising 0 (rules i)) → FirstFault rules m b → 1 ≤ b.rule
fault_named rules m b rising f =
    by_eq b.rule 0 (λ z. absurd (rising_numbered (rules f.index) (rising f.index) f.which f.broken (f.numbered ∙ z))) (λ z. omega arith)

-- nor has the first breach
breach_named : (line : Line) (cs : List Circuit) (fs : List FibreRecord) (gs : List AssignmentRecord) (b : Breach) → FirstBreach line cs fs gs b → 1 ≤ b.rule
breach_named line cs fs gs b =
    ⊎_elim
    (λ f. fault_named (fibre_rules line.links fs) (length fs) b (fibres_rise line.links fs) f)
    (⊎_elim
    (λ f. omega (arith, f.third))
    (λ f. fault_named (assignment_rules line.wavelengths cs fs gs) (length gs) b (assignments_rise line.wavelengths cs fs gs) f.fault))

-- a no whose rule is not 0 is told as it was
told_no : (rule place : ℕ) → 1 ≤ rule → told_finding (flat_finding (Ok (No rule place))) ≡ Ok (No rule place)
told_no zero place e = absurd (omega arith)
told_no (suc k) place e = refl

-- numbers of a refusal are told as one
by_number : (number rule : ℕ) (r : CheckAnswer) → 1 ≤ number → told_finding_by number rule r ≡ Err (refusal_numbered number r.place r.end)
by_number zero rule r e = absurd (omega arith)
by_number (suc k) rule r e = refl

module _ (line : Line) (s fibres assigns : List ℕ) where
  -- what `check_plan` finds is told as it was
  told_back : (f : Result Finding Refusal) → f ≡ checked line s fibres assigns → told_finding (flat_finding f) ≡ f
  told_back (Ok (Yes total floor)) e = refl
  told_back (Ok (No rule place)) e =
      let b : Breach = record { rule = rule; place = place } in
      let said = (seen line s fibres assigns (Ok (No rule place)) e).no_says b refl in
      told_no rule place (breach_named line (circuits_of s) (fibres_of fibres) (assignments_of assigns) b said.first)
  told_back (Err r) e = by_number (number_of r.reason) 0 (flat_finding (Err r)) (reason_named r.reason) ∙ ap (λ (x : Refusal). Err x) (refusal_told r)

  -- a finding of `check_plan`, flattened, is what is promised
  pub check_exported : (f : Result Finding Refusal) (r : CheckAnswer) → r ≡ flat_finding f → f ≡ checked line s fibres assigns → CheckExported line s fibres assigns r
  check_exported f r e q =
      let back : told_finding r ≡ f = ap told_finding e ∙ told_back f q in
      record {
        finding = back ∙ q;
        plain = e ∙ ap flat_finding (sym back);
      }

  -- so a caller sees what one of `check_plan` does
  pub check_told_seen : (r : CheckAnswer) → CheckExported line s fibres assigns r → Seen line s fibres assigns (told_finding r)
  check_told_seen r x = seen line s fibres assigns (told_finding r) x.finding

  -- two answers that meet the contract are equal
  pub check_exported_pins : (one two : CheckAnswer) → CheckExported line s fibres assigns one → CheckExported line s fibres assigns two → one ≡ two
  check_exported_pins one two x y = x.plain ∙ ap flat_finding (x.finding ∙ sym y.finding) ∙ sym y.plain
