-- Nothing is lost in the plain struct: the answers of `plan` and `add` are told from it as they were, so no refusal is taken for a plan. Assumes nothing.
use Prim.Native.Nat.{ℕ, zero, suc, ◌≤◌}
use mathlib.Core.Path.{◌≡◌, refl, ap, subst, sym, ◌∙◌}
use mathlib.Core.List.{List}
use native.Mathlib.Omega.{arith}
use Rattle.std.specs.Prelude.{Result, Ok, Err}
use Rattle.records.specs.declared.Line.{Line}
use Rattle.refusals.specs.Refusals.{number_of, end_told}
use Rattle.refusals.specs.declared.Refusal.{Refusal}
use Rattle.register.specs.Areas.{Areas}
use Rattle.register.specs.declared.Counts.{Counts}
use Rattle.planner.specs.Outcome.{Outcome}
use Rattle.planner.specs.Seen.{Seen}
use Rattle.planner.proofs.Demands.{seen}
use Rattle.planner.proofs.Pinned.{outcome_pins}
use Rattle.adder.specs.Outcome as Adder
use Rattle.adder.specs.Seen as AdderSeen
use Rattle.adder.specs.declared.Named.{Named}
use Rattle.adder.proofs.Answers as AdderAnswers
use Rattle.adder.proofs.Pinned as AdderPinned
use Rattle.exports.specs.declared.PlanAnswer.{PlanAnswer}
use Rattle.exports.specs.Exported.{flat, told, told_by, Exported}
use Rattle.exports.specs.Numbers.{refusal_numbered}
use Rattle.exports.proofs.Numbers.{reason_named, refusal_told}

-- numbers of a refusal are told as one
by_number : (number place end : ℕ) (counts : Counts) → 1 ≤ number → told_by number place end counts ≡ Err (refusal_numbered number place end)
by_number zero place end counts e = absurd (omega arith)
by_number (suc k) place end counts e = refl

-- an answer is told as it was
told_back : (a : Result Counts Refusal) → told (flat a) ≡ a
told_back (Ok counts) = refl
told_back (Err r) = by_number (number_of r.reason) r.place (end_told r.end) _ (reason_named r.reason) ∙ ap (λ (x : Refusal). Err x) (refusal_told r)

-- an outcome, its answer flattened, is what is promised
pub exported : (O : Result Counts Refusal → Type 0) (a : Result Counts Refusal) (r : PlanAnswer) → r ≡ flat a → O a → Exported O r
exported O a r e o =
    let back : told r ≡ a = ap told e ∙ told_back a in
    record {
      outcome = subst O (sym back) o;
      plain = e ∙ ap flat (sym back);
    }

-- OF `plan`
module _ (line : Line) (s : List ℕ) (before after : Areas) where
  -- the demands hold of what is told
  pub told_seen : (r : PlanAnswer) → Exported (Outcome line s before after) r → Seen line s before after (told r)
  told_seen r x = seen line s before after (told r) x.outcome

-- two answers that meet the contract are equal, with every byte
pub exported_pins : (line : Line) (s : List ℕ) (before after after' : Areas) (one two : PlanAnswer) → Exported (Outcome line s before after) one → Exported (Outcome line s before after') two
    → (one ≡ two) × (after ≡ after')
exported_pins line s before after after' one two x y =
    let p = outcome_pins line s before after after' (told one) (told two) x.outcome y.outcome in
    (x.plain ∙ ap flat p.0 ∙ sym y.plain, p.1)

-- OF `add`
module _ (line : Line) (old new : List ℕ) (named : Named) (before after : Areas) where
  -- a caller sees what one of `add` does
  pub add_told_seen : (r : PlanAnswer) → Exported (Adder.Outcome line old new named before after) r → AdderSeen.Seen line old new named before after (told r)
  add_told_seen r x = AdderAnswers.seen line old new named before after (told r) x.outcome

-- two answers that meet the contract are equal, with every byte
pub add_exported_pins : (line : Line) (old new : List ℕ) (named : Named) (before after after' : Areas) (one two : PlanAnswer)
    → Exported (Adder.Outcome line old new named before after) one → Exported (Adder.Outcome line old new named before after') two → (one ≡ two) × (after ≡ after')
add_exported_pins line old new named before after after' one two x y =
    let p = AdderPinned.outcome_pins line old new named before after after' (told one) (told two) x.outcome y.outcome in
    (x.plain ∙ ap flat p.0 ∙ sym y.plain, p.1)
