-- Nothing is lost in the plain struct of a mending: the answer of `mend` is told from it as it was, so no refusal is taken for a register that was mended. Assumes nothing.
use Prim.Native.Nat.{ℕ, zero, suc, ◌≤◌}
use mathlib.Core.Path.{◌≡◌, refl, ap, subst, sym, ◌∙◌}
use mathlib.Core.List.{List}
use native.Mathlib.Omega.{arith}
use Rattle.std.specs.Prelude.{Result, Ok, Err}
use Rattle.records.specs.declared.Line.{Line}
use Rattle.refusals.specs.Refusals.{number_of, end_told}
use Rattle.refusals.specs.declared.Refusal.{Refusal}
use Rattle.mender.specs.declared.Mended.{Mended}
use Rattle.mender.specs.Report.{Lent}
use Rattle.mender.specs.Outcome.{Outcome}
use Rattle.mender.specs.Seen.{Seen}
use Rattle.mender.proofs.Answers.{seen}
use Rattle.mender.proofs.Pinned.{outcome_pins}
use Rattle.exports.specs.declared.mend.MendAnswer.{MendAnswer}
use Rattle.exports.specs.MendExported.{flat_mend, told_mend, told_mend_by, MendExported}
use Rattle.exports.specs.Numbers.{refusal_numbered}
use Rattle.exports.proofs.Numbers.{reason_named, refusal_told}

-- numbers of a refusal are told as one
by_number : (number place end : ℕ) (m : Mended) → 1 ≤ number → told_mend_by number place end m ≡ Err (refusal_numbered number place end)
by_number zero place end m e = absurd (omega arith)
by_number (suc k) place end m e = refl

-- an answer is told as it was
told_back : (a : Result Mended Refusal) → told_mend (flat_mend a) ≡ a
told_back (Ok m) = refl
told_back (Err r) = by_number (number_of r.reason) r.place (end_told r.end) _ (reason_named r.reason) ∙ ap (λ (x : Refusal). Err x) (refusal_told r)

module _ (line : Line) (s : List ℕ) (many : ℕ) (before after : Lent) where
  -- an outcome of `mend`, its answer flattened, is what is promised
  pub mend_exported : (a : Result Mended Refusal) (r : MendAnswer) → r ≡ flat_mend a → Outcome line s many before after a → MendExported (Outcome line s many before after) r
  mend_exported a r e o =
      let back : told_mend r ≡ a = ap told_mend e ∙ told_back a in
      record {
        outcome = subst (Outcome line s many before after) (sym back) o;
        plain = e ∙ ap flat_mend (sym back);
      }

  -- so a caller sees what one of `mend` does
  pub mend_told_seen : (r : MendAnswer) → MendExported (Outcome line s many before after) r → Seen line s many before after (told_mend r)
  mend_told_seen r x = seen line s many before after (told_mend r) x.outcome

-- two answers that meet the contract are equal, with every byte
pub mend_exported_pins : (line : Line) (s : List ℕ) (many : ℕ) (before after after' : Lent) (one two : MendAnswer) → MendExported (Outcome line s many before after) one
    → MendExported (Outcome line s many before after') two → (one ≡ two) × (after ≡ after')
mend_exported_pins line s many before after after' one two x y =
    let p = outcome_pins line s many before after after' (told_mend one) (told_mend two) x.outcome y.outcome in
    (x.plain ∙ ap flat_mend p.0 ∙ sym y.plain, p.1)
