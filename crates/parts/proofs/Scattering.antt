-- Records that are put at places, one after the other. Assumes nothing.
use Prim.Native.Nat.{ℕ, ◌+◌, ◌*◌, ◌<◌, ◌≤◌}
use lib.ListN.{get_or, length}
use mathlib.Core.List.{List}
use mathlib.Core.Path.{◌≡◌, refl, ap, ◌∙◌, sym}
use native.Mathlib.Omega.{arith}
use Rattle.basics.proofs.Bools.{by_eq}
use Rattle.records.specs.Records.{put_record, record_at}
use Rattle.records.proofs.RecordLaws.{length_put_record, record_other, record_same}
use Rattle.parts.specs.Part.{Once, Scattered}

module _ (b : ℕ) (js : List ℕ) (f : ℕ → List ℕ) where
  -- none is put yet
  pub scattered_none : (s : List ℕ) → Scattered b 0 js f s s
  scattered_none s = record { sized = refl; put = λ t l. absurd (omega arith); kept = λ i n. refl }

  -- one more
  pub scattered_more : (k t i : ℕ) (s s₁ s₂ r : List ℕ) → Once k js → t < k → i ≡ get_or js t 0 → 8 * (b + get_or js t 0) + 8 ≤ length s → length (f t) ≡ 8
      → Scattered b t js f s s₁ → r ≡ f t → s₂ ≡ put_record s₁ (b + i) r → Scattered b (t + 1) js f s s₂
  scattered_more k t i s s₁ s₂ r once l q room eight h g e =
      let j = get_or js t 0 in
      let n = h.sized in
      let e₂ : s₂ ≡ put_record s₁ (b + j) (f t) = e ∙ (λ z. put_record s₁ (b + q z) (g z)) in
      record {
        sized = ap length e₂ ∙ length_put_record s₁ (b + j) (f t) (omega arith) eight ∙ n;
        put = λ x lx.
            by_eq x t
            (λ z. ap (λ u. record_at u (b + get_or js x 0)) e₂ ∙ ap (λ u. record_at (put_record s₁ (b + j) (f t)) (b + get_or js u 0)) z ∙ record_same s₁ (b + j) (f t) (omega arith) eight ∙ ap f (sym z))
            (λ z.
            ap (λ u. record_at u (b + get_or js x 0)) e₂
            ∙ record_other s₁ (b + j) (f t) (b + get_or js x 0) (omega arith) eight (λ y. z (once x t (omega arith) l (omega arith)))
            ∙ h.put x (omega arith));
        kept = λ x away. ap (λ u. record_at u x) e₂ ∙ record_other s₁ (b + j) (f t) x (omega arith) eight (away t (omega arith)) ∙ h.kept x (λ y ly. away y (omega arith));
      }

  -- the same records, said otherwise
  pub scattered_same : (g : ℕ → List ℕ) (k : ℕ) (s s' : List ℕ) → ((t : ℕ) → t < k → f t ≡ g t) → Scattered b k js f s s' → Scattered b k js g s s'
  scattered_same g k s s' e h = record { sized = h.sized; put = λ t l. h.put t l ∙ e t l; kept = h.kept }
