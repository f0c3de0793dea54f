-- What the first record that passes is, and which row of a table is given. Assumes nothing.
use Prim.Native.Nat.{ℕ, zero, suc, ◌<◌, ◌≤◌}
use mathlib.Core.Path.{◌≡◌, refl, ap, ◌∙◌, sym}
use mathlib.Core.Bool.{Bool, true, false}
use mathlib.Core.List.{List, [], ◌∷◌}
use mathlib.Core.Option.{none, some}
use native.Mathlib.Omega.{arith}
use lib.Dec.{ltb}
use borrow.Author.Tests.{ltb-true, ltb-false}
use Rattle.basics.specs.Tools.{seek}
use Rattle.basics.proofs.Bools.{on}
use Rattle.basics.proofs.Searches.{seek_hit, seek_miss}
use Rattle.std.specs.Prelude.{Result, Ok, Err}
use Rattle.refusals.specs.Refusals.{refused_or}
use Rattle.refusals.specs.declared.Refusal.{Refusal}
use Rattle.refusals.specs.Table.{Row, first_record, verdict}
use Rattle.refusals.specs.Given.{row_at, Given, NoneApplies}
use Rattle.refusals.proofs.Pieces.{none_end, none_first, none_more, none_rest}

-- what was found is a record that passes, counted from 1, and none before it passes
pub record_first : (p : ℕ → Bool) (m place : ℕ) → first_record p m ≡ some place
    → (j : ℕ) × (place ≡ suc j) × (j < m) × (p j ≡ true) × ((i : ℕ) → i < j → p i ≡ false)
unfolding first_record
record_first p m place e =
    on (ltb (seek p 0 m) m)
    (λ t.
    let l : seek p 0 m < m = ltb-true (seek p 0 m) m t in
    let z : some (suc (seek p 0 m)) ≡ some place = rw t at e in
    (seek p 0 m, cc, l, seek_hit p 0 m (omega arith), λ i h. seek_miss p 0 m i (omega arith) h))
    (λ t. let z : none ≡ some place = rw t at e in absurd (let y : ◌≡◌ {A = ℕ} 0 1 = cc in omega arith))

-- nothing was found, so no record passes
pub record_none : (p : ℕ → Bool) (m : ℕ) → first_record p m ≡ none → (i : ℕ) → i < m → p i ≡ false
unfolding first_record
record_none p m e i h =
    on (ltb (seek p 0 m) m)
    (λ t. let z : some (suc (seek p 0 m)) ≡ none = rw t at e in cc)
    (λ t. let l : m ≤ seek p 0 m = ltb-false (seek p 0 m) m t in seek_miss p 0 m i (omega arith) (omega arith))

-- what the verdict says of a table whose first row is known to apply, or not to
pub verdict_row : (row : Row) (rows : List Row) (x : ℕ) (o : Row) → row ≡ o → verdict (row ∷ rows) x ≡ refused_or o (verdict rows x)
unfolding verdict
verdict_row row rows x o e = ap (λ (z : Row). refused_or z (verdict rows x)) e

-- a row that does not apply stands before the one that is given
pub given_later : (row : Row) (rows : List Row) (r : Refusal) → row ≡ none → Given rows r → Given (row ∷ rows) r
given_later row rows r e g = record {
  index = suc g.index;
  below = omega (arith, g.below);
  here = g.here;
  first = before;
}
  where
    before : (i : ℕ) → i < suc g.index → row_at (row ∷ rows) i ≡ none
    before zero h = e
    before (suc i) h = g.first i (omega arith)

-- a refusal that is told is told whole
pub refused_same : {B : Type 0} (r q : Refusal) → ◌≡◌ {A = Result B Refusal} (Err r) (Err q) → r ≡ q
refused_same r q e = cc

-- an answer that refuses is none that passed
pub refused_not_checked : {A B : Type 0} (r : Refusal) (x : B) → ◌≡◌ {A = Result B Refusal} (Err r) (Ok x) → A
refused_not_checked r x e = cc

-- a refusal is that of the first row that applies
pub verdict_refused : (rows : List Row) (x : ℕ) (r : Refusal) → verdict rows x ≡ Err r → Given rows r
unfolding verdict
verdict_refused [] x r e = refused_not_checked r x (sym e)
verdict_refused (none ∷ rows) x r e = given_later none rows r refl (verdict_refused rows x r e)
verdict_refused (some q ∷ rows) x r e = record {
  index = 0;
  below = omega arith;
  here = cc;
  first = λ i h. absurd (omega arith);
}

-- the first row that applies is refused with its number, place and end
pub verdict_given : (rows : List Row) (x : ℕ) (r : Refusal) → Given rows r → verdict rows x ≡ Err r
verdict_given [] x r g = absurd (omega (arith, g.below))
verdict_given (row ∷ rows) x r g = go g.index refl (verdict_given rows x r)
  where
    go : (k : ℕ) → g.index ≡ k → (Given rows r → verdict rows x ≡ Err r) → verdict (row ∷ rows) x ≡ Err r
    go zero q ih = verdict_row row rows x (some r) (ap (λ (i : ℕ). row_at (row ∷ rows) i) (sym q) ∙ g.here)
    go (suc k) q ih =
        verdict_row row rows x none (g.first 0 (omega arith))
        ∙ ih
        (record {
          index = k;
          below = omega (arith, g.below);
          here = ap (λ (i : ℕ). row_at (row ∷ rows) i) (sym q) ∙ g.here;
          first = λ i h. g.first (suc i) (omega arith);
        })

-- a verdict that does not refuse is what was to be found, and no row applies
pub verdict_passed : (rows : List Row) (x y : ℕ) → verdict rows x ≡ Ok y → (y ≡ x) × NoneApplies rows
unfolding verdict
verdict_passed [] x y e = (cc, none_end)
verdict_passed (some r ∷ rows) x y e = refused_not_checked r y e
verdict_passed (none ∷ rows) x y e = let q = verdict_passed rows x y e in (q.0, none_more none rows refl q.1)

-- where no row applies nothing is refused
pub verdict_passes : (rows : List Row) (x : ℕ) → NoneApplies rows → verdict rows x ≡ Ok x
unfolding verdict
verdict_passes [] x f = refl
verdict_passes (row ∷ rows) x f = verdict_row row rows x none (none_first row rows f) ∙ verdict_passes rows x (none_rest row rows f)
