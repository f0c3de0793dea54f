-- A row ends with no open link. Assumes nothing.
use Prim.Native.Nat.{◌<◌, ◌≤◌, suc, zero, ℕ}
use borrow.Author.Tests.{eq-eqb, eqb-true, lt-leb, ne_eqb}
use lib.Dec.{eqb}
use mathlib.Core.Bool.{Bool}
use mathlib.Core.List.{List}
use mathlib.Core.Logic.{◌≢◌, ◌⊎◌, inl, inr, ⊎_elim}
use mathlib.Core.Option.{none, some}
use mathlib.Core.Path.{◌∙◌, ◌≡◌, ap, fun_ext, refl, sym}
use native.Mathlib.Omega.{arith}
use Rattle.basics.specs.Tools.{count}
use Rattle.basics.proofs.Counts.{count_below, count_lt, count_none, count_some}
use Rattle.records.specs.declared.Circuit.{Circuit}
use Rattle.method.specs.Line.{circuit}
use Rattle.method.specs.Sheet.{State, act, at, open', run_from, step, steps}
use Rattle.method.proofs.Colours.{fits_meets, fits_real, from_open, from_past, from_pos, in_run_of, in_run_on, none_open, run_open}
use Rattle.method.proofs.Links.{LiesIfThere, proper}
use Rattle.method.proofs.Steps.{blued, painted_cell, placed_cell, step_cases, took}

module _ (n : ℕ) where
  -- how many links are open
  pub opens : State → ℕ
  opens s = count (λ i. eqb (at s.colours (suc i)) open') n

  -- at most all are
  pub opens_le : (s : State) → opens s ≤ n
  unfolding opens
  opens_le s = count_below (λ i. eqb (at s.colours (suc i)) open') n

  -- as many are, where the same links are
  pub opens_same : (s s' : State) → ((i : ℕ) → eqb (at s.colours i) open' ≡ eqb (at s'.colours i) open') → opens s ≡ opens s'
  unfolding opens
  opens_same s s' h = ap (λ (p : ℕ → Bool). count (λ i. p (suc i)) n) (fun_ext h)

  -- one is
  pub opens_some : (s : State) (i : ℕ) → 1 ≤ i → i ≤ n → at s.colours i ≡ open' → 1 ≤ opens s
  unfolding opens
  opens_some s zero l h e = absurd (omega arith)
  opens_some s (suc i) l h e = count_some (λ x. eqb (at s.colours (suc x)) open') n i (omega arith) (eq-eqb _ _ e)

module _ (n : ℕ) (cs : List Circuit) where
  -- once no link is open a step changes nothing
  pub step_idle : (k : ℕ) (s : State) → n < run_from n s.colours → step n cs k s ≡ s
  unfolding step
  step_idle k s h = rw (lt-leb (run_from n s.colours) n h)

  -- nor do more steps
  pub steps_idle : (f k : ℕ) (s : State) → n < run_from n s.colours → steps n cs f k s ≡ s
  unfolding steps
  steps_idle zero k s h = refl
  steps_idle (suc f) k s h = ap (steps n cs f k) (step_idle k s h) ∙ steps_idle f k s h

  module _ (lies : LiesIfThere n cs) (k : ℕ) where
    -- no link opens and one closes, so fewer are open
    fall : (s s' : State) → ((i : ℕ) → 1 ≤ i → i ≤ n → at s'.colours i ≡ open' → at s.colours i ≡ open') → (x : ℕ) → 1 ≤ x → x ≤ n → at s.colours x ≡ open' → at s'.colours x ≢ open' → opens n s' < opens n s
    unfolding opens
    fall s s' h zero l b e f = absurd (omega arith)
    fall s s' h (suc x) l b e f =
        count_lt _ _ n (λ i q t. eq-eqb _ _ (h (suc i) (omega arith) (omega arith) (eqb-true _ _ t))) x (omega arith) (ne_eqb _ _ f) (eq-eqb _ _ e)

    -- a step takes at least one link from the open ones
    pub step_falls : (s : State) → (opens n (step n cs k s) < opens n s) ⊎ (opens n (step n cs k s) ≡ 0)
    unfolding opens
    step_falls s =
        step_cases n cs k s (λ t. (opens n t < opens n s) ⊎ (opens n t ≡ 0))
        (λ l. inr (closed l))
        (λ l f.
        let x = run_from n s.colours in
        let x₁ = from_pos n s.colours in
        let e = from_open n s.colours l in
        inl (fall s (act n cs k s none) (λ i a b t. ⊎_elim (λ u. u.0) (λ u. sym u ∙ t) (painted_cell n cs k s i a b)) x x₁ l e
        (omega (arith, blued n cs k s x x₁ l (in_run_of n s.colours x (omega arith) (from_past n s.colours l))))))
        (λ j l b m f.
        let x = fits_meets n s.colours (circuit cs j) l (proper n cs lies j b (fits_real n s.colours (circuit cs j) f)) f in
        let a = in_run_on n s.colours l x.0 x.2 in
        inl (fall s (act n cs k s (some j)) (λ i a b t. ⊎_elim (λ u. u.0) (λ u. sym u ∙ t) (placed_cell n cs k s i a b j)) x.0 a.0 a.1 (run_open n s.colours x.0 x.2)
        (omega (arith, took n cs k s x.0 a.0 a.1 j x.2 x.1))))
      where
        -- no run, so none is open
        closed : n < run_from n s.colours → opens n s ≡ 0
        closed l = count_none _ n (λ i h. ne_eqb _ _ (none_open n s.colours l (suc i) (omega arith) (omega arith)))

    -- so enough steps leave none
    steps_close : (f : ℕ) (s : State) → opens n s ≤ f → opens n (steps n cs f k s) ≡ 0
    unfolding steps
    steps_close zero s h = omega arith
    steps_close (suc f) s h = steps_close f (step n cs k s) (⊎_elim (λ t. omega arith) (λ t. omega arith) (step_falls s))

    -- a row of n steps ends with no open link
    pub row_closed : (s : State) (i : ℕ) → 1 ≤ i → i ≤ n → at (steps n cs n k s).colours i ≢ open'
    unfolding opens
    row_closed s zero l h e = omega arith
    row_closed s (suc i) l h e =
        let z : opens n (steps n cs n k s) ≡ 0 = steps_close n s (opens_le n s) in
        omega (arith, count_some (λ x. eqb (at (steps n cs n k s).colours (suc x)) open') n i (omega arith) (eq-eqb _ _ e))
