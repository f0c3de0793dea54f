-- The run, who fits, and painting: what the colours of the links show. Assumes nothing.
use Prim.Native.Nat.{◌-◌, ◌<◌, ◌≤◌, max, suc, zero, ℕ}
use borrow.Author.Tests.{eq-eqb, eqb-false, eqb-true, le-leb, leb-true, lt-ltb, ltb-false, ltb-true, not-false, not-true}
use lib.Dec.{eqb, leb, ltb}
use mathlib.Core.Bool.{Bool, ◌&&◌, ◌||◌, cond, not, true}
use mathlib.Core.List.{List}
use mathlib.Core.Logic.{◌≢◌, ◌⊎◌, inl, inr, ⊎_elim}
use mathlib.Core.Path.{◌∙◌, ◌≡◌, ap, ap₂, fun_ext, refl}
use native.Mathlib.Omega.{arith}
use Rattle.basics.specs.Tools.{each, every, seek}
use Rattle.basics.proofs.Bools.{and_l, and_of, and_r, by_eq, on, or_cases, or_l, or_r}
use Rattle.basics.proofs.Searches.{every_at, every_of, seek_ge, seek_hit, seek_le, seek_miss}
use Rattle.basics.proofs.Tables.{get_d_each, get_d_each_out}
use Rattle.records.specs.declared.Circuit.{Circuit}
use Rattle.method.specs.Line.{uses}
use Rattle.method.specs.Sheet.{at, blue, fits, in_run, open', paint, red, run_from, run_past}
use Rattle.method.proofs.Links.{uses_first, uses_last, uses_of}

-- the colour of a link of the line
pub at_each : (f : ℕ → ℕ) (n i : ℕ) → 1 ≤ i → i ≤ n → at (each f 1 n) i ≡ f i
unfolding at
at_each f n zero l h = absurd (omega arith)
at_each f n (suc i) l h = get_d_each f 1 n i red (omega arith) ∙ ap f (omega arith)

-- a link is on the line, or counts as red
pub at_each_cases : (f : ℕ → ℕ) (n i : ℕ) → ((1 ≤ i) × (i ≤ n) × (at (each f 1 n) i ≡ f i)) ⊎ (at (each f 1 n) i ≡ red)
unfolding at
at_each_cases f n zero = inr refl
at_each_cases f n (suc i) =
    on (ltb i n)
    (λ e. let h : i < n = ltb-true i n e in inl (omega arith, omega arith, get_d_each f 1 n i red h ∙ ap f (omega arith)))
    (λ e. inr (get_d_each_out f 1 n i red (ltb-false i n e)))

module _ (n : ℕ) where
  -- a link of the run is open
  pub run_open : (colours : List ℕ) (i : ℕ) → in_run n colours i ≡ true → at colours i ≡ open'
  unfolding in_run run_past
  run_open colours i e =
      eqb-true (at colours i) open'
      (not-false (eqb (at colours i) open')
      (seek_miss (λ x. not (eqb (at colours x) open')) (run_from n colours) (suc n - run_from n colours) i
      (leb-true _ _ (and_l _ _ e)) (ltb-true _ _ (and_r (leb (run_from n colours) i) _ e))))

  -- the run starts on the line
  pub from_pos : (colours : List ℕ) → 1 ≤ run_from n colours
  unfolding run_from
  from_pos colours = seek_ge _ 1 n

  -- with an open link
  pub from_open : (colours : List ℕ) → run_from n colours ≤ n → at colours (run_from n colours) ≡ open'
  unfolding run_from
  from_open colours h = eqb-true _ _ (seek_hit (λ i. eqb (at colours i) open') 1 n (omega arith))

  -- no run, so no open link
  pub none_open : (colours : List ℕ) → n < run_from n colours → (i : ℕ) → 1 ≤ i → i ≤ n → at colours i ≢ open'
  unfolding run_from
  none_open colours h i l m e =
      eqb-false (at colours i) open' (seek_miss (λ x. eqb (at colours x) open') 1 n i l (omega arith)) e

  -- the run ends on the line
  pub past_le : (colours : List ℕ) → run_from n colours ≤ n → run_past n colours ≤ suc n
  unfolding run_past
  past_le colours h = omega (arith, seek_le (λ i. not (eqb (at colours i) open')) (run_from n colours) (suc n - run_from n colours))

  -- and is not empty
  pub from_past : (colours : List ℕ) → run_from n colours ≤ n → run_from n colours < run_past n colours
  unfolding run_past
  from_past colours h =
      let f : ℕ = run_from n colours in
      let p : ℕ → Bool = λ i. not (eqb (at colours i) open') in
      let g : f ≤ seek p f (suc n - f) = seek_ge p f (suc n - f) in
      by_eq f (seek p f (suc n - f))
      (λ e.
      let k : p (seek p f (suc n - f)) ≡ true = seek_hit p f (suc n - f) (omega arith) in
      let k' : p f ≡ true = rw (← e) at k in
      absurd (eqb-false (at colours f) open' (not-true _ k') (from_open colours h)))
      (λ e. omega arith)

  -- a link between its ends is in the run
  pub in_run_of : (colours : List ℕ) (i : ℕ) → run_from n colours ≤ i → i < run_past n colours → in_run n colours i ≡ true
  unfolding in_run
  in_run_of colours i p q = and_of _ _ (le-leb _ i p) (lt-ltb i _ q)

  -- a link of the run is on the line
  pub in_run_on : (colours : List ℕ) → run_from n colours ≤ n → (i : ℕ) → in_run n colours i ≡ true → (1 ≤ i) × (i ≤ n)
  unfolding in_run
  in_run_on colours h i e =
      let a : run_from n colours ≤ i = leb-true _ _ (and_l _ _ e) in
      let b : i < run_past n colours = ltb-true _ _ (and_r (leb (run_from n colours) i) _ e) in
      omega (arith, from_pos colours, past_le colours h)

  -- a circuit that fits uses a link of the run
  pub fits_meets : (colours : List ℕ) (c : Circuit) → run_from n colours ≤ n → c.first ≤ c.last → fits n colours c ≡ true → (x : ℕ) × (uses c x ≡ true) × (in_run n colours x ≡ true)
  unfolding fits
  fits_meets colours c h l e =
      let a : run_from n colours ≤ c.last = leb-true _ _ (and_l _ _ (and_l _ _ e)) in
      let b : c.first < run_past n colours = ltb-true _ _ (and_r (leb (run_from n colours) c.last) _ (and_l _ _ e)) in
      let x : ℕ = max c.first (run_from n colours) in
      (x, uses_of c x (omega arith) (omega arith), in_run_of colours x (omega arith) (omega (arith, from_past colours h)))

  -- and each of its links is in the run or blue
  pub fits_each : (colours : List ℕ) (c : Circuit) → fits n colours c ≡ true → (i : ℕ) → uses c i ≡ true → (in_run n colours i ≡ true) ⊎ (at colours i ≡ blue)
  unfolding fits
  fits_each colours c e i u =
      ⊎_elim (λ q. inl q) (λ q. inr (eqb-true _ _ q))
      (or_cases (in_run n colours i) _
      (every_at (λ x. in_run n colours x || eqb (at colours x) blue) c.first (suc c.last - c.first)
      (and_r (leb (run_from n colours) c.last && ltb c.first (run_past n colours)) _ e)
      i (uses_first c i u) (omega (arith, uses_first c i u, uses_last c i u))))

  -- a circuit that does both fits
  pub fits_of : (colours : List ℕ) (c : Circuit) (x : ℕ) → uses c x ≡ true → in_run n colours x ≡ true → ((i : ℕ) → uses c i ≡ true → (in_run n colours i ≡ true) ⊎ (at colours i ≡ blue)) → fits n colours c ≡ true
  unfolding fits in_run
  fits_of colours c x u r h =
      let a : run_from n colours ≤ x = leb-true _ _ (and_l _ _ r) in
      let b : x < run_past n colours = ltb-true _ _ (and_r (leb (run_from n colours) x) _ r) in
      let a' : run_from n colours ≤ c.last = omega (arith, uses_last c x u) in
      let b' : c.first < run_past n colours = omega (arith, uses_first c x u) in
      and_of _ _
      (and_of _ _ (le-leb _ _ a') (lt-ltb _ _ b'))
      (every_of _ c.first (suc c.last - c.first)
      (λ i p q. ⊎_elim (λ y. or_l (in_run n colours i) _ y) (λ y. or_r (in_run n colours i) _ (eq-eqb _ _ y)) (h i (uses_of c i p (omega arith)))))

  -- the colour of a link after painting
  pub at_paint : (p : ℕ → Bool) (colour : ℕ) (colours : List ℕ) (i : ℕ) → 1 ≤ i → i ≤ n → at (paint n p colour colours) i ≡ cond (p i) colour (at colours i)
  unfolding paint
  at_paint p colour colours i l h = at_each (λ x. cond (p x) colour (at colours x)) n i l h

  -- who fits is there
  pub fits_real : (colours : List ℕ) (c : Circuit) → fits n colours c ≡ true → 1 ≤ c.last
  unfolding fits
  fits_real colours c e = let a : run_from n colours ≤ c.last = leb-true (run_from n colours) c.last (and_l _ _ (and_l _ _ e)) in omega (arith, from_pos colours)

-- COLOURS THAT AGREE on which links are open have the same run
module _ (n : ℕ) (K K' : List ℕ) (opens : (x : ℕ) → eqb (at K x) open' ≡ eqb (at K' x) open') where
  -- its start
  pub from_same : run_from n K ≡ run_from n K'
  unfolding run_from
  from_same = ap (λ (p : ℕ → Bool). seek p 1 n) (fun_ext opens)

  -- its end
  pub past_same : run_past n K ≡ run_past n K'
  unfolding run_past
  past_same = ap₂ (λ (p : ℕ → Bool) (f : ℕ). seek (λ x. not (p x)) f (suc n - f)) (fun_ext opens) from_same

  -- its links
  pub in_run_same : (x : ℕ) → in_run n K x ≡ in_run n K' x
  unfolding in_run
  in_run_same x = ap₂ (λ (f p : ℕ). leb f x && ltb x p) from_same past_same

  module _ (blues : (x : ℕ) → eqb (at K x) blue ≡ eqb (at K' x) blue) where
    -- and, if they agree on the blue links too, the same circuits fit
    pub fits_same : (c : Circuit) → fits n K c ≡ fits n K' c
    unfolding fits
    fits_same c =
        let p : ℕ → Bool = λ x. in_run n K x || eqb (at K x) blue in
        let q : ℕ → Bool = λ x. in_run n K' x || eqb (at K' x) blue in
        let e : p ≡ q = fun_ext (λ x. ap₂ ◌||◌ (in_run_same x) (blues x)) in
        ap₂ (λ (f g : ℕ). leb f c.last && ltb c.first g && every p c.first (suc c.last - c.first)) from_same past_same
        ∙ ap (λ (t : ℕ → Bool). leb (run_from n K') c.last && ltb c.first (run_past n K') && every t c.first (suc c.last - c.first)) e
