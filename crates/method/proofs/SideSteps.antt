-- One side of an idle link (R-9): within a row the side evolves as it does alone. Assumes nothing.
use Prim.Native.Nat.{◌+◌, ◌-◌, ◌<◌, ◌≤◌, suc, ℕ}
use borrow.Author.Tests.{eq-eqb, eqb-false, le-leb, leb-true, ltb-true, ne_eqb, not-true}
use lib.Dec.{eqb, leb, ltb}
use lib.ListN.{length}
use mathlib.Core.Bool.{Bool, ◌&&◌, ◌||◌, false, not, true}
use mathlib.Core.List.{List}
use mathlib.Core.Logic.{◌≢◌, ◌⊎◌, inr, ⊎_elim}
use mathlib.Core.Option.{none, some}
use mathlib.Core.Path.{◌∙◌, ◌≡◌, ap, ap₂, subst, sym}
use native.Mathlib.Omega.{arith}
use Rattle.basics.specs.Tools.{seek}
use Rattle.basics.proofs.Bools.{and_l, and_r, by_eq, by_le, clash, on}
use Rattle.basics.proofs.Searches.{SameLowest, both_found, every_same, lowest_both, none_found, seek_first, seek_hit, seek_miss, seek_none}
use Rattle.records.specs.declared.Circuit.{Circuit}
use Rattle.method.specs.Line.{circuit, uses}
use Rattle.method.specs.Sheet.{State, act, at, blue, chosen, fits, in_run, open', red, row_of, run_from, run_past, step}
use Rattle.method.proofs.Colours.{fits_meets, from_open, from_past, from_pos, in_run_of, past_le, run_open}
use Rattle.method.proofs.Links.{lies_proper, uses_of}
use Rattle.method.proofs.SideLoads.{Half, more, one_place, one_place'}
use Rattle.method.proofs.Steps.{blued, new_row, old_row, some_length, step_cases, took, unblued, untook, unused}

module _ (n w z : ℕ) (side : ℕ → Bool) (cs ds : List Circuit) (h : Half n w z side cs ds) where
  -- a row of the side's sheet and the row of the whole sheet, later by `more`; or both circuits wait
  abbrev pub Shifted : ℕ → ℕ → Type 0
  Shifted a b = ((a ≡ 0) × (b ≡ 0)) ⊎ ((a ≢ 0) × (b ≡ a + more n w z side cs ds h))

  -- s is a state of the whole sheet, t one of the side's: the same colours on the side, red elsewhere
  pub record Beside (s t : State) : Type 0 where
    pub colours : (x : ℕ) → 1 ≤ x → x ≤ n → side x ≡ true → at t.colours x ≡ at s.colours x
    pub rest : (x : ℕ) → 1 ≤ x → x ≤ n → side x ≡ false → at t.colours x ≡ red
    pub idle : at s.colours z ≡ red
    pub sized : length s.rows ≡ length cs
    pub sized' : length t.rows ≡ length ds
    pub marked : (i j : ℕ) → i < length ds → j < length cs → circuit ds i ≡ circuit cs j → Shifted (row_of t i) (row_of s j)

  module _ (s t : State) (y : Beside s t) where
    -- the links of the run
    in_run_lem : (x : ℕ) → in_run n s.colours x ≡ true → (run_from n s.colours ≤ x) × (x < run_past n s.colours)
    unfolding in_run
    in_run_lem x e = (leb-true _ _ (and_l _ _ e), ltb-true _ _ (and_r (leb (run_from n s.colours) x) _ e))

    -- a run never contains z, so it lies on one side
    run_one : (a b : ℕ) → in_run n s.colours a ≡ true → in_run n s.colours b ≡ true → side a ≡ true → side b ≡ true
    run_one a b p q e =
        let p' = in_run_lem a p in
        let q' = in_run_lem b q in
        on (side b) (λ f. f)
        (λ f.
        let r : in_run n s.colours z ≡ true =
        ⊎_elim (λ c. in_run_of n s.colours z (omega (arith, c.0)) (omega (arith, c.1))) (λ c. in_run_of n s.colours z (omega (arith, c.1)) (omega (arith, c.0))) (h.between a b e f) in
        absurd (omega (arith, run_open n s.colours z r, y.idle)))

    -- its first link is in it
    from_in : run_from n s.colours ≤ n → in_run n s.colours (run_from n s.colours) ≡ true
    from_in l = in_run_of n s.colours _ (omega arith) (from_past n s.colours l)

    -- the idle link is not
    idle_out : in_run n s.colours z ≡ false
    idle_out = on (in_run n s.colours z) (λ r. absurd (omega (arith, run_open n s.colours z r, y.idle))) (λ r. r)

    -- THE RUN IS ON THE SIDE: it is the run of the side's sheet
    module _ (l : run_from n s.colours ≤ n) (here : side (run_from n s.colours) ≡ true) where
      -- it begins at the same link
      from_same : run_from n t.colours ≡ run_from n s.colours
      unfolding run_from
      from_same =
          seek_first (λ i. eqb (at t.colours i) open') 1 n (run_from n s.colours) (from_pos n s.colours) (omega arith)
          (eq-eqb _ _ (y.colours (run_from n s.colours) (from_pos n s.colours) l here ∙ from_open n s.colours l))
          (λ x a b.
          ne_eqb (at t.colours x) open'
          (on (side x)
          (λ e.
          let f : at s.colours x ≢ open' = eqb-false _ _ (seek_miss (λ i. eqb (at s.colours i) open') 1 n x a b) in
          omega (arith, y.colours x a (omega arith) e))
          (λ e. omega (arith, y.rest x a (omega arith) e))))

      -- all its links are on the side
      run_side : (x : ℕ) → in_run n s.colours x ≡ true → side x ≡ true
      run_side x r = run_one (run_from n s.colours) x (from_in l) r here

      -- and ends at the same link
      past_at : seek (λ i. not (eqb (at t.colours i) open')) (run_from n s.colours) (suc n - run_from n s.colours) ≡ run_past n s.colours
      past_at =
          let A = run_from n s.colours in
          let B = run_past n s.colours in
          let q : ℕ → Bool = λ i. not (eqb (at t.colours i) open') in
          let f = from_past n s.colours l in
          let p = past_le n s.colours l in
          let p₀ = from_pos n s.colours in
          let miss : (x : ℕ) → A ≤ x → x < B → q x ≡ false =
          λ x a b. (let r = in_run_of n s.colours x a b in
          let e : at t.colours x ≡ open' = y.colours x (omega arith) (omega arith) (run_side x r) ∙ run_open n s.colours x r in
          ap not (eq-eqb _ _ e)) in
          by_le B n
          (λ c.
          seek_first q A (suc n - A) B (omega arith) (omega arith)
          (ap not (ne_eqb (at t.colours B) open'
          (on (side B)
          (λ e. let g = past_shut c in omega (arith, y.colours B (omega arith) c e))
          (λ e. omega (arith, y.rest B (omega arith) c e)))))
          miss)
          (λ c. seek_none q A (suc n - A) (λ x a b. miss x a (omega arith)) ∙ (let e : A + (suc n - A) ≡ B = omega arith in e))
        where
          -- the link past the run is not open
          past_shut : run_past n s.colours ≤ n → at s.colours (run_past n s.colours) ≢ open'
          past_shut c =
              let r : not (eqb (at s.colours (run_past n s.colours)) open') ≡ true = (unfold run_past in seek_hit (λ i. not (eqb (at s.colours i) open')) (run_from n s.colours) (suc n - run_from n s.colours) (let c' : run_past n s.colours ≤ n = c in omega arith)) in
              eqb-false _ _ (not-true _ r)

      -- in both sheets
      past_same : run_past n t.colours ≡ run_past n s.colours
      past_same =
          let e : run_past n t.colours ≡ seek (λ i. not (eqb (at t.colours i) open')) (run_from n s.colours) (suc n - run_from n s.colours) =
          (unfold run_past in ap (λ a. seek (λ i. not (eqb (at t.colours i) open')) a (suc n - a)) from_same) in
          e ∙ past_at

      -- so its links are the same
      run_same : (x : ℕ) → in_run n t.colours x ≡ in_run n s.colours x
      unfolding in_run
      run_same x = ap₂ (λ (a b : ℕ). leb a x && ltb x b) from_same past_same

      -- a circuit of the side fits it in both or in neither
      fits_same : (c : Circuit) → 1 ≤ c.first → c.last ≤ n → ((x : ℕ) → uses c x ≡ true → side x ≡ true) → fits n t.colours c ≡ fits n s.colours c
      unfolding fits
      fits_same c a b e =
          ap₂ ◌&&◌ (ap₂ (λ (a b : ℕ). leb a c.last && ltb c.first b) from_same past_same)
          (every_same _ _ c.first (suc c.last - c.first)
          (λ x p q. ap₂ ◌||◌ (run_same x) (ap (λ v. eqb v blue) (y.colours x (omega arith) (omega arith) (e x (uses_of c x p (omega arith)))))))

      -- nobody fits in both sheets, or the same circuit is chosen
      data Choices : Type 0 where
        -- nobody fits
        neither : chosen n cs s ≡ none → chosen n ds t ≡ none → Choices
        -- the same circuit is chosen
        both : (i j : ℕ) → i < length ds → j < length cs → circuit ds i ≡ circuit cs j → chosen n cs s ≡ some j → chosen n ds t ≡ some i → Choices

      -- the circuits that wait and fit, of the whole sheet
      ok : ℕ → Bool
      ok j = eqb (row_of s j) 0 && fits n s.colours (circuit cs j)

      -- and of the side's
      ok' : ℕ → Bool
      ok' i = eqb (row_of t i) 0 && fits n t.colours (circuit ds i)

      -- the same circuit waits and fits in both
      same : (i j : ℕ) → i < length ds → j < length cs → circuit ds i ≡ circuit cs j → ok' i ≡ ok j
      unfolding ok ok' circuit
      same i j a b c =
          let f = h.lies' i a in
          ap₂ ◌&&◌
          (⊎_elim (λ u. eq-eqb _ _ u.0 ∙ sym (eq-eqb _ _ u.1))
          (λ u. let u₁ = u.1 in ne_eqb _ _ u.0 ∙ sym (ne_eqb (row_of s j) 0 (λ q. u.0 (omega arith)))) (y.marked i j a b c))
          (fits_same (circuit ds i) (omega arith) (omega arith) (λ x u. h.inside i x a u) ∙ ap (fits n s.colours) c)

      -- one that fits is on the side
      fits_side : (j : ℕ) → j < length cs → ok j ≡ true → (h.back j < length ds) × (circuit ds (h.back j) ≡ circuit cs j)
      unfolding ok
      fits_side j b e =
          let m = fits_meets n s.colours (circuit cs j) l (lies_proper n cs h.lies j b) (and_r (eqb (row_of s j) 0) _ e) in
          h.fro j m.0 b m.1 (run_side m.0 m.2)

      -- both sheets choose the same circuit, or none
      choices : Choices
      unfolding chosen ok ok'
      choices =
          pick
          (lowest_both ok ok' (λ j. (circuit cs j).number) (λ i. (circuit ds i).number) (length cs) (length ds)
          (λ j l u. let b = fits_side j l u in (h.back j, b.0, same (h.back j) j b.0 l b.1 ∙ u, ap (λ c. c.number) b.1))
          (λ i l u. let b = h.to i l in (h.there i, b.0, sym (same i (h.there i) l b.0 b.1) ∙ u, sym (ap (λ c. c.number) b.1))))
        where
          -- one circuit has the lowest number in both
          pick : SameLowest ok ok' (λ j. (circuit cs j).number) (λ i. (circuit ds i).number) (length cs) (length ds) → Choices
          pick (none_found e f) = neither e f
          pick (both_found j i v u q e f) =
              let c = h.to i u.below in
              let r : j ≡ h.there i = h.once j (h.there i) v.below c.0 (q ∙ ap (λ c. c.number) c.1) in
              both i j u.below v.below (c.1 ∙ ap (circuit cs) (sym r)) e f

      -- nobody fits: the run becomes blue in both
      quiet : (k : ℕ) → Beside (act n cs (k + more n w z side cs ds h) s none) (act n ds k t none)
      quiet k =
          let K = k + more n w z side cs ds h in
          record {
            colours = λ x a b e.
                on (in_run n s.colours x)
                (λ r. blued n ds k t x a b (run_same x ∙ r) ∙ sym (blued n cs K s x a b r))
                (λ r. unblued n ds k t x a b (run_same x ∙ r) ∙ y.colours x a b e ∙ sym (unblued n cs K s x a b r));
            rest = λ x a b e.
                unblued n ds k t x a b (on (in_run n s.colours x) (λ r. clash (side x) (run_side x r) e) (λ r. run_same x ∙ r)) ∙ y.rest x a b e;
            idle = unblued n cs K s z h.on_low h.on_high idle_out ∙ y.idle;
            sized = unfold act in y.sized;
            sized' = unfold act in y.sized';
            marked = unfold act in y.marked;
          }

      -- the same circuit is placed in both
      loud : (k i j : ℕ) → 1 ≤ k → i < length ds → j < length cs → circuit ds i ≡ circuit cs j → Beside (act n cs (k + more n w z side cs ds h) s (some j)) (act n ds k t (some i))
      loud k i j pos a b c =
          let K = k + more n w z side cs ds h in
          let u : (x : ℕ) → uses (circuit ds i) x ≡ uses (circuit cs j) x = λ x. ap (λ d. uses d x) c in
          let new : row_of (act n cs K s (some j)) j ≡ K = new_row n cs K s j (let q = y.sized in omega arith) in
          let new' : row_of (act n ds k t (some i)) i ≡ k = new_row n ds k t i (let q = y.sized' in omega arith) in
          record {
            colours = λ x p q e.
                on (in_run n s.colours x)
                (λ r.
                on (uses (circuit cs j) x)
                (λ v. took n ds k t x p q i (run_same x ∙ r) (u x ∙ v) ∙ sym (took n cs K s x p q j r v))
                (λ v. unused n ds k t x p q i (u x ∙ v) ∙ y.colours x p q e ∙ sym (unused n cs K s x p q j v)))
                (λ r. untook n ds k t x p q i (run_same x ∙ r) ∙ y.colours x p q e ∙ sym (untook n cs K s x p q j r));
            rest = λ x p q e.
                untook n ds k t x p q i (on (in_run n s.colours x) (λ r. clash (side x) (run_side x r) e) (λ r. run_same x ∙ r)) ∙ y.rest x p q e;
            idle = untook n cs K s z h.on_low h.on_high j idle_out ∙ y.idle;
            sized = some_length n cs K s j ∙ y.sized;
            sized' = some_length n ds k t i ∙ y.sized';
            marked = λ i' j' a' b' c'.
                by_eq i' i
                (λ e.
                let f : j' ≡ j = one_place n w z side cs ds h i' i j' j b' b c' c e in
                inr (omega (arith, ap (row_of (act n ds k t (some i))) e), omega (arith, ap (row_of (act n ds k t (some i))) e, ap (row_of (act n cs K s (some j))) f)))
                (λ e.
                let f : j' ≢ j = (λ q. e (one_place' n w z side cs ds h i' i j' j a' a c' c q)) in
                let o = old_row n cs K s j j' f in
                let o' = old_row n ds k t i i' e in
                subst (λ v. Shifted v (row_of (act n cs K s (some j)) j')) (sym o') (subst (λ v. Shifted (row_of t i') v) (sym o) (y.marked i' j' a' b' c')));
          }

      -- so the two sheets stay beside one another
      act_both : (k : ℕ) → 1 ≤ k → Choices → Beside (act n cs (k + more n w z side cs ds h) s (chosen n cs s)) (act n ds k t (chosen n ds t))
      act_both k pos (neither e f) = rw (e, f) (quiet k)
      act_both k pos (both i j a b c e f) = rw (e, f) (loud k i j pos a b c)

      -- over a step
      pub step_both : (k : ℕ) → 1 ≤ k → Beside (step n cs (k + more n w z side cs ds h) s) (step n ds k t)
      unfolding step
      step_both k pos =
          let e : leb (run_from n s.colours) n ≡ true = le-leb _ _ l in
          let e' : leb (run_from n t.colours) n ≡ true = ap (λ a. leb a n) from_same ∙ e in
          rw (e, e') (act_both k pos choices)

    -- THE RUN IS NOT ON THE SIDE: the step leaves the side as it is
    module _ (l : run_from n s.colours ≤ n) (off : side (run_from n s.colours) ≡ false) where
      -- no link of the side is in the run
      run_off : (x : ℕ) → side x ≡ true → in_run n s.colours x ≡ false
      run_off x e = on (in_run n s.colours x) (λ r. clash (side (run_from n s.colours)) (run_one x (run_from n s.colours) r (from_in l) e) off) (λ r. r)

      -- over a step of the whole sheet alone
      pub step_off : (K : ℕ) → Beside (step n cs K s) t
      step_off K =
          step_cases n cs K s (λ s'. Beside s' t) (λ q. y)
          (λ q f.
          record {
            colours = λ x a b e. y.colours x a b e ∙ sym (unblued n cs K s x a b (run_off x e));
            rest = y.rest;
            idle = unblued n cs K s z h.on_low h.on_high idle_out ∙ y.idle;
            sized = unfold act in y.sized;
            sized' = y.sized';
            marked = unfold act in y.marked;
          })
          (λ j q b m f.
          record {
            colours = λ x a b e. y.colours x a b e ∙ sym (untook n cs K s x a b j (run_off x e));
            rest = y.rest;
            idle = untook n cs K s z h.on_low h.on_high j idle_out ∙ y.idle;
            sized = some_length n cs K s j ∙ y.sized;
            sized' = y.sized';
            marked = λ i' j' a' b' c'.
                let x = fits_meets n s.colours (circuit cs j) l (lies_proper n cs h.lies j b) f in
                let jj : j' ≢ j = (λ e. clash (in_run n s.colours x.0) x.2 (run_off x.0 (h.inside i' x.0 a' (ap (λ d. uses d x.0) c' ∙ ap (λ j. uses (circuit cs j) x.0) e ∙ x.1)))) in
                subst (λ v. Shifted (row_of t i') v) (sym (old_row n cs K s j j' jj)) (y.marked i' j' a' b' c');
          })
