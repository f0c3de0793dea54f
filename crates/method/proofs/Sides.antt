-- R-9: where a link has load 0, R-1's plan of the circuits left of it, or of those right, gives each the wavelength and fibre span of the full plan. Assumes nothing.
use Prim.Native.Nat.{◌<◌, ◌≤◌, suc, zero, ℕ}
use borrow.Author.Tests.{eq-eqb, eqb-true, lt-ltb, ltb-false, ltb-true}
use lib.Dec.{eqb, ltb}
use lib.ListN.{get_or, length}
use mathlib.Core.Bool.{Bool, ◌&&◌, cond, false, true}
use mathlib.Core.List.{List, [], ◌∷◌}
use mathlib.Core.Logic.{◌⊎◌, inl, inr}
use mathlib.Core.Path.{◌∙◌, ◌≡◌, ap, ap₂, refl, subst, sym}
use native.Mathlib.Omega.{arith}
use Rattle.basics.specs.Tools.{seek}
use Rattle.basics.proofs.Bools.{and_r, by_le, clash, never, on}
use Rattle.basics.proofs.Counts.{count_some}
use Rattle.basics.proofs.Searches.{seek_hit, seek_miss}
use Rattle.records.specs.declared.Circuit.{Circuit}
use Rattle.method.specs.Demands.{Rearranged}
use Rattle.method.specs.Fibres.{plan}
use Rattle.method.specs.Line.{Distinct, Lies, Plan, assigned, circuit, nobody, over, uses}
use Rattle.method.specs.Lit.{lit, lit_plan}
use Rattle.method.specs.Sheet.{load}
use Rattle.method.specs.Sides.{SameWavelengthAndSpan, SideAlone, SideDemand, keep, left_of, right_of}
use Rattle.method.proofs.Links.{uses_first, uses_last, uses_of}
use Rattle.method.proofs.Rearranged.{rearranged_once}
use Rattle.method.proofs.SideLoads.{Half, length_less}
use Rattle.method.proofs.SidePlan.{any_side, fibre_both, wavelength_same}
use Rattle.method.proofs.SideSpans.{same_span}
use Rattle.method.proofs.Stretches.{lit_by, stretch_begins, stretch_found, stretch_maximal, stretch_of, wavelength_stays}
use Rattle.method.proofs.Trimmed.{under_is}
use Rattle.method.proofs.ValidPlan.{plan_valid}

module _ (n w z : ℕ) (side : ℕ → Bool) (cs ds : List Circuit) (h : Half n w z side cs ds) where
  -- the plan of 01 of the whole
  abbrev P : Plan
  P = plan n w cs

  -- and of the side
  abbrev Q : Plan
  Q = plan n w ds

  -- CIRCUIT i OF THE SIDE, j of the whole
  module _ (i j : ℕ) (a : i < length ds) (b : j < length cs) (c : circuit ds i ≡ circuit cs j) where
    -- the same links of its fibre are lit, on the side
    lit_in : (x : ℕ) → side x ≡ true → lit ds Q (assigned Q i).fibre x ≡ lit cs P (assigned P j).fibre x
    unfolding lit
    lit_in x s =
        any_side n w z side cs ds h (λ d. eqb (assigned P d).fibre (assigned P j).fibre && uses (circuit cs d) x) (λ d. eqb (assigned Q d).fibre (assigned Q i).fibre && uses (circuit ds d) x)
        (λ d d' l l' e. ap₂ ◌&&◌ (fibre_both n w z side cs ds h d d' i j l l' a b e c) (ap (λ k. uses k x) e))
        (λ d l t. (x, and_r (eqb (assigned P d).fibre (assigned P j).fibre) _ t, s))

    -- not the idle link
    lit_idle : (q : ℕ) → lit cs P q z ≡ false
    lit_idle q = never _ (λ e. let r = lit_by cs P q z e in clash (uses (circuit cs r.0) z) r.3 (h.idle r.0 r.1))

    -- and none off the side
    lit_off : (q x : ℕ) → side x ≡ false → lit ds Q q x ≡ false
    lit_off q x s = never _ (λ e. let r = lit_by ds Q q x e in clash (side x) (h.inside r.0 x r.1 r.3) s)

    -- so its new fibres have one span
    lit_span : ((stretch_of n cs P j).first ≡ (stretch_of n ds Q i).first) × ((stretch_of n cs P j).last ≡ (stretch_of n ds Q i).last)
    lit_span =
        same_span n z side h.between (lit cs P (assigned P j).fibre) (lit ds Q (assigned Q i).fibre) (record { agree = lit_in; stops = lit_idle (assigned P j).fibre; off = lit_off (assigned Q i).fibre }) _ _
        (stretch_of n cs P j) (stretch_of n ds Q i)
        (stretch_maximal n cs P h.lies j b) (stretch_maximal n ds Q h.lies' i a)
        (stretch_begins n cs P h.lies j b) (stretch_begins n ds Q h.lies' i a)
        (circuit cs j).first (stretch_found n cs P h.lies j b).1 (ap (λ d. over (stretch_of n ds Q i) d.first) (sym c) ∙ (stretch_found n ds Q h.lies' i a).1)

    -- it has the wavelength and fibre span of the full plan
    side_lit : SameWavelengthAndSpan (lit_plan n w ds) i (lit_plan n w cs) j
    unfolding lit_plan
    side_lit =
        let s = lit_span in
        let e = under_is n w ds Q h.lies' (plan_valid n w ds h.lies' h.pos) i a in
        let e' = under_is n w cs P h.lies (plan_valid n w cs h.lies h.pos) j b in
        record {
          wavelength = wavelength_stays n ds Q i a ∙ wavelength_same n w z side cs ds h i j a b c ∙ sym (wavelength_stays n cs P j b);
          first = ap (λ f. f.first) e ∙ sym s.0 ∙ ap (λ f. f.first) (sym e');
          last = ap (λ f. f.last) e ∙ sym s.1 ∙ ap (λ f. f.last) (sym e');
        }

-- WHAT `keep` KEEPS: circuits of the file that pass
keep_from : (p : Circuit → Bool) (cs : List Circuit) (i : ℕ) → i < length (keep p cs) → (j : ℕ) × (j < length cs) × (circuit (keep p cs) i ≡ circuit cs j) × (p (circuit cs j) ≡ true)
unfolding keep circuit
keep_from p [] i l = absurd (omega arith)
keep_from p (c ∷ cs) i l =
    on (p c) (λ e. kept e i (rw e at l) (keep_from p cs))
    (λ e. let l' : i < length (keep p cs) = rw e at l in let r = keep_from p cs i l' in let r₁ = r.1 in (suc r.0, omega arith, rw e r.2, r.3))
  where
    -- the first is kept
    kept : p c ≡ true → (i : ℕ) → i < length (c ∷ keep p cs) → ((i : ℕ) → i < length (keep p cs) → (j : ℕ) × (j < length cs) × (get_or (keep p cs) i nobody ≡ get_or cs j nobody) × (p (get_or cs j nobody) ≡ true))
        → (j : ℕ) × (j < length (c ∷ cs)) × (get_or (cond (p c) (c ∷ keep p cs) (keep p cs)) i nobody ≡ get_or (c ∷ cs) j nobody) × (p (get_or (c ∷ cs) j nobody) ≡ true)
    kept e zero l ih = (0, omega arith, rw e refl, e)
    kept e (suc i) l ih = let r = ih i (omega arith) in let r₁ = r.1 in (suc r.0, omega arith, rw e r.2, r.3)

-- each circuit that passes is kept
keep_to : (p : Circuit → Bool) (cs : List Circuit) (j : ℕ) → j < length cs → p (circuit cs j) ≡ true → (i : ℕ) × (i < length (keep p cs)) × (circuit (keep p cs) i ≡ circuit cs j)
unfolding keep circuit
keep_to p [] j l e = absurd (omega arith)
keep_to p (c ∷ cs) zero l e = (0, rw e (omega arith), rw e refl)
keep_to p (c ∷ cs) (suc j) l e =
    let r = keep_to p cs j (omega arith) e in
    let r₁ = r.1 in
    on (p c) (λ q. (suc r.0, rw q (omega arith), rw q r.2)) (λ q. (r.0, rw q r₁, rw q r.2))

-- a list with no number twice keeps that
keep_distinct : (p : Circuit → Bool) (cs : List Circuit) → Distinct cs → Distinct (keep p cs)
unfolding keep circuit
keep_distinct p [] d = λ i j l. absurd (omega arith)
keep_distinct p (c ∷ cs) d =
    let ih : Distinct (keep p cs) = keep_distinct p cs (λ i j l m e. (let q : suc i ≡ suc j = d (suc i) (suc j) (omega arith) (omega arith) e in omega arith)) in
    on (p c) (λ e. rw e (kept ih)) (λ e. rw e ih)
  where
    -- no other circuit has the number of the first
    other : (j : ℕ) → j < length (keep p cs) → c.number ≡ (get_or (keep p cs) j nobody).number → ⊥
    other j l e =
        let r : (x : ℕ) × (x < length cs) × (get_or (keep p cs) j nobody ≡ get_or cs x nobody) × (p (get_or cs x nobody) ≡ true) = (unfold circuit in keep_from p cs j l) in
        let r₁ = r.1 in
        let q : 0 ≡ suc r.0 = d 0 (suc r.0) (omega arith) (omega arith) (e ∙ ap (λ k. k.number) r.2) in
        omega arith

    -- the first is kept
    kept : Distinct (keep p cs) → Distinct (c ∷ keep p cs)
    kept ih zero zero l m e = refl
    kept ih zero (suc j) l m e = absurd (other j (omega arith) e)
    kept ih (suc i) zero l m e = absurd (other i (omega arith) (sym e))
    kept ih (suc i) (suc j) l m e = ap suc (ih i j (omega arith) (omega arith) e)

-- the place of a number
place_of : (ls : List Circuit) → Distinct ls → (x j : ℕ) → j < length ls → (circuit ls j).number ≡ x → seek (λ j. eqb (circuit ls j).number x) 0 (length ls) ≡ j
place_of ls d x j l e =
    let p : ℕ → Bool = λ j. eqb (circuit ls j).number x in
    let b : seek p 0 (length ls) < length ls = by_le (length ls) (seek p 0 (length ls)) (λ q. clash (p j) (eq-eqb _ _ e) (seek_miss p 0 (length ls) j (omega arith) (omega arith))) (λ q. q) in
    d (seek p 0 (length ls)) j b l (eqb-true _ _ (seek_hit p 0 (length ls) (omega arith)) ∙ sym e)

-- the circuits that lie on a side of a link that no circuit uses
module _ (n w z : ℕ) (cs : List Circuit) (lies : Lies n cs) (once : Distinct cs) (pos : 1 ≤ w) (low : 1 ≤ z) (high : z ≤ n) (empty : load cs z ≡ 0) where
  -- no circuit uses z
  unused : (j : ℕ) → j < length cs → uses (circuit cs j) z ≡ false
  unfolding load
  unused j l = on (uses (circuit cs j) z) (λ u. absurd (omega (arith, count_some (λ j. uses (circuit cs j) z) (length cs) j l u))) (λ u. u)

  module _ (side : ℕ → Bool) (p : Circuit → Bool)
      (between : (x y : ℕ) → side x ≡ true → side y ≡ false → ((x ≤ z) × (z ≤ y)) ⊎ ((z ≤ x) × (y ≤ z)))
      (in-side : (c : Circuit) → p c ≡ true → (x : ℕ) → uses c x ≡ true → side x ≡ true)
      (of-side : (c : Circuit) → uses c z ≡ false → (x : ℕ) → uses c x ≡ true → side x ≡ true → p c ≡ true)
      (ds : List Circuit) (same : Rearranged (keep p cs) ds) where
    -- the side's file holds circuits of the whole that pass
    side_from : (i : ℕ) → i < length ds → (j : ℕ) × (j < length cs) × (circuit ds i ≡ circuit cs j) × (p (circuit cs j) ≡ true)
    side_from i l =
        let x = same.fro i l in
        let r = keep_from p cs (same.back i) x.0 in
        (r.0, r.1, x.2 ∙ r.2, r.3)

    -- each of them
    side_to : (j : ℕ) → j < length cs → p (circuit cs j) ≡ true → (i : ℕ) × (i < length ds) × (circuit ds i ≡ circuit cs j)
    side_to j l e =
        let r = keep_to p cs j l e in
        let x = same.to r.0 r.1 in
        (same.there r.0, x.0, sym x.2 ∙ r.2)

    -- and once
    side_once : Distinct ds
    side_once = rearranged_once (keep p cs) ds (keep_distinct p cs once) same

    -- so it is the side's half
    half : Half n w z side cs ds
    half =
        record {
          lies = lies;
          lies' = λ i l. (unfold circuit in (let r = side_from i l in rw r.2 (lies r.0 r.1)));
          pos = pos;
          on_low = low;
          on_high = high;
          once = once;
          once' = side_once;
          idle = unused;
          between = between;
          there = λ i. seek (λ j. eqb (circuit cs j).number (circuit ds i).number) 0 (length cs);
          back = λ j. seek (λ i. eqb (circuit ds i).number (circuit cs j).number) 0 (length ds);
          to = λ i l.
              let r = side_from i l in
              let r₁ = r.1 in
              let e = place_of cs once (circuit ds i).number r.0 r₁ (ap (λ c. c.number) (sym r.2)) in
              (subst (λ x. x < length cs) (sym e) r₁, r.2 ∙ ap (circuit cs) (sym e));
          fro = λ j x l u s.
              let r = side_to j l (of-side (circuit cs j) (unused j l) x u s) in
              let r₁ = r.1 in
              let e = place_of ds side_once (circuit cs j).number r.0 r₁ (ap (λ c. c.number) r.2) in
              (subst (λ x. x < length ds) (sym e) r₁, ap (circuit ds) e ∙ r.2);
          inside = λ i x l u. (let r = side_from i l in in-side (circuit cs r.0) r.3 x (ap (λ c. uses c x) (sym r.2) ∙ u));
        }

    -- and has what the full plan gives it
    alone : (On : Circuit → Type 0) → ((c : Circuit) → On c → p c ≡ true) → ((c : Circuit) → p c ≡ true → On c) → SideAlone n w cs ds On
    alone On passes on_it =
        record {
          has_place_lem = λ j l s. side_to j l (passes (circuit cs j) s);
          no_other = λ i l. (let r = side_from i l in (r.0, r.1, r.2, on_it (circuit cs r.0) r.3));
          once = side_once;
          no_more = length_less n w z side cs ds half;
          as_full = side_lit n w z side cs ds half;
        }

  -- only the circuits left of z
  left_alone : (ds : List Circuit) → Rearranged (left_of z cs) ds → SideAlone n w cs ds (λ c. c.last < z)
  unfolding left_of
  left_alone ds same =
      alone (λ x. ltb x z) (λ c. ltb c.last z)
      (λ x y a b. (let a' : x < z = ltb-true _ _ a in let b' : z ≤ y = ltb-false _ _ b in inl (omega arith, b')))
      (λ c e x u. (let e' : c.last < z = ltb-true _ _ e in lt-ltb x z (omega (arith, uses_last c x u))))
      (λ c e x u s. (let s' : x < z = ltb-true _ _ s in by_le z c.last (λ l. clash (uses c z) (uses_of c z (omega (arith, uses_first c x u)) l) e) (λ l. lt-ltb c.last z l)))
      ds same (λ c. c.last < z) (λ c s. lt-ltb _ _ s) (λ c s. ltb-true _ _ s)

  -- only those right of z
  right_alone : (ds : List Circuit) → Rearranged (right_of z cs) ds → SideAlone n w cs ds (λ c. z < c.first)
  unfolding right_of
  right_alone ds same =
      alone (λ x. ltb z x) (λ c. ltb z c.first)
      (λ x y a b. (let a' : z < x = ltb-true _ _ a in let b' : y ≤ z = ltb-false _ _ b in inr (omega arith, b')))
      (λ c e x u. (let e' : z < c.first = ltb-true _ _ e in lt-ltb z x (omega (arith, uses_first c x u))))
      (λ c e x u s. (let s' : z < x = ltb-true _ _ s in by_le c.first z (λ l. clash (uses c z) (uses_of c z l (omega (arith, uses_last c x u))) e) (λ l. lt-ltb z c.first l)))
      ds same (λ c. z < c.first) (λ c s. lt-ltb _ _ s) (λ c s. ltb-true _ _ s)

  -- all that is promised for an idle link
  pub side_demand : SideDemand n w z cs
  side_demand =
      record {
        one_side = λ j l.
            by_le z (circuit cs j).last
            (λ b. by_le (circuit cs j).first z (λ c. clash (uses (circuit cs j) z) (uses_of (circuit cs j) z c b) (unused j l)) (λ c. inr c))
            (λ b. inl b);
        left = left_alone;
        right = right_alone;
      }
