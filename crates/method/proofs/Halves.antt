-- The first and the second fibre of a pair. Assumes nothing.
use Prim.Native.Nat.{◌-◌, ◌<◌, ◌≤◌, suc, zero, ℕ}
use borrow.Author.Tests.{eq-eqb, eqb-true, le-leb, leb-true, ne_eqb, not-false, not-true}
use lib.Dec.{eqb, leb}
use lib.ListN.{get_or, length}
use mathlib.Core.Bool.{Bool, ◌&&◌, cond, false, not, true}
use mathlib.Core.List.{List}
use mathlib.Core.Logic.{◌≢◌}
use mathlib.Core.Path.{◌∙◌, ◌≡◌, ap, ap₂, refl, sym}
use native.Mathlib.Omega.{arith}
use Rattle.basics.specs.Tools.{any}
use Rattle.basics.proofs.Bools.{and_l, and_none, and_of, and_r, by_eq, by_le, clash, on}
use Rattle.basics.proofs.Searches.{any_eq, any_false, any_true}
use Rattle.records.specs.declared.Circuit.{Circuit}
use Rattle.method.specs.Demands.{OwnLinks}
use Rattle.method.specs.Fibres.{on_first, on_first_by, together}
use Rattle.method.specs.Line.{circuit, overlap}
use Rattle.method.proofs.Intervals.{lasts_differ, middle}
use Rattle.method.proofs.Links.{overlap_r, overlap_sym}

module _ (cs : List Circuit) (rows : List ℕ) (run : ℕ → ℕ) where
  -- once the sweep has passed a circuit's last link its fibre is fixed
  pub on_first_at : (e j : ℕ) → (circuit cs j).last ≤ e → on_first_by cs rows run e j ≡ on_first cs rows run j
  unfolding on_first on_first_by
  on_first_at zero j h = rw (let z : (circuit cs j).last ≡ 0 = omega arith in z)
  on_first_at (suc e) j h =
      by_eq (circuit cs j).last (suc e) (λ q. ap (λ x. on_first_by cs rows run x j) (sym q))
      (λ q. rw (ne_eqb _ _ q) (on_first_at e j (omega arith)))

  -- circuit d stands in the way of circuit j, which ends at e + 1
  pub before : ℕ → ℕ → ℕ → Bool
  before e j d = together cs rows run d j && leb (circuit cs d).last e && overlap (circuit cs d) (circuit cs j) && on_first_by cs rows run e d

  -- a circuit has the first fibre if nobody stands in the way
  pub on_first_is : (e j : ℕ) → (circuit cs j).last ≡ suc e → on_first cs rows run j ≡ not (any (before e j) (length cs))
  unfolding on_first on_first_by before
  on_first_is e j q = ap (λ x. on_first_by cs rows run x j) q ∙ rw (eq-eqb _ _ q)

  -- circuit d is of j's row and run, ends before it, overlaps it and has the first fibre
  pub record Bars (e j d : ℕ) : Type 0 where
    pub there : d < length cs
    pub same_row : get_or rows d 0 ≡ get_or rows j 0
    pub same_run : run d ≡ run j
    pub sooner : (circuit cs d).last ≤ e
    pub meets : overlap (circuit cs d) (circuit cs j) ≡ true
    pub leads : on_first cs rows run d ≡ true

  -- the second fibre goes to one that overlaps an earlier one which has the first
  pub second_why : (e j : ℕ) → (circuit cs j).last ≡ suc e → on_first cs rows run j ≡ false → (d : ℕ) × Bars e j d
  unfolding before together
  second_why e j q f =
      let r = any_true (before e j) (length cs) (not-false _ (sym (on_first_is e j q) ∙ f)) in
      let d = r.0 in
      let one : Bool = eqb (get_or rows d 0) (get_or rows j 0) && eqb (run d) (run j) in
      let p₁ = and_l _ _ r.2 in
      let p₂ = and_l _ _ p₁ in
      let p₃ = and_l _ _ p₂ in
      let l : (circuit cs d).last ≤ e = leb-true _ _ (and_r one _ p₂) in (
        d,
        record {
          there = r.1;
          same_row = eqb-true _ _ (and_l _ _ p₃);
          same_run = eqb-true _ _ (and_r (eqb (get_or rows d 0) (get_or rows j 0)) _ p₃);
          sooner = l;
          meets = and_r (one && leb (circuit cs d).last e) _ p₁;
          leads = sym (on_first_at e d l) ∙ and_r (one && leb (circuit cs d).last e && overlap (circuit cs d) (circuit cs j)) _ r.2;
        },
      )

  -- one that has the first fibre overlaps no such earlier one
  pub first_why : (e j : ℕ) → (circuit cs j).last ≡ suc e → on_first cs rows run j ≡ true → (d : ℕ) → Bars e j d → ⊥
  unfolding before together
  first_why e j q f d b =
      clash (before e j d)
      (and_of _ _ (and_of _ _ (and_of _ _ (and_of _ _ (eq-eqb _ _ b.same_row) (eq-eqb _ _ b.same_run)) (le-leb _ _ b.sooner)) b.meets) (on_first_at e d b.sooner ∙ b.leads))
      (any_false (before e j) (length cs) (not-true _ (sym (on_first_is e j q) ∙ f)) d b.there)

  module _ (own : (k : ℕ) → 1 ≤ k → OwnLinks cs (λ j. eqb (get_or rows j 0) k)) where
    -- two of a row and run that overlap, the first of which ends first
    earlier : (i j : ℕ) → i < length cs → get_or rows i 0 ≢ 0 → get_or rows i 0 ≡ get_or rows j 0 → run i ≡ run j → i ≢ j
        → (circuit cs i).last < (circuit cs j).last → overlap (circuit cs i) (circuit cs j) ≡ true → on_first cs rows run i ≢ on_first cs rows run j
    earlier i j b h e u q l o same =
        let k : ℕ = get_or rows j 0 in
        let x = (circuit cs j).last - 1 in
        let jx : (circuit cs j).last ≡ suc x = omega arith in
        on (on_first cs rows run j)
        (λ t. first_why x j jx t i (record { there = b; same_row = e; same_run = u; sooner = omega arith; meets = o; leads = same ∙ t }))
        (λ t.
        let r = second_why x j jx t in
        let d = r.0 in
        let s = r.1.sooner in
        let di : d ≢ i = λ v. clash (on_first cs rows run i) (sym (ap (on_first cs rows run) v) ∙ r.1.leads) (same ∙ t) in
        let dj : d ≢ j = λ v. clash (on_first cs rows run j) (sym (ap (on_first cs rows run) v) ∙ r.1.leads) t in
        let mine = middle cs (λ z. eqb (get_or rows z 0) k) (own k (omega arith)) in
        let of-i = eq-eqb (get_or rows i 0) k e in
        let of-j = eq-eqb (get_or rows j 0) k refl in
        let of-d = eq-eqb (get_or rows d 0) k r.1.same_row in
        by_le (circuit cs d).last (circuit cs i).last
        (λ v. mine d i j of-d of-i of-j di (omega arith) v (omega arith) (overlap_r _ _ r.1.meets))
        (λ v. mine i d j of-i of-d of-j (omega arith) (omega arith) (omega arith) (omega arith) (overlap_r _ _ o)))

    -- two circuits of a row and run that overlap have different fibres of the pair
    pub differ : (i j : ℕ) → i < length cs → j < length cs → get_or rows i 0 ≢ 0 → get_or rows i 0 ≡ get_or rows j 0 → run i ≡ run j → i ≢ j
        → overlap (circuit cs i) (circuit cs j) ≡ true → on_first cs rows run i ≢ on_first cs rows run j
    differ i j bi bj h e u q o =
        let k : ℕ = get_or rows j 0 in
        let z = lasts_differ cs (λ z. eqb (get_or rows z 0) k) (own k (omega arith)) i j (eq-eqb (get_or rows i 0) k e) (eq-eqb (get_or rows j 0) k refl) q in
        by_le (circuit cs i).last (circuit cs j).last
        (λ l. earlier i j bi h e u q (omega arith) o)
        (λ l same. earlier j i bj (omega arith) (sym e) (sym u) (omega arith) l (overlap_sym _ _ o) (sym same))

-- WITH OR WITHOUT THE RUN
module _ (cs : List Circuit) (rows : List ℕ) (run : ℕ → ℕ) (one_run : (d j : ℕ) → d < length cs → j < length cs → get_or rows d 0 ≡ get_or rows j 0 → overlap (circuit cs d) (circuit cs j) ≡ true → run d ≡ run j) where
  -- the sweep asks for the run where it cannot differ
  swept : (e j : ℕ) → j < length cs → on_first_by cs rows run e j ≡ on_first_by cs rows (λ d. 0) e j
  unfolding on_first_by together
  swept zero j l = refl
  swept (suc e) j l =
      let in-way : (ℕ → ℕ) → ℕ → Bool = λ r d. (eqb (get_or rows d 0) (get_or rows j 0) && eqb (r d) (r j)) && leb (circuit cs d).last e && overlap (circuit cs d) (circuit cs j) && on_first_by cs rows r e d in
      let same : any (in-way run) (length cs) ≡ any (in-way (λ d. 0)) (length cs) = any_eq (in-way run) (in-way (λ d. 0)) (length cs) (λ d b. alike d b (swept e d b)) in
      ap₂ (λ (a b : Bool). cond (eqb (circuit cs j).last (suc e)) (not a) b) same (swept e j l)
    where
      -- whoever stands in the way with the run does so without
      alike : (d : ℕ) → d < length cs → {x y : Bool} → x ≡ y
          → (eqb (get_or rows d 0) (get_or rows j 0) && eqb (run d) (run j)) && leb (circuit cs d).last e && overlap (circuit cs d) (circuit cs j) && x
          ≡ (eqb (get_or rows d 0) (get_or rows j 0) && eqb 0 0) && leb (circuit cs d).last e && overlap (circuit cs d) (circuit cs j) && y
      alike d b e' =
          on (eqb (get_or rows d 0) (get_or rows j 0))
          (λ r.
          on (overlap (circuit cs d) (circuit cs j))
          (λ o. rw (r, o, eq-eqb (run d) (run j) (one_run d j b l (eqb-true _ _ r) o), e'))
          (λ o. rw (o, and_none (eqb (get_or rows d 0) (get_or rows j 0) && eqb (run d) (run j) && leb (circuit cs d).last e), and_none (eqb (get_or rows d 0) (get_or rows j 0) && eqb 0 0 && leb (circuit cs d).last e))))
          (λ r. rw r)

  -- first or second, the run makes no difference
  pub run_idle : (j : ℕ) → j < length cs → on_first cs rows run j ≡ on_first cs rows (λ d. 0) j
  unfolding on_first
  run_idle j l = swept (circuit cs j).last j l
