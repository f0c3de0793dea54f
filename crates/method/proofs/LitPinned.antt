-- The rules of R-1 leave one plan only. Assumes nothing.
use Prim.Native.Nat.{◌-◌, ◌<◌, ◌≤◌, suc, zero, ℕ}
use lib.ListN.{get_or, length}
use lib.Seq.{ext_get_or}
use mathlib.Core.Bool.{false, true}
use mathlib.Core.List.{List}
use mathlib.Core.Path.{◌∙◌, ◌≡◌, ap, sym}
use native.Mathlib.Omega.{arith}
use Rattle.basics.proofs.Bools.{by_eq, by_le, clash, never}
use Rattle.records.specs.declared.Circuit.{Circuit}
use Rattle.method.specs.Line.{Assignment, Fibre, Lies, Plan, assigned, circuit, fibre_under, no_fibre, unassigned, uses}
use Rattle.method.specs.Lit.{fibre_number, lit}
use Rattle.method.specs.LitDemands.{LitRules}
use Rattle.method.proofs.Links.{lies_proper}
use Rattle.method.proofs.Runs.{over_of}
use Rattle.method.proofs.Stretches.{lights, lit_by, stretch_begins, stretch_maximal, stretch_within, stretch_of}

module _ (n w : ℕ) (cs : List Circuit) (old : Plan) (lies : Lies n cs) where
  -- ONE PLAN that keeps the rules
  module _ (p : Plan) (r : LitRules n w cs old p) where
    -- circuits of one new fibre are of one old fibre
    same_old : (d j : ℕ) → d < length cs → j < length cs → fibre_number p d ≡ fibre_number p j → fibre_number old d ≡ fibre_number old j
    same_old d j a b e =
        by_le (fibre_number old d) (fibre_number old j)
        (λ h. by_eq (fibre_number old d) (fibre_number old j) (λ t. t) (λ t. absurd (omega (arith, r.by_old d j a b (omega arith)))))
        (λ h. absurd (omega (arith, r.by_old j d b a h)))

    -- each number is some circuit's
    taken_by : (m : ℕ) → 1 ≤ m → m ≤ length p.fibres → (d : ℕ) × (d < length cs) × (fibre_number p d ≡ m)
    taken_by m a b =
        let q = m - 1 in
        let f : Fibre = get_or p.fibres q no_fibre in
        let o = r.fibres_on_line q (omega arith) in
        let s = r.none_dark q f.first (omega arith) (over_of f f.first (omega arith) o.1) in
        let s₂ = s.2 in
        (s.0, s.1, omega arith)

    -- CIRCUIT j
    module _ (j : ℕ) (l : j < length cs) where
      -- its fibre lies on the line
      its_line : (1 ≤ (fibre_under p j).first) × ((fibre_under p j).first ≤ (fibre_under p j).last) × ((fibre_under p j).last ≤ n)
      unfolding fibre_under
      its_line = r.fibres_on_line (fibre_number p j - 1) (let a = r.valid.numbered j l in omega arith)

      -- each link of it is lit on the old one
      its_lit : (x : ℕ) → (fibre_under p j).first ≤ x → x ≤ (fibre_under p j).last → lit cs old (fibre_number old j) x ≡ true
      unfolding fibre_under
      its_lit x a b =
          let v = r.valid.numbered j l in
          let s = r.none_dark (fibre_number p j - 1) x (omega arith) (over_of (fibre_under p j) x a b) in
          let s₂ = s.2 in
          let e = same_old s.0 j s.1 l (omega arith) in
          ap (λ q. lit cs old q x) (sym e) ∙ lights cs old s.0 x s.1 s.3

      -- the link before and the link after are not
      dark_before : lit cs old (fibre_number old j) ((fibre_under p j).first - 1) ≡ false
      dark_before =
          never _ (λ e. let s = lit_by cs old (fibre_number old j) ((fibre_under p j).first - 1) e in
          clash (uses (circuit cs s.0) ((fibre_under p j).first - 1)) s.3 (r.maximal j s.0 l s.1 s.2).0)

      -- nor the link after
      dark_after : lit cs old (fibre_number old j) (suc (fibre_under p j).last) ≡ false
      dark_after =
          never _ (λ e. let s = lit_by cs old (fibre_number old j) (suc (fibre_under p j).last) e in
          clash (uses (circuit cs s.0) (suc (fibre_under p j).last)) s.3 (r.maximal j s.0 l s.1 s.2).1)

      -- so its fibre is the lit run over its first link
      its_span : ((fibre_under p j).first ≡ (stretch_of n cs old j).first) × ((fibre_under p j).last ≡ (stretch_of n cs old j).last)
      its_span =
          let f = fibre_under p j in
          let g = stretch_of n cs old j in
          let m = stretch_maximal n cs old lies j l in
          let on_it = its_line in
          let o₀ = on_it.0 in
          let o₂ = on_it.2 in
          let fw = r.valid.within j l in
          let fw₀ = fw.0 in
          let fw₁ = fw.1 in
          let gw = stretch_within n cs old lies j l in
          let gw₀ = gw.0 in
          let gw₁ = gw.1 in
          let c = lies_proper n cs lies j l in (
            by_eq f.first g.first (λ e. e)
                (λ e.
                by_le f.first g.first
                (λ h. clash (lit cs old (fibre_number old j) (g.first - 1)) (its_lit (g.first - 1) (omega arith) (omega arith)) (stretch_begins n cs old lies j l (omega arith)))
                (λ h. clash (lit cs old (fibre_number old j) (f.first - 1)) (m.pass (f.first - 1) (omega arith) (omega arith)) dark_before)),
            by_eq f.last g.last (λ e. e)
                (λ e.
                by_le f.last g.last
                (λ h. clash (lit cs old (fibre_number old j) (suc f.last)) (m.pass (suc f.last) (omega arith) (omega arith)) dark_after)
                (λ h. clash (lit cs old (fibre_number old j) (suc g.last)) (its_lit (suc g.last) (omega arith) (omega arith)) (m.stop (omega arith)))),
          )

  -- TWO PLANS: the numbers come in the same order
  in_order : (p q : Plan) → LitRules n w cs old p → LitRules n w cs old q → (d j : ℕ) → d < length cs → j < length cs → fibre_number p d < fibre_number p j → fibre_number q d < fibre_number q j
  in_order p q r s d j a b h =
      let pd = (its_span p r d a).0 in
      let pj = (its_span p r j b).0 in
      let qd = (its_span q s d a).0 in
      let qj = (its_span q s j b).0 in
      by_eq (fibre_number old d) (fibre_number old j)
      (λ e.
      by_eq (fibre_under p d).first (fibre_under p j).first (λ t. absurd (omega (arith, r.one_for_a_run d j a b e t)))
      (λ t.
      by_le (fibre_under p d).first (fibre_under p j).first (λ u. s.by_left_end d j a b e (omega arith))
      (λ u. absurd (omega (arith, r.by_left_end j d b a (sym e) u)))))
      (λ e.
      by_le (fibre_number old d) (fibre_number old j) (λ u. s.by_old d j a b (omega arith))
      (λ u. absurd (omega (arith, r.by_old j d b a u))))

  module _ (p q : Plan) (r : LitRules n w cs old p) (s : LitRules n w cs old q) where
    -- so each circuit has the same number in both: by rising number
    numbers_below : (k j : ℕ) → j < length cs → fibre_number q j < k → fibre_number p j ≡ fibre_number q j
    numbers_below zero j l h = absurd (omega arith)
    numbers_below (suc k) j l h =
        by_le (suc (fibre_number q j)) k (λ u. numbers_below k j l u)
        (λ u.
        by_eq (fibre_number p j) (fibre_number q j) (λ e. e)
        (λ e.
        let vp = r.valid.numbered j l in
        let vp₀ = vp.0 in
        let vp₁ = vp.1 in
        let vq = s.valid.numbered j l in
        let vq₀ = vq.0 in
        let vq₁ = vq.1 in
        by_le (fibre_number p j) (fibre_number q j)
        (λ c.
        let t = taken_by q s (fibre_number p j) vp₀ (omega arith) in
        let t₂ = t.2 in
        let z = numbers_below k t.0 t.1 (omega arith) in
        absurd (omega (arith, in_order q p s r t.0 j t.1 l (omega arith))))
        (λ c.
        let t = taken_by p r (fibre_number q j) vq₀ (omega arith) in
        let t₂ = t.2 in
        let o = in_order p q r s t.0 j t.1 l (omega arith) in
        absurd (omega (arith, numbers_below k t.0 t.1 (omega arith))))))

    -- for each
    numbers_same : (j : ℕ) → j < length cs → fibre_number p j ≡ fibre_number q j
    numbers_same j l = numbers_below (suc (fibre_number q j)) j l (omega arith)

    -- the same is given to each
    given_same : p.assignments ≡ q.assignments
    unfolding assigned
    given_same =
        ext_get_or unassigned p.assignments q.assignments (r.valid.all_assigned ∙ sym s.valid.all_assigned)
        (λ j b.
        let l : j < length cs = omega (arith, r.valid.all_assigned) in
        same_assignment (assigned p j) (assigned q j) (numbers_same j l) (r.wavelength_stays j l ∙ sym (s.wavelength_stays j l)))
      where
        -- two assignments with the same fields
        same_assignment : (g h : Assignment) → g.fibre ≡ h.fibre → g.wavelength ≡ h.wavelength → g ≡ h
        same_assignment g h e f = λ i. record { fibre = e i; wavelength = f i }

    -- there are no more fibres in the one than in the other
    no_longer : length p.fibres ≤ length q.fibres
    no_longer =
        by_le (length p.fibres) (length q.fibres) (λ h. h)
        (λ h.
        let t = taken_by p r (length p.fibres) (omega arith) (omega arith) in
        let t₂ = t.2 in
        let v = s.valid.numbered t.0 t.1 in
        let v₁ = v.1 in
        absurd (omega (arith, numbers_same t.0 t.1)))

    -- the fibre at place k is the same
    fibre_same : (k : ℕ) → k < length p.fibres → get_or p.fibres k no_fibre ≡ get_or q.fibres k no_fibre
    unfolding fibre_under
    fibre_same k l =
        let t = taken_by p r (suc k) (omega arith) l in
        let d = t.0 in
        let t₂ = t.2 in
        let e : fibre_number p d - 1 ≡ k = omega arith in
        let f : fibre_number q d - 1 ≡ k = omega (arith, numbers_same d t.1) in
        let x = its_span p r d t.1 in
        let y = its_span q s d t.1 in
        ap (λ z. get_or p.fibres z no_fibre) (sym e)
        ∙ same_fibre (fibre_under p d) (fibre_under q d) (x.0 ∙ sym y.0) (x.1 ∙ sym y.1) (r.layer_stays d t.1 ∙ sym (s.layer_stays d t.1))
        ∙ ap (λ z. get_or q.fibres z no_fibre) f
      where
        -- two fibres with the same fields
        same_fibre : (f g : Fibre) → f.first ≡ g.first → f.last ≡ g.last → f.layer ≡ g.layer → f ≡ g
        same_fibre f g a b c = λ i. record { first = a i; last = b i; layer = c i }

  -- so both are one plan
  pub one_plan : (p q : Plan) → LitRules n w cs old p → LitRules n w cs old q → p ≡ q
  one_plan p q r s =
      let e : p.fibres ≡ q.fibres =
      ext_get_or no_fibre p.fibres q.fibres (let a = no_longer p q r s in let b = no_longer q p s r in let z : length p.fibres ≡ length q.fibres = omega arith in z) (fibre_same p q r s) in
      let f = given_same p q r s in
      λ i. record { fibres = e i; assignments = f i }
