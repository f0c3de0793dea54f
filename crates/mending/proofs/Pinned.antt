-- What is promised of mending leaves one plan and one report only. Assumes nothing.
use Prim.Native.Nat.{◌+◌, ◌<◌, ◌≤◌, suc, zero, ℕ}
use borrow.Author.Tests.{eq-eqb, eqb-true, ltb-true}
use lib.Dec.{eqb, ltb}
use lib.ListN.{get_or, length}
use lib.Seq.{ext_get_or}
use mathlib.Core.Bool.{Bool, ◌&&◌, ◌||◌, cond, false, not, true}
use mathlib.Core.List.{List, [], ◌++◌, ◌∷◌}
use mathlib.Core.Logic.{inl, inr}
use mathlib.Core.Path.{◌∙◌, ◌≡◌, ap, ap₂, refl, sym}
use native.Mathlib.Omega.{arith}
use Rattle.basics.specs.Tools.{each}
use Rattle.basics.proofs.Bools.{and_false, clash, on}
use Rattle.basics.proofs.Searches.{any_hit, any_true}
use Rattle.basics.proofs.Tables.{each_same}
use Rattle.records.specs.declared.AssignmentRecord.{AssignmentRecord}
use Rattle.records.specs.declared.Circuit.{Circuit}
use Rattle.method.specs.Demands.{SamePlan}
use Rattle.method.specs.Line.{Assignment, Distinct, Fibre, Lies, Plan, assigned, circuit, unassigned}
use Rattle.method.specs.Lit.{lit_plan}
use Rattle.method.proofs.LitDemands.{lit_demand}
use Rattle.register.specs.Plans.{place_of}
use Rattle.places.specs.Places.{free, given_to, riders}
use Rattle.places.specs.Turns.{number}
use Rattle.places.proofs.Parts.{part_at, part_distinct, part_lies, part_rearranged, rearranged_self}
use Rattle.places.proofs.PlaceLaws.{fits_same, lowest_one, lowest_same}
use Rattle.places.proofs.TurnLaws.{same_free}
use Rattle.mending.specs.Mended.{Mended, at_turn, is_new, kept_before, line_at, line_for, no_line, reported}
use Rattle.mending.specs.Mending.{Mend, ReportLine, record_of}
use Rattle.mending.proofs.Keeping.{given_each}

-- TWO LISTS OF LINES by rising number that have the same lines are equal
abbrev Rises : List ReportLine → Type 0
Rises L = (s t : ℕ) → s < t → t < length L → (get_or L s no_line).number < (get_or L t no_line).number

-- each line of one is in the other
abbrev In : List ReportLine → List ReportLine → Type 0
In L N = (t : ℕ) → t < length L → (u : ℕ) × (u < length N) × (get_or L t no_line ≡ get_or N u no_line)

-- without the first lines, which are equal
tails : (x y : ReportLine) (L N : List ReportLine) → x ≡ y → Rises (x ∷ L) → In (x ∷ L) (y ∷ N) → In L N
tails x y L N e r h t l = go (h (suc t) (omega arith)).0 (h (suc t) (omega arith)).1 (h (suc t) (omega arith)).2
  where
    go : (u : ℕ) → u < suc (length N) → get_or L t no_line ≡ get_or (y ∷ N) u no_line → (u : ℕ) × (u < length N) × (get_or L t no_line ≡ get_or N u no_line)
    go zero b q = absurd (let z : x.number < (get_or L t no_line).number = r 0 (suc t) (omega arith) (omega arith) in omega (arith, ap (λ a. a.number) e, ap (λ a. a.number) q))
    go (suc u) b q = (u, omega arith, q)

-- so they are equal
same_lines : (L N : List ReportLine) → Rises L → Rises N → In L N → In N L → L ≡ N
same_lines [] [] r s h k = refl
same_lines [] (y ∷ N) r s h k = let z = (k 0 (omega arith)).1 in absurd (omega arith)
same_lines (x ∷ L) [] r s h k = let z = (h 0 (omega arith)).1 in absurd (omega arith)
same_lines (x ∷ L) (y ∷ N) r s h k =
    let e : x ≡ y = heads (h 0 (omega arith)).0 (h 0 (omega arith)).1 (h 0 (omega arith)).2 (k 0 (omega arith)).0 (k 0 (omega arith)).1 (k 0 (omega arith)).2 in
    ap₂ ◌∷◌ e
    (same_lines L N (λ a b c d. r (suc a) (suc b) (omega arith) (omega arith)) (λ a b c d. s (suc a) (suc b) (omega arith) (omega arith)) (tails x y L N e r h) (tails y x N L (sym e) s k))
  where
    heads : (u : ℕ) → u < suc (length N) → x ≡ get_or (y ∷ N) u no_line → (v : ℕ) → v < suc (length L) → y ≡ get_or (x ∷ L) v no_line → x ≡ y
    heads zero a p v b q = p
    heads (suc u) a p zero b q = sym q
    heads (suc u) a p (suc v) b q =
        absurd (omega (arith, s 0 (suc u) (omega arith) (omega arith), r 0 (suc v) (omega arith) (omega arith), ap (λ l. l.number) p, ap (λ l. l.number) q))

-- two places of a fibre and a wavelength that agree in both are one
same_given : (g k : Assignment) → g.fibre ≡ k.fibre → g.wavelength ≡ k.wavelength → g ≡ k
same_given g k p q = ap₂ (λ (x y : ℕ). let r : Assignment = record { fibre = x; wavelength = y } in r) p q

module _ (n w : ℕ) (fs : List Fibre) (cs : List Circuit) (rs : List AssignmentRecord) (pos : 1 ≤ w) (lies : Lies n cs) (once : Distinct cs) (M N : Mend)
    (a : Mended n w fs cs rs M) (b : Mended n w fs cs rs N) where
  -- WHO IS REPORTED. Where they agree on those with lower numbers the same are kept before circuit j
  before_same : (P Q : Mend) (j : ℕ) → ((d : ℕ) → d < length cs → number cs d < number cs j → reported cs P d ≡ reported cs Q d) → kept_before cs rs P j ≡ kept_before cs rs Q j
  unfolding kept_before
  before_same P Q j ih =
      ap (riders cs)
      (each_same _ _ 0 (length cs)
      (λ d x y.
      ap (λ (t : Bool). cond t (place_of (record_of rs d)) unassigned)
      (on (ltb (number cs d) (number cs j))
      (λ e. ap (λ (t : Bool). not t && ltb (number cs d) (number cs j)) (ih d (omega arith) (ltb-true (number cs d) (number cs j) e)))
      (λ e. ap (λ t. not (reported cs P d) && t) e ∙ and_false (not (reported cs P d)) ∙ sym (ap (λ t. not (reported cs Q d) && t) e ∙ and_false (not (reported cs Q d)))))))

  -- so who is kept in one is kept in the other
  kept_too : (P Q : Mend) → Mended n w fs cs rs P → Mended n w fs cs rs Q → (j : ℕ) → j < length cs → kept_before cs rs P j ≡ kept_before cs rs Q j
      → reported cs P j ≡ false → reported cs Q j ≡ false
  kept_too P Q p q j l same e = let m = p.kept_only j l e in q.kept_if j l (m.0, rw (← same) m.1)

  -- by rising number
  reported_below : (z j : ℕ) → j < length cs → number cs j < z → reported cs M j ≡ reported cs N j
  reported_below zero j l h = absurd (omega arith)
  reported_below (suc z) j l h =
      let same = before_same M N j (λ d k g. reported_below z d k (omega arith)) in
      on (reported cs M j)
      (λ e. on (reported cs N j) (λ f. e ∙ sym f) (λ f. clash (reported cs M j) e (kept_too N M b a j l (sym same) f)))
      (λ e. e ∙ sym (kept_too M N a b j l same e))

  -- the same are
  reported_same : (j : ℕ) → j < length cs → reported cs M j ≡ reported cs N j
  reported_same j l = reported_below (suc (number cs j)) j l (omega arith)

  -- WHAT EACH IS GIVEN. The two agree on circuit j
  Agree : ℕ → Type 0
  Agree j = (is_new fs M j ≡ is_new fs N j) × (is_new fs M j ≡ false → assigned M.plan j ≡ assigned N.plan j)

  -- who is new has a fibre above the old ones
  new_above : (R : Mend) (j : ℕ) → is_new fs R j ≡ true → length fs < (assigned R.plan j).fibre
  unfolding is_new
  new_above R j e = ltb-true (length fs) (assigned R.plan j).fibre e

  -- who is given the same is new in both or in neither
  new_by_given : (j : ℕ) → assigned M.plan j ≡ assigned N.plan j → is_new fs M j ≡ is_new fs N j
  unfolding is_new
  new_by_given j e = ap (λ g. ltb (length fs) g.fibre) e

  -- who is kept has what was found
  kept_found : (R : Mend) → Mended n w fs cs rs R → (j : ℕ) → j < length cs → reported cs R j ≡ false → assigned R.plan j ≡ place_of (record_of rs j)
  kept_found R r j l e = same_given (assigned R.plan j) (place_of (record_of rs j)) (r.kept_fibre j l e) (r.kept_wavelength j l e)

  -- so it is given the same
  kept_given : (j : ℕ) → j < length cs → reported cs M j ≡ false → assigned M.plan j ≡ assigned N.plan j
  kept_given j l e = kept_found M a j l e ∙ sym (kept_found N b j l (sym (reported_same j l) ∙ e))

  -- what a plan shows at a turn
  abbrev shown : Mend → ℕ → List Assignment
  shown R j = each (λ d. cond (not (reported cs R d) || ltb (number cs d) (number cs j)) (assigned R.plan d) unassigned) 0 (length cs)

  -- place by place
  shown_is : (R : Mend) (j d : ℕ) → d < length cs → given_to (shown R j) d ≡ cond (not (reported cs R d) || ltb (number cs d) (number cs j)) (assigned R.plan d) unassigned
  shown_is R j d l = given_each (λ d. cond (not (reported cs R d) || ltb (number cs d) (number cs j)) (assigned R.plan d) unassigned) (length cs) d l

  -- where they agree on those with lower numbers they show the same
  turn_same : (j : ℕ) → ((d : ℕ) → d < length cs → number cs d < number cs j → Agree d) → (q x : ℕ) → 1 ≤ q → q ≤ length fs
      → free (at_turn cs M j) (circuit cs j) q x ≡ free (at_turn cs N j) (circuit cs j) q x
  unfolding at_turn Agree
  turn_same j ih =
      same_free (length fs) [] cs (shown M j) (shown N j)
      (λ d l.
      let s = shown_is M j d l in
      let t = shown_is N j d l ∙ ap (λ (x : Bool). cond (not x || ltb (number cs d) (number cs j)) (assigned N.plan d) unassigned) (sym (reported_same d l)) in
      on (reported cs M d)
      (λ f.
      on (ltb (number cs d) (number cs j))
      (λ e.
      let g = ih d l (ltb-true (number cs d) (number cs j) e) in
      let s' : given_to (shown M j) d ≡ assigned M.plan d = s ∙ (rw (f, e)) in
      let t' : given_to (shown N j) d ≡ assigned N.plan d = t ∙ (rw (f, e)) in
      on (is_new fs M d)
      (λ u.
      let x = new_above M d u in
      let y = new_above N d (sym g.0 ∙ u) in
      inr ((λ q c h z. omega (arith, ap (λ g. g.fibre) s')), (λ q c h z. omega (arith, ap (λ g. g.fibre) t'))))
      (λ u. inl (s' ∙ g.1 u ∙ sym t')))
      (λ e. inl (s ∙ (rw (f, e)) ∙ sym t)))
      (λ f.
      let s' : given_to (shown M j) d ≡ assigned M.plan d = s ∙ (rw f) in
      let t' : given_to (shown N j) d ≡ assigned N.plan d = t ∙ (rw f) in
      inl (s' ∙ kept_given d l f ∙ sym t')))
      (circuit cs j)

  -- so they agree on j
  agree_next : (j : ℕ) → j < length cs → ((d : ℕ) → d < length cs → number cs d < number cs j → Agree d) → Agree j
  unfolding Agree
  agree_next j l ih =
      on (reported cs M j)
      (λ r.
      let r' : reported cs N j ≡ true = sym (reported_same j l) ∙ r in
      let same = turn_same j ih in
      let back : (q x : ℕ) → 1 ≤ q → q ≤ length fs → free (at_turn cs N j) (circuit cs j) q x ≡ free (at_turn cs M j) (circuit cs j) q x = λ q x c d. sym (same q x c d) in
      on (is_new fs M j)
      (λ e.
      let no = a.new_only j l e in
      (e ∙ sym (b.new_if j l r' (λ q x f. no q x (fits_same fs 1 w (at_turn cs N j) (at_turn cs M j) (circuit cs j) back q x f))), λ f. clash (is_new fs M j) e f))
      (λ e.
      let y = lowest_same fs 1 w (at_turn cs M j) (at_turn cs N j) (circuit cs j) same (assigned M.plan j) (a.lowest j l r e) in
      on (is_new fs N j)
      (λ f. absurd (b.new_only j l f _ _ y.fits))
      (λ f. (e ∙ sym f, λ u. lowest_one fs 1 w (at_turn cs N j) (circuit cs j) (assigned M.plan j) (assigned N.plan j) y (b.lowest j l r' f)))))
      (λ r. let g = kept_given j l r in (new_by_given j g, λ e. g))

  -- by rising number they agree on all
  agree_below : (z j : ℕ) → j < length cs → number cs j < z → Agree j
  agree_below zero j l h = absurd (omega arith)
  agree_below (suc z) j l h = agree_next j l (λ d k g. agree_below z d k (omega arith))

  -- on all
  agree : (j : ℕ) → j < length cs → Agree j
  agree j l = agree_below (suc (number cs j)) j l (omega arith)

  -- the same are new
  new_same : (j : ℕ) → j < length cs → is_new fs M j ≡ is_new fs N j
  unfolding Agree
  new_same j l = (agree j l).0

  -- so R-1 plans them the same, in whatever order their files have them
  left_plans : SamePlan n w a.left b.left (lit_plan n w a.left) (lit_plan n w b.left)
  left_plans =
      (lit_demand n w a.left (part_lies a.left_are n lies) pos).any_order b.left (part_distinct a.left_are once)
      (part_rearranged (rearranged_self cs) new_same a.left_are b.left_are)

  -- and gives each the same
  left_given : (j : ℕ) → j < length cs → is_new fs M j ≡ true → assigned (lit_plan n w a.left) (a.left_are.rank j) ≡ assigned (lit_plan n w b.left) (b.left_are.rank j)
  left_given j l e =
      let f : is_new fs N j ≡ true = sym (new_same j l) ∙ e in
      left_plans.assigned_same (a.left_are.rank j) (b.left_are.rank j) (a.left_are.in_part j l e).0 (b.left_are.in_part j l f).0
      (ap (λ c. c.number) (part_at a.left_are j l e ∙ sym (part_at b.left_are j l f)))

  -- so all are given the same
  given_same : (j : ℕ) → j < length cs → assigned M.plan j ≡ assigned N.plan j
  unfolding Agree
  given_same j l =
      on (is_new fs M j)
      (λ e.
      let f : is_new fs N j ≡ true = sym (new_same j l) ∙ e in
      let g = left_given j l e in
      same_given (assigned M.plan j) (assigned N.plan j)
      (a.left_fibre j l e ∙ ap (λ g. length fs + g.fibre) g ∙ sym (b.left_fibre j l f))
      (a.left_wavelength j l e ∙ ap (λ g. g.wavelength) g ∙ sym (b.left_wavelength j l f)))
      (λ e. (agree j l).1 e)

  -- who is given the same has the same line
  given_line : (P Q : Mend) (j : ℕ) → assigned P.plan j ≡ assigned Q.plan j → line_for cs rs P j ≡ line_for cs rs Q j
  given_line P Q j e = ap (λ (g : Assignment). let k : ReportLine = record { number = number cs j; found = place_of (record_of rs j); given = g } in k) e

  -- THE REPORTS: each line of one is in the other
  lines_in : (P Q : Mend) → Mended n w fs cs rs P → Mended n w fs cs rs Q → ((j : ℕ) → j < length cs → reported cs P j ≡ reported cs Q j)
      → ((j : ℕ) → j < length cs → assigned P.plan j ≡ assigned Q.plan j) → In P.report Q.report
  unfolding reported
  lines_in P Q p q same given t l =
      let x = p.lines t l in
      let j = x.0 in
      let here : reported cs P j ≡ true = any_hit (λ t. eqb (line_at P t).number (number cs j)) (length P.report) t l (eq-eqb _ (number cs j) (ap (λ y. y.number) x.2)) in
      let r = any_true (λ t. eqb (line_at Q t).number (number cs j)) (length Q.report) (sym (same j x.1) ∙ here) in
      let y = q.lines r.0 r.1 in
      let z : y.0 ≡ j = once y.0 j y.1 x.1 (sym (ap (λ k. k.number) y.2) ∙ eqb-true _ (number cs j) r.2) in (
        r.0,
        r.1,
        x.2 ∙ given_line P Q x.0 (given x.0 x.1) ∙ sym (y.2 ∙ ap (line_for cs rs Q) z),
      )

  -- so they are the same
  report_same : M.report ≡ N.report
  report_same =
      same_lines M.report N.report a.by_number b.by_number (lines_in M N a b reported_same given_same)
      (lines_in N M b a (λ j l. sym (reported_same j l)) (λ j l. sym (given_same j l)))

  -- ONE PLAN AND ONE REPORT ONLY
  pub mended_pins : M ≡ N
  unfolding assigned
  mended_pins =
      let f : M.plan.fibres ≡ N.plan.fibres = a.fibres_after ∙ ap (λ l. fs ++ l) left_plans.fibres_same ∙ sym b.fibres_after in
      let g : M.plan.assignments ≡ N.plan.assignments =
      ext_get_or unassigned M.plan.assignments N.plan.assignments (a.one_each ∙ sym b.one_each) (λ j l. given_same j (omega (arith, a.one_each))) in
      let p : M.plan ≡ N.plan = ap₂ (λ (f : List Fibre) (g : List Assignment). let r : Plan = record { fibres = f; assignments = g } in r) f g in
      ap₂ (λ (p : Plan) (l : List ReportLine). let r : Mend = record { plan = p; report = l } in r) p report_same
