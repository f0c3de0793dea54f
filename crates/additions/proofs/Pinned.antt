-- What is promised of an addition leaves one plan only. Assumes nothing.
use Prim.Native.Nat.{◌+◌, ◌<◌, ◌≤◌, suc, zero, ℕ}
use borrow.Author.Tests.{ltb-true}
use lib.Dec.{ltb}
use lib.ListN.{get_or, length}
use lib.Seq.{ext_get_or, get_or-append-add}
use mathlib.Core.Bool.{cond, false, true}
use mathlib.Core.List.{List, ◌++◌}
use mathlib.Core.Logic.{inl, inr}
use mathlib.Core.Path.{◌∙◌, ◌≡◌, ap, ap₂, sym}
use native.Mathlib.Nat.{zero-add}
use native.Mathlib.Omega.{arith}
use Rattle.basics.specs.Tools.{each}
use Rattle.basics.proofs.Bools.{clash, on}
use Rattle.basics.proofs.Tables.{get_d_each}
use Rattle.records.specs.declared.Circuit.{Circuit}
use Rattle.method.specs.Demands.{SamePlan}
use Rattle.method.specs.Line.{Assignment, Distinct, Fibre, Lies, Plan, Valid, assigned, circuit, unassigned}
use Rattle.method.specs.Lit.{lit_plan}
use Rattle.method.proofs.LitDemands.{lit_demand}
use Rattle.places.specs.Places.{free, given_to, riders}
use Rattle.places.specs.Turns.{number}
use Rattle.places.proofs.Parts.{part_at, part_distinct, part_lies, part_rearranged, rearranged_self}
use Rattle.places.proofs.PlaceLaws.{fits_same, lowest_one, lowest_same}
use Rattle.places.proofs.TurnLaws.{same_free}
use Rattle.additions.specs.Added.{Added, at_turn, is_left, newly}

module _ (n w : ℕ) (cs : List Circuit) (p : Plan) (ds : List Circuit) (pos : 1 ≤ w) (v : Valid w cs p) (lies : Lies n ds) (once : Distinct ds) (P Q : Plan)
    (a : Added n w cs p ds P) (b : Added n w cs p ds Q) where
  -- who is left has a fibre above the old ones
  left_above : (R : Plan) (j : ℕ) → is_left cs p R j ≡ true → length p.fibres < (newly cs R j).fibre
  unfolding is_left
  left_above R j e = ltb-true (length p.fibres) (newly cs R j).fibre e

  -- what a plan shows at a turn
  shown_is : (R : Plan) (j d : ℕ) → d < length ds
      → given_to (each (λ d. cond (ltb (number ds d) (number ds j)) (newly cs R d) unassigned) 0 (length ds)) d ≡ cond (ltb (number ds d) (number ds j)) (newly cs R d) unassigned
  unfolding given_to
  shown_is R j d l =
      get_d_each (λ d. cond (ltb (number ds d) (number ds j)) (newly cs R d) unassigned) 0 (length ds) d unassigned l
      ∙ ap (λ x. cond (ltb (number ds x) (number ds j)) (newly cs R x) unassigned) (zero-add d)

  -- the two plans agree on circuit j
  Agree : ℕ → Type 0
  Agree j = (is_left cs p P j ≡ is_left cs p Q j) × (is_left cs p P j ≡ false → newly cs P j ≡ newly cs Q j)

  -- where they agree on those with lower numbers they show the same at the turn of j
  turn_same : (j : ℕ) → ((d : ℕ) → d < length ds → number ds d < number ds j → Agree d) → (q x : ℕ) → 1 ≤ q → q ≤ length p.fibres
      → free (at_turn cs p ds P j) (circuit ds j) q x ≡ free (at_turn cs p ds Q j) (circuit ds j) q x
  unfolding at_turn Agree
  turn_same j ih =
      same_free (length p.fibres) (riders cs p.assignments) ds
      (each (λ d. cond (ltb (number ds d) (number ds j)) (newly cs P d) unassigned) 0 (length ds)) (each (λ d. cond (ltb (number ds d) (number ds j)) (newly cs Q d) unassigned) 0 (length ds))
      (λ d l.
      let s = shown_is P j d l in
      let t = shown_is Q j d l in
      on (ltb (number ds d) (number ds j))
      (λ e.
      let g = ih d l (ltb-true (number ds d) (number ds j) e) in
      let s' : given_to _ d ≡ newly cs P d = s ∙ (rw e) in
      let t' : given_to _ d ≡ newly cs Q d = t ∙ (rw e) in
      on (is_left cs p P d)
      (λ u.
      let x = left_above P d u in
      let y = left_above Q d (sym g.0 ∙ u) in
      inr ((λ q c h z. omega (arith, ap (λ g. g.fibre) s')), (λ q c h z. omega (arith, ap (λ g. g.fibre) t'))))
      (λ u. inl (s' ∙ g.1 u ∙ sym t')))
      (λ e. inl (s ∙ (rw e) ∙ sym t)))
      (circuit ds j)

  -- so they agree on j
  agree_next : (j : ℕ) → j < length ds → ((d : ℕ) → d < length ds → number ds d < number ds j → Agree d) → Agree j
  unfolding Agree
  agree_next j l ih =
      let same = turn_same j ih in
      let back : (q x : ℕ) → 1 ≤ q → q ≤ length p.fibres → free (at_turn cs p ds Q j) (circuit ds j) q x ≡ free (at_turn cs p ds P j) (circuit ds j) q x = λ q x c d. sym (same q x c d) in
      on (is_left cs p P j)
      (λ e.
      let no = a.left_only j l e in
      (e ∙ sym (b.left_if j l (λ q x f. no q x (fits_same p.fibres 1 w (at_turn cs p ds Q j) (at_turn cs p ds P j) (circuit ds j) back q x f))), λ f. clash (is_left cs p P j) e f))
      (λ e.
      let y = lowest_same p.fibres 1 w (at_turn cs p ds P j) (at_turn cs p ds Q j) (circuit ds j) same (newly cs P j) (a.lowest j l e) in
      on (is_left cs p Q j)
      (λ f. absurd (b.left_only j l f _ _ y.fits))
      (λ f. (e ∙ sym f, λ u. lowest_one p.fibres 1 w (at_turn cs p ds Q j) (circuit ds j) (newly cs P j) (newly cs Q j) y (b.lowest j l f))))

  -- by rising number they agree on all
  agree_below : (z j : ℕ) → j < length ds → number ds j < z → Agree j
  agree_below zero j l h = absurd (omega arith)
  agree_below (suc z) j l h = agree_next j l (λ d k g. agree_below z d k (omega arith))

  -- on all
  agree : (j : ℕ) → j < length ds → Agree j
  agree j l = agree_below (suc (number ds j)) j l (omega arith)

  -- the same are left
  left_same : (j : ℕ) → j < length ds → is_left cs p P j ≡ is_left cs p Q j
  unfolding Agree
  left_same j l = (agree j l).0

  -- so R-1 plans them the same, in whatever order their files have them
  left_plans : SamePlan n w a.left b.left (lit_plan n w a.left) (lit_plan n w b.left)
  left_plans =
      (lit_demand n w a.left (part_lies a.left_are n lies) pos).any_order b.left (part_distinct a.left_are once)
      (part_rearranged (rearranged_self ds) left_same a.left_are b.left_are)

  -- and gives each the same
  left_given : (j : ℕ) → j < length ds → is_left cs p P j ≡ true → assigned (lit_plan n w a.left) (a.left_are.rank j) ≡ assigned (lit_plan n w b.left) (b.left_are.rank j)
  left_given j l e =
      let f : is_left cs p Q j ≡ true = sym (left_same j l) ∙ e in
      left_plans.assigned_same (a.left_are.rank j) (b.left_are.rank j) (a.left_are.in_part j l e).0 (b.left_are.in_part j l f).0
      (ap (λ c. c.number) (part_at a.left_are j l e ∙ sym (part_at b.left_are j l f)))

  -- so all are given the same
  newly_same : (j : ℕ) → j < length ds → newly cs P j ≡ newly cs Q j
  unfolding Agree
  newly_same j l =
      on (is_left cs p P j)
      (λ e.
      let f : is_left cs p Q j ≡ true = sym (left_same j l) ∙ e in
      let g = left_given j l e in
      ap₂ (λ (x y : ℕ). let r : Assignment = record { fibre = x; wavelength = y } in r)
      (a.left_fibre j l e ∙ ap (λ g. length p.fibres + g.fibre) g ∙ sym (b.left_fibre j l f))
      (a.left_wavelength j l e ∙ ap (λ g. g.wavelength) g ∙ sym (b.left_wavelength j l f)))
      (λ e. (agree j l).1 e)

  -- a new assignment of a plan
  news_at : (R : Plan) (c : Added n w cs p ds R) (j : ℕ) → newly cs R j ≡ get_or c.news j unassigned
  unfolding assigned
  news_at R c j =
      ap (λ l. get_or l (length cs + j) unassigned) c.assignments_after
      ∙ ap (λ m. get_or (p.assignments ++ c.news) (m + j) unassigned) (sym v.all_assigned) ∙ get_or-append-add p.assignments c.news j unassigned

  -- ONE PLAN ONLY
  pub added_pins : P ≡ Q
  added_pins =
      let fs : P.fibres ≡ Q.fibres =
      a.fibres_after ∙ ap (λ fs. p.fibres ++ fs) left_plans.fibres_same ∙ sym b.fibres_after in
      let ns : a.news ≡ b.news =
      ext_get_or unassigned a.news b.news (a.one_each ∙ sym b.one_each) (λ j l. sym (news_at P a j) ∙ newly_same j (omega (arith, a.one_each)) ∙ news_at Q b j) in
      let gs : P.assignments ≡ Q.assignments = a.assignments_after ∙ ap (λ l. p.assignments ++ l) ns ∙ sym b.assignments_after in
      ap₂ (λ (f : List Fibre) (g : List Assignment). let r : Plan = record { fibres = f; assignments = g } in r) fs gs
