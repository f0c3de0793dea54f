-- An addition keeps what is promised of it. Assumes nothing.
use Prim.Native.Nat.{◌+◌, ◌-◌, ◌<◌, ◌≤◌, suc, ℕ}
use borrow.Author.Tests.{le-ltb, lt-ltb, ltb-false, ltb-true}
use lib.Dec.{ltb}
use lib.ListN.{get_or-eq_default, get_or, get_or-replicate, length, length-append, length-replicate, replicate, take}
use mathlib.Core.Bool.{cond, false, true}
use mathlib.Core.List.{List, ◌++◌}
use mathlib.Core.Logic.{◌≢◌, inl, inr}
use mathlib.Core.Path.{◌∙◌, ◌≡◌, ap, refl, subst, sym}
use native.Mathlib.Nat.{zero-add}
use native.Mathlib.Omega.{arith}
use Rattle.basics.specs.Tools.{count, each}
use Rattle.basics.proofs.Bools.{by_le, on}
use Rattle.basics.proofs.Counts.{count_below}
use Rattle.basics.proofs.Tables.{get_d_each}
use Rattle.records.specs.declared.Circuit.{Circuit}
use Rattle.method.specs.Line.{Assignment, Distinct, Fibre, Lies, Plan, Valid, assigned, circuit, unassigned}
use Rattle.method.specs.LitDemands.{LitDemand, lit_fibres}
use Rattle.method.proofs.FibreLists.{all_append, all_get_d, all_of}
use Rattle.method.proofs.Lengths.{OnLine}
use Rattle.method.proofs.LitDemands.{lit_demand}
use Rattle.places.specs.Places.{Lowest, Rider, free, given_to, place, rider, riders}
use Rattle.places.specs.Parts.{picked}
use Rattle.places.specs.Turns.{by_number, number}
use Rattle.places.proofs.Partial.{Partly, rider_below, valid_partly}
use Rattle.places.proofs.Parts.{length_picked, part_lies, part_same, picked_part, rank_below}
use Rattle.places.proofs.PlaceLaws.{none_found, none_if, place_lowest, place_same}
use Rattle.places.proofs.RiderLaws.{length_riders, rider_is, rider_new, rider_old}
use Rattle.places.proofs.RisingLaws.{each_imp, rising_are, rising_rise, turn_of_lem}
use Rattle.places.proofs.TurnLaws.{same_free, turn_at, turn_earlier, turn_later}
use Rattle.additions.specs.Adding.{add, finds, give, left_plan, onward, places_found, settled, settled_all, unplaced}
use Rattle.additions.specs.Added.{Added, at_turn, is_left, newly}
use Rattle.additions.specs.Grown.{FibresOn}
use Rattle.additions.proofs.Settling.{both_new, both_valid, length_settled, placed_some, settled_new, settled_old, unplaced_zero, zero_unplaced}
use Rattle.additions.proofs.Turns.{give_right}

-- before the first turn nobody has a place
pub nobody_yet : (m j : ℕ) → given_to (replicate m unassigned) j ≡ unassigned
unfolding given_to
nobody_yet m j = by_le (suc j) m (λ l. get_or-replicate m j unassigned unassigned l) (λ l. get_or-eq_default (replicate m unassigned) unassigned (omega (arith, length-replicate m unassigned)))

-- riders without a place change nothing
pub none_partly : (fs : List Fibre) (lo hi : ℕ) (rs : List Rider) (ds : List Circuit) → Partly fs lo hi rs → Partly fs lo hi (rs ++ riders ds (replicate (length ds) unassigned))
none_partly fs lo hi rs ds y =
    let new = riders ds (replicate (length ds) unassigned) in
    let W = rs ++ new in
    let old : (j : ℕ) → (rider W j).fibre ≢ 0 → j < length rs =
    λ j h.
    by_le (suc j) (length rs) (λ l. l)
    (λ l.
    let k = j - length rs in
    let z : j ≡ length rs + k = omega arith in
    let b : k < length ds = omega (arith, rider_below W j h, length-append rs new, length_riders ds (replicate (length ds) unassigned)) in
    absurd (h (ap (λ r. r.fibre) (ap (rider W) z ∙ rider_new rs new k ∙ rider_is ds (replicate (length ds) unassigned) k b) ∙ ap (λ g. g.fibre) (nobody_yet (length ds) k)))) in
    let is : (j : ℕ) → (rider W j).fibre ≢ 0 → rider W j ≡ rider rs j = λ j h. rider_old rs new j (old j h) in
    let has : (j : ℕ) → (rider W j).fibre ≢ 0 → (rider rs j).fibre ≢ 0 = λ j h z. h (ap (λ r. r.fibre) (is j h) ∙ z) in
    record {
      numbered = λ j h. subst (λ r. r.fibre ≤ length fs) (sym (is j h)) (y.numbered j (has j h));
      within = λ j h. rw (is j h) (y.within j (has j h));
      wavelength_in = λ j h. subst (λ r. (lo ≤ r.wavelength) × (r.wavelength ≤ hi)) (sym (is j h)) (y.wavelength_in j (has j h));
      apart = λ i j h q o e u.
          let h' : (rider W j).fibre ≢ 0 = λ z. h (e ∙ z) in
          y.apart i j (has i h) q (rw (← is i h, ← is j h') o) (sym (ap (λ r. r.fibre) (is i h)) ∙ e ∙ ap (λ r. r.fibre) (is j h')) (sym (ap (λ r. r.wavelength) (is i h)) ∙ u ∙ ap (λ r. r.wavelength) (is j h'));
    }

-- fibres of two lists lie on the line
pub on_append : (n : ℕ) (fs gs : List Fibre) → FibresOn n fs → FibresOn n gs → FibresOn n (fs ++ gs)
on_append n fs gs a b = all_get_d (OnLine n) (fs ++ gs) (all_append (OnLine n) fs gs (all_of (OnLine n) fs a) (all_of (OnLine n) gs b))

module _ (n w : ℕ) (cs : List Circuit) (p : Plan) (ds : List Circuit) (pos : 1 ≤ w) (v : Valid w cs p) (lies : Lies n ds) where
  -- the places found, and the plan
  abbrev G : List Assignment
  G = places_found w cs p ds

  abbrev P : Plan
  P = add n w cs p ds

  -- the old circuits have fibres
  old_all : (i : ℕ) → i < length cs → (given_to p.assignments i).fibre ≢ 0
  unfolding given_to
  old_all i l z = let a = v.numbered i l in (unfold assigned in omega (arith, a.0))

  -- after the turns what is planned is right
  pub found_partly : Partly p.fibres 1 w (riders cs p.assignments ++ riders ds G)
  unfolding places_found
  found_partly =
      (give_right p.fibres w (riders cs p.assignments) ds (by_number (λ j. true) ds) (replicate (length ds) unassigned)
      (length-replicate (length ds) unassigned, none_partly p.fibres 1 w (riders cs p.assignments) ds (valid_partly w cs p v))).1

  -- R-2: THE PLAN OF BOTH FILES IS VALID
  pub add_valid : Valid w (cs ++ ds) P
  unfolding add
  add_valid = both_valid n w p.fibres cs p.assignments ds G v.all_assigned pos lies old_all found_partly

  -- its fibres: the old ones, and then those of the circuits that are left
  pub add_fibres : P.fibres ≡ p.fibres ++ (left_plan n w ds G).fibres
  unfolding add
  add_fibres = refl

  -- its assignments: the old ones, and then the new ones
  pub add_assignments : P.assignments ≡ p.assignments ++ settled_all n w p.fibres ds G
  unfolding add
  add_assignments = refl

  -- what a new circuit is given
  pub add_new : (j : ℕ) → j < length ds → newly cs P j ≡ settled n w p.fibres ds G j
  unfolding add
  add_new j l = both_new n w p.fibres cs p.assignments ds G v.all_assigned j l

  -- those left lie on the line, so R-1's promise holds for their plan
  left_demand : LitDemand n w (picked (unplaced G) ds)
  left_demand = lit_demand n w (picked (unplaced G) ds) (part_lies (picked_part (unplaced G) ds) n lies) pos

  -- who has no place has a new fibre
  new_above : (j : ℕ) → j < length ds → unplaced G j ≡ true → length p.fibres < (newly cs P j).fibre
  unfolding left_plan
  new_above j l e =
      let a = left_demand.rules.valid.numbered (count (unplaced G) j) (rank_below (unplaced G) ds j l e) in
      let z = ap (λ g. g.fibre) (add_new j l ∙ settled_new n w p.fibres ds G j e) in
      omega arith

  -- who has one keeps it
  has_old_lem : (j : ℕ) → j < length ds → unplaced G j ≡ false → newly cs P j ≡ given_to G j
  has_old_lem j l e = add_new j l ∙ settled_old n w p.fibres ds G j e

  -- which is one of the old fibres
  has_low : (j : ℕ) → j < length ds → unplaced G j ≡ false → (given_to G j).fibre ≤ length p.fibres
  has_low j l e =
      let W = riders cs p.assignments ++ riders ds G in
      let is : rider W (length (riders cs p.assignments) + j) ≡ _ = rider_new (riders cs p.assignments) (riders ds G) j ∙ rider_is ds G j l in
      subst (λ r. r.fibre ≤ length p.fibres) is (found_partly.numbered (length (riders cs p.assignments) + j) (λ z. placed_some G j e (sym (ap (λ r. r.fibre) is) ∙ z)))

  -- left is who has no place
  pub left_unplaced : (j : ℕ) → j < length ds → is_left cs p P j ≡ unplaced G j
  unfolding is_left
  left_unplaced j l =
      on (unplaced G j)
      (λ e. lt-ltb (length p.fibres) (newly cs P j).fibre (new_above j l e) ∙ sym e)
      (λ e. le-ltb (length p.fibres) (newly cs P j).fibre (omega (arith, has_low j l e, ap (λ g. g.fibre) (has_old_lem j l e))) ∙ sym e)

  -- at most one new fibre for each new circuit
  pub add_few : length P.fibres ≤ length p.fibres + length ds
  unfolding left_plan lit_fibres
  add_few =
      omega (
        arith,
        ap length add_fibres,
        length-append p.fibres (left_plan n w ds G).fibres,
        left_demand.few_fibres,
        length_picked (unplaced G) ds,
        count_below (unplaced G) (length ds),
      )

  -- its fibres lie on the line if the old ones do
  pub add_on_line : FibresOn n p.fibres → FibresOn n P.fibres
  unfolding left_plan
  add_on_line on = subst (FibresOn n) (sym add_fibres) (on_append n p.fibres (left_plan n w ds G).fibres on left_demand.rules.fibres_on_line)

  module _ (once : Distinct ds) (numbers : (j : ℕ) → j < length ds → 1 ≤ number ds j) where
    -- the turns
    abbrev J : List ℕ
    J = by_number (λ j. true) ds

    -- the places at turn t
    abbrev found : ℕ → List Assignment
    found t = give p.fibres w (riders cs p.assignments) ds (take t J) (replicate (length ds) unassigned)

    -- what the plan shows at the turn of circuit j
    abbrev shown : ℕ → List Assignment
    shown j = each (λ d. cond (ltb (number ds d) (number ds j)) (newly cs P d) unassigned) 0 (length ds)

    -- at the turn of circuit j, what the plan shows leaves the same free on the old fibres as what was found so far
    seen : (t : ℕ) → t < length J → (c : Circuit) (q x : ℕ) → 1 ≤ q → q ≤ length p.fibres
        → free (riders cs p.assignments ++ riders ds (found t)) c q x ≡ free (at_turn cs p ds P (get_or J t 0)) c q x
    unfolding at_turn give
    seen t l =
        same_free (length p.fibres) (riders cs p.assignments) ds (found t) (shown (get_or J t 0))
        (λ d b.
        let is : given_to (shown (get_or J t 0)) d ≡ cond (ltb (number ds d) (number ds (get_or J t 0))) (newly cs P d) unassigned =
        shown_is (get_or J t 0) d b in
        on (ltb (number ds d) (number ds (get_or J t 0)))
        (λ e.
        let s : given_to (found t) d ≡ given_to G d = unfold places_found give in turn_earlier (finds p.fibres w (riders cs p.assignments) ds) ds 0 J (replicate (length ds) unassigned) (rising_rise (λ j. true) ds (length ds) 0) t l d (ltb-true (number ds d) (number ds (get_or J t 0)) e) in
        let s' : given_to (shown (get_or J t 0)) d ≡ newly cs P d = is ∙ (rw e) in
        on (unplaced G d)
        (λ u.
        let a = unplaced_zero G d u in
        let b' = new_above d b u in
        inr ((λ q g h z. omega (arith, ap (λ g. g.fibre) s)), (λ q g h z. omega (arith, ap (λ g. g.fibre) s'))))
        (λ u. inl (s ∙ sym (s' ∙ has_old_lem d b u))))
        (λ e.
        inl (turn_later (finds p.fibres w (riders cs p.assignments) ds) ds 0 J (replicate (length ds) unassigned) (rising_rise (λ j. true) ds (length ds) 0) t l d (ltb-false (number ds d) (number ds (get_or J t 0)) e)
        ∙ nobody_yet (length ds) d ∙ sym (is ∙ (rw e)))))
      where
        shown_is : (j d : ℕ) → d < length ds → given_to (shown j) d ≡ cond (ltb (number ds d) (number ds j)) (newly cs P d) unassigned
        shown_is j d b = unfold given_to in get_d_each (λ d. cond (ltb (number ds d) (number ds j)) (newly cs P d) unassigned) 0 (length ds) d unassigned b ∙ ap (λ x. cond (ltb (number ds x) (number ds j)) (newly cs P x) unassigned) (zero-add d)

    -- at its turn each gets the lowest place that is free
    taken : (t : ℕ) → t < length J → given_to G (get_or J t 0) ≡ place p.fibres 1 w (riders cs p.assignments ++ riders ds (found t)) (circuit ds (get_or J t 0))
    unfolding places_found give finds
    taken t l =
        turn_at (finds p.fibres w (riders cs p.assignments) ds) ds 0 J (replicate (length ds) unassigned) (rising_rise (λ j. true) ds (length ds) 0)
        (each_imp {P = λ j. (j < length ds) × (true ≡ true)} (λ j a. (let a₀ = a.0 in omega (arith, length-replicate (length ds) unassigned))) J (rising_are (λ j. true) ds (length ds) 0)) t l

    -- said of the plan: it is the lowest place at its turn
    pub taken_is : (j : ℕ) → j < length ds → given_to G j ≡ place p.fibres 1 w (at_turn cs p ds P j) (circuit ds j)
    taken_is j l =
        let t = turn_of_lem (λ j. true) ds once j l refl (numbers j l) in
        subst (λ i. given_to G i ≡ place p.fibres 1 w (at_turn cs p ds P i) (circuit ds i)) t.2
        (taken t.0 t.1 ∙ place_same p.fibres 1 w _ _ (circuit ds (get_or J t.0 0)) (seen t.0 t.1 (circuit ds (get_or J t.0 0))))

    -- WHAT IS PROMISED OF IT HOLDS
    pub adds : Added n w cs p ds P
    unfolding left_plan picked_part part_same
    adds =
        record {
          news = settled_all n w p.fibres ds G;
          assignments_after = add_assignments;
          one_each = length_settled n w p.fibres ds G;
          lowest = λ j l e.
              let f : unplaced G j ≡ false = sym (left_unplaced j l) ∙ e in
              let h = placed_some G j f in
              subst (Lowest p.fibres 1 w (at_turn cs p ds P j) (circuit ds j)) (sym (has_old_lem j l f ∙ taken_is j l))
              (place_lowest p.fibres 1 w (at_turn cs p ds P j) (circuit ds j) (let z = ap (λ g. g.fibre) (taken_is j l) in omega arith));
          left_if = λ j l no. left_unplaced j l ∙ zero_unplaced G j (ap (λ g. g.fibre) (taken_is j l ∙ none_found p.fibres 1 w (at_turn cs p ds P j) (circuit ds j) no));
          left_only = λ j l e. none_if p.fibres 1 w (at_turn cs p ds P j) (circuit ds j) (sym (ap (λ g. g.fibre) (taken_is j l)) ∙ unplaced_zero G j (sym (left_unplaced j l) ∙ e));
          left = picked (unplaced G) ds;
          left_are = part_same (λ j l. sym (left_unplaced j l)) (picked_part (unplaced G) ds);
          fibres_after = add_fibres;
          left_fibre = λ j l e. ap (λ g. g.fibre) (left_given j l e);
          left_wavelength = λ j l e. ap (λ g. g.wavelength) (left_given j l e);
        }
      where
        left_given : (j : ℕ) → j < length ds → is_left cs p P j ≡ true → newly cs P j ≡ onward (length p.fibres) (assigned (left_plan n w ds G) (count (unplaced G) j))
        left_given j l e = add_new j l ∙ settled_new n w p.fibres ds G j (sym (left_unplaced j l) ∙ e)
