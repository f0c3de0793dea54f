-- Mending keeps what is promised of it. Assumes nothing.
use Prim.Native.Nat.{◌+◌, ◌<◌, ◌≤◌, suc, ℕ}
use borrow.Author.Tests.{le-ltb, lt-ltb, ltb-false, ltb-true}
use lib.Dec.{ltb}
use lib.ListN.{get_or, length, length-append, take}
use mathlib.Core.Bool.{Bool, ◌&&◌, ◌||◌, cond, false, not, true}
use mathlib.Core.List.{List, [], ◌++◌, map}
use mathlib.Core.Logic.{inl, inr}
use mathlib.Core.Path.{◌∙◌, ◌≡◌, ap, refl, subst, sym}
use native.Mathlib.Omega.{arith}
use Rattle.basics.specs.Tools.{count, each}
use Rattle.basics.proofs.Bools.{by_le, clash, on}
use Rattle.basics.proofs.Counts.{count_le}
use Rattle.basics.proofs.Tables.{each_same}
use Rattle.records.specs.declared.AssignmentRecord.{AssignmentRecord}
use Rattle.records.specs.declared.Circuit.{Circuit}
use Rattle.method.specs.Line.{Assignment, Distinct, Fibre, Lies, Valid, assigned, circuit, unassigned}
use Rattle.method.specs.LitDemands.{LitDemand, lit_fibres}
use Rattle.method.proofs.LitDemands.{lit_demand}
use Rattle.register.specs.Plans.{place_of}
use Rattle.places.specs.Parts.{picked}
use Rattle.places.specs.Places.{Lowest, free, given_to, place, riders}
use Rattle.places.specs.Turns.{by_number, in_turn, number}
use Rattle.places.proofs.Parts.{length_picked, part_lies, part_same, picked_part, rank_below}
use Rattle.places.proofs.PlaceLaws.{none_found, none_if, place_lowest, place_same}
use Rattle.places.proofs.RiderLaws.{rider_is}
use Rattle.places.proofs.RisingLaws.{each_imp, rising_are, rising_rise, turn_of_lem}
use Rattle.places.proofs.TurnLaws.{same_free, turn_at, turn_earlier, turn_later, turn_other}
use Rattle.places.proofs.TwoFiles.{count_same}
use Rattle.additions.specs.Adding.{finds, give, left_plan, onward, settled, unplaced}
use Rattle.additions.specs.Grown.{FibresOn}
use Rattle.additions.proofs.Added.{on_append}
use Rattle.additions.proofs.Settling.{both_valid, length_settled, placed_some, settled_is, settled_new, settled_old, unplaced_zero, zero_unplaced}
use Rattle.additions.proofs.Turns.{Right, give_right}
use Rattle.mending.specs.Mending.{Mend, ReportLine, keepable, kept, line_of, mend, mended_plan, record_of, refilled}
use Rattle.mending.specs.Mended.{Mended, at_turn, is_new, kept_before, line_for, no_line, reported}
use Rattle.mending.proofs.Keeping.{before, fits_keepable, given_each, is_kept, keepable_fits, kept_exactly, kept_right, not_kept, some_placed}
use Rattle.mending.proofs.Reports.{report_counts, report_has, report_line, report_rise}

module _ (n w : ℕ) (fs : List Fibre) (cs : List Circuit) (rs : List AssignmentRecord) (pos : 1 ≤ w) (lies : Lies n cs) where
  -- those kept
  abbrev K : List Assignment
  K = kept w fs cs rs

  -- the places after the second pass
  abbrev G : List Assignment
  G = refilled w fs cs rs

  -- what comes out
  abbrev M : Mend
  M = mend n w fs cs rs

  -- after the second pass what is planned is right
  refilled_right : Right fs w [] cs G
  unfolding refilled
  refilled_right = give_right fs w [] cs (by_number (unplaced K) cs) K (kept_right w fs cs rs)

  -- R-11: THE MENDED PLAN IS VALID
  pub mend_valid : Valid w cs M.plan
  unfolding mend mended_plan riders each
  mend_valid = both_valid n w fs [] [] cs G refl pos lies (λ i l. absurd (omega arith)) refilled_right.1

  -- what circuit j is given
  pub mend_given : (j : ℕ) → j < length cs → assigned M.plan j ≡ settled n w fs cs G j
  unfolding mend mended_plan assigned given_to
  mend_given j l = settled_is n w fs cs G j l

  -- who is kept stays so
  refilled_kept : (j : ℕ) → unplaced K j ≡ false → given_to G j ≡ given_to K j
  unfolding refilled give
  refilled_kept j e =
      turn_other (finds fs w [] cs) (by_number (unplaced K) cs) K j
      (each_imp {P = λ i. (i < length cs) × (unplaced K i ≡ true)} (λ i a q. clash (unplaced K i) a.1 (ap (unplaced K) q ∙ e)) (by_number (unplaced K) cs) (rising_are (unplaced K) cs (length cs) 0))

  -- so it has a place
  kept_has : (j : ℕ) → unplaced K j ≡ false → unplaced G j ≡ false
  kept_has j e = some_placed G j (λ z. placed_some K j e (sym (ap (λ g. g.fibre) (refilled_kept j e)) ∙ z))

  -- those left lie on the line, so R-1's promise holds for their plan
  left_demand : LitDemand n w (picked (unplaced G) cs)
  left_demand = lit_demand n w (picked (unplaced G) cs) (part_lies (picked_part (unplaced G) cs) n lies) pos

  -- who has no place has a new fibre
  new_above : (j : ℕ) → j < length cs → unplaced G j ≡ true → length fs < (assigned M.plan j).fibre
  unfolding left_plan
  new_above j l e =
      let a = left_demand.rules.valid.numbered (count (unplaced G) j) (rank_below (unplaced G) cs j l e) in
      let z = ap (λ g. g.fibre) (mend_given j l ∙ settled_new n w fs cs G j e) in
      omega arith

  -- who has one keeps it
  has_old_lem : (j : ℕ) → j < length cs → unplaced G j ≡ false → assigned M.plan j ≡ given_to G j
  has_old_lem j l e = mend_given j l ∙ settled_old n w fs cs G j e

  -- which is one of the old fibres
  has_low : (j : ℕ) → j < length cs → unplaced G j ≡ false → (given_to G j).fibre ≤ length fs
  has_low j l e =
      let is = rider_is cs G j l in
      subst (λ r. r.fibre ≤ length fs) is (refilled_right.1.numbered j (λ z. placed_some G j e (sym (ap (λ r. r.fibre) is) ∙ z)))

  -- new is who has no place
  new_unplaced : (j : ℕ) → j < length cs → is_new fs M j ≡ unplaced G j
  unfolding is_new
  new_unplaced j l =
      on (unplaced G j)
      (λ e. lt-ltb (length fs) (assigned M.plan j).fibre (new_above j l e) ∙ sym e)
      (λ e. le-ltb (length fs) (assigned M.plan j).fibre (omega (arith, has_low j l e, ap (λ g. g.fibre) (has_old_lem j l e))) ∙ sym e)

  -- the fibres
  mend_fibres : M.plan.fibres ≡ fs ++ (left_plan n w cs G).fibres
  unfolding mend mended_plan
  mend_fibres = refl

  -- the assignments
  mend_sized : length M.plan.assignments ≡ length cs
  unfolding mend mended_plan
  mend_sized = length_settled n w fs cs G

  -- the report
  mend_report : M.report ≡ map (line_of n w fs cs rs) (by_number (unplaced K) cs)
  unfolding mend
  mend_report = refl

  -- a line
  line_is : (j : ℕ) → line_of n w fs cs rs j ≡ line_for cs rs M j
  unfolding line_of mend assigned given_to
  line_is j = refl

  -- names its circuit
  line_named : (j : ℕ) → (line_of n w fs cs rs j).number ≡ number cs j
  unfolding line_of
  line_named j = refl

  -- its fibres lie on the line if the old ones do
  pub mend_on_line : FibresOn n fs → FibresOn n M.plan.fibres
  unfolding left_plan
  mend_on_line on = subst (FibresOn n) (sym mend_fibres) (on_append n fs (left_plan n w cs G).fibres on left_demand.rules.fibres_on_line)

  module _ (once : Distinct cs) (numbers : (j : ℕ) → j < length cs → 1 ≤ number cs j) where
    -- reported is who is not kept
    reported_is : (j : ℕ) → j < length cs → reported cs M j ≡ unplaced K j
    unfolding reported mend
    reported_is j l = report_has cs once numbers (unplaced K) (line_of n w fs cs rs) line_named j l

    -- as many lines as circuits not kept
    unkept_lines : length M.report ≡ count (unplaced K) (length cs)
    unfolding mend
    unkept_lines = report_counts cs once numbers (unplaced K) (line_of n w fs cs rs) line_named

    -- said of the report
    pub mend_lines_lem : length M.report ≡ count (reported cs M) (length cs)
    mend_lines_lem = unkept_lines ∙ count_same (unplaced K) (reported cs M) (length cs) (λ j l. sym (reported_is j l))

    -- at most one new fibre for each line
    pub mend_few : length M.plan.fibres ≤ length fs + length M.report
    unfolding left_plan lit_fibres
    mend_few =
        omega (
          arith,
          ap length mend_fibres,
          length-append fs (left_plan n w cs G).fibres,
          left_demand.few_fibres,
          length_picked (unplaced G) cs,
          count_le (unplaced G) (unplaced K) (length cs) (λ j l e. on (unplaced K j) (λ f. f) (λ f. clash (unplaced G j) e (kept_has j f))),
          unkept_lines,
        )

    -- the turns of the second pass
    abbrev J : List ℕ
    J = by_number (unplaced K) cs

    -- the places at turn t
    abbrev found : ℕ → List Assignment
    found t = in_turn (finds fs w [] cs) (take t J) K

    -- what the plan shows at the turn of circuit j
    abbrev shown : ℕ → List Assignment
    shown j = each (λ d. cond (not (reported cs M d) || ltb (number cs d) (number cs j)) (assigned M.plan d) unassigned) 0 (length cs)

    -- place by place
    shown_is : (j d : ℕ) → d < length cs → given_to (shown j) d ≡ cond (not (unplaced K d) || ltb (number cs d) (number cs j)) (assigned M.plan d) unassigned
    shown_is j d b =
        given_each (λ d. cond (not (reported cs M d) || ltb (number cs d) (number cs j)) (assigned M.plan d) unassigned) (length cs) d b
        ∙ ap (λ (x : Bool). cond (not x || ltb (number cs d) (number cs j)) (assigned M.plan d) unassigned) (reported_is d b)

    -- it leaves the same free on the old fibres as what was found so far
    seen : (t : ℕ) → t < length J → (c : Circuit) (q x : ℕ) → 1 ≤ q → q ≤ length fs → free (riders cs (found t)) c q x ≡ free (at_turn cs M (get_or J t 0)) c q x
    unfolding at_turn refilled give
    seen t l =
        same_free (length fs) [] cs (found t) (shown (get_or J t 0))
        (λ d b.
        let j = get_or J t 0 in
        let is = shown_is j d b in
        let rise = rising_rise (unplaced K) cs (length cs) 0 in
        on (unplaced K d)
        (λ f.
        on (ltb (number cs d) (number cs j))
        (λ e.
        let s : given_to (found t) d ≡ given_to G d = turn_earlier (finds fs w [] cs) cs 0 J K rise t l d (ltb-true (number cs d) (number cs j) e) in
        let s' : given_to (shown j) d ≡ assigned M.plan d = is ∙ (rw (f, e)) in
        on (unplaced G d)
        (λ u.
        let a = unplaced_zero G d u in
        let b' = new_above d b u in
        inr ((λ q g h z. omega (arith, ap (λ g. g.fibre) s)), (λ q g h z. omega (arith, ap (λ g. g.fibre) s'))))
        (λ u. inl (s ∙ sym (s' ∙ has_old_lem d b u))))
        (λ e.
        inl (turn_later (finds fs w [] cs) cs 0 J K rise t l d (ltb-false (number cs d) (number cs j) e)
        ∙ not_kept w fs cs rs once numbers d b f ∙ sym (is ∙ (rw (f, e))))))
        (λ f.
        let k : given_to (found t) d ≡ given_to K d =
        by_le (suc (number cs d)) (number cs j)
        (λ h. turn_earlier (finds fs w [] cs) cs 0 J K rise t l d h ∙ refilled_kept d f)
        (λ h. turn_later (finds fs w [] cs) cs 0 J K rise t l d (omega arith)) in
        inl (k ∙ sym (is ∙ (rw f) ∙ has_old_lem d b (kept_has d f) ∙ refilled_kept d f))))

    -- at its turn each gets the lowest place that is free
    taken : (t : ℕ) → t < length J → given_to G (get_or J t 0) ≡ place fs 1 w (riders cs (found t)) (circuit cs (get_or J t 0))
    unfolding refilled give finds
    taken t l =
        turn_at (finds fs w [] cs) cs 0 J K (rising_rise (unplaced K) cs (length cs) 0)
        (each_imp {P = λ j. (j < length cs) × (unplaced K j ≡ true)} (λ j a. (let a₀ = a.0 in let s = (kept_right w fs cs rs).0 in omega arith)) J (rising_are (unplaced K) cs (length cs) 0)) t l

    -- said of the plan: it is the lowest place at its turn
    taken_is : (j : ℕ) → j < length cs → unplaced K j ≡ true → given_to G j ≡ place fs 1 w (at_turn cs M j) (circuit cs j)
    taken_is j l e =
        let t = turn_of_lem (unplaced K) cs once j l e (numbers j l) in
        subst (λ i. given_to G i ≡ place fs 1 w (at_turn cs M i) (circuit cs i)) t.2
        (taken t.0 t.1 ∙ place_same fs 1 w _ _ (circuit cs (get_or J t.0 0)) (seen t.0 t.1 (circuit cs (get_or J t.0 0))))

    -- those kept before circuit j, by the report
    before_is : (j : ℕ) → kept_before cs rs M j ≡ riders cs (before w fs cs rs once numbers j)
    unfolding kept_before
    before_is j =
        ap (riders cs)
        (each_same _ _ 0 (length cs)
        (λ d a b. ap (λ (x : Bool). cond (not x && ltb (number cs d) (number cs j)) (place_of (record_of rs d)) unassigned) (reported_is d (omega arith))))

    -- not reported is who may be kept
    reported_keepable : (j : ℕ) → j < length cs → reported cs M j ≡ not (keepable w fs cs rs (before w fs cs rs once numbers j) j)
    reported_keepable j l = reported_is j l ∙ kept_exactly w fs cs rs once numbers j l

    -- who is kept has what was found
    pub kept_given : (j : ℕ) → j < length cs → reported cs M j ≡ false → assigned M.plan j ≡ place_of (record_of rs j)
    kept_given j l e =
        let f = sym (reported_is j l) ∙ e in
        has_old_lem j l (kept_has j f) ∙ refilled_kept j f ∙ is_kept w fs cs rs once numbers j l f

    -- who is new was not kept
    new_not_kept : (j : ℕ) → j < length cs → is_new fs M j ≡ true → unplaced K j ≡ true
    new_not_kept j l e = on (unplaced K j) (λ f. f) (λ f. clash (unplaced G j) (sym (new_unplaced j l) ∙ e) (kept_has j f))

    -- who is new has what the plan of those left gives it
    new_given_lem : (j : ℕ) → j < length cs → is_new fs M j ≡ true → assigned M.plan j ≡ onward (length fs) (assigned (left_plan n w cs G) (count (unplaced G) j))
    new_given_lem j l e = mend_given j l ∙ settled_new n w fs cs G j (sym (new_unplaced j l) ∙ e)

    -- WHAT IS PROMISED OF IT HOLDS
    pub mends : Mended n w fs cs rs M
    unfolding left_plan picked_part part_same
    mends =
        record {
          kept_if = λ j l m.
              let may = fits_keepable w fs cs rs (before w fs cs rs once numbers j) j m.0 (rw (← before_is j) m.1) in
              reported_keepable j l ∙ ap not may;
          kept_only = λ j l e.
              let B = before w fs cs rs once numbers j in
              let may : keepable w fs cs rs B j ≡ true = on (keepable w fs cs rs B j) (λ f. f) (λ f. clash (reported cs M j) (reported_keepable j l ∙ ap not f) e) in
              let y = keepable_fits w fs cs rs B j may in
              (y.0, rw (before_is j) y.1);
          kept_fibre = λ j l e. ap (λ g. g.fibre) (kept_given j l e);
          kept_wavelength = λ j l e. ap (λ g. g.wavelength) (kept_given j l e);
          one_each = mend_sized;
          lowest = λ j l e u.
              let f : unplaced K j ≡ true = sym (reported_is j l) ∙ e in
              let g : unplaced G j ≡ false = sym (new_unplaced j l) ∙ u in
              let h = placed_some G j g in
              subst (Lowest fs 1 w (at_turn cs M j) (circuit cs j)) (sym (has_old_lem j l g ∙ taken_is j l f))
              (place_lowest fs 1 w (at_turn cs M j) (circuit cs j) (let z = ap (λ g. g.fibre) (taken_is j l f) in omega arith));
          new_if = λ j l e no. new_unplaced j l ∙ zero_unplaced G j (ap (λ g. g.fibre) (taken_is j l (sym (reported_is j l) ∙ e) ∙ none_found fs 1 w (at_turn cs M j) (circuit cs j) no));
          new_only = λ j l e. none_if fs 1 w (at_turn cs M j) (circuit cs j) (sym (ap (λ g. g.fibre) (taken_is j l (new_not_kept j l e))) ∙ unplaced_zero G j (sym (new_unplaced j l) ∙ e));
          left = picked (unplaced G) cs;
          left_are = part_same (λ j l. sym (new_unplaced j l)) (picked_part (unplaced G) cs);
          fibres_after = mend_fibres;
          left_fibre = λ j l e. ap (λ g. g.fibre) (new_given_lem j l e);
          left_wavelength = λ j l e. ap (λ g. g.wavelength) (new_given_lem j l e);
          by_number = λ s t h l.
              subst (λ (L : List ReportLine). (get_or L s no_line).number < (get_or L t no_line).number) (sym mend_report)
              (report_rise cs once numbers (unplaced K) (line_of n w fs cs rs) line_named s t h (subst (λ (L : List ReportLine). t < length L) mend_report l));
          lines = λ t l.
              let x = report_line cs once numbers (unplaced K) (line_of n w fs cs rs) line_named t (subst (λ (L : List ReportLine). t < length L) mend_report l) in
              (x.0, x.1, ap (λ (L : List ReportLine). get_or L t no_line) mend_report ∙ x.3 ∙ line_is x.0);
        }
