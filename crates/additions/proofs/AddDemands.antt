-- All that is promised of an addition holds. Assumes nothing.
use Prim.Native.Nat.{◌+◌, ◌<◌, ◌≤◌, suc, ℕ}
use lib.ListN.{get_or, length, replicate, set}
use lib.Seq.{ext_get_or, set_out}
use mathlib.Core.Bool.{true}
use mathlib.Core.List.{List, [], ◌++◌, ◌∷◌, append-nil}
use mathlib.Core.Path.{◌∙◌, ◌≡◌, ap, ap₂, refl, sym}
use native.Mathlib.Nat.{zero-add}
use native.Mathlib.Omega.{arith}
use Rattle.basics.specs.Tools.{count, each}
use Rattle.basics.proofs.Bools.{by_eq, by_le}
use Rattle.basics.proofs.Counts.{count_all}
use Rattle.records.specs.declared.Circuit.{Circuit}
use Rattle.method.specs.Line.{Assignment, Fibre, Lies, Plan, assigned, circuit, nobody, unassigned}
use Rattle.method.specs.Lit.{lit_plan}
use Rattle.method.specs.LitDemands.{lit_fibres}
use Rattle.method.proofs.LitDemands.{lit_demand}
use Rattle.register.specs.Lists.{counts_of}
use Rattle.places.specs.Parts.{picked, those}
use Rattle.places.specs.Places.{given_to, riders}
use Rattle.places.specs.Turns.{by_number}
use Rattle.places.proofs.Parts.{length_picked, picked_at}
use Rattle.places.proofs.PlaceLaws.{none_found}
use Rattle.places.proofs.RiderLaws.{given_other, given_same}
use Rattle.places.proofs.TurnLaws.{turn_keeps}
use Rattle.places.proofs.TwoFiles.{distinct_new}
use Rattle.additions.specs.AddDemands.{AddDemand, Addable, no_plan}
use Rattle.additions.specs.Added.{Added}
use Rattle.additions.specs.Adding.{add, add_counts, finds, give, left_plan, places_found, settled_all, unplaced}
use Rattle.additions.specs.Grown.{added}
use Rattle.additions.proofs.Added.{add_few, add_on_line, add_valid, adds, nobody_yet}
use Rattle.additions.proofs.Grown.{grown_within}
use Rattle.additions.proofs.Orders.{add_any_order}
use Rattle.additions.proofs.Pinned.{added_pins}
use Rattle.additions.proofs.Settling.{length_settled, settled_is, settled_new, zero_unplaced}

module _ (n w : ℕ) (pos : 1 ≤ w) where
  -- no circuit needs no fibre
  none_planned : (lit_plan n w []).fibres ≡ []
  unfolding lit_fibres
  none_planned = empty (lit_plan n w []).fibres (lit_demand n w [] (λ j l. absurd (omega arith)) pos).few_fibres
    where
      empty : (fs : List Fibre) → length fs ≤ 0 → fs ≡ []
      empty [] h = refl
      empty (f ∷ fs) h = absurd (omega arith)

  -- an addition of nothing changes nothing
  nothing_new : (cs : List Circuit) (p : Plan) → add n w cs p [] ≡ p
  unfolding add left_plan settled_all each picked those
  nothing_new cs p =
      ap₂ (λ (f : List Fibre) (g : List Assignment). let r : Plan = record { fibres = f; assignments = g } in r)
      (ap (λ l. p.fibres ++ l) none_planned ∙ append-nil p.fibres) (append-nil p.assignments)

  module _ (ds : List Circuit) (lies : Lies n ds) where
    -- the places found without fibres
    abbrev G : List Assignment
    G = places_found w [] no_plan ds

    -- without fibres nobody finds a place
    finds_none : (gs : List Assignment) (j : ℕ) → finds [] w (riders [] []) ds gs j ≡ unassigned
    unfolding finds
    finds_none gs j = none_found [] 1 w (riders [] [] ++ riders ds gs) (circuit ds j) (λ q v f. omega (arith, f.from_one, f.in_list))

    -- so none has a place
    all_unplaced : (j : ℕ) → unplaced G j ≡ true
    unfolding places_found give
    all_unplaced j =
        zero_unplaced G j
        (turn_keeps (finds [] w (riders [] []) ds) (λ gs. (i : ℕ) → (given_to gs i).fibre ≡ 0)
        (λ gs i h k. stays gs i (finds [] w (riders [] []) ds gs i) (ap (λ g. g.fibre) (finds_none gs i)) h k)
        (by_number (λ j. true) ds) (replicate (length ds) unassigned) (λ i. ap (λ g. g.fibre) (nobody_yet (length ds) i)) j)
      where
        stays : (gs : List Assignment) (i : ℕ) (g : Assignment) → g.fibre ≡ 0 → ((i : ℕ) → (given_to gs i).fibre ≡ 0) → (k : ℕ) → (given_to (set gs i g) k).fibre ≡ 0
        stays gs i g e h k =
            by_eq k i
            (λ q.
            by_le (suc i) (length gs)
            (λ l. ap (λ x. (given_to (set gs i g) x).fibre) q ∙ ap (λ a. a.fibre) (given_same gs i g l) ∙ e)
            (λ l. ap (λ x. (given_to x k).fibre) (set_out gs i g (omega arith)) ∙ h k))
            (λ q. ap (λ a. a.fibre) (given_other gs i k g q) ∙ h k)

    -- they are counted by their places
    count_is : (m : ℕ) → count (unplaced G) m ≡ m
    count_is m = count_all (unplaced G) true m (λ x l. all_unplaced x)

    -- and all are planned
    all_picked : picked (unplaced G) ds ≡ ds
    unfolding circuit
    all_picked =
        ext_get_or nobody (picked (unplaced G) ds) ds (length_picked (unplaced G) ds ∙ count_is (length ds))
        (λ j b.
        let l : j < length ds = omega (arith, length_picked (unplaced G) ds, count_is (length ds)) in
        ap (λ x. get_or (picked (unplaced G) ds) x nobody) (sym (count_is j)) ∙ picked_at (unplaced G) ds j l (all_unplaced j))

    -- as R-1 plans
    left_is : left_plan n w ds G ≡ lit_plan n w ds
    unfolding left_plan
    left_is = ap (lit_plan n w) all_picked

    -- each with what that plan gives it
    settled_all_lem : settled_all n w [] ds G ≡ (lit_plan n w ds).assignments
    unfolding assigned given_to
    settled_all_lem =
        let v = (lit_demand n w ds lies pos).rules.valid in
        ext_get_or unassigned (settled_all n w [] ds G) (lit_plan n w ds).assignments (length_settled n w [] ds G ∙ sym v.all_assigned)
        (λ j b.
        let l : j < length ds = omega (arith, length_settled n w [] ds G) in
        settled_is n w [] ds G j l ∙ settled_new n w [] ds G j (all_unplaced j)
        ∙ ap (λ (g : Assignment). let r : Assignment = record { fibre = 0 + g.fibre; wavelength = g.wavelength } in r) (ap₂ (λ (r : Plan) (k : ℕ). assigned r k) left_is (count_is j))
        ∙ ap (λ (q : ℕ). let r : Assignment = record { fibre = q; wavelength = (get_or (lit_plan n w ds).assignments j unassigned).wavelength } in r) (zero-add (get_or (lit_plan n w ds).assignments j unassigned).fibre))

    -- an addition to no plan is R-1's plan
    to_nothing : add n w [] no_plan ds ≡ lit_plan n w ds
    unfolding add
    to_nothing = ap₂ (λ (f : List Fibre) (g : List Assignment). let r : Plan = record { fibres = f; assignments = g } in r) (ap (λ (r : Plan). r.fibres) left_is) settled_all_lem

-- ALL THAT IS PROMISED OF AN ADDITION
pub add_demand : (n w : ℕ) (cs : List Circuit) (p : Plan) (ds : List Circuit) → Addable n w cs p ds → AddDemand n w cs p ds
unfolding add_counts counts_of
add_demand n w cs p ds a =
    let once = distinct_new cs ds a.once in
    let y : Added n w cs p ds (add n w cs p ds) = adds n w cs p ds a.waves a.old_valid a.lies once a.from_one in
    record {
      added = y;
      no_other = λ P z. added_pins n w cs p ds a.waves a.old_valid a.lies once P (add n w cs p ds) z y;
      valid = add_valid n w cs p ds a.waves a.old_valid a.lies;
      on_line = add_on_line n w cs p ds a.waves a.old_valid a.lies;
      few_fibres = add_few n w cs p ds a.waves a.old_valid a.lies;
      any_order = add_any_order n w cs p ds a.waves a.old_valid.all_assigned a.lies a.once;
      fibres_are = refl;
      total_is = refl;
      floor_is = refl;
      within = λ k v g. grown_within (added g n w ds a.waves a.lies a.old_valid);
      nothing_new = nothing_new n w a.waves cs p;
      to_nothing = to_nothing n w a.waves ds a.lies;
    }
