-- The order of the files does not matter for an addition. Assumes nothing.
use Prim.Native.Nat.{◌+◌, ◌-◌, ◌/◌, ◌<◌, ◌≤◌, ℕ}
use lib.Dec.{eqb}
use lib.ListN.{length, length-append, length-replicate, replicate}
use mathlib.Core.Bool.{true}
use mathlib.Core.List.{List, ◌++◌}
use mathlib.Core.Path.{◌∙◌, ◌≡◌, ap, ap₂, refl, subst, sym}
use native.Mathlib.Omega.{arith}
use Rattle.basics.specs.Tools.{count}
use Rattle.basics.proofs.Bools.{on}
use Rattle.basics.proofs.Sums.{sum_eq}
use Rattle.records.specs.declared.Circuit.{Circuit}
use Rattle.method.specs.Demands.{Rearranged, SamePlan}
use Rattle.method.specs.Fibres.{floor}
use Rattle.method.specs.Line.{Assignment, Distinct, Fibre, Lies, Plan, assigned, circuit, total, unassigned}
use Rattle.method.specs.Sheet.{need}
use Rattle.method.proofs.LitDemands.{lit_demand}
use Rattle.places.specs.Places.{Rider, SameRiders, given_to, place, riders}
use Rattle.places.specs.Parts.{picked}
use Rattle.places.specs.Turns.{by_number, number}
use Rattle.places.proofs.Parts.{part_distinct, part_lies, part_rearranged, picked_at, picked_part, rank_below}
use Rattle.places.proofs.TwoFiles.{circuit_new, circuit_old, distinct_new, distinct_old, load_append, load_same, old_or_new}
use Rattle.places.proofs.PlaceLaws.{place_any_order}
use Rattle.places.proofs.RiderLaws.{same_append, same_riders}
use Rattle.places.proofs.RisingLaws.{Twins, twin_of, twin_same}
use Rattle.places.proofs.TurnLaws.{SamePlaces, same_turns, turns_alike}
use Rattle.additions.specs.Adding.{add, finds, give, left_plan, onward, places_found, settled, unplaced}
use Rattle.additions.specs.AddDemands.{Permuted}
use Rattle.additions.proofs.Added.{nobody_yet}
use Rattle.additions.proofs.Settling.{both_new, both_old, settled_new, settled_old}

module _ (ds es : List Circuit) (once : Distinct ds) (h : Rearranged ds es) where
  -- turn by turn the places stay the same
  pub give_same : (fs : List Fibre) (w : ℕ) (old old' : List Rider) → SameRiders old old' → (is js : List ℕ) → Twins ds es once h is js → (gs hs : List Assignment) → SamePlaces ds es h gs hs
      → SamePlaces ds es h (give fs w old ds is gs) (give fs w old' es js hs)
  unfolding give finds
  give_same fs w old old' s is js t gs hs a =
      turns_alike ds es once h (finds fs w old ds) (finds fs w old' es)
      (λ gs hs a i j t.
      place_any_order fs 1 w (old ++ riders ds gs) (old' ++ riders es hs) (circuit ds i) (same_append old old' (riders ds gs) (riders es hs) s (same_riders ds es gs hs h a.same))
      ∙ ap (place fs 1 w (old' ++ riders es hs)) (twin_same ds es once h i j t))
      is js t gs hs a

  -- nobody has a place
  pub none_same : SamePlaces ds es h (replicate (length ds) unassigned) (replicate (length es) unassigned)
  none_same =
      record {
        sized = length-replicate (length ds) unassigned;
        sized' = length-replicate (length es) unassigned;
        same = λ i l. nobody_yet (length ds) i ∙ sym (nobody_yet (length es) (h.there i));
      }

  -- those that are left have the same plan, so all are settled alike
  module _ (n w : ℕ) (pos : 1 ≤ w) (lies : Lies n ds) (fs : List Fibre) (gs hs : List Assignment) (a : SamePlaces ds es h gs hs) where
    -- the same circuits are left
    unplaced_same : (i : ℕ) → i < length ds → unplaced gs i ≡ unplaced hs (h.there i)
    unfolding unplaced
    unplaced_same i l = ap (λ (g : Assignment). eqb g.fibre 0) (a.same i l)

    -- so they have the same plan
    left_same : SamePlan n w (picked (unplaced gs) ds) (picked (unplaced hs) es) (left_plan n w ds gs) (left_plan n w es hs)
    unfolding left_plan
    left_same =
        let a = picked_part (unplaced gs) ds in
        (lit_demand n w (picked (unplaced gs) ds) (part_lies a n lies) pos).any_order (picked (unplaced hs) es) (part_distinct a once) (part_rearranged h unplaced_same a (picked_part (unplaced hs) es))

    -- its fibres
    pub left_fibres : (left_plan n w ds gs).fibres ≡ (left_plan n w es hs).fibres
    left_fibres = left_same.fibres_same

    -- what each is given
    pub settled_same : (i : ℕ) → i < length ds → settled n w fs ds gs i ≡ settled n w fs es hs (h.there i)
    settled_same i l =
        let t = h.to i l in
        on (unplaced gs i)
        (λ e.
        let e' = sym (unplaced_same i l) ∙ e in
        settled_new n w fs ds gs i e
        ∙ ap (onward (length fs))
        (left_same.assigned_same (count (unplaced gs) i) (count (unplaced hs) (h.there i)) (rank_below (unplaced gs) ds i l e) (rank_below (unplaced hs) es (h.there i) t.0 e')
        (ap (λ c. c.number) (picked_at (unplaced gs) ds i l e ∙ t.2 ∙ sym (picked_at (unplaced hs) es (h.there i) t.0 e'))))
        ∙ sym (settled_new n w fs es hs (h.there i) e'))
        (λ e.
        let e' = sym (unplaced_same i l) ∙ e in
        settled_old n w fs ds gs i e ∙ a.same i l ∙ sym (settled_old n w fs es hs (h.there i) e'))

-- the floor of two files is that of the same records
pub floor_both : (n w : ℕ) (cs ds cs' ds' : List Circuit) → Rearranged cs cs' → Rearranged ds ds' → floor n w (cs ++ ds) ≡ floor n w (cs' ++ ds')
unfolding floor need
floor_both n w cs ds cs' ds' a b =
    sum_eq (need w (cs ++ ds)) (need w (cs' ++ ds')) n
    (λ i l m.
    ap (λ x. (x + (w - 1)) / w) (load_append cs ds i ∙ ap₂ ◌+◌ (load_same cs cs' a i) (load_same ds ds' b i) ∙ sym (load_append cs' ds' i)))

module _ (n w : ℕ) (cs : List Circuit) (p : Plan) (ds : List Circuit) (pos : 1 ≤ w) (sized : length p.assignments ≡ length cs) (lies : Lies n ds) (once : Distinct (cs ++ ds)) where
  module _ (cs' : List Circuit) (ps' : List Assignment) (ds' : List Circuit) (old : Permuted cs p cs' (record { fibres = p.fibres; assignments = ps' })) (new : Rearranged ds ds') where
    -- the other old plan
    abbrev p' : Plan
    p' = record { fibres = p.fibres; assignments = ps' }

    -- no number stands twice in the new file
    once_new : Distinct ds
    once_new = distinct_new cs ds once

    -- the old circuits ride alike
    old_same : SameRiders (riders cs p.assignments) (riders cs' ps')
    unfolding given_to
    old_same =
        same_riders cs cs' p.assignments ps' old.records
        (λ i l. unfold assigned in old.assigned_same i l)

    -- so the new ones find the same places
    found_same : SamePlaces ds ds' new (places_found w cs p ds) (places_found w cs' p' ds')
    unfolding places_found
    found_same =
        give_same ds ds' once_new new p.fibres w (riders cs p.assignments) (riders cs' ps') old_same (by_number (λ j. true) ds) (by_number (λ j. true) ds')
        (same_turns ds ds' once_new new (λ j. true) (λ j. true) (λ i l. refl)) (replicate (length ds) unassigned) (replicate (length ds') unassigned) (none_same ds ds' once_new new)

    -- the same fibres
    fibres_same : (add n w cs p ds).fibres ≡ (add n w cs' p' ds').fibres
    unfolding add
    fibres_same = ap (λ l. p.fibres ++ l) (left_fibres ds ds' once_new new n w pos lies p.fibres (places_found w cs p ds) (places_found w cs' p' ds') found_same)

    -- an old circuit
    given_old : (i : ℕ) → i < length cs → assigned (add n w cs p ds) i ≡ assigned p i
    unfolding add
    given_old i l = both_old n w p.fibres cs p.assignments ds (places_found w cs p ds) sized i l ∙ (unfold given_to assigned in refl)

    given_old' : (i : ℕ) → i < length cs' → assigned (add n w cs' p' ds') i ≡ assigned p' i
    unfolding add
    given_old' i l = both_old n w p.fibres cs' ps' ds' (places_found w cs' p' ds') old.one_each i l ∙ (unfold given_to assigned in refl)

    -- a new one
    given_new : (k : ℕ) → k < length ds → assigned (add n w cs p ds) (length cs + k) ≡ settled n w p.fibres ds (places_found w cs p ds) k
    unfolding add
    given_new k l = both_new n w p.fibres cs p.assignments ds (places_found w cs p ds) sized k l

    given_new' : (k : ℕ) → k < length ds' → assigned (add n w cs' p' ds') (length cs' + k) ≡ settled n w p.fibres ds' (places_found w cs' p' ds') k
    unfolding add
    given_new' k l = both_new n w p.fibres cs' ps' ds' (places_found w cs' p' ds') old.one_each k l

    -- an old circuit's, by its number
    old_given : (i j : ℕ) → i < length cs → j < length cs' → number cs i ≡ number cs' j → assigned p i ≡ assigned p' j
    old_given i j li lj e =
        let t = old.records.fro j lj in
        let z : i ≡ old.records.back j = distinct_old cs ds once i (old.records.back j) li t.0 (e ∙ ap (λ c. c.number) t.2) in
        old.assigned_same i li ∙ ap (assigned p') (ap old.records.there z ∙ t.1)

    -- each circuit, by its number
    given_same : (i j : ℕ) → i < length (cs ++ ds) → j < length (cs' ++ ds') → number (cs ++ ds) i ≡ number (cs' ++ ds') j → assigned (add n w cs p ds) i ≡ assigned (add n w cs' p' ds') j
    given_same i j li lj e =
        old_or_new cs ds i li
        (λ hi.
        let ei : number (cs ++ ds) i ≡ number cs i = ap (λ c. c.number) (circuit_old cs ds i hi) in
        old_or_new cs' ds' j lj
        (λ hj.
        let ej : number (cs' ++ ds') j ≡ number cs' j = ap (λ c. c.number) (circuit_old cs' ds' j hj) in
        given_old i hi ∙ old_given i j hi hj (sym ei ∙ e ∙ ej) ∙ sym (given_old' j hj))
        (λ k hk ek.
        let t = new.fro k hk in
        let t₀ = t.0 in
        let ej : number (cs' ++ ds') j ≡ number (cs ++ ds) (length cs + new.back k) = ap (λ c. c.number) (ap (circuit (cs' ++ ds')) ek ∙ circuit_new cs' ds' k ∙ t.2 ∙ sym (circuit_new cs ds (new.back k))) in
        absurd (let z = once i (length cs + new.back k) li (omega (arith, length-append cs ds)) (e ∙ ej) in omega arith)))
        (λ m hm em.
        old_or_new cs' ds' j lj
        (λ hj.
        let t = old.records.fro j hj in
        let t₀ = t.0 in
        let b : old.records.back j < length (cs ++ ds) = omega (arith, length-append cs ds) in
        let ej : number (cs' ++ ds') j ≡ number (cs ++ ds) (old.records.back j) = ap (λ c. c.number) (circuit_old cs' ds' j hj ∙ t.2 ∙ sym (circuit_old cs ds (old.records.back j) t.0)) in
        absurd (let z = once i (old.records.back j) li b (e ∙ ej) in omega arith))
        (λ k hk ek.
        let ei : number (cs ++ ds) i ≡ number ds m = ap (λ c. c.number) (ap (circuit (cs ++ ds)) em ∙ circuit_new cs ds m) in
        let ej : number (cs' ++ ds') j ≡ number ds' k = ap (λ c. c.number) (ap (circuit (cs' ++ ds')) ek ∙ circuit_new cs' ds' k) in
        let t = twin_of ds ds' once_new new m k hm hk (sym ei ∙ e ∙ ej) in
        ap (assigned (add n w cs p ds)) em ∙ given_new m hm
        ∙ settled_same ds ds' once_new new n w pos lies p.fibres (places_found w cs p ds) (places_found w cs' p' ds') found_same m hm
        ∙ ap (settled n w p.fibres ds' (places_found w cs' p' ds')) (sym t.is)
        ∙ sym (ap (assigned (add n w cs' p' ds')) ek ∙ given_new' k hk)))

    -- the same plan
    same_here : SamePlan n w (cs ++ ds) (cs' ++ ds') (add n w cs p ds) (add n w cs' p' ds')
    same_here =
        record {
          fibres_same = fibres_same;
          total_same = ap total fibres_same;
          floor_same = floor_both n w cs ds cs' ds' old.records new;
          assigned_same = given_same;
        }

  -- THE ORDER OF THE FILES DOES NOT MATTER
  pub add_any_order : (cs' : List Circuit) (p' : Plan) (ds' : List Circuit) → Permuted cs p cs' p' → Rearranged ds ds' → SamePlan n w (cs ++ ds) (cs' ++ ds') (add n w cs p ds) (add n w cs' p' ds')
  add_any_order cs' p' ds' old new =
      let put : List Fibre → Plan = λ fs. record { fibres = fs; assignments = p'.assignments } in
      let e : p.fibres ≡ p'.fibres = old.fibres_same in
      subst (λ (fs : List Fibre). SamePlan n w (cs ++ ds) (cs' ++ ds') (add n w cs p ds) (add n w cs' (put fs) ds')) e
      (same_here cs' p'.assignments ds' (subst (λ (fs : List Fibre). Permuted cs p cs' (put fs)) (sym e) old) new)
