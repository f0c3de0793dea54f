-- The plan with new fibres for those that fit nowhere is valid. Assumes nothing.
use Prim.Native.Nat.{◌+◌, ◌-◌, ◌<◌, ◌≤◌, ℕ}
use borrow.Author.Tests.{eq-eqb, eqb-false, eqb-true}
use lib.ListN.{get_or-append, get_or, length, length-append}
use lib.Seq.{get_or-append-add}
use mathlib.Core.Bool.{false, true}
use mathlib.Core.List.{List, ◌++◌}
use mathlib.Core.Logic.{◌≢◌}
use mathlib.Core.Path.{◌∙◌, ◌≡◌, ap, subst, sym}
use native.Mathlib.Nat.{zero-add}
use native.Mathlib.Omega.{arith}
use Rattle.basics.specs.Tools.{count}
use Rattle.basics.proofs.Bools.{on}
use Rattle.basics.proofs.Tables.{get_d_each, length_each}
use Rattle.records.specs.declared.Circuit.{Circuit}
use Rattle.method.specs.Line.{Assignment, Fibre, Lies, Plan, Valid, assigned, circuit, fibre_under, no_fibre, overlap, unassigned}
use Rattle.method.proofs.LitDemands.{lit_demand}
use Rattle.places.specs.Places.{fibre_at, given_to, rider, riders, riding, spans}
use Rattle.places.specs.Parts.{picked}
use Rattle.places.proofs.Partial.{Partly}
use Rattle.places.proofs.Parts.{part_lies, picked_at, picked_one, picked_part, rank_below}
use Rattle.places.proofs.TwoFiles.{circuit_new, circuit_old, old_or_new}
use Rattle.places.proofs.PlaceLaws.{spans_first, spans_last}
use Rattle.places.proofs.RiderLaws.{length_riders, rider_is, rider_new, rider_old}
use Rattle.additions.specs.Adding.{left_plan, onward, settled, settled_all, unplaced}

-- who has no place has fibre 0
pub unplaced_zero : (gs : List Assignment) (j : ℕ) → unplaced gs j ≡ true → (given_to gs j).fibre ≡ 0
unfolding unplaced
unplaced_zero gs j e = eqb-true (given_to gs j).fibre 0 e

-- who has one has another
pub placed_some : (gs : List Assignment) (j : ℕ) → unplaced gs j ≡ false → (given_to gs j).fibre ≢ 0
unfolding unplaced
placed_some gs j e = eqb-false (given_to gs j).fibre 0 e

-- and fibre 0 is none
pub zero_unplaced : (gs : List Assignment) (j : ℕ) → (given_to gs j).fibre ≡ 0 → unplaced gs j ≡ true
unfolding unplaced
zero_unplaced gs j e = eq-eqb (given_to gs j).fibre 0 e

module _ (n w : ℕ) (fs : List Fibre) (ds : List Circuit) (gs : List Assignment) where
  -- one for each circuit
  pub length_settled : length (settled_all n w fs ds gs) ≡ length ds
  unfolding settled_all
  length_settled = length_each (settled n w fs ds gs) 0 (length ds)

  -- circuit j
  pub settled_is : (j : ℕ) → j < length ds → given_to (settled_all n w fs ds gs) j ≡ settled n w fs ds gs j
  unfolding given_to settled_all
  settled_is j l = get_d_each (settled n w fs ds gs) 0 (length ds) j unassigned l ∙ ap (settled n w fs ds gs) (zero-add j)

  -- who has a place keeps it
  pub settled_old : (j : ℕ) → unplaced gs j ≡ false → settled n w fs ds gs j ≡ given_to gs j
  unfolding settled
  settled_old j e = rw e

  -- the others have that of the plan of them, numbered on
  pub settled_new : (j : ℕ) → unplaced gs j ≡ true → settled n w fs ds gs j ≡ onward (length fs) (assigned (left_plan n w ds gs) (count (unplaced gs) j))
  unfolding settled
  settled_new j e = rw e

-- THE PLAN OF BOTH FILES: the old circuits cs with their assignments, and the circuits ds, settled
module _ (n w : ℕ) (fs : List Fibre) (cs : List Circuit) (ps : List Assignment) (ds : List Circuit) (gs : List Assignment) where
  -- it
  abbrev pub both : Plan
  both = record { fibres = fs ++ (left_plan n w ds gs).fibres; assignments = ps ++ settled_all n w fs ds gs }

  module _ (sized : length ps ≡ length cs) where
    -- an old circuit has its old assignment
    pub both_old : (i : ℕ) → i < length cs → assigned both i ≡ given_to ps i
    unfolding assigned given_to
    both_old i l = get_or-append ps (settled_all n w fs ds gs) unassigned i (omega arith)

    -- a new one is settled
    pub both_new : (k : ℕ) → k < length ds → assigned both (length cs + k) ≡ settled n w fs ds gs k
    unfolding assigned
    both_new k l =
        ap (λ m. get_or (ps ++ settled_all n w fs ds gs) (m + k) unassigned) (sym sized)
        ∙ get_or-append-add ps (settled_all n w fs ds gs) k unassigned
        ∙ (unfold given_to in settled_is n w fs ds gs k l)

    module _ (pos : 1 ≤ w) (lies : Lies n ds) (all : (i : ℕ) → i < length cs → (given_to ps i).fibre ≢ 0) (y : Partly fs 1 w (riders cs ps ++ riders ds gs)) where
      -- those that have no place
      sub : List Circuit
      sub = picked (unplaced gs) ds

      -- their plan is valid
      sub_valid : Valid w sub (left_plan n w ds gs)
      unfolding sub left_plan
      sub_valid = (lit_demand n w (picked (unplaced gs) ds) (part_lies (picked_part (unplaced gs) ds) n lies) pos).rules.valid

      -- who has an old fibre
      record Old (i : ℕ) : Type 0 where
        is : rider (riders cs ps ++ riders ds gs) i ≡ riding (circuit (cs ++ ds) i) (assigned both i)
        some : (rider (riders cs ps ++ riders ds gs) i).fibre ≢ 0

      -- who has a new one
      record New (i : ℕ) : Type 0 where
        k : ℕ
        in_new_lem : k < length ds
        is_k : i ≡ length cs + k
        left : unplaced gs k ≡ true
        below : count (unplaced gs) k < length sub
        fibre_is : (assigned both i).fibre ≡ length fs + (assigned (left_plan n w ds gs) (count (unplaced gs) k)).fibre
        wavelength_is : (assigned both i).wavelength ≡ (assigned (left_plan n w ds gs) (count (unplaced gs) k)).wavelength
        same : circuit sub (count (unplaced gs) k) ≡ circuit (cs ++ ds) i

      -- the riders are the circuits of both files
      old_rider : (i : ℕ) → i < length cs → rider (riders cs ps ++ riders ds gs) i ≡ riding (circuit (cs ++ ds) i) (given_to ps i)
      old_rider i l = rider_old (riders cs ps) (riders ds gs) i (omega (arith, length_riders cs ps)) ∙ rider_is cs ps i l ∙ ap (λ c. riding c (given_to ps i)) (sym (circuit_old cs ds i l))

      -- a new one's
      new_rider : (k : ℕ) → k < length ds → rider (riders cs ps ++ riders ds gs) (length cs + k) ≡ riding (circuit (cs ++ ds) (length cs + k)) (given_to gs k)
      new_rider k l =
          ap (λ m. rider (riders cs ps ++ riders ds gs) (m + k)) (sym (length_riders cs ps))
          ∙ rider_new (riders cs ps) (riders ds gs) k ∙ rider_is ds gs k l ∙ ap (λ c. riding c (given_to gs k)) (sym (circuit_new cs ds k))

      -- each circuit has an old fibre or a new one
      cases : {C : Type 0} (i : ℕ) → i < length (cs ++ ds) → (Old i → C) → (New i → C) → C
      unfolding sub
      cases i l old new =
          old_or_new cs ds i l
          (λ h.
          let is = old_rider i h in
          old (record { is = is ∙ ap (riding (circuit (cs ++ ds) i)) (sym (both_old i h)); some = λ z. all i h (sym (ap (λ r. r.fibre) is) ∙ z) }))
          (λ k h e.
          on (unplaced gs k)
          (λ t.
          let g = ap (assigned both) e ∙ both_new k h ∙ settled_new n w fs ds gs k t in
          new (record {
            k = k;
            in_new_lem = h;
            is_k = e;
            left = t;
            below = rank_below (unplaced gs) ds k h t;
            fibre_is = ap (λ a. a.fibre) g;
            wavelength_is = ap (λ a. a.wavelength) g;
            same = picked_at (unplaced gs) ds k h t ∙ sym (ap (circuit (cs ++ ds)) e ∙ circuit_new cs ds k);
          }))
          (λ t.
          let is : rider (riders cs ps ++ riders ds gs) i ≡ riding (circuit (cs ++ ds) i) (given_to gs k) =
          subst (λ x. rider (riders cs ps ++ riders ds gs) x ≡ riding (circuit (cs ++ ds) x) (given_to gs k)) (sym e) (new_rider k h) in
          old (record {
            is = is ∙ ap (riding (circuit (cs ++ ds) i)) (sym (ap (assigned both) e ∙ both_new k h ∙ settled_old n w fs ds gs k t));
            some = λ z. placed_some gs k t (sym (ap (λ r. r.fibre) is) ∙ z);
          })))

      -- an old fibre is one of the old ones
      old_low : (i : ℕ) → Old i → (assigned both i).fibre ≤ length fs
      old_low i o = subst (λ r. r.fibre ≤ length fs) o.is (y.numbered i o.some)

      -- and not 0
      old_some : (i : ℕ) → Old i → (assigned both i).fibre ≢ 0
      old_some i o z = o.some (ap (λ r. r.fibre) o.is ∙ z)

      -- THE PLAN IS VALID
      pub both_valid : Valid w (cs ++ ds) both
      unfolding fibre_under
      both_valid =
          let R = left_plan n w ds gs in
          let W = riders cs ps ++ riders ds gs in
          record {
            all_assigned = omega (arith, length-append ps (settled_all n w fs ds gs), length_settled n w fs ds gs, length-append cs ds);
            numbered = λ i l.
                let t = length-append fs R.fibres in
                cases i l
                (λ o. let a = old_some i o in let b = old_low i o in (omega arith, omega arith))
                (λ o. let a = sub_valid.numbered (count (unplaced gs) o.k) o.below in (omega (arith, o.fibre_is), omega (arith, o.fibre_is)));
            within = λ i l.
                cases i l
                (λ o.
                let s : spans (fibre_at fs (assigned both i).fibre) (circuit (cs ++ ds) i) ≡ true = subst (λ r. spans (fibre_at fs r.fibre) r.who ≡ true) o.is (y.within i o.some) in
                let a = old_low i o in
                let b = old_some i o in
                let e : get_or (fs ++ R.fibres) ((assigned both i).fibre - 1) no_fibre ≡ fibre_at fs (assigned both i).fibre = get_or-append fs R.fibres no_fibre ((assigned both i).fibre - 1) (omega arith) in
                rw e (spans_first _ _ s, spans_last _ _ s))
                (λ o.
                let a = sub_valid.numbered (count (unplaced gs) o.k) o.below in
                let b = sub_valid.within (count (unplaced gs) o.k) o.below in
                let z : (assigned both i).fibre - 1 ≡ length fs + ((assigned R (count (unplaced gs) o.k)).fibre - 1) = omega (arith, o.fibre_is) in
                let e : get_or (fs ++ R.fibres) ((assigned both i).fibre - 1) no_fibre ≡ fibre_under R (count (unplaced gs) o.k) =
                ap (λ x. get_or (fs ++ R.fibres) x no_fibre) z ∙ get_or-append-add fs R.fibres ((assigned R (count (unplaced gs) o.k)).fibre - 1) no_fibre in
                rw (e, ← o.same) b);
            wavelength_in = λ i l.
                cases i l
                (λ o. subst (λ r. (1 ≤ r.wavelength) × (r.wavelength ≤ w)) o.is (y.wavelength_in i o.some))
                (λ o. let a = sub_valid.wavelength_in (count (unplaced gs) o.k) o.below in (omega (arith, o.wavelength_is), omega (arith, o.wavelength_is)));
            apart = λ i j a b q o e v.
                cases i a
                (λ s.
                cases j b
                (λ t.
                y.apart i j s.some q
                (subst (λ r. overlap (rider W i).who r.who ≡ true) (sym t.is) (subst (λ r. overlap r.who (circuit (cs ++ ds) j) ≡ true) (sym s.is) o))
                (ap (λ r. r.fibre) s.is ∙ e ∙ sym (ap (λ r. r.fibre) t.is)) (ap (λ r. r.wavelength) s.is ∙ v ∙ sym (ap (λ r. r.wavelength) t.is)))
                (λ t. let z = sub_valid.numbered (count (unplaced gs) t.k) t.below in absurd (omega (arith, old_low i s, t.fibre_is))))
                (λ s.
                cases j b
                (λ t. let z = sub_valid.numbered (count (unplaced gs) s.k) s.below in absurd (omega (arith, old_low j t, s.fibre_is)))
                (λ t.
                sub_valid.apart (count (unplaced gs) s.k) (count (unplaced gs) t.k) s.below t.below
                (λ z. q (s.is_k ∙ ap (λ x. length cs + x) (picked_one (unplaced gs) ds s.k t.k s.in_new_lem t.in_new_lem s.left t.left z) ∙ sym t.is_k))
                (rw (s.same, t.same) o) (omega (arith, s.fibre_is, t.fibre_is)) (omega (arith, s.wavelength_is, t.wavelength_is))));
          }
