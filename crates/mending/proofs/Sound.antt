-- A sound register is left as it is, and so mending twice is mending once. Assumes nothing.
use Prim.Native.Nat.{◌<◌, ◌≤◌, ℕ}
use borrow.Author.Tests.{ltb-true}
use lib.Dec.{ltb}
use lib.ListN.{length}
use lib.Seq.{ext_get_or}
use mathlib.Core.Bool.{Bool, ◌&&◌, cond, false, not, true}
use mathlib.Core.List.{List, [], ◌++◌, ◌∷◌, append-nil, map}
use mathlib.Core.Path.{◌∙◌, ◌≡◌, ap, ap₂, refl, subst, sym}
use native.Mathlib.Nat.{zero-add}
use native.Mathlib.Omega.{arith}
use Rattle.basics.specs.Tools.{each}
use Rattle.basics.proofs.Bools.{and_r, clash, on}
use Rattle.basics.proofs.Counts.{count_none}
use Rattle.basics.proofs.Tables.{get_d_each, length_each}
use Rattle.records.specs.declared.AssignmentRecord.{AssignmentRecord}
use Rattle.records.specs.declared.Circuit.{Circuit}
use Rattle.method.specs.Line.{Assignment, Distinct, Fibre, Lies, Plan, Valid, assigned, circuit, fibre_under, overlap, unassigned}
use Rattle.method.specs.LitDemands.{lit_fibres}
use Rattle.method.proofs.LitDemands.{lit_demand}
use Rattle.register.specs.Plans.{place_of}
use Rattle.places.specs.Parts.{picked}
use Rattle.places.specs.Places.{given_to}
use Rattle.places.specs.Turns.{by_number, in_turn, number}
use Rattle.places.proofs.Parts.{length_picked, part_lies, picked_part}
use Rattle.places.proofs.RiderLaws.{length_riders, rider_is}
use Rattle.places.proofs.RisingLaws.{Each, rising_are}
use Rattle.additions.specs.Adding.{finds, give, left_plan, settled_all, unplaced}
use Rattle.additions.proofs.Settling.{length_settled, settled_is, settled_old}
use Rattle.mending.specs.Mending.{Mend, kept, line_of, mend, mended_plan, no_record, record_of, records_of, refilled}
use Rattle.mending.specs.MendDemands.{NamesItsOwn, nothing_reported, plan_found}
use Rattle.mending.proofs.Keeping.{FitsBeside, before, fits_keepable, given_each, is_kept, kept_exactly}

-- a list of which nobody is, is empty
none_there : (P : ℕ → Type 0) → ((j : ℕ) → P j → ⊥) → (js : List ℕ) → Each P js → js ≡ []
none_there P never [] a = refl
none_there P never (j ∷ js) a = absurd (never j a.0)

-- a list of fibres that has no place is empty
no_fibre_lem : (fs : List Fibre) → length fs ≤ 0 → fs ≡ []
no_fibre_lem [] h = refl
no_fibre_lem (f ∷ fs) h = absurd (omega arith)

-- what circuit j has, as found
found_is : (fs : List Fibre) (cs : List Circuit) (rs : List AssignmentRecord) (j : ℕ) → j < length cs → assigned (plan_found fs cs rs) j ≡ place_of (record_of rs j)
unfolding plan_found assigned
found_is fs cs rs j l = get_d_each (λ j. place_of (record_of rs j)) 0 (length cs) j unassigned l ∙ ap (λ j. place_of (record_of rs j)) (zero-add j)

module _ (n w : ℕ) (fs : List Fibre) (cs : List Circuit) (rs : List AssignmentRecord) (pos : 1 ≤ w) (lies : Lies n cs) (once : Distinct cs)
    (numbers : (j : ℕ) → j < length cs → 1 ≤ number cs j) (named : NamesItsOwn cs rs) (v : Valid w cs (plan_found fs cs rs)) where
  -- those kept
  abbrev K : List Assignment
  K = kept w fs cs rs

  -- the places after the second pass
  abbrev G : List Assignment
  G = refilled w fs cs rs

  -- the plan that is found
  abbrev p : Plan
  p = plan_found fs cs rs

  -- those kept before circuit j
  abbrev B : ℕ → List Assignment
  B j = before w fs cs rs once numbers j

  -- one who rides there has a lower number and what was found
  before_cases : {C : Type 0} (j d : ℕ) → d < length cs → (number cs d < number cs j → given_to (B j) d ≡ assigned p d → C) → (given_to (B j) d ≡ unassigned → C) → C
  before_cases j d l rides none =
      let rides-there : Bool = not (unplaced K d) && ltb (number cs d) (number cs j) in
      let s : given_to (B j) d ≡ cond rides-there (place_of (record_of rs d)) unassigned =
      given_each (λ d. cond (not (unplaced K d) && ltb (number cs d) (number cs j)) (place_of (record_of rs d)) unassigned) (length cs) d l in
      on rides-there
      (λ e. rides (ltb-true (number cs d) (number cs j) (and_r (not (unplaced K d)) _ e)) (s ∙ ap (λ (x : Bool). cond x (place_of (record_of rs d)) unassigned) e ∙ sym (found_is fs cs rs d l)))
      (λ e. none (s ∙ ap (λ (x : Bool). cond x (place_of (record_of rs d)) unassigned) e))

  -- what is found is a place beside them
  fits_found : (j : ℕ) → j < length cs → FitsBeside w fs cs rs (B j) j
  unfolding fibre_under plan_found
  fits_found j l =
      let is = found_is fs cs rs j l in
      let a = v.numbered j l in
      let b = v.within j l in
      let c = v.wavelength_in j l in
      let fibre_is = ap (λ g. g.fibre) is in
      let wavelength_is = ap (λ g. g.wavelength) is in
      record {
        from_one = omega (arith, a.0);
        in_list = subst (λ q. q ≤ length fs) fibre_is a.1;
        first_within = rw (← fibre_is) b.0;
        last_within = rw (← fibre_is) b.1;
        low = omega (arith, c.0);
        high = omega (arith, c.1);
        free_there_lem = λ d r o q x.
            let ld : d < length cs = omega (arith, length_riders cs (B j)) in
            let at-d = rider_is cs (B j) d ld in
            before_cases j d ld
            (λ low given.
            v.apart d j ld l (λ z. let y : number cs d ≡ number cs j = ap (number cs) z in omega arith)
            (subst (λ r. overlap r.who (circuit cs j) ≡ true) at-d o)
            (sym (ap (λ g. g.fibre) given) ∙ sym (ap (λ r. r.fibre) at-d) ∙ q ∙ sym fibre_is)
            (sym (ap (λ g. g.wavelength) given) ∙ sym (ap (λ r. r.wavelength) at-d) ∙ x ∙ sym wavelength_is))
            (λ given. let z = sym (ap (λ g. g.fibre) given) ∙ sym (ap (λ r. r.fibre) at-d) ∙ q ∙ sym fibre_is in omega (arith, a.0));
      }

  -- so every circuit is kept
  all_kept : (j : ℕ) → j < length cs → unplaced K j ≡ false
  all_kept j l = kept_exactly w fs cs rs once numbers j l ∙ ap not (fits_keepable w fs cs rs (B j) j (named j l) (fits_found j l))

  -- nobody has a second turn
  no_turns : by_number (unplaced K) cs ≡ []
  no_turns =
      none_there (λ j. (j < length cs) × (unplaced K j ≡ true)) (λ j a. clash (unplaced K j) a.1 (all_kept j a.0))
      (by_number (unplaced K) cs) (rising_are (unplaced K) cs (length cs) 0)

  -- so nobody moves
  refilled_is : G ≡ K
  unfolding refilled give in_turn
  refilled_is = ap (λ js. in_turn (finds fs w [] cs) js K) no_turns

  -- and no fibre is added
  no_fibres : (left_plan n w cs G).fibres ≡ []
  unfolding left_plan lit_fibres
  no_fibres =
      no_fibre_lem (left_plan n w cs G).fibres
      (omega (
        arith,
        (lit_demand n w (picked (unplaced G) cs) (part_lies (picked_part (unplaced G) cs) n lies) pos).few_fibres,
        length_picked (unplaced G) cs,
        count_none (unplaced G) (length cs) (λ j l. ap (λ g. unplaced g j) refilled_is ∙ all_kept j l),
      ))

  -- each assignment is as it was
  same_assignments : settled_all n w fs cs G ≡ p.assignments
  unfolding given_to assigned
  same_assignments =
      ext_get_or unassigned (settled_all n w fs cs G) p.assignments (length_settled n w fs cs G ∙ sym v.all_assigned)
      (λ j b.
      let l : j < length cs = omega (arith, length_settled n w fs cs G) in
      let k = all_kept j l in
      settled_is n w fs cs G j l
      ∙ settled_old n w fs cs G j (ap (λ g. unplaced g j) refilled_is ∙ k)
      ∙ ap (λ g. given_to g j) refilled_is ∙ is_kept w fs cs rs once numbers j l k ∙ sym (found_is fs cs rs j l))

  -- A SOUND REGISTER IS LEFT AS IT IS
  pub sound_stays : mend n w fs cs rs ≡ nothing_reported p
  unfolding mend mended_plan plan_found
  sound_stays =
      let plan-is : ◌≡◌ {A = Plan} (record { fibres = fs ++ (left_plan n w cs G).fibres; assignments = settled_all n w fs cs G }) p =
      ap₂ (λ (f : List Fibre) (g : List Assignment). let r : Plan = record { fibres = f; assignments = g } in r) (ap (λ l. fs ++ l) no_fibres ∙ append-nil fs) same_assignments in
      ap₂ (λ (q : Plan) (js : List ℕ). let m : Mend = record { plan = q; report = map (line_of n w fs cs rs) js } in m) plan-is no_turns

-- THE RECORDS OF A PLAN: that of circuit j
pub record_is : (cs : List Circuit) (p : Plan) (j : ℕ) → j < length cs
    → record_of (records_of cs p) j ≡ record { circuit = number cs j; fibre = (assigned p j).fibre; wavelength = (assigned p j).wavelength }
unfolding record_of records_of
record_is cs p j l =
    let made : ℕ → AssignmentRecord = λ j. record { circuit = number cs j; fibre = (assigned p j).fibre; wavelength = (assigned p j).wavelength } in
    get_d_each made 0 (length cs) j no_record l ∙ ap made (zero-add j)

-- they name their circuits
pub records_named : (cs : List Circuit) (p : Plan) → NamesItsOwn cs (records_of cs p)
records_named cs p j l = ap (λ r. r.circuit) (record_is cs p j l)

-- and hold the plan
pub records_hold : (cs : List Circuit) (p : Plan) → length p.assignments ≡ length cs → plan_found p.fibres cs (records_of cs p) ≡ p
unfolding plan_found assigned
records_hold cs p sized =
    ap (λ (g : List Assignment). let r : Plan = record { fibres = p.fibres; assignments = g } in r)
    (ext_get_or unassigned (each (λ j. place_of (record_of (records_of cs p) j)) 0 (length cs)) p.assignments (length_each (λ j. place_of (record_of (records_of cs p) j)) 0 (length cs) ∙ sym sized)
    (λ j b.
    let l : j < length cs = omega (arith, length_each (λ j. place_of (record_of (records_of cs p) j)) 0 (length cs)) in
    found_is p.fibres cs (records_of cs p) j l ∙ ap place_of (record_is cs p j l)))
