-- The first pass: who may stay, turn by turn, and who is left. Assumes nothing.
use Prim.Native.Nat.{ℕ, ◌+◌, ◌-◌, ◌*◌, ◌<◌, ◌≤◌}
use mathlib.Core.Path.{◌≡◌, refl, ap, ap₂, ◌∙◌, subst, sym}
use mathlib.Core.Bool.{Bool, cond, true, false, not, ◌&&◌}
use mathlib.Core.Logic.{◌≢◌, inl, inr, ⊎_elim}
use mathlib.Core.List.{List, [], ◌∷◌, ◌++◌, map}
use native.Mathlib.Omega.{arith}
use borrow.Rule.Slice.PartMut.{mid_of, post_of, put_mid}
use borrow.Author.Tests.{eq-eqb, leb-true, ne_eqb, not-false}
use lib.Dec.{eqb, leb}
use lib.ListN.{drop, drop_of_length-le, get_or, length, length-append, length-map, length-replicate, replicate, set, take}
use lib.Seq.{ext_get_or, get_or-set_other, set-get_or, take_at}
use Rattle.basics.proofs.Bools.{and_l, and_r, by_eq, clash, on}
use Rattle.basics.proofs.Tables.{zeros_at}
use Rattle.records.specs.Bytes.{cells_of}
use Rattle.records.specs.Records.{assignment_of, circuit_of, circuits_in, fibre_of, record_at}
use Rattle.records.specs.declared.AssignmentRecord.{AssignmentRecord}
use Rattle.records.specs.declared.Circuit.{Circuit}
use Rattle.records.proofs.Files.{length_circuits_in}
use Rattle.method.specs.Line.{Assignment, Distinct, Fibre, circuit, unassigned}
use Rattle.method.proofs.Circuits.{circuit_in_lem}
use Rattle.register.specs.Plans.{place_of, span_of}
use Rattle.order.specs.Order.{Ordered}
use Rattle.places.specs.Places.{free, given_to, riders}
use Rattle.places.specs.Turns.{by_number, in_turn, number}
use Rattle.places.proofs.RisingLaws.{Each, Rise, each_at, rise_at, rising_are, rising_rise, turn_of_lem}
use Rattle.additions.specs.Adding.{unplaced}
use Rattle.checker.specs.Rules.{Rule, faulty, fibre_at, own_rules}
use Rattle.checker.specs.Sound.{NoneBroken}
use Rattle.checker.specs.Checked.{assignments_in, fibres_in}
use Rattle.checker.specs.inner.Runs.{own_rules_in}
use Rattle.checker.proofs.Faults.{is_sound, lowest_none, rising_numbered}
use Rattle.checker.proofs.Reading.{assignments_in_at, length_fibres_in, map_each}
use Rattle.mending.specs.Mending.{keepable, keeps, kept, no_record, record_of, sound}
use Rattle.placing.specs.Riding.{Among, Given, GivenKept, Riding, kept_in, spans_of}
use Rattle.placing.proofs.Keeping.{kept_more, kept_not, kept_yes, length_kept_in, none_kept}
use Rattle.placing.proofs.Orderly.{among_at, none_at, ordered_turns, turns_are}
use Rattle.mender.specs.Report.{report_bytes, report_list}
use Rattle.mender.specs.inner.Lines.{begun_line, passing}
use Rattle.mender.specs.inner.Steps.{Register, Sifted, Staying, kept_of, lost, may_stay, waits}
use Rattle.mender.proofs.Lining.{drop_here}
use Rattle.mender.proofs.Rules.{sound_by_rules}

-- the record of circuit j, read from bytes
pub record_read : (m : ℕ) (assigns : List ℕ) (j : ℕ) → j < m → record_of (assignments_in m assigns) j ≡ assignment_of (record_at assigns j)
unfolding record_of
record_read m assigns j h = assignments_in_at m assigns j no_record h

-- RULES. Records of fibres without their numbers
spans_are : (many : ℕ) (fibres : List ℕ) → spans_of many fibres ≡ map span_of (fibres_in many fibres)
unfolding spans_of fibres_in
spans_are many fibres = sym (map_each span_of (λ i. fibre_of (record_at fibres i)) 0 many)

module _ (w m many : ℕ) (s fibres assigns : List ℕ) where
  -- rules 4 to 7 of record j
  abbrev own : ℕ → List Rule
  own = own_rules_in w many s fibres assigns

  -- a record is sound if it breaks none of them
  sound_read : (j : ℕ) → j < m → sound w (spans_of many fibres) (circuit (circuits_in m s) j) (record_of (assignments_in m assigns) j) ≡ not (faulty (own j))
  sound_read j h =
      let c = circuit_of (record_at s j) in
      let a = assignment_of (record_at assigns j) in
      let fs = fibres_in many fibres in
      ap₂ (λ (x : Circuit) (y : AssignmentRecord). sound w (spans_of many fibres) x y) (circuit_in_lem m s j h) (record_read m assigns j h)
      ∙ ap (λ (x : List Fibre). sound w x c a) (spans_are many fibres)
      ∙ sound_by_rules w fs c a
      ∙ ap (λ (k : ℕ). not (faulty (own_rules w k c a (fibre_at fs (a.fibre - 1))))) (length_fibres_in many fibres)

  module _ (gs : List Assignment) (j : ℕ) (h : j < m) where
    -- whether its wavelength is free beside gs
    abbrev free_there : Bool
    free_there =
        free (riders (circuits_in m s) gs) (circuit (circuits_in m s) j) (record_of (assignments_in m assigns) j).fibre (record_of (assignments_in m assigns) j).wavelength

    -- one that breaks a rule may not stay
    pub broken_leaves : faulty (own j) ≡ true → may_stay w m many s fibres assigns gs j ≡ false
    unfolding keepable
    broken_leaves e = ap (λ (b : Bool). b && free_there) (sound_read j h ∙ ap not e)

    -- one that breaks none may if its wavelength is free
    pub free_stays : (r : Bool) → faulty (own j) ≡ false
        → r ≡ free (riders (circuits_in m s) gs) (circuit_of (record_at s j)) (assignment_of (record_at assigns j)).fibre (assignment_of (record_at assigns j)).wavelength
        → may_stay w m many s fibres assigns gs j ≡ r
    unfolding keepable
    free_stays r e f =
        let rs = riders (circuits_in m s) gs in
        ap (λ (b : Bool). b && free_there) (sound_read j h ∙ ap not e)
        ∙ ap₂ (λ (x : Circuit) (y : AssignmentRecord). free rs x y.fibre y.wavelength) (circuit_in_lem m s j h) (record_read m assigns j h)
        ∙ sym f

  -- and then its fibre and wavelength fit the tables
  pub sound_given : (j : ℕ) → w ≤ 80 → faulty (own j) ≡ false → Given many assigns j × (1 ≤ (assignment_of (record_at assigns j)).wavelength)
  sound_given j few e =
      let a = assignment_of (record_at assigns j) in
      let none : NoneBroken (own j) = lowest_none (own j) (rising_numbered (own j) (omega arith, (omega arith, (omega arith, (omega arith, tt))))) (is_sound (own j) e) in
      let f = not-false (leb 1 a.fibre && leb a.fibre many) (none 1) in
      let v = not-false (leb 1 a.wavelength && leb a.wavelength w) (none 3) in
      let v₁ = leb-true a.wavelength w (and_r (leb 1 a.wavelength) _ v) in
      ((leb-true 1 a.fibre (and_l _ _ f), leb-true a.fibre many (and_r (leb 1 a.fibre) _ f), omega arith), leb-true 1 a.wavelength (and_l _ _ v))

-- TURN BY TURN, at places js
module _ (w m many : ℕ) (s fibres assigns js : List ℕ) where
  -- what each is given
  abbrev keeps_on : List Assignment → ℕ → Assignment
  keeps_on = keeps w (spans_of many fibres) (circuits_in m s) (assignments_in m assigns)

  -- the first t had their turns
  pub record Keeping (t : ℕ) (flags ends heads next : List ℕ) : Type 0 where
    pub staying : Staying m many s assigns flags ends heads next
    pub left : in_turn keeps_on (drop t js) (kept_in m assigns flags) ≡ in_turn keeps_on js (replicate m unassigned)
    pub waiting : (r : ℕ) → t ≤ r → r < length js → get_or flags (get_or js r 0) 0 ≡ 0

  -- none has
  pub keeping_start : (flags ends heads next : List ℕ) → m ≤ 2048 → 4 * m ≤ length ends → 8 * m ≤ length assigns → flags ≡ replicate 2048 0 → heads ≡ replicate 2048 0
      → Keeping 0 flags ends heads next
  unfolding given_to
  keeping_start flags ends heads next few e a f z =
      let none : (j : ℕ) → get_or flags j 0 ≡ 0 = λ j. ap (λ (x : List ℕ). get_or x j 0) f ∙ zeros_at 2048 j in
      let n = length_kept_in m assigns flags in
      let n' = length-replicate m unassigned in
      record {
        staying = record { given = λ j l g. absurd (g (none j)); riding = none_kept many m s ends assigns flags heads next (λ j l. none j) few e a z };
        left = ap (in_turn keeps_on js)
            (ext_get_or unassigned (kept_in m assigns flags) (replicate m unassigned) (n ∙ sym n') (λ j l. kept_not m assigns flags j (omega arith) (none j) ∙ sym (none_at m j)));
        waiting = λ r a b. none (get_or js r 0);
      }

  -- one more has
  pub keeping_more : (t j : ℕ) (flags flags' ends heads next ends' heads' next' : List ℕ) → t < length js → j ≡ get_or js t 0 → j < m → j < length flags
      → ((p q : ℕ) → p < length js → q < length js → get_or js p 0 ≡ get_or js q 0 → p ≡ q)
      → flags' ≡ cond (may_stay w m many s fibres assigns (kept_in m assigns flags) j) (set flags j 1) flags → Staying m many s assigns flags' ends' heads' next'
      → Keeping t flags ends heads next → Keeping (t + 1) flags' ends' heads' next'
  unfolding in_turn keeps given_to
  keeping_more t j flags flags' ends heads next ends' heads' next' l e below room once is stays k =
      let gs = kept_in m assigns flags in
      let b = may_stay w m many s fibres assigns gs j in
      let g = place_of (record_of (assignments_in m assigns) j) in
      let zero_flag : get_or flags j 0 ≡ 0 = ap (λ (x : ℕ). get_or flags x 0) e ∙ k.waiting t (omega arith) l in
      let step : kept_in m assigns flags' ≡ set gs j (cond b g unassigned) =
      on b
      (λ yes.
      ap (kept_in m assigns) (is ∙ ap (λ (x : Bool). cond x (set flags j 1) flags) yes) ∙ kept_more m assigns flags j below room
      ∙ ap (set gs j) (ap place_of (sym (record_read m assigns j below)) ∙ ap (λ (x : Bool). cond x g unassigned) (sym yes)))
      (λ no.
      ap (kept_in m assigns) (is ∙ ap (λ (x : Bool). cond x (set flags j 1) flags) no) ∙ sym (set-get_or gs j unassigned)
      ∙ ap (set gs j) (kept_not m assigns flags j below zero_flag ∙ ap (λ (x : Bool). cond x g unassigned) (sym no))) in
      record {
        staying = stays;
        left = ap (in_turn keeps_on (drop (t + 1) js)) (step ∙ ap (λ (x : ℕ). set gs x (keeps_on gs x)) e)
            ∙ ap (λ (x : List ℕ). in_turn keeps_on x gs) (sym (drop_here js t l)) ∙ k.left;
        waiting = λ r a c.
            let apart : get_or js r 0 ≢ j = λ q. absurd (let y = once r t c l (q ∙ e) in omega arith) in
            on b
            (λ yes. ap (λ (x : List ℕ). get_or x (get_or js r 0) 0) (is ∙ ap (λ (x : Bool). cond x (set flags j 1) flags) yes)
            ∙ get_or-set_other flags j (get_or js r 0) 1 0 apart ∙ k.waiting r (omega arith) c)
            (λ no. ap (λ (x : List ℕ). get_or x (get_or js r 0) 0) (is ∙ ap (λ (x : Bool). cond x (set flags j 1) flags) no) ∙ k.waiting r (omega arith) c);
      }

  -- all have
  pub keeping_end : (t : ℕ) (flags ends heads next : List ℕ) → length js ≤ t → by_number (λ j. true) (circuits_in m s) ≡ js → Keeping t flags ends heads next
      → kept_in m assigns flags ≡ kept_of w m many s fibres assigns
  unfolding in_turn kept
  keeping_end t flags ends heads next l is k =
      ap (λ (x : List ℕ). in_turn keeps_on x (kept_in m assigns flags)) (sym (drop_of_length-le js {i = t} l)) ∙ k.left
      ∙ ap₂ (λ (x : List ℕ) (y : ℕ). in_turn keeps_on x (replicate y unassigned)) (sym is) (sym (length_circuits_in m s))

-- WHO IS LEFT. Numbers that rise from above y rise from above less
rise_from : (cs : List Circuit) (y z : ℕ) (js : List ℕ) → z ≤ y → Rise cs y js → Rise cs z js
rise_from cs y z [] h r = tt
rise_from cs y z (j ∷ js) h r = let r₀ = r.0 in (omega arith, r.1)

module _ (who : ℕ → Bool) where
  -- those that pass rise too
  rise_passing : (cs : List Circuit) (z : ℕ) (js : List ℕ) → Rise cs z js → Rise cs z (passing who js)
  unfolding passing
  rise_passing cs z [] r = tt
  rise_passing cs z (j ∷ js) r =
      let r₀ = r.0 in
      let ih = rise_passing cs (number cs j) js r.1 in
      on (who j) (λ e. rw e (r₀, ih)) (λ e. rw e (rise_from cs (number cs j) z (passing who js) (omega arith) ih))

  -- they are of the list, and pass
  each_passing : (P : ℕ → Type 0) (js : List ℕ) → Each P js → Each (λ j. P j × (who j ≡ true)) (passing who js)
  unfolding passing
  each_passing P [] a = tt
  each_passing P (j ∷ js) a = on (who j) (λ e. rw e ((a.0, e), each_passing P js a.1)) (λ e. rw e (each_passing P js a.1))

  -- and who passes is among them
  among_passing : (js : List ℕ) (j : ℕ) → Among j js → who j ≡ true → Among j (passing who js)
  unfolding passing
  among_passing [] j a t = absurd a
  among_passing (i ∷ js) j a t =
      on (who i)
      (λ e. rw e (⊎_elim {C = Among j (i ∷ passing who js)} (λ q. inl q) (λ b. inr (among_passing js j b t)) a))
      (λ e. rw e (⊎_elim {C = Among j (passing who js)} (λ q. clash (who j) t (ap who q ∙ e)) (λ b. among_passing js j b t) a))

-- of all circuits by rising number those that pass are the ones that pass by rising number
passing_turns : (who who' : ℕ → Bool) (cs : List Circuit) (P : List ℕ) → Distinct cs → ((j : ℕ) → j < length cs → 1 ≤ number cs j) → by_number (λ j. true) cs ≡ P
    → ((j : ℕ) → j < length cs → who j ≡ who' j) → by_number who' cs ≡ passing who P
passing_turns who who' cs P once pos is same =
    let all = by_number (λ j. true) cs in
    let L = passing who P in
    let are : Each (λ j. ((j < length cs) × (true ≡ true)) × (who j ≡ true)) L = subst (λ x. Each (λ j. ((j < length cs) × (true ≡ true)) × (who j ≡ true)) (passing who x)) is
    (each_passing who (λ j. (j < length cs) × (true ≡ true)) all (rising_are (λ j. true) cs (length cs) 0)) in
    let rise : Rise cs 0 L = subst (λ x. Rise cs 0 (passing who x)) is (rise_passing who cs 0 all (rising_rise (λ j. true) cs (length cs) 0)) in
    let at = each_at (λ j. ((j < length cs) × (true ≡ true)) × (who j ≡ true)) L are in
    turns_are who' cs L once pos (λ t l. (at t l).0.0) (λ t l. sym (same (get_or L t 0) (at t l).0.0) ∙ (at t l).1)
    (λ j l e.
    let y = turn_of_lem (λ j. true) cs once j l refl (pos j l) in
    among_passing who P j (subst (Among j) is (subst (λ x. Among x all) y.2 (among_at all y.0 y.1))) (same j l ∙ e))
    (rise_at cs 0 L rise)

-- flag 0 is no place
waits_unplaced : (m many : ℕ) (assigns flags : List ℕ) → GivenKept many m assigns flags → (j : ℕ) → j < m → waits flags j ≡ unplaced (kept_in m assigns flags) j
unfolding unplaced
waits_unplaced m many assigns flags g j l =
    by_eq (get_or flags j 0) 0
    (λ e. eq-eqb (get_or flags j 0) 0 e ∙ ap (λ (x : Assignment). eqb x.fibre 0) (sym (kept_not m assigns flags j l e)))
    (λ e.
    let one = (g j l e).0 in
    ne_eqb (get_or flags j 0) 0 e ∙ sym (ne_eqb (assignment_of (record_at assigns j)).fibre 0 (λ z. omega arith))
    ∙ ap (λ (x : Assignment). eqb x.fibre 0) (sym (kept_yes m assigns flags j l e)))

-- so those of all turns whose flags are 0 are those that are left
lost_are : (n w m many : ℕ) (s fibres assigns flags P : List ℕ) → Register n w m many s fibres assigns → by_number (λ j. true) (circuits_in m s) ≡ P
    → GivenKept many m assigns flags → kept_in m assigns flags ≡ kept_of w m many s fibres assigns → passing (waits flags) P ≡ lost w m many s fibres assigns
lost_are n w m many s fibres assigns flags P reg is g k =
    let cs = circuits_in m s in
    let c = length_circuits_in m s in
    sym (passing_turns (waits flags) (unplaced (kept_of w m many s fibres assigns)) cs P reg.accepted.file.distinct (λ j l. reg.from_one j (omega arith)) is
    (λ j l. waits_unplaced m many assigns flags g j (omega arith) ∙ ap (λ x. unplaced x j) k))

-- the order that `order` makes
pub turns_by_number : (n w m many : ℕ) (s fibres assigns P : List ℕ) → Register n w m many s fibres assigns → length P ≡ m → Ordered m (circuits_in m s) P
    → by_number (λ j. true) (circuits_in m s) ≡ P
turns_by_number n w m many s fibres assigns P reg long o = ordered_turns m (circuits_in m s) P long (length_circuits_in m s) reg.accepted.file.distinct reg.from_one o

-- one flag more is set, for a record that fits
pub kept_given : (many m j : ℕ) (assigns flags flags' : List ℕ) → flags' ≡ set flags j 1 → Given many assigns j → GivenKept many m assigns flags → GivenKept many m assigns flags'
kept_given many m j assigns flags flags' e here g i l f =
    by_eq i j (λ q. subst (Given many assigns) (sym q) here) (λ q. g i l (λ z. f (ap (λ (x : List ℕ). get_or x i 0) e ∙ get_or-set_other flags j i 1 0 q ∙ z)))

-- LENT PARTS. One from byte 0 to e comes back as it was left
pub front_back : (e : ℕ) (xs ys : List ℕ) → length ys ≡ e → mid_of 0 (e - 0) (put_mid 0 (e - 0) xs ys) ≡ ys
front_back e xs ys l = take_at ys (post_of 0 (e - 0) xs) (e - 0) (omega arith)

-- and there is room for it again
pub front_room : (e : ℕ) (xs ys : List ℕ) → length ys ≡ e → e ≤ length (put_mid 0 (e - 0) xs ys)
front_room e xs ys l = subst (λ z. e ≤ z) (sym (length-append ys (post_of 0 (e - 0) xs))) (omega arith)

-- THE FIRST PASS IS DONE, in the order P
pub sifted : (n w m many : ℕ) (s fibres assigns P flags report report' turns ends heads next : List ℕ) (k : ℕ)
    → Register n w m many s fibres assigns → length P ≡ m → Ordered m (circuits_in m s) P
    → kept_in m assigns flags ≡ kept_of w m many s fibres assigns → Staying m many s assigns flags ends heads next
    → k ≡ length (passing (waits flags) P) → take k (cells_of turns) ≡ passing (waits flags) P
    → report' ≡ report_bytes (map (begun_line s assigns) (passing (waits flags) P)) ++ drop (12 * k) report → k ≤ m
    → Sifted w m many s fibres assigns report report' turns ends heads next k
unfolding report_list
sifted n w m many s fibres assigns P flags report report' turns ends heads next k reg long o is_kept stays many_lost noted begun few =
    let f = begun_line s assigns in
    let L = lost w m many s fibres assigns in
    let is : passing (waits flags) P ≡ L = lost_are n w m many s fibres assigns flags P reg (turns_by_number n w m many s fibres assigns P reg long o) stays.given is_kept in
    record {
      many_lost = many_lost ∙ ap length is;
      few_lost = few;
      their_turns = noted ∙ is;
      begun = begun ∙ ap₂ (λ x v. report_bytes (map f x) ++ drop (12 * v) report) is (many_lost ∙ ap length is ∙ sym (length-map L f));
      riding = subst (λ g. Riding many (riders (circuits_in m s) g) ends assigns heads next) is_kept stays.riding;
    }
