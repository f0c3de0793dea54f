-- No rule is broken exactly if the lists hold a valid plan, numbered, on the line and in file order. Assumes nothing.
use Prim.Native.Nat.{ℕ, zero, suc, ◌-◌, ◌<◌, ◌≤◌}
use mathlib.Core.Path.{◌≡◌, refl, ap, ◌∙◌, sym}
use mathlib.Core.Logic.{◌≢◌}
use mathlib.Core.Bool.{true, false, not, ◌&&◌, ◌||◌}
use mathlib.Core.List.{List, map}
use mathlib.Core.Option.{none}
use native.Mathlib.Omega.{arith}
use lib.Dec.{leb, ltb, eqb}
use lib.ListN.{length, length-map, get_or, get_or-map}
use borrow.Author.Tests.{not-false, leb-true, ltb-false, eqb-true, eqb-false, le-leb, le-ltb, eq-eqb, ne_eqb}
use Rattle.basics.proofs.Bools.{and_l, and_r, and_of, by_le, never, or_false_l, or_false_r}
use Rattle.basics.proofs.Bools as Bools
use Rattle.basics.proofs.Searches.{any_false, any_none}
use Rattle.records.specs.declared.Circuit.{Circuit}
use Rattle.records.specs.declared.FibreRecord.{FibreRecord}
use Rattle.records.specs.declared.AssignmentRecord.{AssignmentRecord}
use Rattle.records.specs.declared.Line.{Line}
use Rattle.method.specs.Line.{Fibre, Assignment, assigned, circuit, fibre_under, no_fibre, overlap}
use Rattle.method.proofs.Links.{overlap_sym}
use Rattle.register.specs.Plans.{span_of, place_of}
use Rattle.clashes.specs.Clashes.{clash}
use Rattle.checker.specs.Rules.{no_fibre_record, no_assignment_record, fibre_at, assignment_at, fibre_rules, assignment_rules, first_broken, plan_held}
use Rattle.checker.specs.Sound.{Sound, NoneBroken}
use Rattle.checker.proofs.First.{unbroken, nothing_broken}

-- what it takes to clash
clash_of : (c d : Circuit) (a b : AssignmentRecord) → overlap c d ≡ true → a.fibre ≡ b.fibre → a.wavelength ≡ b.wavelength → clash c a d b ≡ true
unfolding clash
clash_of c d a b o p q = and_of _ _ (and_of _ _ o (eq-eqb a.fibre b.fibre p)) (eq-eqb a.wavelength b.wavelength q)

-- what a clash tells
clash_says : (c d : Circuit) (a b : AssignmentRecord) → clash c a d b ≡ true → (overlap c d ≡ true) × (a.fibre ≡ b.fibre) × (a.wavelength ≡ b.wavelength)
unfolding clash
clash_says c d a b e =
    let l = and_l (overlap c d && eqb a.fibre b.fibre) _ e in (
      and_l _ _ l,
      eqb-true a.fibre b.fibre (and_r (overlap c d) _ l),
      eqb-true a.wavelength b.wavelength (and_r (overlap c d && eqb a.fibre b.fibre) _ e),
    )

module _ (fs : List FibreRecord) (gs : List AssignmentRecord) where
  -- what the plan gives to circuit j is what its record says
  pub held_at : (j : ℕ) → assigned (plan_held fs gs) j ≡ place_of (assignment_at gs j)
  unfolding assigned
  held_at j = get_or-map place_of gs j no_assignment_record

  -- and its fibre is the one that its record names
  pub under_at : (j : ℕ) → fibre_under (plan_held fs gs) j ≡ span_of (fibre_at fs ((assignment_at gs j).fibre - 1))
  unfolding fibre_under
  under_at j =
      ap (λ (a : Assignment). get_or (map span_of fs) (a.fibre - 1) no_fibre) (held_at j)
      ∙ get_or-map span_of fs ((assignment_at gs j).fibre - 1) no_fibre_record

-- a fibre that breaks no rule
fibre_kept : (n : ℕ) (fs : List FibreRecord) (i : ℕ) → NoneBroken (fibre_rules n fs i)
    → ((fibre_at fs i).number ≡ suc i) × (1 ≤ (fibre_at fs i).first) × ((fibre_at fs i).first ≤ (fibre_at fs i).last) × ((fibre_at fs i).last ≤ n)
fibre_kept n fs i h =
    let f = fibre_at fs i in
    let e = h 1 in
    let r = or_false_l (eqb f.first 0 || ltb f.last f.first) (ltb n f.last) e in
    let a : f.first ≢ 0 = eqb-false f.first 0 (or_false_l _ _ r) in
    let b : f.first ≤ f.last = ltb-false f.last f.first (or_false_r (eqb f.first 0) _ r) in
    let d : f.last ≤ n = ltb-false n f.last (or_false_r (eqb f.first 0 || ltb f.last f.first) _ e) in
    (eqb-true f.number (suc i) (not-false (eqb f.number (suc i)) (h 0)), omega arith, b, d)

-- and the other way
kept_fibre : (n : ℕ) (fs : List FibreRecord) (i : ℕ) → (fibre_at fs i).number ≡ suc i
    → (1 ≤ (fibre_at fs i).first) × ((fibre_at fs i).first ≤ (fibre_at fs i).last) × ((fibre_at fs i).last ≤ n) → NoneBroken (fibre_rules n fs i)
kept_fibre n fs i e h zero = ap not (eq-eqb (fibre_at fs i).number (suc i) e)
kept_fibre n fs i e h (suc zero) =
    let f = fibre_at fs i in
    let a : f.first ≢ 0 = omega arith in
    rw (ne_eqb f.first 0 a, le-ltb f.last f.first h.1, le-ltb n f.last h.2)
kept_fibre n fs i e h (suc (suc q)) = refl

module _ (line : Line) (cs : List Circuit) (fs : List FibreRecord) (gs : List AssignmentRecord) where
  -- an assignment that breaks no rule
  pub record Kept (j : ℕ) : Type 0 where
    pub of_circuit : (assignment_at gs j).circuit ≡ (circuit cs j).number
    pub there : (1 ≤ (assignment_at gs j).fibre) × ((assignment_at gs j).fibre ≤ length fs)
    pub spanned : ((fibre_at fs ((assignment_at gs j).fibre - 1)).first ≤ (circuit cs j).first) × ((circuit cs j).last ≤ (fibre_at fs ((assignment_at gs j).fibre - 1)).last)
    pub wave : (1 ≤ (assignment_at gs j).wavelength) × ((assignment_at gs j).wavelength ≤ line.wavelengths)
    pub clear : (i : ℕ) → i < j → clash (circuit cs i) (assignment_at gs i) (circuit cs j) (assignment_at gs j) ≡ false

  -- is one that is kept
  assignment_kept : (j : ℕ) → NoneBroken (assignment_rules line.wavelengths cs fs gs j) → Kept j
  assignment_kept j h =
      let a = assignment_at gs j in
      let c = circuit cs j in
      let f = fibre_at fs (a.fibre - 1) in
      let h₁ = not-false (leb 1 a.fibre && leb a.fibre (length fs)) (h 1) in
      let h₂ = not-false (leb f.first c.first && leb c.last f.last) (h 2) in
      let h₃ = not-false (leb 1 a.wavelength && leb a.wavelength line.wavelengths) (h 3) in
      record {
        of_circuit = eqb-true a.circuit c.number (not-false (eqb a.circuit c.number) (h 0));
        there = (leb-true 1 a.fibre (and_l _ _ h₁), leb-true a.fibre (length fs) (and_r (leb 1 a.fibre) _ h₁));
        spanned = (leb-true f.first c.first (and_l _ _ h₂), leb-true c.last f.last (and_r (leb f.first c.first) _ h₂));
        wave = (leb-true 1 a.wavelength (and_l _ _ h₃), leb-true a.wavelength line.wavelengths (and_r (leb 1 a.wavelength) _ h₃));
        clear = any_false (λ i. clash (circuit cs i) (assignment_at gs i) (circuit cs j) (assignment_at gs j)) j (h 4);
      }

  -- and the other way
  kept_assignment : (j : ℕ) → Kept j → NoneBroken (assignment_rules line.wavelengths cs fs gs j)
  kept_assignment j k zero = ap not (eq-eqb (assignment_at gs j).circuit (circuit cs j).number k.of_circuit)
  kept_assignment j k (suc zero) =
      ap not (and_of _ _ (le-leb 1 (assignment_at gs j).fibre k.there.0) (le-leb (assignment_at gs j).fibre (length fs) k.there.1))
  kept_assignment j k (suc (suc zero)) =
      let f = fibre_at fs ((assignment_at gs j).fibre - 1) in
      ap not (and_of _ _ (le-leb f.first (circuit cs j).first k.spanned.0) (le-leb (circuit cs j).last f.last k.spanned.1))
  kept_assignment j k (suc (suc (suc zero))) =
      ap not (and_of _ _ (le-leb 1 (assignment_at gs j).wavelength k.wave.0) (le-leb (assignment_at gs j).wavelength line.wavelengths k.wave.1))
  kept_assignment j k (suc (suc (suc (suc zero)))) = any_none _ j k.clear
  kept_assignment j k (suc (suc (suc (suc (suc q))))) = refl

  -- the fibre and the wavelength that the plan gives to circuit j are those of its record
  fibre_is : (j : ℕ) → (assigned (plan_held fs gs) j).fibre ≡ (assignment_at gs j).fibre
  fibre_is j = ap (λ (a : Assignment). a.fibre) (held_at fs gs j)

  wave_is : (j : ℕ) → (assigned (plan_held fs gs) j).wavelength ≡ (assignment_at gs j).wavelength
  wave_is j = ap (λ (a : Assignment). a.wavelength) (held_at fs gs j)

  -- no rule is broken, so all is sound
  pub yes_sound : first_broken line cs fs gs ≡ none → Sound line cs fs gs
  yes_sound e =
      let u = unbroken line cs fs gs e in
      let u₁ = u.1 in
      let kept : (j : ℕ) → j < length cs → Kept j = λ j l. assignment_kept j (u.2 j (omega arith)) in
      let apart : (i j : ℕ) → i < j → j < length cs → overlap (circuit cs i) (circuit cs j) ≡ true
      → (assignment_at gs i).fibre ≡ (assignment_at gs j).fibre → (assignment_at gs i).wavelength ≡ (assignment_at gs j).wavelength → ⊥ =
      λ i j b l o p q. Bools.clash _ (clash_of (circuit cs i) (circuit cs j) (assignment_at gs i) (assignment_at gs j) o p q) ((kept j l).clear i b) in
      record {
        numbered = λ i l. (fibre_kept line.links fs i (u.0 i l)).0;
        on_line = λ i l. let r = fibre_kept line.links fs i (u.0 i l) in (r.1, r.2, r.3);
        in_file_order = λ j l. (kept j l).of_circuit;
        valid = record {
          all_assigned = length-map gs place_of ∙ u₁;
          numbered = λ j l. let r = (kept j l).there in (omega (arith, fibre_is j, r.0), omega (arith, fibre_is j, r.1, length-map fs span_of));
          within = λ j l.
              let r = (kept j l).spanned in
              let z = under_at fs gs j in
              (omega (arith, ap (λ (f : Fibre). f.first) z, r.0), omega (arith, ap (λ (f : Fibre). f.last) z, r.1));
          wavelength_in = λ j l. let r = (kept j l).wave in (omega (arith, wave_is j, r.0), omega (arith, wave_is j, r.1));
          apart = λ i j a b d o p q.
              let p' = sym (fibre_is i) ∙ p ∙ fibre_is j in
              let q' = sym (wave_is i) ∙ q ∙ wave_is j in
              by_le i j
              (λ l. apart i j (omega arith) b o p' q')
              (λ l. apart j i l a (overlap_sym (circuit cs i) (circuit cs j) o) (sym p') (sym q'));
        };
      }

  -- all is sound, so no rule is broken
  pub sound_yes : Sound line cs fs gs → first_broken line cs fs gs ≡ none
  sound_yes s =
      let v = s.valid in
      let many : length gs ≡ length cs = sym (length-map gs place_of) ∙ v.all_assigned in
      nothing_broken line cs fs gs
      (λ i l. kept_fibre line.links fs i (s.numbered i l) (s.on_line i l))
      many
      (λ j l.
      let b : j < length cs = omega arith in
      let z = under_at fs gs j in
      kept_assignment j
      (record {
        of_circuit = s.in_file_order j b;
        there = (omega (arith, fibre_is j, (v.numbered j b).0), omega (arith, fibre_is j, (v.numbered j b).1, length-map fs span_of));
        spanned = (omega (arith, ap (λ (f : Fibre). f.first) z, (v.within j b).0), omega (arith, ap (λ (f : Fibre). f.last) z, (v.within j b).1));
        wave = (omega (arith, wave_is j, (v.wavelength_in j b).0), omega (arith, wave_is j, (v.wavelength_in j b).1));
        clear = λ i h.
            never _
            (λ t.
            let c = clash_says (circuit cs i) (circuit cs j) (assignment_at gs i) (assignment_at gs j) t in
            v.apart i j (omega arith) b (omega arith) c.0 (fibre_is i ∙ c.1 ∙ sym (fibre_is j)) (wave_is i ∙ c.2 ∙ sym (wave_is j)));
      }))
