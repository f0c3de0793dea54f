-- The breach that is given is the first in the paper's order, said without running through. Assumes nothing.
use Prim.Native.Nat.{ℕ}
use mathlib.Core.Path.{◌≡◌, refl, ap, sym}
use mathlib.Core.Logic.{◌≢◌, ◌⊎◌, inl, inr, ⊎_elim}
use mathlib.Core.List.{List, [], ◌∷◌}
use mathlib.Core.Option.{Option, none, some}
use native.Mathlib.Omega.{arith}
use lib.Dec.{eqb}
use lib.ListN.{length}
use borrow.Author.Tests.{eqb-true, eqb-false, eq-eqb, ne_eqb}
use Rattle.basics.proofs.Bools.{on}
use Rattle.records.specs.declared.Circuit.{Circuit}
use Rattle.records.specs.declared.FibreRecord.{FibreRecord}
use Rattle.records.specs.declared.AssignmentRecord.{AssignmentRecord}
use Rattle.records.specs.declared.Line.{Line}
use Rattle.checker.specs.Rules.{Breach, first_of, count_fault, fibre_rules, assignment_rules, first_broken}
use Rattle.checker.specs.Sound.{NoneFaulty, FirstBreach}
use Rattle.checker.proofs.Faults.{Rising, none_faulty, faulty_none, first_faulty, faulty_first}

-- the rules of a fibre rise
pub fibres_rise : (n : ℕ) (fs : List FibreRecord) (i : ℕ) → Rising 0 (fibre_rules n fs i)
fibres_rise n fs i = (omega arith, (omega arith, tt))

-- and so do those of an assignment
pub assignments_rise : (w : ℕ) (cs : List Circuit) (fs : List FibreRecord) (gs : List AssignmentRecord) (j : ℕ) → Rising 0 (assignment_rules w cs fs gs j)
assignments_rise w cs fs gs j = (omega arith, (omega arith, (omega arith, (omega arith, (omega arith, tt)))))

-- of three there is none
of_none : (a b c : Option Breach) → first_of (a ∷ b ∷ c ∷ []) ≡ none → (a ≡ none) × (b ≡ none) × (c ≡ none)
of_none none none none e = (refl, refl, refl)
of_none none none (some x) e = absurd (let z : ◌≡◌ {A = ℕ} 0 1 = cc in omega arith)
of_none none (some x) c e = absurd (let z : ◌≡◌ {A = ℕ} 0 1 = cc in omega arith)
of_none (some x) b c e = absurd (let z : ◌≡◌ {A = ℕ} 0 1 = cc in omega arith)

-- one of three is the first
of_some : (a b c : Option Breach) (x : Breach) → first_of (a ∷ b ∷ c ∷ []) ≡ some x
    → (a ≡ some x) ⊎ (((a ≡ none) × (b ≡ some x)) ⊎ ((a ≡ none) × (b ≡ none) × (c ≡ some x)))
of_some none none none x e = absurd (let z : ◌≡◌ {A = ℕ} 0 1 = cc in omega arith)
of_some none none (some y) x e = inr (inr (refl, refl, e))
of_some none (some y) c x e = inr (inl (refl, e))
of_some (some y) b c x e = inl e

-- as many assignments as circuits
count_none : (cs : List Circuit) (gs : List AssignmentRecord) → count_fault cs gs ≡ none → length gs ≡ length cs
count_none cs gs e =
    on (eqb (length gs) (length cs))
    (λ t. eqb-true (length gs) (length cs) t)
    (λ t.
    let z : some (let b : Breach = record { rule = 3; place = 0 } in b) ≡ none = rw t at e in
    absurd (let y : ◌≡◌ {A = ℕ} 0 1 = cc in omega arith))

-- and the other way
none_count : (cs : List Circuit) (gs : List AssignmentRecord) → length gs ≡ length cs → count_fault cs gs ≡ none
none_count cs gs e = rw (eq-eqb (length gs) (length cs) e)

-- not as many
count_some : (cs : List Circuit) (gs : List AssignmentRecord) (b : Breach) → count_fault cs gs ≡ some b → (length gs ≢ length cs) × (b.rule ≡ 3) × (b.place ≡ 0)
count_some cs gs b e =
    on (eqb (length gs) (length cs))
    (λ t.
    let z : none ≡ some b = rw t at e in
    absurd (let y : ◌≡◌ {A = ℕ} 0 1 = cc in omega arith))
    (λ t.
    let z : some (let b : Breach = record { rule = 3; place = 0 } in b) ≡ some b = rw t at e in
    let y : (let b : Breach = record { rule = 3; place = 0 } in b) ≡ b = cc in
    (eqb-false (length gs) (length cs) t, sym (ap (λ (d : Breach). d.rule) y), sym (ap (λ (d : Breach). d.place) y)))

-- and the other way
some_count : (cs : List Circuit) (gs : List AssignmentRecord) (b : Breach) → length gs ≢ length cs → b.rule ≡ 3 → b.place ≡ 0 → count_fault cs gs ≡ some b
some_count cs gs b h p q =
    let y : (let d : Breach = record { rule = 3; place = 0 } in d) ≡ b = λ i. record { rule = sym p i; place = sym q i } in
    rw (ne_eqb (length gs) (length cs) h) (ap some y)

module _ (line : Line) (cs : List Circuit) (fs : List FibreRecord) (gs : List AssignmentRecord) where
  -- no rule is broken: none of the fibres, nor the count, nor one of the assignments
  pub unbroken : first_broken line cs fs gs ≡ none
      → NoneFaulty (fibre_rules line.links fs) (length fs) × (length gs ≡ length cs) × NoneFaulty (assignment_rules line.wavelengths cs fs gs) (length gs)
  unfolding first_broken
  unbroken e =
      let r = of_none _ _ _ e in (
        none_faulty (fibre_rules line.links fs) (fibres_rise line.links fs) (length fs) r.0,
        count_none cs gs r.1,
        none_faulty (assignment_rules line.wavelengths cs fs gs) (assignments_rise line.wavelengths cs fs gs) (length gs) r.2,
      )

  -- and the other way
  pub nothing_broken : NoneFaulty (fibre_rules line.links fs) (length fs) → length gs ≡ length cs → NoneFaulty (assignment_rules line.wavelengths cs fs gs) (length gs)
      → first_broken line cs fs gs ≡ none
  unfolding first_broken
  nothing_broken a b c =
      rw (faulty_none (fibre_rules line.links fs) (fibres_rise line.links fs) (length fs) a, none_count cs gs b, faulty_none (assignment_rules line.wavelengths cs fs gs) (assignments_rise line.wavelengths cs fs gs) (length gs) c)

  -- the breach that is given is the first
  pub broken_first : (b : Breach) → first_broken line cs fs gs ≡ some b → FirstBreach line cs fs gs b
  unfolding first_broken
  broken_first b e =
      ⊎_elim
      (λ p. inl (first_faulty (fibre_rules line.links fs) (fibres_rise line.links fs) (length fs) b p))
      (⊎_elim
      (λ p.
      let c = count_some cs gs b p.1 in
      inr (inl (record {
        fibres_sound = none_faulty (fibre_rules line.links fs) (fibres_rise line.links fs) (length fs) p.0;
        miscounted = c.0;
        third = c.1;
        no_place = c.2;
      })))
      (λ p. inr (inr (record {
        fibres_sound = none_faulty (fibre_rules line.links fs) (fibres_rise line.links fs) (length fs) p.0;
        counted = count_none cs gs p.1;
        fault = first_faulty (assignment_rules line.wavelengths cs fs gs) (assignments_rise line.wavelengths cs fs gs) (length gs) b p.2;
      }))))
      (of_some _ _ _ b e)

  -- the first breach is given
  pub first_broken_lem : (b : Breach) → FirstBreach line cs fs gs b → first_broken line cs fs gs ≡ some b
  unfolding first_broken
  first_broken_lem b =
      ⊎_elim
      (λ p. rw (faulty_first (fibre_rules line.links fs) (fibres_rise line.links fs) (length fs) b p))
      (⊎_elim
      (λ p. rw (faulty_none (fibre_rules line.links fs) (fibres_rise line.links fs) (length fs) p.fibres_sound, some_count cs gs b p.miscounted p.third p.no_place))
      (λ p. rw (faulty_none (fibre_rules line.links fs) (fibres_rise line.links fs) (length fs) p.fibres_sound, none_count cs gs p.counted, faulty_first (assignment_rules line.wavelengths cs fs gs) (assignments_rise line.wavelengths cs fs gs) (length gs) b p.fault)))
