-- What is found, fault by fault, and the answer from the verdict of the tests. Assumes nothing.
use Prim.Native.Nat.{ℕ, ◌*◌, ◌/◌, ◌≤◌}
use mathlib.Core.Path.{◌≡◌, refl, ap, ap₂, ◌∙◌, sym, subst}
use mathlib.Core.Logic.{◌≢◌}
use mathlib.Core.List.{List, [], ◌∷◌}
use mathlib.Core.Option.{Option, none, some}
use native.Mathlib.Omega.{arith}
use lib.ListN.{length}
use borrow.Author.Tests.{eq-eqb, ne_eqb}
use Rattle.records.specs.Records.{circuits_in, circuits_of}
use Rattle.records.specs.declared.Circuit.{Circuit}
use Rattle.records.specs.declared.FibreRecord.{FibreRecord}
use Rattle.records.specs.declared.AssignmentRecord.{AssignmentRecord}
use Rattle.records.specs.declared.Line.{Line}
use Rattle.records.proofs.Files.{length_circuits_in}
use Rattle.method.specs.Fibres.{floor}
use Rattle.refusals.specs.Table.{verdict}
use Rattle.std.specs.Prelude.{Option as Told, Some, None, Result, Ok, Err}
use Rattle.refusals.specs.declared.Refusal.{Refusal}
use Rattle.refusals.proofs.First.{verdict_passed}
use Rattle.rows.specs.Accepted.{Accepted}
use Rattle.planner.proofs.Accepting.{accepted}
use Rattle.checker.specs.Rules.{Breach, first_fault, first_of, fibre_rules, assignment_rules, first_broken}
use Rattle.checker.specs.Checked.{fibres_in, assignments_in, fault_of, fibres_of, assignments_of, check_table, judged, finding_by, length_in, found, answer_by, checked}
use Rattle.checker.specs.declared.rules.Fault.{Fault}
use Rattle.checker.specs.declared.Finding.{Finding}
use Rattle.checker.specs.declared.Finding.TheVariants.{Yes, No}
use Rattle.checker.proofs.Passing.{of_circuits, fibres_whole, assigns_whole}
use Rattle.checker.proofs.Reading.{length_fibres_in, length_assignments_in}

-- THE RULES. A run through the places that came to nothing
pub silent : (o : Option Breach) (t : Told Fault) → t ≡ fault_of o → t ≡ None → o ≡ none
silent none t e h = refl
silent (some b) t e h = cc

-- and one that found a breach
pub loud : (o : Option Breach) (t : Told Fault) (f : Fault) → t ≡ fault_of o → t ≡ Some f → o ≡ some (record { rule = f.rule; place = f.place })
loud none t f e h = cc
loud (some b) t f e h =
    let z : Some (let d : Fault = record { rule = b.rule; place = b.place } in d) ≡ Some f = sym e ∙ h in
    let q : (let d : Fault = record { rule = b.rule; place = b.place } in d) ≡ f = cc in
    ap (λ (d : Fault). some (let x : Breach = record { rule = d.rule; place = d.place } in x)) q

module _ (line : Line) (m k l : ℕ) (s fibres assigns : List ℕ) where
  -- the first broken rule
  abbrev first_in : Option Breach
  first_in = first_broken line (circuits_in m s) (fibres_in k fibres) (assignments_in l assigns)

  -- the run through the fibres
  abbrev fibre_run : Option Breach
  fibre_run = first_fault (fibre_rules line.links (fibres_in k fibres)) k

  -- the run through m assignments
  abbrev assign_run : Option Breach
  assign_run = first_fault (assignment_rules line.wavelengths (circuits_in m s) (fibres_in k fibres) (assignments_in m assigns)) m

  -- the run through the fibres goes through them all
  all_fibres : (o : Option Breach) → fibre_run ≡ o → first_fault (fibre_rules line.links (fibres_in k fibres)) (length (fibres_in k fibres)) ≡ o
  all_fibres o e = ap (first_fault (fibre_rules line.links (fibres_in k fibres))) (length_fibres_in k fibres) ∙ e

  -- a fibre is faulty
  pub fibre_broken : (t : Told Fault) (f : Fault) → t ≡ fault_of fibre_run → t ≡ Some f → Some f ≡ fault_of first_in
  unfolding first_broken
  fibre_broken t f e h =
      let z : first_in ≡ some (record { rule = f.rule; place = f.place }) = rw (all_fibres _ (loud _ t f e h)) in
      sym (ap fault_of z)

  -- no fibre is, and the count is wrong
  pub count_broken : (t : Told Fault) → t ≡ fault_of fibre_run → t ≡ None → l ≢ m → Some (record { rule = 3; place = 0 }) ≡ fault_of first_in
  unfolding first_broken
  count_broken t e h d =
      let z : length (assignments_in l assigns) ≢ length (circuits_in m s) = λ q. d (sym (length_assignments_in l assigns) ∙ q ∙ length_circuits_in m s) in
      let r : first_in ≡ some (record { rule = 3; place = 0 }) =
      rw (all_fibres _ (silent _ t e h), ne_eqb (length (assignments_in l assigns)) (length (circuits_in m s)) z) in
      sym (ap fault_of r)

  -- no fibre is, and the count is right: what the run through the assignments tells
  pub assign_tells : (t u : Told Fault) → t ≡ fault_of fibre_run → t ≡ None → l ≡ m → u ≡ fault_of assign_run → u ≡ fault_of first_in
  unfolding first_broken
  assign_tells t u e h d f =
      let z : length (assignments_in m assigns) ≡ length (circuits_in m s) = length_assignments_in m assigns ∙ sym (length_circuits_in m s) in
      let q : first_fault (assignment_rules line.wavelengths (circuits_in m s) (fibres_in k fibres) (assignments_in m assigns)) (length (assignments_in m assigns)) ≡ assign_run =
      ap (first_fault (assignment_rules line.wavelengths (circuits_in m s) (fibres_in k fibres) (assignments_in m assigns))) (length_assignments_in m assigns) in
      let r : first_in ≡ assign_run =
      ap (λ (x : ℕ). first_broken line (circuits_in m s) (fibres_in k fibres) (assignments_in x assigns)) d
      ∙ rw (all_fibres _ (silent _ t e h), eq-eqb (length (assignments_in m assigns)) (length (circuits_in m s)) z, q) (whole assign_run) in
      f ∙ sym (ap fault_of r)
    where
      whole : (o : Option Breach) → first_of (o ∷ []) ≡ o
      whole none = refl
      whole (some b) = refl

-- WHAT IS FOUND
module _ (line : Line) (cs : List Circuit) (fs : List FibreRecord) (gs : List AssignmentRecord) (t : Told Fault) (told : t ≡ fault_of (first_broken line cs fs gs)) where
  -- from the first broken rule
  found_by_lem : (o : Option Breach) → first_broken line cs fs gs ≡ o → finding_by o (length_in fs) (floor line.links line.wavelengths cs) ≡ found line cs fs gs
  unfolding found
  found_by_lem o e = sym (ap (λ (x : Option Breach). finding_by x (length_in fs) (floor line.links line.wavelengths cs)) e)

  -- a rule is broken
  pub no_found : (f : Fault) → t ≡ Some f → No f.rule f.place ≡ found line cs fs gs
  no_found f h = found_by_lem (some (record { rule = f.rule; place = f.place })) (loud _ t f told h)

  -- none is
  pub yes_found : t ≡ None → (long its_floor : ℕ) → long ≡ length_in fs → its_floor ≡ floor line.links line.wavelengths cs → Yes long its_floor ≡ found line cs fs gs
  yes_found h long its_floor p q = ap₂ Yes p q ∙ found_by_lem none (silent _ t told h)

-- THE TESTS
module _ (line : Line) (s fibres assigns : List ℕ) (t : Result ℕ Refusal) (told : t ≡ verdict (check_table line s (length fibres) (length assigns)) (length s / 8)) where
  -- a refusal is the answer
  pub refused : (r : Refusal) → t ≡ Err r → Err r ≡ checked line s fibres assigns
  unfolding checked judged
  refused r e = sym (ap (λ (x : Result ℕ Refusal). answer_by x (found line (circuits_of s) (fibres_of fibres) (assignments_of assigns))) (sym told ∙ e))

  module _ (m : ℕ) (e : t ≡ Ok m) where
    -- what the rules ask of m circuits and of the two lists
    pub may_examine : Accepted line.links line.wavelengths m s × ((8 * (length fibres / 8) ≤ length fibres) × (length fibres / 8 ≤ 4096) × (8 * (length assigns / 8) ≤ length assigns))
    may_examine =
        let p = verdict_passed (check_table line s (length fibres) (length assigns)) (length s / 8) m (sym told ∙ e) in
        let f = fibres_whole line s (length fibres) (length assigns) p.1 in
        let g = assigns_whole line s (length fibres) (length assigns) p.1 in
        (subst (λ (k : ℕ). Accepted line.links line.wavelengths k s) (sym p.0) (accepted line s (of_circuits line s (length fibres) (length assigns) p.1)), (omega (arith, f.0), f.1, omega (arith, g.0)))

    -- what is found is the answer
    pub answered : (answer : Finding) → answer ≡ found line (circuits_in m s) (fibres_of fibres) (assignments_of assigns) → Ok answer ≡ checked line s fibres assigns
    unfolding checked judged
    answered answer a =
        let p = verdict_passed (check_table line s (length fibres) (length assigns)) (length s / 8) m (sym told ∙ e) in
        ap Ok (a ∙ ap (λ (k : ℕ). found line (circuits_in k s) (fibres_of fibres) (assignments_of assigns)) p.0)
        ∙ sym (ap (λ (x : Result ℕ Refusal). answer_by x (found line (circuits_of s) (fibres_of fibres) (assignments_of assigns))) (sym told ∙ e))
