-- From the verdict of the tests to the outcome of `add`. Assumes nothing.
use Prim.Native.Nat.{ℕ, ◌+◌, ◌*◌, ◌/◌}
use mathlib.Core.Path.{◌≡◌, ap, ◌∙◌, sym}
use mathlib.Core.List.{List}
use lib.ListN.{length, drop}
use Rattle.std.specs.Prelude.{Result, Ok, Err}
use Rattle.records.specs.Records.{circuits_of}
use Rattle.records.specs.declared.Line.{Line}
use Rattle.method.specs.Line.{Plan}
use Rattle.refusals.specs.declared.Refusal.{Refusal}
use Rattle.refusals.specs.Given.{NoneApplies}
use Rattle.refusals.specs.Table.{verdict}
use Rattle.refusals.proofs.First.{verdict_passed}
use Rattle.register.specs.Areas.{Areas, zeroed_to}
use Rattle.register.specs.Lists.{fibre_list, assignment_list, behind}
use Rattle.register.specs.Plans.{plan_in}
use Rattle.register.specs.declared.Counts.{Counts}
use Rattle.additions.specs.Adding.{add, add_counts}
use Rattle.planner.specs.Outcome.{Answer, answer_by, if_accepted}
use Rattle.adder.specs.Table.{add_table}
use Rattle.adder.specs.Outcome.{judged, grown_numbers, grown_fibres, grown_assignments, Outcome}
use Rattle.adder.specs.declared.Named.{Named}
use Rattle.adder.specs.inner.Growing.{GrowAsked, Grew}
use Rattle.adder.proofs.Accepting.{grow_asked}
use Rattle.adder.proofs.Leaves.{fit, one_each}

module _ (line : Line) (old new : List ℕ) (named : Named) (before : Areas) (t : Result ℕ Refusal)
    (told : t ≡ verdict (add_table line old new named before) (length old / 8 + length new / 8)) where
  -- a refusal changes nothing
  pub refused : (r : Refusal) (answer : Answer) → t ≡ Err r → answer ≡ Err r → Outcome line old new named before before answer
  unfolding judged
  refused r answer e f =
      let j : judged line old new named before ≡ Err r = sym told ∙ e in
      let cleared = zeroed_to (4 * line.links + 4 * (length old / 8 + length new / 8)) before.work in
      record {
        answered = f ∙ sym (ap (λ (x : Result ℕ Refusal). answer_by x (grown_numbers line old new named before)) j);
        listed = sym (ap (λ (x : Result ℕ Refusal). if_accepted x (grown_fibres line old new named before) before.fibres) j);
        assigned = sym (ap (λ (x : Result ℕ Refusal). if_accepted x (grown_assignments line old new named before) before.assigns) j);
        cleared = sym (ap (λ (x : Result ℕ Refusal). if_accepted x cleared before.work) j);
      }

  module _ (found : ℕ) (e : t ≡ Ok found) where
    -- all tests passed, so no row applies
    pub none_applies : NoneApplies (add_table line old new named before)
    none_applies = (verdict_passed (add_table line old new named before) (length old / 8 + length new / 8) found (sym told ∙ e)).1

    -- the circuits may be added
    pub admitted : GrowAsked line.links line.wavelengths (length old / 8) (length new / 8) named.fibres old new before
    admitted = grow_asked line old new named before none_applies

    -- the old plan, if it has x assignments
    abbrev old_with : ℕ → Plan
    old_with x = plan_in named.fibres x before.fibres before.assigns

    -- and the plan that it grows to
    abbrev grown_with : ℕ → Plan
    grown_with x = add line.links line.wavelengths (circuits_of old) (old_with x) (circuits_of new)

    -- where all tests passed the circuits are added
    pub grown : (after : Areas) (counts : Counts) → Grew line.links line.wavelengths (length old / 8) (length new / 8) named.fibres old new before after counts
        → Outcome line old new named before after (Ok counts)
    unfolding judged
    grown after counts g =
        let j : judged line old new named before ≡ Ok found = sym told ∙ e in
        let q = sym (one_each line old named before (fit line old new named before none_applies)) in
        let cleared = zeroed_to (4 * line.links + 4 * (length old / 8 + length new / 8)) before.work in
        let numbers = ap (λ (x : ℕ). add_counts line.links line.wavelengths (circuits_of old) (old_with x) (circuits_of new)) q in
        let fibres = ap (λ (x : ℕ). behind (8 * named.fibres) (fibre_list named.fibres (drop named.fibres (grown_with x).fibres)) before.fibres) q in
        let assigns = ap (λ (x : ℕ). behind (8 * x) (assignment_list 0 (circuits_of new) (drop x (grown_with x).assignments)) before.assigns) q in
        record {
          answered = ap Ok (g.counted ∙ numbers) ∙ sym (ap (λ (x : Result ℕ Refusal). answer_by x (grown_numbers line old new named before)) j);
          listed = g.listed ∙ fibres ∙ sym (ap (λ (x : Result ℕ Refusal). if_accepted x (grown_fibres line old new named before) before.fibres) j);
          assigned = g.assigned ∙ assigns ∙ sym (ap (λ (x : Result ℕ Refusal). if_accepted x (grown_assignments line old new named before) before.assigns) j);
          cleared = g.cleared ∙ sym (ap (λ (x : Result ℕ Refusal). if_accepted x cleared before.work) j);
        }
