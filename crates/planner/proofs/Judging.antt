-- From the verdict of the tests to the outcome of `plan`. Assumes nothing.
use Prim.Native.Nat.{ℕ, ◌+◌, ◌*◌, ◌/◌}
use mathlib.Core.Path.{◌≡◌, ap, ◌∙◌, sym, subst}
use mathlib.Core.List.{List}
use native.Mathlib.Omega.{arith}
use lib.ListN.{length}
use Rattle.records.specs.Records.{circuits_of}
use Rattle.records.specs.declared.Line.{Line}
use Rattle.std.specs.Prelude.{Result, Ok, Err}
use Rattle.refusals.specs.declared.Refusal.{Refusal}
use Rattle.refusals.specs.Given.{NoneApplies}
use Rattle.refusals.specs.Table.{verdict}
use Rattle.refusals.proofs.First.{verdict_passed}
use Rattle.register.specs.Areas.{Areas, zeroed_to}
use Rattle.register.specs.Lists.{fibre_list, assignment_list}
use Rattle.register.specs.declared.Counts.{Counts}
use Rattle.planner.specs.Outcome.{Answer, table_for, judged, plan_of, numbers_of, answer_by, if_accepted, Outcome}
use Rattle.planner.specs.Settled.{Admitted, Settled}
use Rattle.planner.proofs.Accepting.{accepted, of_circuits, rooms}

module _ (line : Line) (s : List ℕ) (before : Areas) where
  -- all tests passed, so no row applies
  pub none_applies : (m : ℕ) → judged line s before ≡ Ok m → (m ≡ length s / 8) × NoneApplies (table_for line s before)
  unfolding judged
  none_applies m j = verdict_passed (table_for line s before) (length s / 8) m j

  -- m circuits passed the tests: they may be planned
  pub admitted : (m : ℕ) (t : Result ℕ Refusal) → t ≡ verdict (table_for line s before) (length s / 8) → t ≡ Ok m → Admitted line.links line.wavelengths m 0 s before
  unfolding judged
  admitted m t a b =
      let p = none_applies m (sym a ∙ b) in
      let r = rooms line s _ _ _ p.1 in
      let whole = accepted line s (of_circuits line s _ _ _ p.1) in
      let few = whole.file.few in
      subst (λ (k : ℕ). Admitted line.links line.wavelengths k 0 s before) (sym p.0)
      (record {
        accepted = whole;
        fibre_room = r.0;
        assign_room = r.1;
        work_room = r.2;
        number_room = omega arith;
      })

  -- a refusal changes nothing
  pub refused : (t : Result ℕ Refusal) (r : Refusal) (answer : Answer) → t ≡ verdict (table_for line s before) (length s / 8) → t ≡ Err r → answer ≡ Err r → Outcome line s before before answer
  unfolding judged
  refused t r answer a b e =
      let j : judged line s before ≡ Err r = sym a ∙ b in
      record {
        answered = e ∙ sym (ap (λ (x : Result ℕ Refusal). answer_by x (numbers_of line s)) j);
        listed = sym (ap (λ (x : Result ℕ Refusal). if_accepted x (fibre_list 0 (plan_of line s).fibres before.fibres) before.fibres) j);
        assigned = sym (ap (λ (x : Result ℕ Refusal). if_accepted x (assignment_list 0 (circuits_of s) (plan_of line s).assignments before.assigns) before.assigns) j);
        cleared = sym (ap (λ (x : Result ℕ Refusal). if_accepted x (zeroed_to (4 * line.links + 4 * (length s / 8)) before.work) before.work) j);
      }

  -- where all tests passed the circuits are planned
  pub planned : (m : ℕ) (t : Result ℕ Refusal) (after : Areas) (counts : Counts) → t ≡ verdict (table_for line s before) (length s / 8) → t ≡ Ok m
      → Settled line.links line.wavelengths m 0 s before after counts → Outcome line s before after (Ok counts)
  unfolding judged
  planned m t after counts a b o =
      let j : judged line s before ≡ Ok m = sym a ∙ b in
      let e = (none_applies m j).0 in
      let o' : Settled line.links line.wavelengths (length s / 8) 0 s before after counts =
      subst (λ (k : ℕ). Settled line.links line.wavelengths k 0 s before after counts) e o in
      let r = o'.registered in
      record {
        answered = ap Ok r.counted ∙ sym (ap (λ (x : Result ℕ Refusal). answer_by x (numbers_of line s)) j);
        listed = r.listed ∙ sym (ap (λ (x : Result ℕ Refusal). if_accepted x (fibre_list 0 (plan_of line s).fibres before.fibres) before.fibres) j);
        assigned = r.assigned ∙ sym (ap (λ (x : Result ℕ Refusal). if_accepted x (assignment_list 0 (circuits_of s) (plan_of line s).assignments before.assigns) before.assigns) j);
        cleared = o'.cleared ∙ sym (ap (λ (x : Result ℕ Refusal). if_accepted x (zeroed_to (4 * line.links + 4 * (length s / 8)) before.work) before.work) j);
      }
