-- The tests of mending in code, and from their verdict to the outcome of `mend`. Assumes nothing.
use Prim.Native.Nat.{ℕ, ◌+◌, ◌-◌, ◌*◌, ◌/◌, ◌≤◌}
use mathlib.Core.Path.{◌≡◌, refl, ap, ap₂, ◌∙◌, sym}
use mathlib.Core.Bool.{Bool}
use mathlib.Core.List.{List, [], ◌∷◌}
use mathlib.Core.Option.{Option, none, some}
use native.Mathlib.Omega.{arith}
use lib.ListN.{drop, length}
use Rattle.std.specs.Prelude.{Some, None, Result, Ok, Err}
use Rattle.records.specs.Records.{circuits_of}
use Rattle.records.specs.declared.Line.{Line}
use Rattle.records.proofs.Files.{length_circuits_in}
use Rattle.refusals.specs.declared.Reason.TheVariants.{FibreRoom}
use Rattle.refusals.specs.declared.Refusal.{Refusal}
use Rattle.refusals.specs.Given.{NoneApplies}
use Rattle.refusals.specs.Table.{first_record, row8, tested, verdict}
use Rattle.refusals.proofs.First.{verdict_passed}
use Rattle.refusals.proofs.Passed.{passed_room}
use Rattle.refusals.proofs.Pieces.{none_first}
use Rattle.register.specs.Areas.{zeroed_to}
use Rattle.register.specs.Lists.{assignment_records, behind, fibre_list}
use Rattle.register.specs.declared.Counts.{Counts}
use Rattle.planner.specs.Outcome.{if_accepted}
use Rattle.planner.proofs.Accepting as Tests
use Rattle.checker.specs.Rules.{breach_at, faulty, fibre_rules, first_fault, lowest_broken}
use Rattle.checker.specs.Checked.{fault_of, fibres_in}
use Rattle.checker.specs.declared.rules.Fault.{Fault}
use Rattle.mending.specs.Mending.{mend_counts, mend_lines}
use Rattle.mender.specs.Report.{Lent, report_list}
use Rattle.mender.specs.Table.{mend_table}
use Rattle.mender.specs.Outcome.{Answer, mended_with, Outcome, answer_by, damaged, judged, mended_to, old_fibres, Answer}
use Rattle.mender.specs.declared.Mended.{Mended}
use Rattle.mender.specs.inner.Steps.{MendAsked, Remade}
use Rattle.mender.proofs.Leaves as Left

-- 8 passed, so the old fibres are there
pub room_there : (many m has z y : ℕ) → tested (row8 (many + m) has) z ≡ Ok y → 8 * many ≤ has
unfolding verdict
room_there many m has z y e =
    let r = passed_room FibreRoom (8 * (many + m)) has (none_first _ _ (verdict_passed (row8 (many + m) has ∷ []) z y e).1) in
    omega arith

-- 20, by the first faulty fibre
module _ (n many : ℕ) (fibres : List ℕ) where
  -- which fibre is faulty
  abbrev is_faulty : ℕ → Bool
  is_faulty i = faulty (fibre_rules n (fibres_in many fibres) i)

  -- a fibre is
  pub faulty_place : (f : Fault) → fault_of (first_fault (fibre_rules n (fibres_in many fibres)) many) ≡ Some f → first_record is_faulty many ≡ some f.place
  unfolding first_fault
  faulty_place f e = go (first_record is_faulty many) e
    where
      go : (o : Option ℕ) → fault_of (breach_at (fibre_rules n (fibres_in many fibres)) o) ≡ Some f → o ≡ some f.place
      go none q = cc
      go (some p) q =
          let its : Fault = record { rule = lowest_broken (fibre_rules n (fibres_in many fibres) (p - 1)); place = p } in
          let y : its ≡ f = cc in
          ap (λ (d : Fault). some d.place) y

  -- and none is
  pub none_faulty : fault_of (first_fault (fibre_rules n (fibres_in many fibres)) many) ≡ None → first_record is_faulty many ≡ none
  unfolding first_fault
  none_faulty e = go (first_record is_faulty many) e
    where
      go : (o : Option ℕ) → fault_of (breach_at (fibre_rules n (fibres_in many fibres)) o) ≡ None → o ≡ none
      go none q = refl
      go (some p) q = cc

-- THE VERDICT
module _ (line : Line) (s : List ℕ) (many : ℕ) (before : Lent) (t : Result ℕ Refusal) (told : t ≡ verdict (mend_table line s many before) (length s / 8)) where
  -- the numbers and the lines
  abbrev numbers : Counts
  numbers = mend_counts line.links line.wavelengths (old_fibres many before) (circuits_of s) (damaged s before)

  abbrev lines : ℕ
  lines = mend_lines line.links line.wavelengths (old_fibres many before) (circuits_of s) (damaged s before)

  -- the four areas after mending
  abbrev fibres_then : List ℕ
  fibres_then = behind (8 * many) (fibre_list many (drop many (mended_to line s many before).plan.fibres)) before.fibres

  abbrev assigns_then : List ℕ
  assigns_then = assignment_records 0 (circuits_of s) (mended_to line s many before).plan.assignments

  abbrev report_then : List ℕ
  report_then = report_list (mended_to line s many before).report before.report

  abbrev work_then : List ℕ
  work_then = zeroed_to (4 * line.links + 4 * (length s / 8)) before.work

  -- a refusal changes nothing
  pub refused : (r : Refusal) (answer : Answer) → t ≡ Err r → answer ≡ Err r → Outcome line s many before before answer
  unfolding judged
  refused r answer e f =
      let j : judged line s many before ≡ Err r = sym told ∙ e in
      record {
        answered = f ∙ sym (ap (λ (x : Result ℕ Refusal). answer_by x numbers lines) j);
        listed = sym (ap (λ (x : Result ℕ Refusal). if_accepted x fibres_then before.fibres) j);
        assigned = sym (ap (λ (x : Result ℕ Refusal). if_accepted x assigns_then before.assigns) j);
        reported = sym (ap (λ (x : Result ℕ Refusal). if_accepted x report_then before.report) j);
        cleared = sym (ap (λ (x : Result ℕ Refusal). if_accepted x work_then before.work) j);
      }

  module _ (found : ℕ) (e : t ≡ Ok found) where
    -- all tests passed, so no row applies
    none_applies : NoneApplies (mend_table line s many before)
    none_applies = (verdict_passed (mend_table line s many before) (length s / 8) found (sym told ∙ e)).1

    -- the register may be mended
    pub admitted : MendAsked line.links line.wavelengths (length s / 8) many s before
    admitted =
        let m = length s / 8 in
        let room = Left.fibre_room line s many before none_applies in
        record {
          register = record {
            accepted = Tests.accepted line s (Left.of_circuits line s many before none_applies);
            from_one = λ j l. (Left.mendable line s many before none_applies).from_one j (omega (arith, length_circuits_in m s));
            few_fibres = (Left.fit line s many before none_applies).few;
            fibres_there = omega arith;
            one_each = Left.one_each line s many before none_applies;
          };
          fibre_room = room;
          report_room = Left.report_room line s many before none_applies;
          work_room = Left.work_room line s many before none_applies;
        }

    -- and what is remade is the outcome
    pub mended : (after : Lent) (made : Mended) → Remade line.links line.wavelengths (length s / 8) many s before after made → Outcome line s many before after (Ok made)
    unfolding judged
    mended after made r =
        let j : judged line s many before ≡ Ok found = sym told ∙ e in
        record {
          answered = ap₂ mended_with r.counted r.lined ∙ sym (ap (λ (x : Result ℕ Refusal). answer_by x numbers lines) j);
          listed = r.listed ∙ sym (ap (λ (x : Result ℕ Refusal). if_accepted x fibres_then before.fibres) j);
          assigned = r.assigned ∙ sym (ap (λ (x : Result ℕ Refusal). if_accepted x assigns_then before.assigns) j);
          reported = r.reported ∙ sym (ap (λ (x : Result ℕ Refusal). if_accepted x report_then before.report) j);
          cleared = r.cleared ∙ sym (ap (λ (x : Result ℕ Refusal). if_accepted x work_then before.work) j);
        }
