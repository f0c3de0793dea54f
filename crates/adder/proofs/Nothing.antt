-- An addition of nothing leaves the lists as they were, and an addition to nothing is R-1's plan. Assumes nothing.
use Prim.Native.Nat.{ℕ, ◌+◌, ◌*◌, ◌/◌}
use mathlib.Core.Path.{◌≡◌, refl, ap, ◌∙◌, sym}
use mathlib.Core.List.{List, [], ◌∷◌, ◌++◌, append-nil}
use mathlib.Core.Option.{none, some}
use native.Mathlib.Nat.{zero-add}
use native.Mathlib.Omega.{arith}
use lib.ListN.{drop, drop_of_length-le, length, take, take-append-drop}
use Rattle.std.specs.Prelude.{Result, Ok, Err}
use Rattle.basics.specs.Tools.{any, each, seek}
use Rattle.basics.proofs.Tables.{length_each}
use Rattle.records.specs.Records.{circuits_in, circuits_of, fibre_of, record_at}
use Rattle.records.specs.declared.Line.{Line}
use Rattle.method.specs.Line.{Plan}
use Rattle.method.specs.Fibres.{floor}
use Rattle.refusals.specs.declared.Reason.TheVariants.{NumberTaken}
use Rattle.refusals.specs.Given.{NoneApplies}
use Rattle.refusals.specs.Table.{Row, area_rows, circuit_rows, file_rows, first_record, line_rows, no_end, plan_table, record_rows, row1, row10, row2, row5, row6, row7, row8, row9, verdict, wherever}
use Rattle.refusals.specs.declared.Refusal.{Refusal}
use Rattle.refusals.proofs.First.{verdict_passed}
use Rattle.refusals.proofs.FirstLaws.{first_end}
use Rattle.register.specs.Areas.{Areas, zeroed_to}
use Rattle.register.specs.Lists.{assignment_list, assignment_records, behind, counts_of, fibre_list, fibre_records}
use Rattle.register.specs.Plans.{plan_in, span_of}
use Rattle.register.specs.declared.Counts.{Counts}
use Rattle.additions.specs.Adding.{add_counts}
use Rattle.planner.specs.Outcome as Planner
use Rattle.planner.specs.Outcome.{Answer, answer_by, if_accepted}
use Rattle.checker.specs.Rules.{first_broken, first_fault}
use Rattle.checker.specs.Checked.{assignments_in, fibres_in}
use Rattle.two_files.specs.Rows.{has_old, later, row14, two_file_rows, two_record_rows}
use Rattle.adder.specs.Table.{add_table, old_rows, room_rows, row13, unfit}
use Rattle.adder.specs.Outcome.{Outcome, grown_assignments, grown_fibres, grown_numbers, grown_plan, judged, old_plan}
use Rattle.adder.specs.Additions.{none_named}
use Rattle.adder.specs.declared.Named.{Named}
use Rattle.adder.proofs.Leaves.{due}
use Rattle.adder.proofs.Answers.{planned_so}

-- NOTHING NEW. What is left is what was there, and the three numbers are those of the old plan
pub nothing_new : (line : Line) (old : List ℕ) (named : Named) (before after : Areas) (counts : Counts) → Outcome line old [] named before after (Ok counts)
    → (after.fibres ≡ before.fibres) × (after.assigns ≡ before.assigns) × (counts ≡ counts_of (old_plan named before) (floor line.links line.wavelengths (circuits_of old)))
unfolding behind fibre_list assignment_list fibre_records assignment_records circuits_in each add_counts
nothing_new line old named before after counts o =
    let q = planned_so line old [] named before after (Ok counts) o counts refl in
    let k = named.fibres in
    let same = (due line old [] named before q.0).nothing_new in
    let none-new : drop k (grown_plan line old [] named before).fibres ≡ [] =
    ap (λ (p : Plan). drop k p.fibres) same
    ∙ (unfold plan_in in drop_of_length-le (old_plan named before).fibres {i = k} (omega (arith, length_each (λ i. span_of (fibre_of (record_at before.fibres i))) 0 k))) in (
      ap (λ (a : Areas). a.fibres) q.2 ∙ ap (λ fs. take (8 * k) before.fibres ++ fibre_list k fs (drop (8 * k) before.fibres)) none-new ∙ take-append-drop (8 * k) before.fibres,
      ap (λ (a : Areas). a.assigns) q.2 ∙ take-append-drop (8 * named.assignments) before.assigns,
      q.1 ∙ (λ i. counts_of (same i) (floor line.links line.wavelengths (append-nil (circuits_of old) i))),
    )

-- NOTHING OLD. A place that counts on from no record
later_none : (row : Row) → later 0 row ≡ row
later_none none = refl
later_none (some r) = λ i. some (record { reason = r.reason; place = zero-add r.place i; end = r.end })

-- the plan of nothing is fit
nothing_fit : (line : Line) (fibres assigns : List ℕ) → row13 line [] none_named fibres assigns ≡ none
unfolding unfit first_broken first_fault first_record seek circuits_in fibres_in assignments_in each
nothing_fit line fibres assigns = refl

-- no number is an old one
none_old : (s : List ℕ) (m : ℕ) → row14 [] 0 s m ≡ none
unfolding has_old any
none_old s m = ap (λ o. later 0 (wherever NumberTaken no_end o)) (first_end (has_old [] 0 s) m (λ j h. refl))

-- the tests are those of `plan`
judged_same : (line : Line) (s : List ℕ) (lent : Areas) → judged line [] s none_named lent ≡ Planner.judged line s lent
unfolding judged Planner.judged verdict add_table two_file_rows two_record_rows room_rows old_rows plan_table circuit_rows file_rows line_rows record_rows area_rows first_record seek
judged_same line s lent =
    let n = line.links in
    let m = length s / 8 in
    let e = zero-add m in
    let seven = later_none (row7 s m) in
    let thirteen = nothing_fit line lent.fibres lent.assigns in
    let fourteen = none_old s m in
    λ i. verdict
    (row1 [] ∷ row1 s ∷ row2 (e i) ∷ (line_rows line
    ++ (row5 s (e i) ∷ row6 n s (e i) ∷ row7 [] 0 ∷ seven i ∷ row8 (e i) (length lent.fibres) ∷ row9 (e i) (length lent.assigns) ∷ row10 n (e i) (length lent.work) ∷ thirteen i ∷ fourteen i ∷ [])))
    (e i)

-- the addition is R-1's plan
nothing_plan : (line : Line) (s : List ℕ) (lent : Areas) → NoneApplies (add_table line [] s none_named lent) → grown_plan line [] s none_named lent ≡ Planner.plan_of line s
unfolding plan_in circuits_in each
nothing_plan line s lent passed = (due line [] s none_named lent passed).to_nothing

-- so an addition to nothing is a call of `plan`, refused or planned
pub nothing_old : (line : Line) (s : List ℕ) (before after : Areas) (answer : Answer) → Outcome line [] s none_named before after answer → Planner.Outcome line s before after answer
unfolding judged behind add_counts circuits_in each
nothing_old line s before after answer o = go (judged line [] s none_named before) refl o.answered o.listed o.assigned o.cleared
  where
    zeros : ℕ → List ℕ
    zeros x = zeroed_to (4 * line.links + 4 * x) before.work

    go : (t : Result ℕ Refusal) → judged line [] s none_named before ≡ t → answer ≡ answer_by t (grown_numbers line [] s none_named before)
        → after.fibres ≡ if_accepted t (grown_fibres line [] s none_named before) before.fibres → after.assigns ≡ if_accepted t (grown_assignments line [] s none_named before) before.assigns
        → after.work ≡ if_accepted t (zeros (0 + length s / 8)) before.work → Planner.Outcome line s before after answer
    go (Err r) j a f g h =
        let k : Planner.judged line s before ≡ Err r = sym (judged_same line s before) ∙ j in
        let kept : (made had : List ℕ) → if_accepted (Planner.judged line s before) made had ≡ had = λ made had. ap (λ (t : Result ℕ Refusal). if_accepted t made had) k in
        record {
          answered = a ∙ sym (ap (λ (t : Result ℕ Refusal). answer_by t (Planner.numbers_of line s)) k);
          listed = f ∙ sym (kept _ before.fibres);
          assigned = g ∙ sym (kept _ before.assigns);
          cleared = h ∙ sym (kept _ before.work);
        }
    go (Ok m) j a f g h =
        let k : Planner.judged line s before ≡ Ok m = sym (judged_same line s before) ∙ j in
        let made : (wrote had : List ℕ) → if_accepted (Planner.judged line s before) wrote had ≡ wrote = λ wrote had. ap (λ (t : Result ℕ Refusal). if_accepted t wrote had) k in
        let p = nothing_plan line s before (verdict_passed (add_table line [] s none_named before) (0 + length s / 8) m j).1 in
        record {
          answered = a ∙ ap (λ (q : Plan). Ok (counts_of q (floor line.links line.wavelengths (circuits_of s)))) p ∙ sym (ap (λ (t : Result ℕ Refusal). answer_by t (Planner.numbers_of line s)) k);
          listed = f ∙ ap (λ (q : Plan). fibre_list 0 q.fibres before.fibres) p ∙ sym (made _ before.fibres);
          assigned = g ∙ ap (λ (q : Plan). assignment_list 0 (circuits_of s) q.assignments before.assigns) p ∙ sym (made _ before.assigns);
          cleared = h ∙ ap zeros (zero-add (length s / 8)) ∙ sym (made _ before.work);
        }
