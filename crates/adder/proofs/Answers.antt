-- Every outcome of `add`, for what a caller sees. Assumes nothing.
use Prim.Native.Nat.{ℕ, ◌+◌, ◌*◌, ◌/◌, ◌%◌}
use mathlib.Core.Path.{◌≡◌, refl, ap, ◌∙◌, sym, subst}
use mathlib.Core.Bool.{not}
use mathlib.Core.List.{List, [], ◌++◌}
use mathlib.Core.Option.{some}
use native.Mathlib.Omega.{arith}
use lib.ListN.{length}
use lib.Dec.{eqb, ltb}
use Rattle.std.specs.Prelude.{Result, Ok, Err}
use Rattle.records.specs.declared.Line.{Line}
use Rattle.refusals.specs.declared.Reason.TheVariants.{PartRecord, TooManyCircuits, FibreRoom, AssignmentRoom, WorkRoom, UnfitPlan, NumberTaken}
use Rattle.refusals.specs.Given.{NoneApplies}
use Rattle.refusals.specs.Ends.{TellsEnd}
use Rattle.refusals.specs.Table.{Row, circuit_rows, file_rows, first_record, line_rows, record_rows}
use Rattle.refusals.specs.Refusals.{refusal_in}
use Rattle.refusals.specs.declared.Refusal.{Refusal}
use Rattle.refusals.proofs.EndLaws.{EachGives, circuits_tell, each_both, each_end, each_more, whole_tells}
use Rattle.refusals.proofs.First.{verdict_given, verdict_passed, verdict_passes, verdict_refused}
use Rattle.register.specs.Areas.{Areas, areas}
use Rattle.register.specs.declared.Counts.{Counts}
use Rattle.planner.specs.Outcome.{Answer, answer_by, if_accepted}
use Rattle.two_files.specs.Rows.{has_old, two_file_rows, two_record_rows}
use Rattle.two_files.proofs.Told.{later_tells, two_records_tell}
use Rattle.adder.specs.Table.{add_table, old_rows, room_rows, unfit}
use Rattle.adder.specs.Outcome.{Outcome, grown_numbers, judged}
use Rattle.adder.specs.Seen.{Seen, Seen1, Seen2}
use Rattle.adder.specs.declared.Named.{Named}
use Rattle.adder.proofs.Leaves.{add_passes, fit_passes, passes_fit}
use Rattle.adder.proofs.Written.{grown_areas, seen_grown}

-- AN ANSWER BY A VERDICT t, with lent areas that are changed to `made` only where it accepts
module _ (t : Result ℕ Refusal) (numbers : Counts) (answer : Answer) (before made after : Areas) (answered : answer ≡ answer_by t numbers)
    (listed : after.fibres ≡ if_accepted t made.fibres before.fibres) (assigned : after.assigns ≡ if_accepted t made.assigns before.assigns)
    (cleared : after.work ≡ if_accepted t made.work before.work) where
  -- a refusal is the verdict's, and changes nothing
  refused_by : (r : Refusal) → refusal_in answer ≡ some r → (t ≡ Err r) × (after ≡ before)
  refused_by r e = go t answered listed assigned cleared
    where
      go : (t : Result ℕ Refusal) → answer ≡ answer_by t numbers → after.fibres ≡ if_accepted t made.fibres before.fibres → after.assigns ≡ if_accepted t made.assigns before.assigns
          → after.work ≡ if_accepted t made.work before.work → (t ≡ Err r) × (after ≡ before)
      go (Ok m) a f g h = let z = sym (ap refusal_in a) ∙ e in cc
      go (Err q) a f g h = let z = sym (ap refusal_in a) ∙ e in (let y : q ≡ r = cc in ap Err y, λ i. areas (f i) (g i) (h i))

  -- where it is planned the verdict accepts, the numbers are those, and the areas are so made
  planned_by : (counts : Counts) → answer ≡ Ok counts → (m : ℕ) × (t ≡ Ok m) × (counts ≡ numbers) × (after ≡ made)
  planned_by counts e = go t answered listed assigned cleared
    where
      go : (t : Result ℕ Refusal) → answer ≡ answer_by t numbers → after.fibres ≡ if_accepted t made.fibres before.fibres → after.assigns ≡ if_accepted t made.assigns before.assigns
          → after.work ≡ if_accepted t made.work before.work → (m : ℕ) × (t ≡ Ok m) × (counts ≡ numbers) × (after ≡ made)
      go (Ok m) a f g h = let z : ◌≡◌ {A = Answer} (Ok numbers) (Ok counts) = sym a ∙ e in (m, refl, cc, λ i. areas (f i) (g i) (h i))
      go (Err q) a f g h = let z = sym e ∙ a in cc

-- no test of the line is about ends: without records there is none, and it is the same test
line_tells : (line : Line) (m : ℕ) (s : List ℕ) → EachGives (TellsEnd line.links m s) (line_rows line)
unfolding circuit_rows file_rows line_rows record_rows
line_tells line m s =
    let P : Refusal → Type 0 = TellsEnd line.links m s in
    let t = circuits_tell line [] in
    let here : (r : Refusal) → TellsEnd line.links 0 [] r → P r = λ r e. record { six = λ q. absurd (omega (arith, (e.six q).there)); other = e.other } in
    each_more P _ _ (λ r e. here r (t.at 2 r (omega arith) e))
    (each_more P _ _ (λ r e. here r (t.at 3 r (omega arith) e))
    (each_more P _ _ (λ r e. here r (t.at 4 r (omega arith) e)) (each_end P)))

-- each refusal of the table tells the end of the joined file's record at its place, or 0
add_tells : (line : Line) (old new : List ℕ) (named : Named) (lent : Areas)
    → EachGives (TellsEnd line.links (length old / 8 + length new / 8) (old ++ new)) (add_table line old new named lent)
unfolding add_table two_file_rows room_rows old_rows
add_tells line old new named lent =
    let n = line.links in
    let k = length old / 8 in
    let m = length new / 8 in
    let P : Refusal → Type 0 = TellsEnd n (k + m) (old ++ new) in
    let whole = whole_tells n (k + m) (old ++ new) in
    each_more P _ _ (whole PartRecord (not (eqb (length old % 8) 0)) (λ z. omega arith))
    (each_more P _ _ (whole PartRecord (not (eqb (length new % 8) 0)) (λ z. omega arith))
    (each_more P _ _ (whole TooManyCircuits (ltb 2048 (k + m)) (λ z. omega arith))
    (each_both P (line_rows line) _ (line_tells line (k + m) (old ++ new))
    (each_both P (two_record_rows n k m old new) _ (two_records_tell n k m old new)
    (each_more P _ _ (whole FibreRoom (ltb (length lent.fibres) (8 * (named.fibres + m))) (λ z. omega arith))
    (each_more P _ _ (whole AssignmentRoom (ltb (length lent.assigns) (8 * (named.assignments + m))) (λ z. omega arith))
    (each_more P _ _ (whole WorkRoom (ltb (length lent.work) (4 * n + 4 * (k + m))) (λ z. omega arith))
    (each_more P _ _ (whole UnfitPlan (unfit line old named lent.fibres lent.assigns) (λ z. omega arith))
    (each_more P _ _ (later_tells n (k + m) (old ++ new) k NumberTaken (first_record (has_old old k new) m) (λ z. omega arith))
    (each_end P))))))))))

module _ (line : Line) (old new : List ℕ) (named : Named) (before : Areas) where
  -- the table of refusals
  abbrev table : List Row
  table = add_table line old new named before

  -- how many circuits there are in both files
  abbrev all : ℕ
  all = length old / 8 + length new / 8

  -- the areas of an addition that is planned
  abbrev made : Areas
  made = grown_areas line old new named before

  module _ (after : Areas) (answer : Answer) (o : Outcome line old new named before after answer) where
    -- a refusal is the verdict's, and changes nothing
    refused_so : (r : Refusal) → refusal_in answer ≡ some r → (judged line old new named before ≡ Err r) × (after ≡ before)
    refused_so = refused_by _ (grown_numbers line old new named before) answer before made after o.answered o.listed o.assigned o.cleared

    -- a planned answer has the grown plan's numbers, and the areas are written
    pub planned_so : (counts : Counts) → answer ≡ Ok counts → NoneApplies table × (counts ≡ grown_numbers line old new named before) × (after ≡ made)
    unfolding judged
    planned_so counts e =
        let p = planned_by _ (grown_numbers line old new named before) answer before made after o.answered o.listed o.assigned o.cleared counts e in
        ((verdict_passed table all p.0 p.1).1, p.2, p.3)

    -- demand 1
    pub seen_1 : Seen1 line old new named before after answer
    unfolding judged
    seen_1 =
        let by : Result ℕ Refusal → Answer = λ t. answer_by t (grown_numbers line old new named before) in
        let planned : NoneApplies table → (counts : Counts) × (answer ≡ Ok counts) =
        λ f. (grown_numbers line old new named before, o.answered ∙ ap by (verdict_passes table all f)) in
        record {
          as_tabled = λ r e. verdict_refused table all r (refused_so r e).0;
          whenever_tabled = λ r g. ap refusal_in (o.answered ∙ ap by (verdict_given table all r g));
          otherwise_planned = planned;
          planned_if = λ p.
              planned
              (add_passes line old new named before p.old_whole p.new_whole p.joined p.fit p.fibre_room p.assignment_room p.work_room);
          end_told = λ r e. (let g = verdict_refused table all r (refused_so r e).0 in (add_tells line old new named before).at g.index r g.below g.here);
          unchanged = λ r e. (refused_so r e).1;
          fit_passes = fit_passes line old named before;
          passes_fit = passes_fit line old named before;
        }

    -- demand 2
    pub seen_2 : (counts : Counts) → answer ≡ Ok counts → Seen2 line old new named before after counts
    seen_2 counts e =
        let p = planned_so counts e in
        subst (λ (lent : Areas). Seen2 line old new named before lent counts) (sym p.2)
        (subst (Seen2 line old new named before made) (sym p.1) (seen_grown line old new named before p.0))

-- every call of `add` meets the demands
pub seen : (line : Line) (old new : List ℕ) (named : Named) (before after : Areas) (answer : Answer) → Outcome line old new named before after answer
    → Seen line old new named before after answer
seen line old new named before after answer o =
    record { demand_1 = seen_1 line old new named before after answer o; demand_2 = seen_2 line old new named before after answer o }
