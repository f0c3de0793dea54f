-- Every outcome of `plan_whole` is as promised. Assumes nothing.
use Prim.Native.Nat.{ℕ, ◌+◌, ◌*◌, ◌/◌}
use mathlib.Core.Bool.{◌||◌}
use mathlib.Core.List.{List}
use mathlib.Core.Option.{some}
use mathlib.Core.Path.{◌≡◌, refl, ap, ◌∙◌, sym, subst}
use native.Mathlib.Omega.{arith}
use lib.Dec.{ltb}
use lib.ListN.{length, take, drop}
use lib.Seq.{drop_at, take_at}
use Rattle.records.specs.Records.{circuits_of}
use Rattle.records.specs.declared.Line.{Line}
use Rattle.refusals.specs.Ends.{TellsEnd}
use Rattle.refusals.specs.Given.{NoneApplies}
use Rattle.std.specs.Prelude.{Result, Ok, Err}
use Rattle.refusals.specs.Refusals.{refusal_in}
use Rattle.refusals.specs.declared.Refusal.{Refusal}
use Rattle.refusals.specs.declared.Reason.TheVariants.{SheetRoom}
use Rattle.refusals.proofs.EndLaws.{EachGives, each_both, each_end, each_more, plan_tells, whole_tells}
use Rattle.refusals.proofs.First.{verdict_given, verdict_passed, verdict_passes, verdict_refused}
use Rattle.register.specs.Areas.{Areas, zeroed_to}
use Rattle.register.specs.Lists.{assignment_list, fibre_list}
use Rattle.register.specs.declared.Counts.{Counts}
use Rattle.planner.specs.Outcome.{Answer, Outcome, answer_by, if_accepted, judged, numbers_of, plan_of, table_for}
use Rattle.planner.proofs.Accepting.{accepted, of_circuits}
use Rattle.planner.proofs.Demands.{seen}
use Rattle.whole_sheet.specs.Cells.{cells, sheet_list}
use Rattle.whole_sheet.specs.WholeOutcome.{WholeOutcome, count_for, judged_whole, whole_for, whole_table}
use Rattle.whole_sheet.specs.WholeSeen.{SamePlan, SheetMeans, SheetSeen, TwoEngines, WholeSeen, WholeSeen1}
use Rattle.whole_sheet.proofs.CellMeanings.{cells_alike, sheet_means}
use Rattle.whole_sheet.proofs.Judged.{of_plan, of_sheet, of_size}
use Rattle.whole_sheet.proofs.RowStarts.{cells_long}

-- each row tells which end is wrong
whole_table_tells : (line : Line) (s : List ℕ) (fibres assigns work sheet : ℕ) → EachGives (TellsEnd line.links (length s / 8) s) (whole_table line s fibres assigns work sheet)
unfolding whole_table
whole_table_tells line s fibres assigns work sheet =
    let P : Refusal → Type 0 = TellsEnd line.links (length s / 8) s in
    each_both P _ _ (plan_tells line s fibres assigns work)
    (each_more P _ _ (whole_tells line.links (length s / 8) s SheetRoom (ltb 65536 (count_for line s) || ltb sheet (count_for line s)) (λ z. omega arith)) (each_end P))

module _ (line : Line) (s : List ℕ) (before after : Areas) (sheet sheet' : List ℕ) (answer : Answer) (o : WholeOutcome line s before after sheet sheet' answer) where
  -- a refusal is the verdict's, and changes nothing
  refused_so : (r : Refusal) → refusal_in answer ≡ some r → (judged_whole line s before sheet ≡ Err r) × (after ≡ before) × (sheet' ≡ sheet)
  refused_so r e = go (judged_whole line s before sheet) refl o.answered o.listed o.assigned o.cleared o.drawn
    where
      go : (t : Result ℕ Refusal) → judged_whole line s before sheet ≡ t → answer ≡ answer_by t (numbers_of line s)
          → after.fibres ≡ if_accepted t (fibre_list 0 (plan_of line s).fibres before.fibres) before.fibres
          → after.assigns ≡ if_accepted t (assignment_list 0 (circuits_of s) (plan_of line s).assignments before.assigns) before.assigns
          → after.work ≡ if_accepted t (zeroed_to (4 * line.links + 4 * (length s / 8)) before.work) before.work
          → sheet' ≡ if_accepted t (sheet_list line.links line.wavelengths (circuits_of s) sheet) sheet
          → (judged_whole line s before sheet ≡ Err r) × (after ≡ before) × (sheet' ≡ sheet)
      go (Ok m) q a f g h d = let z = sym (ap refusal_in a) ∙ e in cc
      go (Err w) q a f g h b =
          let z = sym (ap refusal_in a) ∙ e in
          (q ∙ (let y : w ≡ r = cc in ap Err y), λ i. record { fibres = f i; assigns = g i; work = h i }, b)

  -- a planned answer passed all tests
  passed_so : (counts : Counts) → answer ≡ Ok counts → (m : ℕ) × (judged_whole line s before sheet ≡ Ok m)
  passed_so counts e = go (judged_whole line s before sheet) refl o.answered
    where
      go : (t : Result ℕ Refusal) → judged_whole line s before sheet ≡ t → answer ≡ answer_by t (numbers_of line s) → (m : ℕ) × (judged_whole line s before sheet ≡ Ok m)
      go (Ok m) q a = (m, q)
      go (Err w) q a = let z = sym e ∙ a in cc

  -- demand 1
  seen_1 : WholeSeen1 line s before after sheet sheet' answer
  unfolding judged_whole
  seen_1 =
      record {
        as_tabled = λ r e. verdict_refused (whole_for line s before sheet) (length s / 8) r (refused_so r e).0;
        whenever_tabled = λ r g. ap refusal_in (o.answered ∙ ap (λ (t : Result ℕ Refusal). answer_by t (numbers_of line s)) (verdict_given (whole_for line s before sheet) (length s / 8) r g));
        otherwise_planned = λ f. (numbers_of line s, o.answered ∙ ap (λ (t : Result ℕ Refusal). answer_by t (numbers_of line s)) (verdict_passes (whole_for line s before sheet) (length s / 8) f));
        end_told = λ r e. (let g = verdict_refused (whole_for line s before sheet) (length s / 8) r (refused_so r e).0 in (whole_table_tells line s _ _ _ _).at g.index r g.below g.here);
        unchanged = λ r e. ((refused_so r e).1, (refused_so r e).2);
      }

  module _ (counts : Counts) (e : answer ≡ Ok counts) where
    -- no row applies
    none_left_so : NoneApplies (whole_for line s before sheet)
    unfolding judged_whole
    none_left_so = let p = passed_so counts e in (verdict_passed (whole_for line s before sheet) (length s / 8) p.0 p.1).1

    -- so it is what `plan` answers and writes
    pub as_planned : Outcome line s before after answer
    unfolding judged
    as_planned =
        let p = passed_so counts e in
        let j = p.1 in
        let q : judged line s before ≡ Ok (length s / 8) = verdict_passes (table_for line s before) (length s / 8) (of_plan line s before sheet none_left_so) in
        record {
          answered = o.answered ∙ ap (λ (x : Result ℕ Refusal). answer_by x (numbers_of line s)) j ∙ sym (ap (λ (x : Result ℕ Refusal). answer_by x (numbers_of line s)) q);
          listed = o.listed ∙ ap (λ (x : Result ℕ Refusal). if_accepted x (fibre_list 0 (plan_of line s).fibres before.fibres) before.fibres) j
              ∙ sym (ap (λ (x : Result ℕ Refusal). if_accepted x (fibre_list 0 (plan_of line s).fibres before.fibres) before.fibres) q);
          assigned = o.assigned ∙ ap (λ (x : Result ℕ Refusal). if_accepted x (assignment_list 0 (circuits_of s) (plan_of line s).assignments before.assigns) before.assigns) j
              ∙ sym (ap (λ (x : Result ℕ Refusal). if_accepted x (assignment_list 0 (circuits_of s) (plan_of line s).assignments before.assigns) before.assigns) q);
          cleared = o.cleared ∙ ap (λ (x : Result ℕ Refusal). if_accepted x (zeroed_to (4 * line.links + 4 * (length s / 8)) before.work) before.work) j
              ∙ sym (ap (λ (x : Result ℕ Refusal). if_accepted x (zeroed_to (4 * line.links + 4 * (length s / 8)) before.work) before.work) q);
        }

    -- and the sheet is drawn
    drawn_so : sheet' ≡ sheet_list line.links line.wavelengths (circuits_of s) sheet
    drawn_so = o.drawn ∙ ap (λ (x : Result ℕ Refusal). if_accepted x (sheet_list line.links line.wavelengths (circuits_of s) sheet) sheet) (passed_so counts e).1

    -- with what its cells mean
    sheet_so : SheetSeen line s before after sheet sheet' counts
    unfolding sheet_list
    sheet_so =
        let n = line.links in
        let w = line.wavelengths in
        let y = accepted line s (of_circuits line s _ _ _ (of_plan line s before sheet none_left_so)) in
        let p = ((seen line s before after answer as_planned).demand_2 counts e).the_plan in
        record {
          small = of_size line s before sheet none_left_so;
          room = of_sheet line s before sheet none_left_so;
          meaning = subst (λ q. SheetMeans n w (circuits_of s) q sheet') (sym p) (sheet_means n w (circuits_of s) y.file.lies y.waves.0 sheet' _ drawn_so);
          any_order = λ ds h.
              ap (take (count_for line s)) drawn_so ∙ take_at (cells n w (circuits_of s)) _ (count_for line s) (cells_long n w (circuits_of s) _)
              ∙ cells_alike n w (circuits_of s) ds y.file.lies y.file.distinct h;
          sheet_kept = ap (drop (count_for line s)) drawn_so ∙ drop_at (cells n w (circuits_of s)) _ (count_for line s) (cells_long n w (circuits_of s) _);
        }

-- one call
pub whole_seen : (line : Line) (s : List ℕ) (before after : Areas) (sheet sheet' : List ℕ) (answer : Answer) → WholeOutcome line s before after sheet sheet' answer
    → WholeSeen line s before after sheet sheet' answer
whole_seen line s before after sheet sheet' answer o =
    record {
      demand_1 = seen_1 line s before after sheet sheet' answer o;
      demand_2 = λ counts e. (seen line s before after answer (as_planned line s before after sheet sheet' answer o counts e)).demand_2 counts e;
      demand_3 = λ counts e. (seen line s before after answer (as_planned line s before after sheet sheet' answer o counts e)).demand_3 counts e;
      sheet_seen = sheet_so line s before after sheet sheet' answer o;
    }

-- two calls: where the whole sheet is drawn, `plan` plans too, and the same
pub same_plan : (line : Line) (s : List ℕ) (before after after' : Areas) (sheet sheet' : List ℕ) (answer answer' : Answer) (counts : Counts)
    → TwoEngines line s before after after' sheet sheet' answer answer' → answer' ≡ Ok counts → SamePlan after after' counts answer
same_plan line s before after after' sheet sheet' answer answer' counts t e =
    let x = t.first in
    let y = as_planned line s before after' sheet sheet' answer' t.second counts e in
    record {
      same_answer = x.answered ∙ sym y.answered ∙ e;
      same_fibres = x.listed ∙ sym y.listed;
      same_assigns = x.assigned ∙ sym y.assigned;
      same_work = x.cleared ∙ sym y.cleared;
    }

-- two answers that meet the contract are equal, with every byte of the four lent areas
pub whole_pins : (line : Line) (s : List ℕ) (before after after' : Areas) (sheet sheet₁ sheet₂ : List ℕ) (one two : Answer)
    → WholeOutcome line s before after sheet sheet₁ one → WholeOutcome line s before after' sheet sheet₂ two → (one ≡ two) × (after ≡ after') × (sheet₁ ≡ sheet₂)
whole_pins line s before after after' sheet sheet₁ sheet₂ one two x y = (
  x.answered ∙ sym y.answered,
  λ i. record { fibres = (x.listed ∙ sym y.listed) i; assigns = (x.assigned ∙ sym y.assigned) i; work = (x.cleared ∙ sym y.cleared) i },
  x.drawn ∙ sym y.drawn,
)
