-- From the verdict of the tests to the outcome of `plan_whole`. Assumes nothing.
use Prim.Native.Nat.{ℕ, ◌+◌, ◌*◌, ◌/◌, ◌≤◌}
use mathlib.Core.Bool.{Bool, true, false, ◌||◌}
use mathlib.Core.List.{List, [], ◌∷◌}
use mathlib.Core.Option.{none, some}
use mathlib.Core.Path.{◌≡◌, refl, ap, ◌∙◌, sym, subst}
use native.Mathlib.Omega.{arith}
use lib.Dec.{ltb}
use lib.ListN.{length}
use borrow.Author.Tests.{ltb-false}
use Rattle.records.specs.Records.{circuits_in, circuits_of}
use Rattle.records.specs.declared.Line.{Line}
use Rattle.refusals.specs.Given.{NoneApplies}
use Rattle.refusals.specs.Table.{Row, plan_table, tested, verdict, whenever}
use Rattle.std.specs.Prelude.{Result, Ok, Err}
use Rattle.refusals.specs.declared.Refusal.{Refusal}
use Rattle.refusals.specs.declared.Reason.TheVariants.{SheetRoom}
use Rattle.refusals.proofs.Chain.{piece_leaves}
use Rattle.refusals.proofs.First.{verdict_passed}
use Rattle.refusals.proofs.Pieces.{none_first, none_left, none_right}
use Rattle.register.specs.Areas.{Areas, zeroed_to}
use Rattle.register.specs.Lists.{assignment_list, fibre_list}
use Rattle.register.specs.declared.Counts.{Counts}
use Rattle.rows.specs.Accepted.{Accepted}
use Rattle.planner.specs.Outcome.{Answer, answer_by, if_accepted, numbers_of, plan_of, table_for}
use Rattle.planner.specs.Settled.{Admitted, Settled}
use Rattle.planner.proofs.Accepting.{accepted, of_circuits, rooms}
use Rattle.whole_sheet.specs.Cells.{cell_count, sheet_list}
use Rattle.whole_sheet.specs.WholeOutcome.{WholeOutcome, count_for, judged_whole, row21, whole_for, whole_table}

-- the tests of the planner passed: they found how many circuits there are
pub plan_counted : (line : Line) (s : List ℕ) (fibres assigns work y : ℕ) (t : Result ℕ Refusal) → t ≡ verdict (plan_table line s fibres assigns work) (length s / 8) → t ≡ Ok y
    → y ≡ length s / 8
plan_counted line s fibres assigns work y t a b = (verdict_passed (plan_table line s fibres assigns work) (length s / 8) y (sym a ∙ b)).0

-- and the file is accepted
pub plan_accepted : (line : Line) (s : List ℕ) (fibres assigns work y : ℕ) (t : Result ℕ Refusal) → t ≡ verdict (plan_table line s fibres assigns work) (length s / 8) → t ≡ Ok y
    → Accepted line.links line.wavelengths y s
plan_accepted line s fibres assigns work y t a b =
    rw (plan_counted line s fibres assigns work y t a b)
    (accepted line s (of_circuits line s fibres assigns work (verdict_passed (plan_table line s fibres assigns work) (length s / 8) y (sym a ∙ b)).1))

-- the last row of a table is refused
row_gives : (row : Row) (x z : ℕ) (r : Refusal) → tested row z ≡ Err r → verdict (row ∷ []) x ≡ Err r
unfolding verdict
row_gives none x z r e = cc
row_gives (some q) x z r e = e

-- or passed
row_leaves : (row : Row) (x z y : ℕ) → tested row z ≡ Ok y → verdict (row ∷ []) x ≡ Ok x
unfolding verdict
row_leaves none x z y e = refl
row_leaves (some q) x z y e = cc

-- the tests of the planner passed, and 21 is refused
pub room_gives : (line : Line) (s : List ℕ) (fibres assigns work sheet y z : ℕ) (r : Refusal) → verdict (plan_table line s fibres assigns work) (length s / 8) ≡ Ok y
    → tested (row21 (count_for line s) sheet) z ≡ Err r → verdict (whole_table line s fibres assigns work sheet) (length s / 8) ≡ Err r
unfolding whole_table
room_gives line s fibres assigns work sheet y z r a b =
    piece_leaves (plan_table line s fibres assigns work) (row21 (count_for line s) sheet ∷ []) (length s / 8) (length s / 8) y a ∙ row_gives (row21 (count_for line s) sheet) (length s / 8) z r b

-- or passed
pub room_leaves : (line : Line) (s : List ℕ) (fibres assigns work sheet y z x : ℕ) → verdict (plan_table line s fibres assigns work) (length s / 8) ≡ Ok y
    → tested (row21 (count_for line s) sheet) z ≡ Ok x → verdict (whole_table line s fibres assigns work sheet) (length s / 8) ≡ Ok (length s / 8)
unfolding whole_table
room_leaves line s fibres assigns work sheet y z x a b =
    piece_leaves (plan_table line s fibres assigns work) (row21 (count_for line s) sheet ∷ []) (length s / 8) (length s / 8) y a ∙ row_leaves (row21 (count_for line s) sheet) (length s / 8) z x b

-- 21 does not apply: both of its tests failed
neither : (a b : Bool) → whenever SheetRoom (a || b) ≡ none → (a ≡ false) × (b ≡ false)
neither true b e = (cc, cc)
neither false true e = (refl, cc)
neither false false e = (refl, refl)

module _ (line : Line) (s : List ℕ) (before : Areas) (sheet : List ℕ) where
  -- all tests passed, so no row applies
  none_applies : (m : ℕ) → judged_whole line s before sheet ≡ Ok m → (m ≡ length s / 8) × NoneApplies (whole_for line s before sheet)
  unfolding judged_whole
  none_applies m j = verdict_passed (whole_for line s before sheet) (length s / 8) m j

  -- none of the planner's
  pub of_plan : NoneApplies (whole_for line s before sheet) → NoneApplies (table_for line s before)
  unfolding whole_table
  of_plan p = none_left (table_for line s before) _ p

  -- the sheet has at most 65,536 cells
  pub of_size : NoneApplies (whole_for line s before sheet) → count_for line s ≤ 65536
  unfolding whole_table
  of_size p = ltb-false 65536 (count_for line s) (neither _ (ltb (length sheet) (count_for line s)) (none_first _ _ (none_right (table_for line s before) _ p))).0

  -- and there is room for them
  pub of_sheet : NoneApplies (whole_for line s before sheet) → count_for line s ≤ length sheet
  unfolding whole_table
  of_sheet p = ltb-false (length sheet) (count_for line s) (neither (ltb 65536 (count_for line s)) _ (none_first _ _ (none_right (table_for line s before) _ p))).1

  module _ (m : ℕ) (t : Result ℕ Refusal) (a : t ≡ verdict (whole_for line s before sheet) (length s / 8)) (b : t ≡ Ok m) where
    -- the verdict
    judged_is : judged_whole line s before sheet ≡ Ok m
    unfolding judged_whole
    judged_is = sym a ∙ b

    -- m circuits passed the tests: they may be planned
    pub admitted : Admitted line.links line.wavelengths m 0 s before
    admitted =
        let p = none_applies m judged_is in
        let q = of_plan p.1 in
        let r = rooms line s _ _ _ q in
        let whole = accepted line s (of_circuits line s _ _ _ q) in
        let few = whole.file.few in
        subst (λ (k : ℕ). Admitted line.links line.wavelengths k 0 s before) (sym p.0)
        (record { accepted = whole; fibre_room = r.0; assign_room = r.1; work_room = r.2; number_room = omega arith })

    -- and drawn
    pub sheet_roomy : cell_count line.links line.wavelengths (circuits_in m s) ≤ length sheet
    sheet_roomy =
        let p = none_applies m judged_is in
        subst (λ (k : ℕ). cell_count line.links line.wavelengths (circuits_in k s) ≤ length sheet) (sym p.0) (of_sheet p.1)

    -- where all tests passed the circuits are planned, and the sheet is drawn
    pub planned : (after : Areas) (sheet' : List ℕ) (counts : Counts) → Settled line.links line.wavelengths m 0 s before after counts
        → sheet' ≡ sheet_list line.links line.wavelengths (circuits_in m s) sheet → WholeOutcome line s before after sheet sheet' (Ok counts)
    planned after sheet' counts o d =
        let j = judged_is in
        let e = (none_applies m j).0 in
        let o' : Settled line.links line.wavelengths (length s / 8) 0 s before after counts =
        subst (λ (k : ℕ). Settled line.links line.wavelengths k 0 s before after counts) e o in
        let d' : sheet' ≡ sheet_list line.links line.wavelengths (circuits_of s) sheet = d ∙ ap (λ (k : ℕ). sheet_list line.links line.wavelengths (circuits_in k s) sheet) e in
        let r = o'.registered in
        record {
          answered = ap Ok r.counted ∙ sym (ap (λ (x : Result ℕ Refusal). answer_by x (numbers_of line s)) j);
          listed = r.listed ∙ sym (ap (λ (x : Result ℕ Refusal). if_accepted x (fibre_list 0 (plan_of line s).fibres before.fibres) before.fibres) j);
          assigned = r.assigned ∙ sym (ap (λ (x : Result ℕ Refusal). if_accepted x (assignment_list 0 (circuits_of s) (plan_of line s).assignments before.assigns) before.assigns) j);
          cleared = o'.cleared ∙ sym (ap (λ (x : Result ℕ Refusal). if_accepted x (zeroed_to (4 * line.links + 4 * (length s / 8)) before.work) before.work) j);
          drawn = d' ∙ sym (ap (λ (x : Result ℕ Refusal). if_accepted x (sheet_list line.links line.wavelengths (circuits_of s) sheet) sheet) j);
        }

  -- a refusal changes nothing
  pub refused : (t : Result ℕ Refusal) (r : Refusal) (answer : Answer) → t ≡ verdict (whole_for line s before sheet) (length s / 8) → t ≡ Err r → answer ≡ Err r
      → WholeOutcome line s before before sheet sheet answer
  unfolding judged_whole
  refused t r answer a b e =
      let j : judged_whole line s before sheet ≡ Err r = sym a ∙ b in
      record {
        answered = e ∙ sym (ap (λ (x : Result ℕ Refusal). answer_by x (numbers_of line s)) j);
        listed = sym (ap (λ (x : Result ℕ Refusal). if_accepted x (fibre_list 0 (plan_of line s).fibres before.fibres) before.fibres) j);
        assigned = sym (ap (λ (x : Result ℕ Refusal). if_accepted x (assignment_list 0 (circuits_of s) (plan_of line s).assignments before.assigns) before.assigns) j);
        cleared = sym (ap (λ (x : Result ℕ Refusal). if_accepted x (zeroed_to (4 * line.links + 4 * (length s / 8)) before.work) before.work) j);
        drawn = sym (ap (λ (x : Result ℕ Refusal). if_accepted x (sheet_list line.links line.wavelengths (circuits_of s) sheet) sheet) j);
      }
