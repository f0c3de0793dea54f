-- After `plan` the lists hold what the answer counts, and the text made of them is that of the sheet. Assumes nothing.
use Prim.Native.Nat.{ℕ, zero, suc, ◌+◌, ◌*◌, ◌/◌, ◌≤◌}
use mathlib.Core.Path.{◌≡◌, refl, ap, subst, sym, ◌∙◌}
use mathlib.Core.List.{List, ◌++◌}
use native.Mathlib.Omega.{arith}
use lib.ListN.{length, drop}
use lib.Seq.{take_at}
use Rattle.std.specs.Prelude.{Result, Ok, Err}
use Rattle.records.specs.Records.{assignment_of, circuits_of, fibre_of, record_at}
use Rattle.records.specs.declared.Line.{Line}
use Rattle.records.proofs.Files.{length_circuits_in}
use Rattle.method.specs.Fibres.{floor}
use Rattle.method.specs.Line.{total}
use Rattle.method.specs.LitDemands.{LitDemand, lit_fibres}
use Rattle.refusals.specs.Given.{NoneApplies}
use Rattle.refusals.specs.Table.{verdict, circuit_rows, area_rows, plan_table}
use Rattle.refusals.specs.declared.Refusal.{Refusal}
use Rattle.refusals.specs.declared.Reason.TheVariants.{FibreRoom, AssignmentRoom, WorkRoom}
use Rattle.refusals.proofs.Chain.{piece_gives}
use Rattle.refusals.proofs.First.{verdict_passed, verdict_passes}
use Rattle.refusals.proofs.Passed.{passes_room}
use Rattle.refusals.proofs.Pieces.{none_both, none_end, none_more}
use Rattle.register.specs.Areas.{Areas}
use Rattle.register.specs.Lists.{counts_of, fibre_list, fibre_records, assignment_list, assignment_records}
use Rattle.register.proofs.Reading.{length_assignment_records, length_fibre_records}
use Rattle.rows.specs.Accepted.{Accepted}
use Rattle.planner.specs.Outcome.{Answer, Outcome, answer_by, if_accepted, judged, numbers_of, plan_of, table_for}
use Rattle.planner.proofs.Accepting.{accepted, promised}
use Rattle.checker.proofs.Planned.{taken_record}
use Rattle.sheet_text.specs.Text.{circuit_line, circuit_lines, fibre_line, fibre_lines, sheet_text, total_line}
use Rattle.text.specs.Wrote.{Wrote}
use Rattle.prints.specs.Sheets.{plan_text, sheet_of, text_by}
use Rattle.prints.specs.inner.Lent.{answer_text, Held, Ample}

-- what stands behind records does not change them
record_front : (xs rest : List ℕ) (i : ℕ) → 8 * i + 8 ≤ length xs → record_at (xs ++ rest) i ≡ record_at xs i
record_front xs rest i h = sym (taken_record (length xs) (xs ++ rest) i h) ∙ ap (λ (t : List ℕ). record_at t i) (take_at xs rest (length xs) refl)

-- nor the lines of fibre records
fibre_lines_lem : (k : ℕ) (xs rest : List ℕ) → 8 * k ≤ length xs → fibre_lines k (xs ++ rest) ≡ fibre_lines k xs
unfolding fibre_lines
fibre_lines_lem zero xs rest h = refl
fibre_lines_lem (suc k) xs rest h = λ i. fibre_lines_lem k xs rest (omega arith) i ++ fibre_line (fibre_of (record_front xs rest k (omega arith) i))

-- nor those of assignment records
circuit_lines_lem : (grid m : ℕ) (xs rest : List ℕ) → 8 * m ≤ length xs → circuit_lines grid m (xs ++ rest) ≡ circuit_lines grid m xs
unfolding circuit_lines
circuit_lines_lem grid zero xs rest h = refl
circuit_lines_lem grid (suc m) xs rest h = λ i. circuit_lines_lem grid m xs rest (omega arith) i ++ circuit_line grid (assignment_of (record_front xs rest m (omega arith) i))

-- so the sheet of two lists is that of the records which were written at their start
pub sheet_cut : (grid k m total floor : ℕ) (xs ys fibres₀ fibres assigns₀ assigns : List ℕ) → Wrote xs (8 * k) fibres₀ fibres → Wrote ys (8 * m) assigns₀ assigns
    → sheet_text grid k m fibres assigns total floor ≡ sheet_text grid k m xs ys total floor
unfolding sheet_text
sheet_cut grid k m total floor xs ys fibres₀ fibres assigns₀ assigns v w =
    let one = ap (fibre_lines k) v.1 ∙ fibre_lines_lem k xs (drop (8 * k) fibres₀) (omega (arith, v.0)) in
    let two = ap (circuit_lines grid m) w.1 ∙ circuit_lines_lem grid m ys (drop (8 * m) assigns₀) (omega (arith, w.0)) in
    λ i. one i ++ two i ++ total_line k total floor

-- more room does no harm
wider : (a : Answer) (m : ℕ) (fibres assigns : List ℕ) (room more : ℕ) → room ≤ more → Held a m fibres assigns room → Held a m fibres assigns more
wider (Ok counts) m fibres assigns room more h z = (z.0, z.1, z.2, z.3, omega (arith, h, z.4))
wider (Err r) m fibres assigns room more h z = omega (arith, h, z)

module _ (line : Line) (s : List ℕ) (before : Areas) (ample : Ample before.fibres before.assigns before.work) where
  -- the method's plan, and how many circuits
  many : length (circuits_of s) ≡ length s / 8
  many = length_circuits_in (length s / 8) s

  module _ (passed : NoneApplies (circuit_rows line s)) where
    -- what the tests left
    took : Accepted line.links line.wavelengths (length s / 8) s
    took = accepted line s passed

    -- the lent areas are long enough, so no test of them applies
    areas_pass : NoneApplies (area_rows line.links (length s / 8) (length before.fibres) (length before.assigns) (length before.work))
    unfolding area_rows
    areas_pass =
        let m = length s / 8 in
        let few = took.file.few in
        let short = took.file.line in
        let a = ample.fibres_ample in
        let b = ample.assigns_ample in
        let c = ample.work_ample in
        none_more _ _ (passes_room FibreRoom (8 * m) (length before.fibres) (omega arith))
        (none_more _ _ (passes_room AssignmentRoom (8 * m) (length before.assigns) (omega arith))
        (none_more _ _ (passes_room WorkRoom (4 * line.links + 4 * m) (length before.work) (omega arith)) none_end))

    -- all tests pass
    pub all_pass : judged line s before ≡ Ok (length s / 8)
    unfolding judged plan_table
    all_pass = verdict_passes (table_for line s before) (length s / 8) (none_both (circuit_rows line s) _ passed (none_both _ _ areas_pass none_end))

    -- what is promised of the plan
    due : LitDemand line.links line.wavelengths (circuits_of s)
    due = promised line s passed

    -- it has at most one fibre for each circuit
    few_fibres : length (plan_of line s).fibres ≤ length s / 8
    unfolding lit_fibres
    few_fibres = omega (arith, due.few_fibres, many)

  -- what is said of the answer and the two lists that `plan` left, if the verdict of tests 1 to 7 and 12 was t: the lists hold what is counted, and the text of it is that of the sheet
  abbrev Said : Result ℕ Refusal → Answer → List ℕ → List ℕ → Type 0
  Said t answer fibres assigns =
      Held answer (length s / 8) fibres assigns 147536
      × (answer_text line.grid answer (length s / 8) fibres assigns ≡ text_by t (plan_text line.grid (circuits_of s) (plan_of line s) (floor line.links line.wavelengths (circuits_of s))))

  module _ (after : Areas) (answer : Answer) (o : Outcome line s before after answer) where
    -- where tests 1 to 7 and 12 pass, all do, and the answer has the plan's numbers
    pub is_planned : NoneApplies (circuit_rows line s) → answer ≡ Ok (numbers_of line s)
    is_planned passed = o.answered ∙ ap (λ (t : Result ℕ Refusal). answer_by t (numbers_of line s)) (all_pass passed)

    -- the fibre list then starts with the plan's records
    pub fibres_written : NoneApplies (circuit_rows line s) → Wrote (fibre_records 0 (plan_of line s).fibres) (8 * length (plan_of line s).fibres) before.fibres after.fibres
    unfolding fibre_list
    fibres_written passed =
        let p = plan_of line s in
        (sym (length_fibre_records 0 p.fibres), o.listed ∙ ap (λ (t : Result ℕ Refusal). if_accepted t (fibre_list 0 p.fibres before.fibres) before.fibres) (all_pass passed))

    -- and so does the assignment list
    pub assigns_written : NoneApplies (circuit_rows line s) → Wrote (assignment_records 0 (circuits_of s) (plan_of line s).assignments) (8 * (length s / 8)) before.assigns after.assigns
    unfolding assignment_list
    assigns_written passed =
        let p = plan_of line s in
        let cs = circuits_of s in
        let given = (due passed).rules.valid.all_assigned in (
          omega (arith, many, length_assignment_records 0 cs p.assignments given),
          o.assigned ∙ ap (λ (t : Result ℕ Refusal). if_accepted t (assignment_list 0 cs p.assignments before.assigns) before.assigns) (all_pass passed)
              ∙ ap (λ (k : ℕ). assignment_records 0 cs p.assignments ++ drop (8 * k) before.assigns) many,
        )

    module _ (r : Refusal) (q : verdict (circuit_rows line s) (length s / 8) ≡ Err r) where
      -- where one of them applies, it is the first of all
      first_of_all : judged line s before ≡ Err r
      unfolding judged plan_table
      first_of_all = piece_gives (circuit_rows line s) _ (length s / 8) (length s / 8) r q

      -- the answer then refuses so
      pub is_refused : answer ≡ Err r
      is_refused = o.answered ∙ ap (λ (t : Result ℕ Refusal). answer_by t (numbers_of line s)) first_of_all

      -- and both lists are as they were
      pub lists_left : (after.fibres ≡ before.fibres) × (after.assigns ≡ before.assigns)
      lists_left = (
        o.listed ∙ ap (λ (t : Result ℕ Refusal). if_accepted t (fibre_list 0 (plan_of line s).fibres before.fibres) before.fibres) first_of_all,
        o.assigned ∙ ap (λ (t : Result ℕ Refusal). if_accepted t (assignment_list 0 (circuits_of s) (plan_of line s).assignments before.assigns) before.assigns) first_of_all,
      )

  module _ (after : Areas) (answer : Answer) (long-fibres : length after.fibres ≡ length before.fibres) (long-assigns : length after.assigns ≡ length before.assigns)
      (o : Outcome line s before after answer) where
    -- where the tests pass, the lists hold the plan
    planned : (m : ℕ) → verdict (circuit_rows line s) (length s / 8) ≡ Ok m → Said (Ok m) (Ok (numbers_of line s)) after.fibres after.assigns
    unfolding counts_of plan_text
    planned m q =
        let passed = (verdict_passed (circuit_rows line s) (length s / 8) m q).1 in
        let p = plan_of line s in
        let few = (took passed).file.few in
        let one = few_fibres passed in
        let a = ample.fibres_ample in
        let b = ample.assigns_ample in
        let its_floor = floor line.links line.wavelengths (circuits_of s) in
        let records = assignment_records 0 (circuits_of s) p.assignments in (
          (omega arith, omega arith, omega arith, few, omega arith),
          sheet_cut line.grid (length p.fibres) (length s / 8) (total p.fibres) its_floor (fibre_records 0 p.fibres) records before.fibres after.fibres before.assigns after.assigns
              (fibres_written after answer o passed) (assigns_written after answer o passed)
              ∙ ap (λ (k : ℕ). sheet_text line.grid (length p.fibres) k (fibre_records 0 p.fibres) records (total p.fibres) its_floor) (sym many),
        )

    -- by the verdict of tests 1 to 7 and 12
    said : (t : Result ℕ Refusal) → verdict (circuit_rows line s) (length s / 8) ≡ t → Said t answer after.fibres after.assigns
    said (Ok m) q =
        subst (λ (a : Answer). Said (Ok m) a after.fibres after.assigns) (sym (is_planned after answer o (verdict_passed (circuit_rows line s) (length s / 8) m q).1)) (planned m q)
    said (Err r) q =
        subst (λ (a : Answer). Said (Err r) a after.fibres after.assigns) (sym (is_refused after answer o r q)) (omega arith, refl)

    -- the lists hold what the answer counts
    pub held : (room : ℕ) → 147536 ≤ room → Held answer (length s / 8) after.fibres after.assigns room
    held room h = wider answer (length s / 8) after.fibres after.assigns 147536 room h (said (verdict (circuit_rows line s) (length s / 8)) refl).0

    -- the text made of them is that of the sheet
    pub sheet_made : answer_text line.grid answer (length s / 8) after.fibres after.assigns ≡ sheet_of line s
    unfolding sheet_of
    sheet_made = (said (verdict (circuit_rows line s) (length s / 8)) refl).1
