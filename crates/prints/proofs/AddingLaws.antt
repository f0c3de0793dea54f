-- What `adds` keeps and prints, by the answer of `add`. Assumes nothing.
use Prim.Native.Nat.{ℕ, ◌+◌, ◌*◌, ◌/◌, ◌%◌, ◌≤◌}
use mathlib.Core.Path.{◌≡◌, refl, ap, ap₂, subst, sym, ◌∙◌}
use mathlib.Core.Bool.{◌&&◌}
use mathlib.Core.List.{List, ◌++◌, append_assoc}
use Rattle.std.specs.Prelude.{Option, Some, None, Result, Ok, Err}
use native.Mathlib.Omega.{arith}
use lib.Dec.{eqb}
use lib.ListN.{length, length-append, drop, take, take-append-drop}
use lib.Seq.{drop_at, length-take-le, take-take}
use borrow.Author.Tests.{eqb-true}
use Rattle.basics.proofs.Bools.{and_l, and_r, on}
use Rattle.basics.proofs.Tables.{length_each}
use Rattle.records.specs.Records.{assignment_of, circuits_of, record_at}
use Rattle.records.specs.declared.Line.{Line}
use Rattle.records.proofs.Files.{length_circuits_in}
use Rattle.method.specs.Line.{Plan}
use Rattle.refusals.specs.Given.{NoneApplies}
use Rattle.refusals.specs.declared.Refusal.{Refusal}
use Rattle.refusals.proofs.First.{verdict_passed}
use Rattle.refusals.proofs.Pieces.{none_left}
use Rattle.register.specs.Areas.{Areas}
use Rattle.register.specs.Lists.{assignment_records, counts_of, fibre_records}
use Rattle.register.specs.Plans as Plans
use Rattle.register.specs.declared.Counts.{Counts}
use Rattle.register.proofs.Reading.{length_assignment_records}
use Rattle.additions.specs.Adding.{add, add_counts}
use Rattle.planner.specs.Outcome.{Answer, answer_by, if_accepted}
use Rattle.adder.specs.Additions.{Files, plan_of_files}
use Rattle.adder.specs.Outcome.{Outcome}
use Rattle.adder.specs.Outcome as Adder
use Rattle.adder.specs.Seen.{Seen2}
use Rattle.adder.specs.Table.{add_table}
use Rattle.adder.specs.declared.Named.{Named}
use Rattle.adder.proofs.Answers.{planned_so, seen_2}
use Rattle.adder.proofs.Leaves.{due, new_records, old_records, one_each}
use Rattle.adder.proofs.Reading.{assigns_behind, same_start}
use Rattle.adder.proofs.Written.{fibres_start, long_enough}
use Rattle.sheet_text.specs.Text.{sheet_text}
use Rattle.text.specs.Wrote.{Wrote}
use Rattle.text.proofs.Writing.{by_name}
use Rattle.prints.specs.Adding.{both_rows, files_by, files_text, folder_rows, folder_verdict, grown_files, grown_numbers, grown_of, grown_plan, grown_text}
use Rattle.prints.specs.Sheets.{text_by}
use Rattle.prints.specs.declared.adding.Lengths.{Lengths}
use Rattle.prints.specs.inner.Lent.{answer_text, Growable, Held, ListsLaid, old_read, records_read}
use Rattle.prints.proofs.AddingTests.{assign_bytes, both_few, fibre_bytes_lem, judged_so}
use Rattle.prints.proofs.Holding.{sheet_cut}

-- how many bytes of files are told for an answer with m circuits
abbrev pub told : Answer → ℕ → Option Lengths
told (Ok counts) m = Some (record { circuits = 8 * m; fibres = 8 * counts.fibres; assigns = 8 * m })
told (Err r) m = None

-- records behind the first b bytes of a list, and the rest as it was
behind_wrote : (b n : ℕ) (xs written after : List ℕ) → b ≤ length xs → n ≡ b + length written → after ≡ take b xs ++ (written ++ drop (b + length written) xs)
    → Wrote (take b xs ++ written) n xs after
behind_wrote b n xs written after h e q = (
  omega (arith, e, length-append (take b xs) written, length-take-le b xs h),
  q ∙ sym (append_assoc (take b xs) written (drop (b + length written) xs)) ∙ ap (λ (x : ℕ). (take b xs ++ written) ++ drop x xs) (sym e),
)

module _ (line : Line) (s new : List ℕ) (f a : ℕ) (before : Areas) (g : Growable f a before.fibres before.assigns) (work : 10240 ≤ length before.work) (after : Areas) (answer : Answer)
    (o : Outcome line s new (records_read f a) before after answer) where
  -- the old plan, as it was read
  abbrev old : Files
  old = old_read s f before.fibres a before.assigns

  -- how many records both lists have
  abbrev whole : Named
  whole = record { fibres = f / 8; assignments = a / 8 }

  -- how many circuits there are in both files
  abbrev all : ℕ
  all = length s / 8 + length new / 8

  -- the answer is by the verdict on the folder
  by_folder : answer ≡ answer_by (folder_verdict line old new) (Adder.grown_numbers line s new (records_read f a) before)
  by_folder = o.answered ∙ ap (λ (v : Result ℕ Refusal). answer_by v (Adder.grown_numbers line s new (records_read f a) before)) (judged_so line s new f a before g work)

  -- WHERE ITS TESTS PASS
  module _ (m : ℕ) (q : folder_verdict line old new ≡ Ok m) where
    -- it is planned, with these numbers
    abbrev pub counts : Counts
    counts = Adder.grown_numbers line s new (records_read f a) before

    is_planned : answer ≡ Ok counts
    is_planned = by_folder ∙ ap (λ (v : Result ℕ Refusal). answer_by v counts) q

    -- both lists are whole records, for the plan is fit
    are_whole : (f % 8 ≡ 0) × (a % 8 ≡ 0) × (records_read f a ≡ whole)
    unfolding records_read
    are_whole =
        let few : (records_read f a).fibres ≤ 2048 = (seen_2 line s new (records_read f a) before after answer o counts is_planned).passes.fit.few in
        on (eqb (f % 8) 0 && eqb (a % 8) 0)
        (λ t. (eqb-true (f % 8) 0 (and_l (eqb (f % 8) 0) (eqb (a % 8) 0) t), eqb-true (a % 8) 0 (and_r (eqb (f % 8) 0) (eqb (a % 8) 0) t), rw t))
        (λ t. absurd (let z : 2049 ≤ 2048 = rw t at few in omega arith))

    -- so the call named them
    call : Outcome line s new whole before after answer
    call = subst (λ (n : Named). Outcome line s new n before after answer) are_whole.2 o

    -- no test applies, the numbers and the areas are those of the grown plan, and demand 2 holds
    abbrev P : Plan
    P = Adder.grown_plan line s new whole before

    passed : NoneApplies (add_table line s new whole before)
    passed = (planned_so line s new whole before after answer call counts is_planned).0

    made : (counts ≡ Adder.grown_numbers line s new whole before) × (after.fibres ≡ Adder.grown_fibres line s new whole before) × (after.assigns ≡ Adder.grown_assignments line s new whole before)
    made =
        let z = planned_so line s new whole before after answer call counts is_planned in
        (z.1, ap (λ (x : Areas). x.fibres) z.2, ap (λ (x : Areas). x.assigns) z.2)

    two : Seen2 line s new whole before after counts
    two = seen_2 line s new whole before after answer call counts is_planned

    -- the plan in the lent lists is that in the files
    same_plan : Adder.old_plan whole before ≡ plan_of_files old
    same_plan =
        same_start (f / 8) (a / 8) f a before.fibres (take f before.fibres) before.assigns (take a before.assigns) (omega arith) (omega arith)
        (sym (take-take f f before.fibres (omega arith))) (sym (take-take a a before.assigns (omega arith)))
        ∙ ap₂ (λ (x y : ℕ). Plans.plan_in (x / 8) (y / 8) (take f before.fibres) (take a before.assigns)) (sym (fibre_bytes_lem line s new f a before g)) (sym (assign_bytes line s new f a before g))

    -- and so is the grown plan
    same_grown : P ≡ grown_plan line old new
    same_grown = ap (λ (p : Plan). add line.links line.wavelengths (circuits_of s) p (circuits_of new)) same_plan

    pub the_numbers : counts ≡ grown_numbers line old new
    the_numbers = made.0 ∙ ap (λ (p : Plan). add_counts line.links line.wavelengths (circuits_of s) p (circuits_of new)) same_plan

    -- how many fibres it has
    many : counts.fibres ≡ length P.fibres
    unfolding add_counts counts_of
    many = ap (λ (c : Counts). c.fibres) made.0

    -- both files are whole records
    pub eight : (8 * all ≡ length (s ++ new)) × (a / 8 ≡ length s / 8) × (all ≤ 2048)
    unfolding folder_verdict folder_rows
    eight = (
      omega (arith, length-append s new, old_records line s new whole before passed, new_records line s new whole before passed),
      one_each line s whole before two.passes.fit,
      (both_few line s new (none_left (both_rows line s new) _ (verdict_passed (folder_rows line old new) all m q).1)).0,
    )

    -- the lists are long enough
    long : (8 * counts.fibres ≤ length after.fibres) × (8 * all ≤ length after.assigns)
    long =
        let z = long_enough line s new whole before passed in
        (omega (arith, many, ap length made.1, z.0), omega (arith, ap length made.2, z.1, eight.0, length-append s new))

    -- the fibre list starts with the grown file
    pub fibres_written : Wrote (grown_files line old new).fibres (8 * counts.fibres) before.fibres after.fibres
    fibres_written =
        let n : ℕ = 8 * counts.fibres in
        let e : 8 * (f / 8) ≡ f = omega (arith, are_whole.0) in
        let front : take n after.fibres ≡ take f before.fibres ++ fibre_records (f / 8) (drop (f / 8) P.fibres) =
        (λ i. take (8 * many i) (made.1 i)) ∙ fibres_start line s new whole before passed
        ∙ ap (λ (x : ℕ). take x before.fibres ++ fibre_records (f / 8) (drop (f / 8) P.fibres)) e in
        let b = sym (fibre_bytes_lem line s new f a before g) in
        let named : take f before.fibres ++ fibre_records (f / 8) (drop (f / 8) P.fibres) ≡ (grown_files line old new).fibres =
        λ i. take f before.fibres ++ fibre_records (b i / 8) (drop (b i / 8) (same_grown i).fibres) in (
          sym (length-take-le n after.fibres long.0) ∙ ap length (front ∙ named),
          sym (take-append-drop n after.fibres) ∙ ap₂ ◌++◌ (front ∙ named) two.fibres_kept,
        )

    -- one new assignment for each new circuit
    sized : length (drop (a / 8) P.assignments) ≡ length (circuits_of new)
    unfolding Plans.plan_in
    sized =
        let d = (due line s new whole before passed).added in
        ap length
        (ap (drop (a / 8)) d.assignments_after
        ∙ drop_at (Adder.old_plan whole before).assignments d.news (a / 8) (length_each (λ j. Plans.place_of (assignment_of (record_at before.assigns j))) 0 (a / 8)))
        ∙ d.one_each

    -- the assignment list starts with the grown file
    pub assigns_written : Wrote (grown_files line old new).assigns (8 * all) before.assigns after.assigns
    assigns_written =
        let given = drop (a / 8) P.assignments in
        let recs = assignment_records 0 (circuits_of new) given in
        let e : 8 * (a / 8) ≡ a = omega (arith, are_whole.1) in
        let b = sym (assign_bytes line s new f a before g) in
        let named : take a before.assigns ++ recs ≡ (grown_files line old new).assigns =
        λ i. take a before.assigns ++ assignment_records 0 (circuits_of new) (drop (b i / 8) (same_grown i).assignments) in
        by_name (take a before.assigns ++ recs) (grown_files line old new).assigns before.assigns after.assigns (8 * all) named
        (behind_wrote a (8 * all) before.assigns recs after.assigns (omega (arith, g.assigns_behind))
        (omega (arith, eight.1, e, length_assignment_records 0 (circuits_of new) given sized, length_circuits_in (length new / 8) new))
        (made.2 ∙ assigns_behind (a / 8) (circuits_of new) given before.assigns sized ∙ ap (λ (x : ℕ). take x before.assigns ++ (recs ++ drop (x + length recs) before.assigns)) e))

    -- the text is that of the grown files
    text_made : sheet_text line.grid counts.fibres all after.fibres after.assigns counts.total counts.floor ≡ files_text line.grid (grown_files line old new) (grown_numbers line old new)
    unfolding files_text
    text_made =
        let files = grown_files line old new in
        let x : counts.fibres ≡ length files.fibres / 8 = omega (arith, fibres_written.0) in
        let y : all ≡ length files.assigns / 8 = omega (arith, assigns_written.0) in
        sheet_cut line.grid counts.fibres all counts.total counts.floor files.fibres files.assigns before.fibres after.fibres before.assigns after.assigns fibres_written assigns_written
        ∙ (λ i. sheet_text line.grid (x i) (y i) files.fibres files.assigns (the_numbers i).total (the_numbers i).floor)

    -- the lists hold what is counted, and the text has room
    all_held : (room : ℕ) → 213072 ≤ room → Held (Ok counts) all after.fibres after.assigns room
    all_held room h =
        let few : counts.fibres ≤ 4096 = omega (arith, two.few_fibres, two.passes.fit.few, eight.2) in
        (long.0, long.1, few, eight.2, omega (arith, few, eight.2))

  -- BY THE VERDICT: the lists hold what the answer counts
  held_by : (room : ℕ) → 213072 ≤ room → (t : Result ℕ Refusal) → folder_verdict line old new ≡ t → Held answer all after.fibres after.assigns room
  held_by room h (Ok m) q = subst (λ (x : Answer). Held x all after.fibres after.assigns room) (sym (is_planned m q)) (all_held m q room h)
  held_by room h (Err r) q =
      subst (λ (x : Answer). Held x all after.fibres after.assigns room)
      (sym (by_folder ∙ ap (λ (v : Result ℕ Refusal). answer_by v (Adder.grown_numbers line s new (records_read f a) before)) q)) (omega (arith, h))

  pub grown_held : (room : ℕ) → 213072 ≤ room → Held answer all after.fibres after.assigns room
  grown_held room h = held_by room h (folder_verdict line old new) refl

  -- the text is that of the folder
  text_by_lem : (t : Result ℕ Refusal) → folder_verdict line old new ≡ t
      → answer_text line.grid answer all after.fibres after.assigns ≡ text_by t (files_text line.grid (grown_files line old new) (grown_numbers line old new))
  text_by_lem (Ok m) q = ap (λ (x : Answer). answer_text line.grid x all after.fibres after.assigns) (is_planned m q) ∙ text_made m q
  text_by_lem (Err r) q =
      ap (λ (x : Answer). answer_text line.grid x all after.fibres after.assigns) (by_folder ∙ ap (λ (v : Result ℕ Refusal). answer_by v (Adder.grown_numbers line s new (records_read f a) before)) q)

  pub text_grown : answer_text line.grid answer all after.fibres after.assigns ≡ grown_text line old new
  unfolding grown_text
  text_grown = text_by_lem (folder_verdict line old new) refl

  -- and so are the lists
  laid_by : (t : Result ℕ Refusal) → folder_verdict line old new ≡ t → ListsLaid (files_by t (grown_files line old new)) (told answer all) before.fibres after.fibres before.assigns after.assigns
  laid_by (Ok m) q =
      subst (λ (x : Answer). ListsLaid (Some (grown_files line old new)) (told x all) before.fibres after.fibres before.assigns after.assigns) (sym (is_planned m q))
      ((eight m q).0, omega (arith, (eight m q).2), fibres_written m q, assigns_written m q)
  laid_by (Err r) q =
      let verdict-is = judged_so line s new f a before g work ∙ q in
      let e : answer ≡ Err r = by_folder ∙ ap (λ (v : Result ℕ Refusal). answer_by v (Adder.grown_numbers line s new (records_read f a) before)) q in
      subst (λ (x : Answer). ListsLaid None (told x all) before.fibres after.fibres before.assigns after.assigns) (sym e) (
        o.listed ∙ ap (λ (v : Result ℕ Refusal). if_accepted v (Adder.grown_fibres line s new (records_read f a) before) before.fibres) verdict-is,
        o.assigned ∙ ap (λ (v : Result ℕ Refusal). if_accepted v (Adder.grown_assignments line s new (records_read f a) before) before.assigns) verdict-is,
      )

  -- what is laid of an answer that is told by its case
  pub lists_laid : (x : Answer) → answer ≡ x → ListsLaid (grown_of line old new) (told x all) before.fibres after.fibres before.assigns after.assigns
  unfolding grown_of
  lists_laid x e =
      subst (λ (y : Answer). ListsLaid (files_by (folder_verdict line old new) (grown_files line old new)) (told y all) before.fibres after.fibres before.assigns after.assigns) e
      (laid_by (folder_verdict line old new) refl)
