-- What `adds` leaves unread of long files changes nothing, and the check says yes to the files that it keeps. Assumes nothing.
use Prim.Native.Nat.{ℕ, ◌+◌, ◌*◌, ◌/◌, ◌%◌, ◌≤◌}
use mathlib.Core.Path.{◌≡◌, refl, ap, ap₂, sym, ◌∙◌}
use mathlib.Core.Bool.{Bool, true, not}
use mathlib.Core.List.{List, [], ◌∷◌, ◌++◌}
use mathlib.Core.Logic.{◌⊎◌, inl, inr, ⊎_elim}
use native.Mathlib.Omega.{arith}
use lib.Dec.{eqb}
use lib.ListN.{length, length-append, length-replicate, replicate, take}
use lib.Seq.{length-take-le, take_all, take_at, take-take}
use borrow.Author.Tests.{lt-ltb}
use Rattle.basics.proofs.Bools.{by_le, on, or_l, or_r}
use Rattle.records.specs.LineFiles.{line_in}
use Rattle.records.specs.declared.Line.{Line}
use Rattle.std.specs.Prelude.{Option, Some, None, Result, Ok, Err}
use Rattle.refusals.specs.Table.{Row, verdict, whenever}
use Rattle.refusals.specs.declared.Refusal.{Refusal}
use Rattle.refusals.specs.declared.Reason.TheVariants.{UnfitPlan}
use Rattle.refusals.proofs.Chain.{piece_gives}
use Rattle.refusals.proofs.First.{verdict_passed, verdict_row}
use Rattle.register.specs.Areas.{Areas, areas, zeroed_to}
use Rattle.register.specs.declared.Counts.{Counts}
use Rattle.planner.specs.Outcome.{answer_by, if_accepted}
use Rattle.checker.specs.Checked.{checked}
use Rattle.checker.specs.Seen.{written_assignments, written_fibres}
use Rattle.checker.specs.declared.Finding.TheVariants.{Yes}
use Rattle.two_files.specs.Rows.{row14}
use Rattle.adder.specs.Additions.{Files, named_in}
use Rattle.adder.specs.Outcome.{Outcome}
use Rattle.adder.specs.Outcome as Adder
use Rattle.adder.specs.Table.{unfit}
use Rattle.adder.proofs.After.{added_yes}
use Rattle.adder.proofs.Leaves.{one_each, passes_fit}
use Rattle.prints.specs.Adding.{add_printed, both_rows, files_by, files_text, Folder, folder_rows, folder_verdict, grown, grown_by, grown_files, grown_numbers, grown_of, grown_text, grown_text_by, GrownYes, new_in, no_plan, old_in}
use Rattle.prints.specs.Checks.{check_of, check_printed, check_printed_by, finding_text}
use Rattle.prints.specs.Sheets.{text_by}
use Rattle.prints.specs.inner.Lent.{Growable, old_read, records_read}
use Rattle.prints.proofs.AddingTests.{both_few, judged_so, verdict_without}
use Rattle.prints.proofs.Printing.{line_cut}
use Rattle.prints.proofs.AddingLaws.{assigns_written, eight, fibres_written, the_numbers}

-- A CALL THAT WAS PLANNED, on the files of a plan and new circuit bytes that pass the tests
module _ (line : Line) (old : Files) (new : List ℕ) (m : ℕ) (q : folder_verdict line old new ≡ Ok m) where
  -- how many bytes the lists have, and areas that begin with them
  abbrev f : ℕ
  f = length old.fibres

  abbrev a : ℕ
  a = length old.assigns

  abbrev before : Areas
  before = areas (old.fibres ++ replicate 32776 0) (old.assigns ++ replicate 16384 0) (replicate 10240 0)

  growable : Growable f a before.fibres before.assigns
  growable = record {
    fibres_behind = omega (arith, length-append old.fibres (replicate 32776 0), length-replicate {A = ℕ} 32776 0);
    fibres_ample = omega (arith, length-append old.fibres (replicate 32776 0), length-replicate {A = ℕ} 32776 0);
    assigns_behind = omega (arith, length-append old.assigns (replicate 16384 0), length-replicate {A = ℕ} 16384 0);
  }

  work : 10240 ≤ length before.work
  work = omega (arith, length-replicate {A = ℕ} 10240 0)

  -- the old plan stands at their start
  abbrev again : Files
  again = old_read old.circuits f before.fibres a before.assigns

  same : again ≡ old
  same = λ i. record { circuits = old.circuits; fibres = take_at old.fibres (replicate 32776 0) f refl i; assigns = take_at old.assigns (replicate 16384 0) a refl i }

  passes : folder_verdict line again new ≡ Ok m
  passes = ap (λ (x : Files). folder_verdict line x new) same ∙ q

  -- what the call leaves
  abbrev counts : Counts
  counts = Adder.grown_numbers line old.circuits new (records_read f a) before

  abbrev after : Areas
  after =
      areas
      (Adder.grown_fibres line old.circuits new (records_read f a) before)
      (Adder.grown_assignments line old.circuits new (records_read f a) before)
      (zeroed_to (4 * line.links + 4 * (length old.circuits / 8 + length new / 8)) before.work)

  outcome : Outcome line old.circuits new (records_read f a) before after (Ok counts)
  outcome =
      let e = sym (judged_so line old.circuits new f a before growable work ∙ passes) in
      record {
        answered = ap (λ (t : Result ℕ Refusal). answer_by t counts) e;
        listed = ap (λ (t : Result ℕ Refusal). if_accepted t after.fibres before.fibres) e;
        assigned = ap (λ (t : Result ℕ Refusal). if_accepted t after.assigns before.assigns) e;
        cleared = ap (λ (t : Result ℕ Refusal). if_accepted t after.work before.work) e;
      }

  -- its records are those of the grown files
  fibres_kept : written_fibres counts after ≡ (grown_files line old new).fibres
  fibres_kept =
      let w = fibres_written line old.circuits new f a before growable work after (Ok counts) outcome m passes in
      ap (take (8 * counts.fibres)) w.1 ∙ take_at (grown_files line again new).fibres _ (8 * counts.fibres) (sym w.0) ∙ ap (λ (x : Files). (grown_files line x new).fibres) same

  assigns_kept : written_assignments (old.circuits ++ new) after ≡ (grown_files line old new).assigns
  assigns_kept =
      let w = assigns_written line old.circuits new f a before growable work after (Ok counts) outcome m passes in
      let all : ℕ = 8 * (length old.circuits / 8 + length new / 8) in
      ap (λ (k : ℕ). take k after.assigns) (sym (eight line old.circuits new f a before growable work after (Ok counts) outcome m passes).0)
      ∙ ap (take all) w.1 ∙ take_at (grown_files line again new).assigns _ all (sym w.0) ∙ ap (λ (x : Files). (grown_files line x new).assigns) same

  -- and its numbers theirs
  counted : counts ≡ grown_numbers line old new
  counted = the_numbers line old.circuits new f a before growable work after (Ok counts) outcome m passes ∙ ap (λ (x : Files). grown_numbers line x new) same

  -- so they get a yes
  files_yes : checked line (old.circuits ++ new) (grown_files line old new).fibres (grown_files line old new).assigns ≡ Ok (Yes (grown_numbers line old new).total (grown_numbers line old new).floor)
  files_yes =
      sym (ap₂ (checked line (old.circuits ++ new)) fibres_kept assigns_kept)
      ∙ added_yes line old.circuits new (records_read f a) before after counts outcome
      ∙ (λ i. Ok (Yes (counted i).total (counted i).floor))

  -- and all circuits count
  circuits_short : take 16392 (old.circuits ++ new) ≡ old.circuits ++ new
  circuits_short =
      let e = eight line old.circuits new f a before growable work after (Ok counts) outcome m passes in
      take_all 16392 (old.circuits ++ new) (omega (arith, e.0, e.2))

-- THE FILES THAT `adds` KEEPS GET A YES from `checks`, with the length and the floor that were printed
pub grown_checked : (given : Folder) (x : Files) → grown (Some given) ≡ Some x → GrownYes given x
unfolding grown add_printed grown_of grown_text check_printed check_of
grown_checked given x h = go (line_in given.line) refl h
  where
    old : Files
    old = old_in given

    new : List ℕ
    new = new_in given

    by_verdict : (line : Line) (t : Result ℕ Refusal) → line_in given.line ≡ Some line → folder_verdict line old new ≡ t → files_by t (grown_files line old new) ≡ Some x → GrownYes given x
    by_verdict line (Err r) e q k = absurd (let z : ◌≡◌ {A = ℕ} 0 1 = cc in omega arith)
    by_verdict line (Ok m) e q k =
        let files = grown_files line old new in
        let numbers = grown_numbers line old new in
        let same : files ≡ x = cc in
        record {
          said = line;
          is_line = e;
          numbers = numbers;
          printed =
              ap (λ (t : Option Line). grown_text_by t given) e ∙ ap (λ (t : Result ℕ Refusal). text_by t (files_text line.grid files numbers)) q
              ∙ ap (λ (y : Files). files_text line.grid y numbers) same;
          yes =
              sym (ap (λ (y : Files). check_printed (Some given.line) (Some y.circuits) (Some y.fibres) (Some y.assigns)) same)
              ∙ ap (λ (t : Option Line). check_printed_by t files.circuits files.fibres files.assigns) e
              ∙ ap (λ (s : List ℕ). finding_text (checked line s files.fibres files.assigns)) (circuits_short line old new m q)
              ∙ ap finding_text (files_yes line old new m q);
        }

    go : (t : Option Line) → line_in given.line ≡ t → grown_by t given ≡ Some x → GrownYes given x
    go None e k = absurd (let z : ◌≡◌ {A = ℕ} 0 1 = cc in omega arith)
    go (Some line) e k = by_verdict line (folder_verdict line old new) e refl k

-- THE READ CAPS LOSE NOTHING. The first 2,049 records of each list
abbrev cut : Files → Files
cut old = record { circuits = old.circuits; fibres = take 16392 old.fibres; assigns = take 16392 old.assigns }

-- over 2,048 fibres are no plan to which circuits are added
many_fibres : (line : Line) (old : Files) → 16392 ≤ length old.fibres → no_plan line old ≡ true
unfolding no_plan unfit
many_fibres line old h =
    or_r (not (eqb (length old.fibres % 8) 0)) _ (or_r (not (eqb (length old.assigns % 8) 0)) _ (or_l _ _ (lt-ltb 2048 (length old.fibres / 8) (omega arith))))

-- nor are more assignments than circuits
many_assigns : (line : Line) (old : Files) → length old.circuits / 8 ≤ 2048 → 16392 ≤ length old.assigns → no_plan line old ≡ true
unfolding no_plan
many_assigns line old few h =
    on (unfit line old.circuits (named_in old) old.fibres old.assigns)
    (λ e. or_r (not (eqb (length old.fibres % 8) 0)) _ (or_r (not (eqb (length old.assigns % 8) 0)) _ e))
    (λ e.
    let lent : Areas = areas old.fibres old.assigns [] in
    let fit = passes_fit line old.circuits (named_in old) lent (ap (whenever UnfitPlan) e) in
    absurd (omega (arith, one_each line old.circuits (named_in old) lent fit, few, h)))

-- the files are as they are read, or neither are a plan
read_or_none : (line : Line) (old : Files) → length old.circuits / 8 ≤ 2048 → (cut old ≡ old) ⊎ ((no_plan line (cut old) ≡ true) × (no_plan line old ≡ true))
read_or_none line old few =
    by_le (length old.fibres) 16392
    (λ f. by_le (length old.assigns) 16392
    (λ a. inl (λ i. record { circuits = old.circuits; fibres = take_all 16392 old.fibres f i; assigns = take_all 16392 old.assigns a i }))
    (λ a. inr (many_assigns line (cut old) few (omega (arith, length-take-le 16392 old.assigns (omega arith))), many_assigns line old few (omega arith))))
    (λ f. inr (many_fibres line (cut old) (omega (arith, length-take-le 16392 old.fibres (omega arith))), many_fibres line old (omega arith)))

-- so what is kept and what is printed are the same
module _ (line : Line) (old : Files) (new : List ℕ) where
  -- the last two rows, by whether there is a plan
  abbrev last : Bool → List Row
  last b = whenever UnfitPlan b ∷ row14 old.circuits (length old.circuits / 8) new (length new / 8) ∷ []

  abbrev all : ℕ
  all = length old.circuits / 8 + length new / 8

  -- what is made of a verdict and of grown files
  module _ {A : Type 0} (make : Result ℕ Refusal → Files → A) (refused : (r : Refusal) (x y : Files) → make (Err r) x ≡ make (Err r) y) where
    by_rows : (t : Result ℕ Refusal) → verdict (both_rows line old.circuits new) all ≡ t → make (folder_verdict line (cut old) new) (cut old) ≡ make (folder_verdict line old new) old
    unfolding folder_verdict folder_rows
    by_rows (Err r) q =
        let rows = both_rows line old.circuits new in
        let one = piece_gives rows (last (no_plan line (cut old))) all all r q in
        let two = piece_gives rows (last (no_plan line old)) all all r q in
        ap (λ (t : Result ℕ Refusal). make t (cut old)) one ∙ refused r (cut old) old ∙ sym (ap (λ (t : Result ℕ Refusal). make t old) two)
    by_rows (Ok m) q =
        let rows = both_rows line old.circuits new in
        let passed = (verdict_passed rows all m q).1 in
        ⊎_elim
        (λ e. ap (λ (x : Files). make (verdict (rows ++ last (no_plan line x)) all) x) e)
        (λ e.
        let stopped : verdict (rows ++ last true) all ≡ Err no_fit = verdict_without rows (last true) all passed ∙ thirteen in
        ap (λ (b : Bool). make (verdict (rows ++ last b) all) (cut old)) e.0
        ∙ ap (λ (t : Result ℕ Refusal). make t (cut old)) stopped ∙ refused no_fit (cut old) old ∙ sym (ap (λ (t : Result ℕ Refusal). make t old) stopped)
        ∙ sym (ap (λ (b : Bool). make (verdict (rows ++ last b) all) old) e.1))
        (read_or_none line old (omega (arith, (both_few line old.circuits new passed).0)))
      where
        no_fit : Refusal
        no_fit = record { reason = UnfitPlan; place = 0; end = None }

        thirteen : verdict (last true) all ≡ Err no_fit
        thirteen = verdict_row (whenever UnfitPlan true) _ all _ refl

    made_same : make (folder_verdict line (cut old) new) (cut old) ≡ make (folder_verdict line old new) old
    made_same = by_rows (verdict (both_rows line old.circuits new) all) refl

  kept_same : grown_of line (cut old) new ≡ grown_of line old new
  unfolding grown_of
  kept_same = made_same (λ t x. files_by t (grown_files line x new)) (λ r x y. refl)

  text_same : grown_text line (cut old) new ≡ grown_text line old new
  unfolding grown_text
  text_same = made_same (λ t x. text_by t (files_text line.grid (grown_files line x new) (grown_numbers line x new))) (λ r x y. refl)

-- what the program reads of a folder
abbrev pub first_bytes : Folder → Folder
first_bytes given = record { line = take 7 given.line; circuits = take 16392 given.circuits; new = take 16392 given.new; fibres = take 16392 given.fibres; assigns = take 16392 given.assigns }

-- THE PROGRAM READS NO MORE, and keeps and prints what the whole files call for
pub grown_first_bytes : (given : Folder) → grown (Some (first_bytes given)) ≡ grown (Some given)
unfolding grown
grown_first_bytes given = ap (λ (t : Option Line). grown_by t (first_bytes given)) (line_cut given.line) ∙ again (line_in given.line)
  where
    again : (t : Option Line) → grown_by t (first_bytes given) ≡ grown_by t given
    again None = refl
    again (Some line) =
        (λ i. grown_of line (record { circuits = take-take 16392 16392 given.circuits (omega arith) i; fibres = take 16392 given.fibres; assigns = take 16392 given.assigns }) (take-take 16392 16392 given.new (omega arith) i))
        ∙ kept_same line (old_in given) (new_in given)

pub add_first_bytes : (given : Folder) → add_printed (Some (first_bytes given)) ≡ add_printed (Some given)
unfolding add_printed
add_first_bytes given = ap (λ (t : Option Line). grown_text_by t (first_bytes given)) (line_cut given.line) ∙ again (line_in given.line)
  where
    again : (t : Option Line) → grown_text_by t (first_bytes given) ≡ grown_text_by t given
    again None = refl
    again (Some line) =
        (λ i. grown_text line (record { circuits = take-take 16392 16392 given.circuits (omega arith) i; fibres = take 16392 given.fibres; assigns = take 16392 given.assigns }) (take-take 16392 16392 given.new (omega arith) i))
        ∙ text_same line (old_in given) (new_in given)
