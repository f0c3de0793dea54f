-- Which lists are kept, by the answer of the planner, and that the check says yes to them. Assumes nothing.
use Prim.Native.Nat.{ℕ, ◌+◌, ◌*◌, ◌/◌}
use mathlib.Core.Path.{◌≡◌, refl, ap, ap₂, subst, sym, ◌∙◌}
use mathlib.Core.List.{List}
use native.Mathlib.Omega.{arith}
use lib.ListN.{length, length-replicate, replicate, take}
use lib.Seq.{take_all, take_at, take-take}
use Rattle.records.specs.LineFiles.{line_in}
use Rattle.records.specs.Records.{circuits_of}
use Rattle.records.specs.declared.Line.{Line}
use Rattle.std.specs.Prelude.{Option, Some, None, Result, Ok, Err}
use Rattle.method.specs.Fibres.{floor}
use Rattle.method.specs.Line.{total}
use Rattle.refusals.specs.Given.{NoneApplies}
use Rattle.refusals.specs.Table.{verdict, circuit_rows}
use Rattle.refusals.specs.declared.Refusal.{Refusal}
use Rattle.refusals.proofs.First.{verdict_passed}
use Rattle.register.specs.Areas.{Areas, areas, zeroed_to}
use Rattle.register.specs.Lists.{assignment_list, counts_of, fibre_list}
use Rattle.planner.specs.Outcome.{Answer, answer_by, if_accepted, numbers_of, Outcome, plan_of}
use Rattle.planner.proofs.Accepting.{accepted}
use Rattle.checker.specs.Checked.{checked}
use Rattle.checker.specs.Seen.{written_assignments, written_fibres}
use Rattle.checker.specs.declared.Finding.TheVariants.{Yes}
use Rattle.checker.proofs.Planned.{planned_yes}
use Rattle.prints.specs.declared.keeping.Lengths.{Lengths}
use Rattle.prints.specs.Checks.{check_of, check_printed, check_printed_by, finding_text, plan_yes, PrintsYes}
use Rattle.prints.specs.Keeping.{Listed, kept, kept_by, Lists, lists_by, lists_of, plan_lists}
use Rattle.prints.specs.Reads.{AtMost}
use Rattle.prints.specs.inner.Lent.{Ample}
use Rattle.prints.proofs.Holding.{all_pass, assigns_written, fibres_written, is_planned, is_refused, lists_left}
use Rattle.prints.proofs.Printing.{line_cut}

-- how many bytes of lists are told for an answer with m circuits
abbrev pub told : Answer → ℕ → Option Lengths
told (Ok counts) m = Some (record { fibres = 8 * counts.fibres; assigns = 8 * m })
told (Err r) m = None

module _ (line : Line) (s : List ℕ) (before : Areas) (ample : Ample before.fibres before.assigns before.work) (after : Areas) (answer : Answer) (o : Outcome line s before after answer) where
  -- what is kept, by the verdict of tests 1 to 7 and 12
  by_verdict : (t : Result ℕ Refusal) → verdict (circuit_rows line s) (length s / 8) ≡ t
      → Listed (lists_by t (plan_lists line s)) (told answer (length s / 8)) before.fibres after.fibres before.assigns after.assigns
  unfolding counts_of
  by_verdict (Ok m) q =
      let passed = (verdict_passed (circuit_rows line s) (length s / 8) m q).1 in
      subst (λ (a : Answer). Listed (Some (plan_lists line s)) (told a (length s / 8)) before.fibres after.fibres before.assigns after.assigns)
      (sym (is_planned line s before ample after answer o passed)) (fibres_written line s before ample after answer o passed, assigns_written line s before ample after answer o passed)
  by_verdict (Err r) q =
      subst (λ (a : Answer). Listed None (told a (length s / 8)) before.fibres after.fibres before.assigns after.assigns)
      (sym (is_refused line s before ample after answer o r q)) (lists_left line s before ample after answer o r q)

  -- what is kept of an answer that is told by its case
  pub plan_kept : (a : Answer) → answer ≡ a → Listed (lists_of line s) (told a (length s / 8)) before.fibres after.fibres before.assigns after.assigns
  unfolding lists_of
  plan_kept a e =
      subst (λ (a : Answer). Listed (lists_by (verdict (circuit_rows line s) (length s / 8)) (plan_lists line s)) (told a (length s / 8)) before.fibres after.fibres before.assigns after.assigns) e
      (by_verdict (verdict (circuit_rows line s) (length s / 8)) refl)

-- both files were read, `line.rec` says a line, and no more bytes of `circuits.rec` were read than count
pub line_kept : (line circuits : Option (List ℕ)) (s t : List ℕ) (l : Line) → line ≡ Some s → circuits ≡ Some t → line_in s ≡ Some l → AtMost 16392 circuits → kept line circuits ≡ lists_of l t
unfolding kept
line_kept line circuits s t l e q u h =
    (λ i. kept (e i) (q i)) ∙ ap (λ (x : Option Line). kept_by x t) u ∙ ap (lists_of l) (take_all 16392 t (subst (AtMost 16392) q h))

-- the program reads no more than 7 bytes of `line.rec` and 16,392 of `circuits.rec`, and keeps the lists that the whole files call for
pub first_bytes_kept : (l s : List ℕ) → kept (Some (take 7 l)) (Some (take 16392 s)) ≡ kept (Some l) (Some s)
unfolding kept
first_bytes_kept l s = ap (λ (t : Option Line). kept_by t (take 16392 s)) (line_cut l) ∙ again (line_in l)
  where
    again : (t : Option Line) → kept_by t (take 16392 s) ≡ kept_by t s
    again None = refl
    again (Some line) = ap (lists_of line) (take-take 16392 16392 s (omega arith))

-- WHAT IS KEPT IS CHECKED. What `plan` leaves in ample areas where tests 1 to 7 and 12 pass
module _ (line : Line) (s : List ℕ) (before : Areas) (ample : Ample before.fibres before.assigns before.work) (passed : NoneApplies (circuit_rows line s)) where
  -- the areas afterwards
  abbrev after : Areas
  after =
      areas
      (fibre_list 0 (plan_of line s).fibres before.fibres)
      (assignment_list 0 (circuits_of s) (plan_of line s).assignments before.assigns)
      (zeroed_to (4 * line.links + 4 * (length s / 8)) before.work)

  -- are those of a plan
  outcome : Outcome line s before after (Ok (numbers_of line s))
  outcome =
      let e = sym (all_pass line s before ample passed) in
      record {
        answered = ap (λ (t : Result ℕ Refusal). answer_by t (numbers_of line s)) e;
        listed = ap (λ (t : Result ℕ Refusal). if_accepted t after.fibres before.fibres) e;
        assigned = ap (λ (t : Result ℕ Refusal). if_accepted t after.assigns before.assigns) e;
        cleared = ap (λ (t : Result ℕ Refusal). if_accepted t after.work before.work) e;
      }

  -- the fibre records that are written are those of the plan
  fibres_kept : written_fibres (numbers_of line s) after ≡ (plan_lists line s).fibres
  unfolding counts_of
  fibres_kept =
      let w = fibres_written line s before ample after (Ok (numbers_of line s)) outcome passed in
      ap (take (8 * length (plan_of line s).fibres)) w.1 ∙ take_at (plan_lists line s).fibres _ (8 * length (plan_of line s).fibres) (sym w.0)

  -- and so are the assignment records
  assigns_kept : written_assignments s after ≡ (plan_lists line s).assigns
  assigns_kept =
      let w = assigns_written line s before ample after (Ok (numbers_of line s)) outcome passed in
      ap (take (length s)) w.1 ∙ take_at (plan_lists line s).assigns _ (length s) (sym w.0 ∙ sym (accepted line s passed).file.whole)

  -- so they get a yes
  yes_lent : checked line s (plan_lists line s).fibres (plan_lists line s).assigns ≡ Ok (Yes (total (plan_of line s).fibres) (floor line.links line.wavelengths (circuits_of s)))
  unfolding counts_of
  yes_lent =
      sym (ap₂ (checked line s) fibres_kept assigns_kept)
      ∙ planned_yes line s before after (numbers_of line s) outcome

-- the lists of a plan get a yes, with its total and floor
lists_yes : (line : Line) (s : List ℕ) → NoneApplies (circuit_rows line s)
    → checked line s (plan_lists line s).fibres (plan_lists line s).assigns ≡ Ok (Yes (total (plan_of line s).fibres) (floor line.links line.wavelengths (circuits_of s)))
lists_yes line s passed =
    yes_lent line s (areas (replicate 16384 0) (replicate 16384 0) (replicate 10240 0))
    (record {
      fibres_ample = omega (arith, length-replicate {A = ℕ} 16384 0);
      assigns_ample = omega (arith, length-replicate {A = ℕ} 16384 0);
      work_ample = omega (arith, length-replicate {A = ℕ} 10240 0);
    }) passed

-- no list is kept that is not that of a plan
module _ (line : Line) (s : List ℕ) (x : Lists) where
  by_test : (t : Result ℕ Refusal) → verdict (circuit_rows line s) (length s / 8) ≡ t → lists_by t (plan_lists line s) ≡ Some x → check_of line s x.fibres x.assigns ≡ plan_yes line s
  unfolding check_of
  by_test (Ok m) q h =
      let same : plan_lists line s ≡ x = cc in
      ap (λ (l : Lists). finding_text (checked line s l.fibres l.assigns)) (sym same)
      ∙ ap finding_text (lists_yes line s (verdict_passed (circuit_rows line s) (length s / 8) m q).1)
  by_test (Err r) q h = absurd (let z : ◌≡◌ {A = ℕ} 0 1 = cc in omega arith)

-- THE LISTS THAT `lists` KEEPS GET A YES from `checks`, with the plan's own total and floor
pub kept_checked : (l s : List ℕ) (x : Lists) → kept (Some l) (Some s) ≡ Some x → PrintsYes l s x.fibres x.assigns
unfolding kept check_printed lists_of
kept_checked l s x h = go (line_in l) refl h
  where
    go : (t : Option Line) → line_in l ≡ t → kept_by t s ≡ Some x → PrintsYes l s x.fibres x.assigns
    go None e k = absurd (let z : ◌≡◌ {A = ℕ} 0 1 = cc in omega arith)
    go (Some line) e k =
        record {
          said = line;
          is_line = e;
          prints =
              ap (λ (t : Option Line). check_printed_by t s x.fibres x.assigns) e
              ∙ by_test line (take 16392 s) x (verdict (circuit_rows line (take 16392 s)) (length (take 16392 s) / 8)) refl k;
        }
