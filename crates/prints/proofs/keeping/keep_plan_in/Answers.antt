-- `keep_plan_in`: what `plan` left is the lists, and matter for the text. Assumes nothing.
use Prim.Native.Nat.{ℕ, ◌/◌, ◌≤◌}
use mathlib.Core.Path.{◌≡◌, subst}
use mathlib.Core.List.{List}
use native.Mathlib.Omega.{arith}
use lib.ListN.{length}
use Rattle.std.specs.Prelude.{Ok}
use Rattle.records.specs.declared.Line.{Line}
use Rattle.register.specs.Areas.{Areas}
use Rattle.register.specs.declared.Counts.{Counts}
use Rattle.planner.specs.Outcome.{Answer, Outcome}
use Rattle.text.specs.Wrote.{Wrote}
use Rattle.prints.specs.Sheets.{sheet_of}
use Rattle.prints.specs.inner.Lent.{Ample, Held, answer_text}
use Rattle.prints.proofs.Holding.{held, sheet_made}
use Rattle.prints.proofs.KeepingLaws.{plan_kept}
use Rattle.prints.proofs.keeping.keep_plan_in.Goals as goal

-- what is counted is in bounds
few : (line : Line) (s : List ℕ) (before : Areas) → Ample before.fibres before.assigns before.work → (after : Areas) (answer : Answer) → length after.fibres ≡ length before.fibres
    → length after.assigns ≡ length before.assigns → Outcome line s before after answer → (counts : Counts) → answer ≡ Ok counts → counts.fibres ≤ 4096
few line s before ample after answer l k o counts is =
    let holds : Held answer (length s / 8) after.fibres after.assigns 147536 = held line s before ample after answer l k o 147536 (omega arith) in
    (subst (λ (a : Answer). Held a (length s / 8) after.fibres after.assigns 147536) is holds).2

-- the text is that of the sheet
text : (line : Line) (s : List ℕ) (before : Areas) → Ample before.fibres before.assigns before.work → (after : Areas) (answer : Answer) → length after.fibres ≡ length before.fibres
    → length after.assigns ≡ length before.assigns → Outcome line s before after answer → (k : ℕ) (out₀ out : List ℕ)
    → Wrote (answer_text line.grid answer (length s / 8) after.fibres after.assigns) k out₀ out → Wrote (sheet_of line s) k out₀ out
text line s before ample after answer l m o k out₀ out w =
    subst (λ (t : List ℕ). Wrote t k out₀ out) (sheet_made line s before ample after answer l m o) w

pub write_answer-text-requires : goal.write_answer-text-requires
write_answer-text-requires c = let p = c.plan-answer in held c.args.line c.args.circuits.now _ c.requires.0 _ p.result p.auto.fibres p.auto.assigns p.ensures _ c.requires.1

pub overflow_mul-lists : goal.overflow_mul-lists
overflow_mul-lists c = let p = c.plan-answer in omega (arith, few c.args.line c.args.circuits.now _ c.requires.0 _ p.result p.auto.fibres p.auto.assigns p.ensures _ c.in-Ok.is)

pub returns-in_default : goal.returns-in_default
returns-in_default c =
    let p = c.plan-answer in (
      plan_kept c.args.line c.args.circuits.now _ c.requires.0 _ p.result p.ensures _ c.in_default.is,
      text c.args.line c.args.circuits.now _ c.requires.0 _ p.result p.auto.fibres p.auto.assigns p.ensures _ _ _ c.write_answer-text.ensures,
    )

pub returns : goal.returns
returns c =
    let p = c.plan-answer in (
      plan_kept c.args.line c.args.circuits.now _ c.requires.0 _ p.result p.ensures _ c.in-Ok.is,
      text c.args.line c.args.circuits.now _ c.requires.0 _ p.result p.auto.fibres p.auto.assigns p.ensures _ _ _ c.write_answer-text.ensures,
    )
