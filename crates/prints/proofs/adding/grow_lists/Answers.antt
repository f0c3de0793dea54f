-- `grow_lists`: what `add` left is the lists, and matter for the text. Assumes nothing.
use Prim.Native.Nat.{ℕ, ◌+◌, ◌/◌, ◌≤◌}
use mathlib.Core.Path.{◌≡◌, subst}
use mathlib.Core.List.{List}
use native.Mathlib.Omega.{arith}
use lib.ListN.{length}
use Rattle.std.specs.Prelude.{Ok}
use Rattle.records.specs.declared.Line.{Line}
use Rattle.register.specs.Areas.{Areas}
use Rattle.register.specs.declared.Counts.{Counts}
use Rattle.planner.specs.Outcome.{Answer}
use Rattle.adder.specs.Outcome.{Outcome}
use Rattle.adder.specs.declared.Named.{Named}
use Rattle.text.specs.Wrote.{Wrote}
use Rattle.prints.specs.Adding.{grown_text}
use Rattle.prints.specs.inner.Lent.{answer_text, Growable, Held, old_read, records_read}
use Rattle.prints.proofs.AddingLaws.{grown_held, lists_laid, text_grown}
use Rattle.prints.proofs.adding.grow_lists.Goals as goal

-- the call named the records that were read
called : (line : Line) (s t : List ℕ) (f a : ℕ) (named : Named) (before after : Areas) (r : Answer) → named ≡ records_read f a → Outcome line s t named before after r
    → Outcome line s t (records_read f a) before after r
called line s t f a named before after r e h = subst (λ (n : Named). Outcome line s t n before after r) e h

module _ (line : Line) (s new : List ℕ) (f a : ℕ) (before : Areas) (g : Growable f a before.fibres before.assigns) (work : 10240 ≤ length before.work) (after : Areas) (answer : Answer)
    (o : Outcome line s new (records_read f a) before after answer) where
  -- what is counted is in bounds
  few : (counts : Counts) → answer ≡ Ok counts → counts.fibres ≤ 4096
  few counts is =
      let holds = subst (λ (t : Answer). Held t (length s / 8 + length new / 8) after.fibres after.assigns 213072) is (grown_held line s new f a before g work after answer o 213072 (omega arith)) in
      holds.2

  -- the text is that of the folder
  text : (k : ℕ) (out₀ out : List ℕ) → Wrote (answer_text line.grid answer (length s / 8 + length new / 8) after.fibres after.assigns) k out₀ out
      → Wrote (grown_text line (old_read s f before.fibres a before.assigns) new) k out₀ out
  text k out₀ out w = subst (λ (t : List ℕ). Wrote t k out₀ out) (text_grown line s new f a before g work after answer o) w

pub write_answer-text-requires : goal.write_answer-text-requires
write_answer-text-requires c =
    let x = c.args in
    let p = c.add-answer in
    grown_held x.line x.old.now x.new.now x.f x.a _ c.requires.0 c.requires.1 _ p.result (called x.line x.old.now x.new.now x.f x.a _ _ _ p.result c.records_read-named.ensures p.ensures) _ c.requires.2

pub overflow_mul-files-2 : goal.overflow_mul-files-2
overflow_mul-files-2 c =
    let x = c.args in
    let p = c.add-answer in
    omega (arith, few x.line x.old.now x.new.now x.f x.a _ c.requires.0 c.requires.1 _ p.result (called x.line x.old.now x.new.now x.f x.a _ _ _ p.result c.records_read-named.ensures p.ensures) _ c.in-Ok.is)

pub returns-in_default : goal.returns-in_default
returns-in_default c =
    let x = c.args in
    let p = c.add-answer in
    let o = called x.line x.old.now x.new.now x.f x.a _ _ _ p.result c.records_read-named.ensures p.ensures in
    (lists_laid x.line x.old.now x.new.now x.f x.a _ c.requires.0 c.requires.1 _ p.result o _ c.in_default.is, text x.line x.old.now x.new.now x.f x.a _ c.requires.0 c.requires.1 _ p.result o _ _ _ c.write_answer-text.ensures)

pub returns : goal.returns
returns c =
    let x = c.args in
    let p = c.add-answer in
    let o = called x.line x.old.now x.new.now x.f x.a _ _ _ p.result c.records_read-named.ensures p.ensures in
    (lists_laid x.line x.old.now x.new.now x.f x.a _ c.requires.0 c.requires.1 _ p.result o _ c.in-Ok.is, text x.line x.old.now x.new.now x.f x.a _ c.requires.0 c.requires.1 _ p.result o _ _ _ c.write_answer-text.ensures)
