-- `note_left` meets its contract: place by place. Assumes nothing.
use borrow.Author.Rules.{rules}
use Prim.Native.Nat.{◌+◌}
use lib.Dec.{eqb}
use mathlib.Core.Bool.{true, false}
use mathlib.Core.Path.{◌∙◌, ap, sym}
use borrow.Author.Tests.{eq-eqb, ne_eqb}
use native.Mathlib.Omega.{arith}
use Rattle.additions.specs.Adding.{unplaced}
use Rattle.basics.proofs.Counts.{count_below}
use Rattle.parts.proofs.Noting.{left_at, noted_more, noted_none}
use Rattle.parts.specs.Left.{said_behind}
use Rattle.parts.proofs.note_left.Goals.{then-a-eq0, else-a-eq0}
use Rattle.parts.proofs.note_left.Goals as goal

pub loop-j-init : goal.loop-j-init
loop-j-init c = (search rules, noted_none _ _)

pub loop-j-preserved : goal.loop-j-preserved
loop-j-preserved c = let a = c.args in let l = c.loop-j in let x = c.record_at-a in
    let p = unplaced (said_behind a.base a.m a.assigns.now) in
    let at = ap (λ r. eqb r.fibre 0) x.ensures ∙ left_at a.base a.m a.assigns.now l.j c.loop-j-test.true in
    elim c.if-a-eq0.branch [
      | then-a-eq0 w ↦
          let n = noted_more p l.j l.k _ true l.places _ (sym (eq-eqb _ 0 w.if-a-eq0.true) ∙ at) (search rules) w.k-is (w.places-is ∙ w.put.ensures) l.invariant.1 in
          (omega (arith, n.many, count_below p (l.j + 1)), n)
      | else-a-eq0 w ↦
          let n = noted_more p l.j l.k _ false l.places _ (sym (ne_eqb _ 0 w.if-a-eq0.false) ∙ at) (search rules) w.k-is w.places-is l.invariant.1 in
          (omega (arith, n.many, count_below p (l.j + 1)), n)
    ]
