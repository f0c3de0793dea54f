-- `first_open`: no link before i is open. Assumes nothing.
use Prim.Native.Nat.{◌+◌, ◌-◌}
use mathlib.Core.Path.{◌≡◌, ap, ◌∙◌, sym}
use native.Mathlib.Omega.{arith}
use lib.Dec.{eqb}
use lib.ListN.{length}
use borrow.Author.Tests.{eq-eqb, ne_eqb}
use Rattle.basics.specs.Tools.{seek}
use Rattle.basics.proofs.Searches.{seek_onward, seek_here, seek_over}
use Rattle.method.specs.Sheet.{open', at, run_from}
use Rattle.rows.proofs.Written.{at_get}
use Rattle.whole_sheet.proofs.colours.first_open.Goals as goal

pub loop-i-init : goal.loop-i-init
unfolding run_from
loop-i-init c =
    let r = c.args.row.now in
    let e : length r + 1 - 1 ≡ length r = omega arith in
    ap (seek (λ x. eqb (at r x) open') 1) e

pub returns-then-row-i-eq-OPEN : goal.returns-then-row-i-eq-OPEN
returns-then-row-i-eq-OPEN c =
    let r = c.args.row.now in
    let l = c.loop-i in (
      sym (seek_here (λ x. eqb (at r x) open') l.i (length r + 1) (omega arith) (eq-eqb _ _ (sym (at_get r l.i (omega arith)) ∙ c.if-row-i-eq-OPEN.true)))
          ∙ l.invariant,
      omega arith,
    )

pub loop-i-preserved : goal.loop-i-preserved
loop-i-preserved c =
    let r = c.args.row.now in
    let l = c.loop-i in
    sym (seek_onward (λ x. eqb (at r x) open') l.i (length r + 1) (omega arith) (ne_eqb _ _ (λ e. c.if-row-i-eq-OPEN.false (at_get r l.i (omega arith) ∙ e))))
    ∙ l.invariant

pub returns : goal.returns
returns c =
    let r = c.args.row.now in
    let l = c.loop-i in
    let over = sym (seek_over (λ x. eqb (at r x) open') l.i (length r + 1) (omega arith)) ∙ l.invariant in
    omega (arith, over)
