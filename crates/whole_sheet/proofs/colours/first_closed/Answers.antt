-- `first_closed`: the links from the run's first to before i are open. Assumes nothing.
use borrow.Author.Rules.{rules}
use Prim.Native.Nat.{ℕ, suc, ◌+◌, ◌-◌}
use mathlib.Core.Path.{◌≡◌, ap, ap₂, ◌∙◌, sym}
use mathlib.Core.Bool.{not}
use native.Mathlib.Omega.{arith}
use lib.Dec.{eqb}
use lib.ListN.{length}
use borrow.Author.Tests.{eq-eqb, ne_eqb}
use Rattle.basics.specs.Tools.{seek}
use Rattle.basics.proofs.Searches.{seek_onward, seek_here, seek_over}
use Rattle.method.specs.Sheet.{open', at, run_from, run_past}
use Rattle.method.proofs.Colours.{from_pos}
use Rattle.rows.proofs.Written.{at_get}
use Rattle.whole_sheet.proofs.colours.first_closed.Goals as goal

pub loop-i-init : goal.loop-i-init
unfolding run_past
loop-i-init c =
    let a = c.args in
    let r = a.row.now in
    let e : a.from ≡ run_from (length r) r = c.requires.1 in
    let z : (length r) + 1 ≡ suc (length r) = omega arith in
    ap₂ (λ (f k : ℕ). seek (λ x. not (eqb (at r x) open')) f (k - f)) e z

pub overflow_sub-i : goal.overflow_sub-i
overflow_sub-i c =
    let p = from_pos (length c.args.row.now) c.args.row.now in
    omega arith

pub bounds-row-i : goal.bounds-row-i
bounds-row-i c =
    let p = from_pos (length c.args.row.now) c.args.row.now in
    search rules

pub returns-then-row-i-ne-OPEN : goal.returns-then-row-i-ne-OPEN
returns-then-row-i-ne-OPEN c =
    let r = c.args.row.now in
    let l = c.loop-i in
    let p = from_pos (length c.args.row.now) r in
    sym (seek_here (λ x. not (eqb (at r x) open')) l.i ((length c.args.row.now) + 1) (omega arith) (ap not (ne_eqb _ _ (λ e. c.if-row-i-ne-OPEN.true (at_get r l.i (omega arith) ∙ e)))))
    ∙ l.invariant

pub loop-i-preserved : goal.loop-i-preserved
loop-i-preserved c =
    let r = c.args.row.now in
    let l = c.loop-i in
    let p = from_pos (length c.args.row.now) r in
    let q = c.requires.1 in
    sym (seek_onward (λ x. not (eqb (at r x) open')) l.i ((length c.args.row.now) + 1) (omega arith) (ap not (eq-eqb _ _ (sym (at_get r l.i (omega arith)) ∙ c.if-row-i-ne-OPEN.false))))
    ∙ l.invariant

pub returns : goal.returns
returns c =
    let r = c.args.row.now in
    let l = c.loop-i in
    let z : (length c.args.row.now) + 1 ≡ l.i = omega arith in
    z ∙ sym (seek_over (λ x. not (eqb (at r x) open')) l.i ((length c.args.row.now) + 1) (omega arith)) ∙ l.invariant
