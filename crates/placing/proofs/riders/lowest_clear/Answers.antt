-- `lowest_clear` meets its contract: a search by one entry. Assumes nothing.
use Prim.Native.Nat.{suc}
use borrow.Author.Rules.{rules}
use borrow.Author.Tests.{le-leb, lt-leb}
use mathlib.Core.Path.{◌∙◌, ap, refl, sym}
use native.Mathlib.Omega.{arith}
use Rattle.basics.proofs.Searches.{seek_onward, seek_here, seek_over}
use Rattle.placing.specs.inner.Marking.{clear, up_to}
use Rattle.placing.proofs.riders.lowest_clear.Goals as goal

pub returns-then-not-busy-v : goal.returns-then-not-busy-v
unfolding clear up_to
returns-then-not-busy-v c =
    let l = c.loop-v in
    let a = c.args in
    let e = sym l.invariant ∙ seek_here (clear a.busy.now) l.v (suc a.hi) (omega arith) (search rules) in
    sym (ap (up_to a.hi) e ∙ rw (le-leb l.v a.hi (omega arith)) refl)

pub loop-v-preserved : goal.loop-v-preserved
unfolding clear
loop-v-preserved c = let l = c.loop-v in let a = c.args in sym (seek_onward (clear a.busy.now) l.v (suc a.hi) (omega arith) (search rules)) ∙ l.invariant

pub returns : goal.returns
unfolding up_to
returns c =
    let l = c.loop-v in
    let a = c.args in
    let e = sym l.invariant ∙ seek_over (clear a.busy.now) l.v (suc a.hi) (omega arith) in
    sym (ap (up_to a.hi) e ∙ rw (lt-leb l.v a.hi (omega arith)) refl)
