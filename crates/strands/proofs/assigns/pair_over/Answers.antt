-- `strands::assigns::pair_over` meets its contract: what is sought from here on is what was sought from the start. Assumes nothing.
use mathlib.Core.Path.{◌≡◌, ◌∙◌, sym}
use native.Mathlib.Omega.{arith}
use borrow.Author.Tests.{le-leb, lt-leb}
use Rattle.basics.proofs.Searches.{seek_here, seek_onward, seek_over}
use Rattle.strands.specs.inner.Area.{pair_reaches}
use Rattle.strands.proofs.assigns.pair_over.Goals as goal

pub returns-then-x-pairs : goal.returns-then-x-pairs
returns-then-x-pairs c = let l = c.loop-i in let a = c.args in
    sym (seek_here (pair_reaches a.pairs.now.lasts a.x) l.i a.pairs.now.count (omega arith) (le-leb a.x _ (omega arith))) ∙ l.invariant

pub loop-i-preserved : goal.loop-i-preserved
loop-i-preserved c = let l = c.loop-i in let a = c.args in
    sym (seek_onward (pair_reaches a.pairs.now.lasts a.x) l.i a.pairs.now.count (omega arith) (lt-leb a.x _ (omega arith))) ∙ l.invariant

pub returns : goal.returns
returns c = let l = c.loop-i in let a = c.args in
    let e : a.pairs.now.count ≡ l.i = omega arith in e ∙ sym (seek_over (pair_reaches a.pairs.now.lasts a.x) l.i a.pairs.now.count (omega arith)) ∙ l.invariant
