-- `clashes_on_any` meets its contract: after each turn one fibre more has no clash. Assumes nothing.
use mathlib.Core.Path.{sym, ◌∙◌}
use native.Mathlib.Omega.{arith}
use Rattle.clashes.proofs.FibreLaws.{apart_all, apart_more, on_clash}
use Rattle.clashes.proofs.clashes_on_any.Goals as goal

pub returns-then-clashes_on : goal.returns-then-clashes_on
returns-then-clashes_on c = let a = c.args in
    λ q h f. sym (on_clash a.circuits.now a.assigns.now _ q (sym (c.clashes_on.ensures q h) ∙ c.if-clashes_on.true))

pub loop-o-preserved : goal.loop-o-preserved
loop-o-preserved c = let a = c.args in let l = c.loop-o in
    λ q h. apart_more a.circuits.now a.assigns.now l.o q (sym (c.clashes_on.ensures q h) ∙ c.if-clashes_on.false) (l.invariant q h)

pub returns : goal.returns
returns c = let a = c.args in let l = c.loop-o in
    λ q h f. sym (apart_all a.circuits.now a.assigns.now a.k l.o q (omega arith) f (l.invariant q h))
