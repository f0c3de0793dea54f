-- `first_clash` meets its contract: each turn halves the places among which the first clash is. Assumes nothing.
use borrow.Author.Rules.{rules}
use mathlib.Core.Path.{sym, ◌∙◌}
use native.Mathlib.Omega.{arith}
use Rattle.clashes.specs.Clashes.{clashes_in}
use Rattle.clashes.proofs.FibreLaws.{placed_part}
use Rattle.clashes.proofs.Halving.{halved, no_first, none_of_none, some_of}
use Rattle.clashes.proofs.first_clash.Goals as goal

pub returns-then-not-clashes_below : goal.returns-then-not-clashes_below
returns-then-not-clashes_below c = let a = c.args in no_first (clashes_in a.circuits.now a.assigns.now) a.p (sym c.clashes_below.ensures ∙ c.if-not-clashes_below.true)

pub loop-low-init : goal.loop-low-init
loop-low-init c = let a = c.args in let e = sym c.clashes_below.ensures ∙ c.if-not-clashes_below.false in
    (some_of (clashes_in a.circuits.now a.assigns.now) a.p e, search rules, none_of_none (clashes_in a.circuits.now a.assigns.now), e)

pub clashes_below-requires-in-loop-low : goal.clashes_below-requires-in-loop-low
clashes_below-requires-in-loop-low c = placed_part _ (omega arith) c.requires

pub returns : goal.returns
returns c = let a = c.args in let l = c.loop-low in
    halved (clashes_in a.circuits.now a.assigns.now) l.low l.high a.p l.invariant.0 (omega arith) l.invariant.1 l.invariant.2 l.invariant.3
