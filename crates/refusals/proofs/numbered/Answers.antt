-- `numbered` meets its contract: no record before the one that is read has the number 0. Assumes nothing.
use mathlib.Core.Path.{◌∙◌, ap}
use borrow.Author.Tests.{eq-eqb}
use Rattle.std.specs.Prelude.{Err}
use Rattle.refusals.specs.Table.{no_end}
use Rattle.refusals.specs.declared.Reason.TheVariants.{NumberZero}
use Rattle.refusals.proofs.FirstLaws.{number_is, refused_at, checked_all}
use Rattle.refusals.proofs.numbered.Invariants.{is_zero}
use Rattle.refusals.proofs.numbered.Goals as goal

pub returns-then-c-eq0 : goal.returns-then-c-eq0
returns-then-c-eq0 c =
    let l = c.loop-j in
    let a = c.args in
    let e = number_is a.circuits.now l.j _ c.record_at-c.ensures in
    ap Err c.at.ensures ∙ refused_at (is_zero a.circuits.now) NumberZero no_end a.m a.m l.j c.loop-j-test.true (rw (← e) (eq-eqb _ 0 c.if-c-eq0.true)) l.invariant

pub returns : goal.returns
returns c =
    let l = c.loop-j in
    let a = c.args in
    checked_all (is_zero a.circuits.now) NumberZero no_end a.m a.m l.j c.loop-j-test.false l.invariant
