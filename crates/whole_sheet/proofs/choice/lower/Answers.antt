-- `lower`: the numbers of two circuits are compared. Assumes nothing.
use Prim.Native.Nat.{◌<◌}
use mathlib.Core.Path.{subst}
use Rattle.whole_sheet.proofs.Fitting.{first_found, lower_new, lower_old}
use Rattle.whole_sheet.specs.inner.Choices.{OneOf}
use Rattle.whole_sheet.proofs.choice.lower.Goals as goal

pub returns-then-record_at : goal.returns-then-record_at
returns-then-record_at c =
    let circuit-at = c.record_at in
    let circuit-at2 = c.record_at-in-Some in
    let a = c.args in
    let h : c.in-Some.b < a.m = subst (OneOf a.m) c.in-Some.is c.requires.0 in (
      lower_new a.m a.j _ a.circuits.now a.best _ _ c.in-Some.is c.requires.1 h circuit-at.ensures circuit-at2.ensures c.if-record_at.true,
      c.requires.1,
    )

pub returns-in-None : goal.returns-in-None
returns-in-None c =
    let a = c.args in
    (first_found a.m a.j a.circuits.now a.best c.in-None.is, c.requires.1)

pub returns-else-record_at : goal.returns-else-record_at
returns-else-record_at c =
    let circuit-at = c.record_at in
    let circuit-at2 = c.record_at-in-Some in
    let a = c.args in
    let h : c.in-Some.b < a.m = subst (OneOf a.m) c.in-Some.is c.requires.0 in
    (lower_old a.m a.j _ a.circuits.now a.best _ _ c.in-Some.is c.requires.1 h circuit-at.ensures circuit-at2.ensures c.if-record_at.false, h)
