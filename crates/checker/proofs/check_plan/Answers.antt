-- `check_plan`: what the tests refuse is refused, and what they leave is examined. Assumes nothing.
use native.Mathlib.Omega.{arith}
use Rattle.std.proofs.lemmas.Grind.{common_steps}
use Rattle.checker.proofs.Judging.{refused, may_examine, answered}
use Rattle.checker.proofs.check_plan.Goals as goal

pub examine-requires : goal.examine-requires
examine-requires c =
    let a = c.args in
    let may = may_examine a.line a.circuits.now a.fibres.now a.assigns.now _ c.of_check.ensures _ c.in_ok-m.was in
    record { accepted = may.0; sizes = may.1 }

pub returns-in_err-m : goal.returns-in_err-m
returns-in_err-m c =
    let a = c.args in
    let e = refused a.line a.circuits.now a.fibres.now a.assigns.now _ c.of_check.ensures _ c.in_err-m.was in
    grind (arith, common_steps, e)

pub returns : goal.returns
returns c =
    let a = c.args in
    answered a.line a.circuits.now a.fibres.now a.assigns.now _ c.of_check.ensures _ c.in_ok-m.was _ c.examine.ensures
