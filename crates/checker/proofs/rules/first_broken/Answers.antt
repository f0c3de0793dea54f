-- `first_broken` meets its contract: the runs in the order of the paper, and what each leaves. Assumes nothing.
use Rattle.checker.proofs.Judging.{fibre_broken, count_broken, assign_tells}
use Rattle.checker.proofs.rules.first_broken.Goals as goal

pub returns-in-Some : goal.returns-in-Some
returns-in-Some c =
    let a = c.args in
    fibre_broken a.line a.m a.k a.l a.circuits.now a.fibres.now a.assigns.now _ _ c.fibre_fault.ensures c.in-Some.is

pub returns-in-None : goal.returns-in-None
returns-in-None c =
    let a = c.args in
    count_broken a.line a.m a.k a.l a.circuits.now a.fibres.now a.assigns.now _ c.fibre_fault.ensures c.in-None.is c.if-l-m.true

pub returns-in-None-2 : goal.returns-in-None-2
returns-in-None-2 c =
    let a = c.args in
    assign_tells a.line a.m a.k a.l a.circuits.now a.fibres.now a.assigns.now _ _ c.fibre_fault.ensures c.in-None.is c.if-l-m.false c.assignment_fault.ensures
