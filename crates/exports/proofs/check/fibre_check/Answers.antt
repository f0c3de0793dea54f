-- `fibre_check`: the finding of `check_plan` as a plain struct. Assumes nothing.
use Rattle.exports.proofs.ToldFindings.{check_exported}
use Rattle.exports.proofs.check.fibre_check.Goals as goal

pub returns : goal.returns
returns c = let a = c.args in
    check_exported _ a.circuits.now a.fibres.now a.assignments.now _ _ c.from.ensures c.check_plan-finding.ensures
