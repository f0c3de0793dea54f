-- `fibre_plan`: the outcome of `plan`, its answer as a plain struct. Assumes nothing.
use Rattle.exports.proofs.Told.{exported}
use Rattle.exports.proofs.fibre_plan.Goals as goal

pub returns : goal.returns
returns c = exported _ _ _ c.from.ensures c.plan-answer.ensures
