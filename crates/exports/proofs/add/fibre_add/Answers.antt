-- `fibre_add`: the outcome of `add`, its answer as a plain struct. Assumes nothing.
use Rattle.exports.proofs.Told.{exported}
use Rattle.exports.proofs.add.fibre_add.Goals as goal

pub returns : goal.returns
returns c = exported _ _ _ c.from.ensures c.add-answer.ensures
