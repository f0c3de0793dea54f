-- `fibre_mend`: the outcome of `mend`, its answer as a plain struct. Assumes nothing.
use Rattle.exports.proofs.ToldMending.{mend_exported}
use Rattle.exports.proofs.mend.fibre_mend.Goals as goal

pub returns : goal.returns
returns c = mend_exported _ _ _ _ _ _ _ c.from.ensures c.mend-answer.ensures
