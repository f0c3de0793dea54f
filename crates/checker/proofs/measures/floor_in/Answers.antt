-- `floor_in` meets its contract: cells that are c(i) add up to the floor. Assumes nothing.
use mathlib.Core.Path.{◌∙◌}
use Rattle.checker.proofs.Adding.{floor_is}
use Rattle.checker.proofs.measures.floor_in.Goals as goal

pub returns : goal.returns
returns c =
    let a = c.args in
    c.floor_of.ensures.0 ∙ floor_is a.n a.w _ _ c.count_needs.ensures.1
