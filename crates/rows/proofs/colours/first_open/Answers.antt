-- `first_open`: the search in cells is one in links. Assumes nothing.
use Rattle.std.proofs.Common.{arith}
use Rattle.rows.proofs.ShownLaws.{sought_in, open_told}
use Rattle.rows.proofs.colours.first_open.Goals as goal

pub overflow_add-cell : goal.overflow_add-cell
overflow_add-cell c =
    let a = c.args in
    let z = sought_in _ a.n a.start _ (omega arith) (omega arith) c.first_within-cell.ensures in
    omega arith

pub returns : goal.returns
returns c =
    let a = c.args in
    open_told a.n a.k a.start _ _ _ (omega arith) (omega arith) (omega arith) c.first_within-cell.ensures c.then_some.ensures
