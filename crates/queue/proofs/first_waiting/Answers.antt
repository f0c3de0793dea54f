-- `first_waiting`: the columns are parts of the list. Assumes nothing.
use Prim.Native.Nat.{◌-◌}
use Rattle.queue.proofs.Columns.{found_both}
use Rattle.queue.proofs.first_waiting.Goals as goal

pub returns : goal.returns
returns c =
    let a = c.args in
    found_both a.m a.q.from (a.q.to - a.q.from) c.first_within_both.result a.a a.b a.list.now c.first_within_both.ensures
