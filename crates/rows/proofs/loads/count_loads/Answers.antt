-- `count_loads`: the marks, added up, are the loads. Assumes nothing.
use Rattle.records.proofs.Files.{length_circuits_in}
use Rattle.rows.proofs.MarkLaws.{loads_are}
use Rattle.rows.proofs.loads.count_loads.Goals as goal

pub returns : goal.returns
returns c =
    let mark_ends = c.mark_ends in
    let running_sum = c.running_sum in
    let a = c.args in
    let p = c.requires.0 in
    loads_are a.n a.m _ _ _ p.lies (length_circuits_in a.m a.circuits.now) p.few mark_ends.ensures running_sum.ensures
