-- `count_needs`: the loads, then c(i) and M. Assumes nothing.
use Rattle.std.proofs.Common.{arith}
use Rattle.records.proofs.Files.{length_circuits_in}
use Rattle.rows.proofs.LoadLaws.{needs_are, most_is, load_bound}
use Rattle.rows.proofs.loads.count_needs.Goals as goal

pub loads_to_needs-requires : goal.loads_to_needs-requires
loads_to_needs-requires c =
    let count_loads = c.count_loads in
    let a = c.args in
    let p = c.requires.0 in
    let v = p.waves in
    let q = count_loads.auto.cells in (
      omega arith,
      omega arith,
      omega arith,
      omega arith,
      load_bound _ _ _ _ count_loads.ensures (omega (arith, length_circuits_in a.m a.circuits.now)),
    )

pub returns : goal.returns
returns c =
    let count_loads = c.count_loads in
    let loads_to_needs = c.loads_to_needs in
    let a = c.args in (
      most_is _ a.n a.w _ _ count_loads.ensures loads_to_needs.ensures.0,
      needs_are _ a.n a.w _ _ count_loads.ensures loads_to_needs.ensures.1,
    )
