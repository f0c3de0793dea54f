-- `build`: the columns hold the circuits by rising number, so their index is that of both files. Assumes nothing.
use native.Mathlib.Omega.{arith}
use Rattle.riders.proofs.ColumnLaws.{sorted_lies, sorted_rises, sorted_cells, sorted_index}
use Rattle.riders.proofs.build.Goals as goal

pub fill-requires-clause-rises : goal.fill-requires-clause-rises
fill-requires-clause-rises c = let o = c.requires.0 in
    let s = c.sort_both.ensures in
    (sorted_rises _ _ s o.distinct, sorted_lies _ _ s _ o.lies, omega (arith, c.requires.1, sorted_cells _ _ s c.args.links))

pub returns : goal.returns
returns c = sorted_index _ _ c.sort_both.ensures _ _ _ c.fill.ensures
