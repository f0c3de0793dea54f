-- `write_line` meets its contract: two cells, or three where the grid is named. Assumes nothing.
use Rattle.std.proofs.Common.{arith}
use Rattle.entry_text.specs.Pair.{header_bytes}
use Rattle.entry_text.proofs.PairLaws.{two_cells, three_cells}
use Rattle.entry_text.proofs.write_line.Goals as goal

pub returns-in_default : goal.returns-in_default
unfolding header_bytes
returns-in_default c = (rw c.in_default.is (two_cells _ _ _ _ _ 1 c.requires c.put.ensures c.put-2.ensures), omega arith)

pub returns : goal.returns
unfolding header_bytes
returns c = (rw c.in-Some.is (three_cells _ _ _ _ _ _ _ c.requires c.put.ensures c.put-2.ensures c.put-3.ensures), omega arith)
