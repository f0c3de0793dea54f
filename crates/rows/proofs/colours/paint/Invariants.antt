-- `paint`: links from `start` to before i have the last row. Assumes nothing.
use Rattle.std.proofs.Common.{◌≡◌, ◌≤◌, max, length}
use Rattle.records.specs.Bytes.{cells_of}
use Rattle.rows.specs.inner.Loops.{Written, one_row}
use Rattle.rows.proofs.colours.paint.Given as goal

abbrev pub invariant-loop-i : goal.invariant-loop-i
invariant-loop-i l = (l.i ≤ max l.start l.past) × Written (one_row l.v) l.start l.i (cells_of l.initial.lasts) (cells_of l.lasts) × (length l.lasts ≡ length l.initial.lasts)
