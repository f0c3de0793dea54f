-- `running_sum`: the first i links hold the sum of the cells up to them, and `sum` is the last of these. Assumes nothing.
use Rattle.std.proofs.Common.{◌≡◌, ◌+◌, length}
use Rattle.records.specs.Bytes.{cells_of}
use Rattle.rows.specs.inner.Loads.{sum_to}
use Rattle.rows.specs.inner.Loops.{Written}
use Rattle.rows.proofs.loads.running_sum.Given as goal

abbrev pub invariant-loop-i : goal.invariant-loop-i
invariant-loop-i l = Written (sum_to (cells_of l.initial.cells)) 1 (l.i + 1) (cells_of l.initial.cells) (cells_of l.cells) × (length l.cells ≡ length l.initial.cells) × (l.sum ≡ sum_to (cells_of l.initial.cells) l.i)
