-- `loads_to_needs`: the first i links have their c(i), `most` is the largest of them. Assumes nothing.
use Rattle.std.proofs.Common.{◌≡◌, ◌+◌, length}
use Rattle.basics.specs.Tools.{top}
use Rattle.records.specs.Bytes.{cells_of}
use Rattle.rows.specs.inner.Loads.{rounded_at}
use Rattle.rows.specs.inner.Loops.{Written}
use Rattle.rows.proofs.loads.loads_to_needs.Given as goal

abbrev pub invariant-loop-i : goal.invariant-loop-i
invariant-loop-i l = Written (rounded_at l.w (cells_of l.initial.cells)) 1 (l.i + 1) (cells_of l.initial.cells) (cells_of l.cells) × (length l.cells ≡ length l.initial.cells) × (l.most ≡ top (rounded_at l.w (cells_of l.initial.cells)) l.i)
