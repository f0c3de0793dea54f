-- `last_reds`: the first i links have their last red row. Assumes nothing.
use Rattle.std.proofs.Common.{◌≡◌, length}
use Rattle.records.specs.Bytes.{cells_of}
use Rattle.rows.specs.inner.Loads.{red_at}
use Rattle.rows.specs.inner.Loops.{Reddening}
use Rattle.rows.proofs.loads.last_reds.Given as goal

abbrev pub invariant-loop-i : goal.invariant-loop-i
invariant-loop-i l = Reddening l.n (red_at l.most l.w (cells_of l.initial.cells)) l.i (cells_of l.initial.cells) (cells_of l.cells) × (length l.cells ≡ length l.initial.cells)
