-- `fill_row`: what is left of the row leads where all of it leads; the open links become fewer. Assumes nothing.
use mathlib.Core.Path.{◌≡◌}
use Rattle.whole_sheet.specs.inner.Board.{state_in, Board}
use Rattle.records.specs.Area.{needs_in}
use Rattle.records.specs.Bytes.{cells_of}
use Rattle.records.specs.Records.{circuits_in}
use Rattle.method.specs.Sheet.{steps}
use Rattle.method.proofs.Closed.{opens}
use Rattle.rows.proofs.RowLoop.{InLoop}
use Rattle.whole_sheet.proofs.table.fill_row.Given as goal

abbrev pub invariant-loop-l : goal.invariant-loop-l
invariant-loop-l l =
    Board l.job.links l.job.circuits l.circuits l.work l.row
    × InLoop l.job.links (circuits_in l.job.circuits l.circuits) l.k
    (steps l.job.links (circuits_in l.job.circuits l.circuits) l.job.links l.k (state_in l.job.links l.job.circuits l.initial.work l.initial.row))
    (state_in l.job.links l.job.circuits l.work l.row)
    × (needs_in l.job.links (cells_of l.work) ≡ needs_in l.job.links (cells_of l.initial.work))

abbrev pub decreases-loop-l : goal.decreases-loop-l
decreases-loop-l l = opens l.job.links (state_in l.job.links l.job.circuits l.work l.row)
