-- `fill_row`: what is left of the row leads where all of it leads; the open links become fewer. Assumes nothing.
use Rattle.records.specs.Bytes.{cells_of}
use Rattle.records.specs.Records.{circuits_in}
use Rattle.method.specs.Sheet.{run_from}
use Rattle.method.proofs.Closed.{opens}
use Rattle.records.specs.Area.{lasts_in}
use Rattle.rows.specs.inner.Area.{state_in}
use Rattle.rows.specs.inner.Desk.{Desk, Waiting}
use Rattle.rows.specs.inner.Colours.{shown, LinkTold}
use Rattle.rows.proofs.RowLaws.{RowShows}
use Rattle.rows.proofs.sheet.fill_row.Given as goal

abbrev pub invariant-loop-open : goal.invariant-loop-open
invariant-loop-open l =
    Desk l.file.links l.file.many l.file.circuits.now l.work l.list × RowShows l.file.links l.file.many l.k (circuits_in l.file.many l.file.circuits.now) (cells_of l.initial.work) (cells_of l.work)
    × Waiting l.file.links l.file.many l.file.circuits.now l.work l.list l.waiting
    × LinkTold l.file.links (run_from l.file.links (shown l.file.links l.k (lasts_in l.file.links (cells_of l.work)))) l.open

abbrev pub decreases-loop-open : goal.decreases-loop-open
decreases-loop-open l = opens l.file.links (state_in l.file.links l.file.many l.k (cells_of l.work))
