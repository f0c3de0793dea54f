-- `all_rows`: before row k the work area is that of the sheet after k - 1 rows. Assumes nothing.
use Rattle.std.proofs.Common.{◌-◌}
use Rattle.rows.specs.inner.Desk.{Waiting}
use Rattle.rows.specs.inner.Sheeted.{DeskAfter}
use Rattle.rows.proofs.sheet.all_rows.Given as goal

abbrev pub invariant-loop-k : goal.invariant-loop-k
invariant-loop-k l =
    DeskAfter l.file.links l.file.many l.w (l.k - 1) l.file.circuits.now l.work l.list × Waiting l.file.links l.file.many l.file.circuits.now l.work l.list l.waiting
