-- `begin_row`: the links before i have the colours with which the row begins. Assumes nothing.
use Prim.Native.Nat.{◌+◌, ◌-◌, ◌*◌}
use Rattle.whole_sheet.specs.inner.Tables.{start_at}
use Rattle.records.specs.Bytes.{cells_of}
use Rattle.rows.specs.inner.Loops.{Written}
use Rattle.whole_sheet.proofs.table.begin_row.Given as goal

abbrev pub invariant-loop-i : goal.invariant-loop-i
invariant-loop-i l =
    Written (start_at l.job.links l.job.wavelengths l.top l.k (cells_of l.work) l.initial.sheet) (l.job.links * (l.k - 1) + 1) (l.job.links * (l.k - 1) + l.i) l.initial.sheet l.sheet
