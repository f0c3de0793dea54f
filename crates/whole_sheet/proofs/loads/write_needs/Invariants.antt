-- `write_needs`: links before i have their c(i). Assumes nothing.
use mathlib.Core.Path.{◌≡◌}
use lib.ListN.{length}
use Rattle.records.specs.Bytes.{cells_of}
use Rattle.records.specs.Records.{circuits_in}
use Rattle.method.specs.Sheet.{need}
use Rattle.rows.specs.inner.Loops.{Written}
use Rattle.whole_sheet.proofs.loads.write_needs.Given as goal

abbrev pub invariant-loop-i : goal.invariant-loop-i
invariant-loop-i l =
    Written (need l.job.wavelengths (circuits_in l.job.circuits l.circuits)) 1 l.i (cells_of l.initial.cells) (cells_of l.cells) × (length l.cells ≡ length l.initial.cells)
