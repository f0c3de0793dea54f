-- `mark_ends`: each cell is the mark of the circuits seen. Assumes nothing.
use Rattle.std.proofs.Common.{◌≡◌, length}
use Rattle.basics.specs.Tools.{each}
use Rattle.records.specs.Bytes.{cells_of}
use Rattle.records.specs.Records.{circuits_in}
use Rattle.rows.specs.inner.Loads.{mark_to}
use Rattle.rows.proofs.loads.mark_ends.Given as goal

abbrev pub invariant-loop-j : goal.invariant-loop-j
invariant-loop-j l = (length l.cells ≡ length l.initial.cells) × (cells_of l.cells ≡ each (mark_to (circuits_in l.m l.circuits) l.j) 1 l.n)
