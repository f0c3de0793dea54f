-- `strands::assigns::write_assignments` meets its contract: the records of the first j circuits stand at the start. Assumes nothing.
use Prim.Native.Nat.{◌*◌}
use mathlib.Core.Path.{◌≡◌}
use mathlib.Core.List.{◌++◌}
use lib.ListN.{drop}
use Rattle.strands.specs.inner.Area.{records_to}
use Rattle.strands.proofs.assigns.write_assignments.Given as goal

abbrev pub invariant-loop-j : goal.invariant-loop-j
invariant-loop-j l = l.out ≡ records_to l.job.links l.job.wavelengths l.job.circuits l.circuits l.j ++ drop (8 * l.j) l.initial.out
