-- `spans`: the sum of the loads of the first j circuits. Assumes nothing.
use Prim.Native.Nat.{◌*◌, ◌≤◌}
use mathlib.Core.Path.{◌≡◌}
use Rattle.records.specs.Records.{circuits_of}
use Rattle.riders.proofs.LoadLaws.{sum_to}
use Rattle.riders.proofs.admit.spans.Given as goal

abbrev pub invariant-loop-j : goal.invariant-loop-j
invariant-loop-j l = (l.all ≡ sum_to (circuits_of l.circuits) l.links l.j) × (l.all ≤ 512 * l.j)
