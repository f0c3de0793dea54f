-- `clashes_on` meets its contract: each turn walks the circuit that comes next along the chain, or finds a clash. Assumes nothing.
use Prim.Native.Nat.{ℕ, ◌+◌}
use mathlib.Core.Path.{◌≡◌}
use lib.ListN.{length}
use Rattle.records.specs.Chains.{entry_of}
use Rattle.records.specs.Records.{circuits_in}
use Rattle.chains.specs.Riders.{fibre_in}
use Rattle.clashes.specs.Clashes.{wave_in}
use Rattle.clashes.specs.inner.Sweeps.{InChains, Walk, to_go}
use Rattle.clashes.proofs.clashes_on.Given as goal

abbrev pub invariant-loop-at : goal.invariant-loop-at
invariant-loop-at l = (length l.reach ≡ 81) × ((q : ℕ) → InChains q l.circuits l.assigns l.chains.next l.chains.heads → Walk (circuits_in q l.circuits) (fibre_in l.assigns) (wave_in l.assigns) (l.o + 1) (entry_of l.at) l.reach)

abbrev pub decreases-loop-at : goal.decreases-loop-at
decreases-loop-at l = to_go l.circuits (entry_of l.at)
