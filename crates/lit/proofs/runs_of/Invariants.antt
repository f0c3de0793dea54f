-- `runs_of` meets its contract: each turn sweeps the circuit that comes next along the chain. Assumes nothing.
use Rattle.records.specs.Chains.{entry_of}
use Rattle.records.specs.Records.{circuits_in}
use Rattle.lit.specs.inner.Sweeps.{GroundOf, Origin, Swept}
use Rattle.lit.proofs.Asks.{Walk, to_go}
use Rattle.lit.proofs.runs_of.Given as goal

abbrev pub invariant-loop-at : goal.invariant-loop-at
invariant-loop-at l = (x : Origin) → GroundOf l.job l.circuits l.work l.chains.next l.chains.heads x → Swept l.job.links l.job.from (circuits_in l.job.circuits l.circuits) x l.o 0 l.initial.run l.initial.fibres l.initial.assigns → Walk l.job.links l.job.from (circuits_in l.job.circuits l.circuits) x l.o (entry_of l.at) l.run l.fibres l.assigns

abbrev pub decreases-loop-at : goal.decreases-loop-at
decreases-loop-at l = to_go (circuits_in l.job.circuits l.circuits) (entry_of l.at)
