-- `trim_all` meets its contract: after each turn one old fibre more is done. Assumes nothing.
use Rattle.lit.specs.inner.Sweeps.{SweptOn}
use Rattle.lit.proofs.trim_all.Given as goal

abbrev pub invariant-loop-o : goal.invariant-loop-o
invariant-loop-o l = SweptOn l.job l.circuits l.work l.chains.next l.chains.heads 0 (record { fibres = 0; total = 0 }) l.initial.fibres l.initial.assigns l.o l.s l.fibres l.assigns
