-- `clashes_on_any` meets its contract: after each turn one fibre more has no clash. Assumes nothing.
use Prim.Native.Nat.{ℕ}
use Rattle.clashes.specs.inner.Sweeps.{ApartTo, InChains}
use Rattle.clashes.proofs.clashes_on_any.Given as goal

abbrev pub invariant-loop-o : goal.invariant-loop-o
invariant-loop-o l = (q : ℕ) → InChains q l.circuits l.assigns l.chains.next l.chains.heads → ApartTo l.o q l.circuits l.assigns
