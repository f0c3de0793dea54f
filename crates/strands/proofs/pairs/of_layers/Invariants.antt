-- `strands::pairs::of_layers` meets its contract: the loop stands as `Layering` says, and its turns are the laws of proofs/Layering.antt. Assumes nothing.
use Rattle.strands.specs.inner.Pairs.{Layering}
use Rattle.strands.proofs.pairs.of_layers.Given as goal

abbrev pub invariant-loop-h : goal.invariant-loop-h
invariant-loop-h l = Layering l.n l.m l.top l.initial.work l.initial.pairs.lasts l.work l.pairs.lasts l.h l.pairs.count
