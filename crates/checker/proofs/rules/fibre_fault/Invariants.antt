-- `fibre_fault` meets its contract: no fibre before the one that is read is faulty. Assumes nothing.
use Rattle.checker.specs.Rules.{fibre_rules}
use Rattle.checker.specs.Checked.{fibres_in}
use Rattle.checker.proofs.Faults.{SoundTo}
use Rattle.checker.proofs.rules.fibre_fault.Given as goal

abbrev pub invariant-loop-i : goal.invariant-loop-i
invariant-loop-i l = SoundTo (fibre_rules l.n (fibres_in l.k l.fibres)) l.i
