-- `first_own` meets its contract: none before the assignment that is looked at breaks one of rules 4 to 7. Assumes nothing.
use Rattle.checker.specs.inner.Runs.{own_rules_in}
use Rattle.checker.proofs.Faults.{SoundTo}
use Rattle.checker.proofs.rules.first_own.Given as goal

abbrev pub invariant-loop-j : goal.invariant-loop-j
invariant-loop-j l = SoundTo (own_rules_in l.w l.k l.circuits l.fibres l.assigns) l.j
