-- `lowest_fit`: the best of the circuits before j. Assumes nothing.
use mathlib.Core.Path.{◌≡◌}
use Rattle.whole_sheet.specs.inner.Choices.{place_of, OneOf, may_go, number_of}
use Rattle.basics.specs.Tools.{lowest}
use Rattle.whole_sheet.proofs.choice.lowest_fit.Given as goal

abbrev pub invariant-loop-j : goal.invariant-loop-j
invariant-loop-j l =
    (place_of l.best ≡ lowest (may_go l.job.links l.job.circuits l.circuits l.work l.row) (number_of l.job.circuits l.circuits) l.j) × OneOf l.job.circuits l.best
