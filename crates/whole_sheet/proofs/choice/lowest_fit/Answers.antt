-- `lowest_fit`: the best of the circuits before j. Assumes nothing.
use mathlib.Core.Path.{◌≡◌, refl, ap, ◌∙◌}
use native.Mathlib.Omega.{arith}
use lib.ListN.{length}
use Rattle.whole_sheet.proofs.Fitting.{lowest_turn}
use Rattle.whole_sheet.specs.inner.Choices.{may_go, number_of}
use Rattle.basics.specs.Tools.{lowest}
use Rattle.records.specs.Records.{circuits_in}
use Rattle.records.proofs.Files.{length_circuits_in}
use Rattle.method.specs.Sheet.{chosen}
use Rattle.whole_sheet.proofs.choice.lowest_fit.Goals as goal

pub loop-j-init : goal.loop-j-init
unfolding lowest
loop-j-init c = (refl, tt)

pub loop-j-preserved : goal.loop-j-preserved
loop-j-preserved c =
    let better-of = c.better_of-best in
    let l = c.loop-j in
    (lowest_turn _ _ l.j _ _ l.invariant.0 better-of.ensures.0, better-of.ensures.1)

pub returns : goal.returns
unfolding chosen may_go number_of
returns c =
    let l = c.loop-j in
    let a = c.args in
    let e : l.j ≡ length (circuits_in a.job.circuits a.circuits.now) = omega (arith, length_circuits_in a.job.circuits a.circuits.now) in
    (l.invariant.0 ∙ ap (lowest _ _) e, l.invariant.1)
