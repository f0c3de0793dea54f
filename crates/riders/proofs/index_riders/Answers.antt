-- `index_riders`: what the tests refuse changes nothing, and what they accept is indexed. Assumes nothing.
use mathlib.Core.Path.{◌∙◌, sym}
use native.Mathlib.Omega.{arith}
use Rattle.std.proofs.lemmas.Grind.{common_steps}
use Rattle.riders.specs.Outcome.{judged}
use Rattle.riders.proofs.Accepting.{may_build, refused, built}
use Rattle.riders.proofs.index_riders.Goals as goal

pub build-requires : goal.build-requires
unfolding judged
build-requires c = may_build _ _ _ _ _ (sym c.of_index.ensures ∙ c.in_ok-cells.was)

pub returns-in_err-cells : goal.returns-in_err-cells
unfolding judged
returns-in_err-cells c = let a = c.args in refused a.links a.old.now a.new.now a.index.now _ _ (sym c.of_index.ensures ∙ c.in_err-cells.was) (grind (arith, common_steps))

pub returns : goal.returns
unfolding judged
returns c = let a = c.args in built a.links a.old.now a.new.now a.index.now _ _ (sym c.of_index.ensures ∙ c.in_ok-cells.was) c.build.ensures
