-- `add`: what the tests refuse changes nothing, and what they accept is grown. Assumes nothing.
use native.Mathlib.Omega.{arith}
use Rattle.std.proofs.lemmas.Grind.{common_steps}
use Rattle.adder.proofs.Judging.{admitted, grown, refused}
use Rattle.adder.proofs.add.Goals as goal

pub grow-requires : goal.grow-requires
grow-requires c = admitted _ _ _ _ _ _ c.of_addition.ensures _ c.in_ok-of_addition.was

pub returns-in_err-of_addition : goal.returns-in_err-of_addition
returns-in_err-of_addition c = refused _ _ _ _ _ _ c.of_addition.ensures _ _ c.in_err-of_addition.was (grind (arith, common_steps))

pub returns : goal.returns
returns c = grown _ _ _ _ _ _ c.of_addition.ensures _ c.in_ok-of_addition.was _ _ c.grow.ensures
