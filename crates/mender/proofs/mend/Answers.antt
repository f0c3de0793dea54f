-- `mend`: what the tests refuse changes nothing, and what they accept is mended. Assumes nothing.
use native.Mathlib.Omega.{arith}
use Rattle.std.proofs.lemmas.Grind.{common_steps}
use Rattle.mender.proofs.Judging.{refused, admitted, mended}
use Rattle.mender.proofs.mend.Goals as goal

pub remake-requires : goal.remake-requires
remake-requires c = admitted _ _ _ _ _ c.of_mending.ensures _ c.in_ok-of_mending.was

pub returns-in_err-of_mending : goal.returns-in_err-of_mending
returns-in_err-of_mending c = refused _ _ _ _ _ c.of_mending.ensures _ _ c.in_err-of_mending.was (grind (arith, common_steps))

pub returns : goal.returns
returns c = mended _ _ _ _ _ c.of_mending.ensures _ c.in_ok-of_mending.was _ _ c.remake.ensures
