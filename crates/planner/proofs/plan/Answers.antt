-- `plan`: what the tests refuse changes nothing, and what they accept is planned. Assumes nothing.
use native.Mathlib.Omega.{arith}
use Rattle.std.proofs.lemmas.Grind.{common_steps}
use Rattle.planner.proofs.Judging.{admitted, planned, refused}
use Rattle.planner.proofs.plan.Goals as goal

pub settle-requires : goal.settle-requires
settle-requires c = rw c.on-job.ensures (admitted _ _ _ _ _ c.of_plan.ensures c.in_ok-m.was)

pub returns-in_err-m : goal.returns-in_err-m
returns-in_err-m c = refused _ _ _ _ _ _ c.of_plan.ensures c.in_err-m.was (grind (arith, common_steps))

pub returns : goal.returns
returns c =
    let s = rw c.on-job.ensures at c.settle.ensures in
    planned _ _ _ _ _ _ _ c.of_plan.ensures c.in_ok-m.was s
