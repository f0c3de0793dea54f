-- `plan_whole`: what the tests refuse changes nothing, and what they accept is planned and drawn. Assumes nothing.
use native.Mathlib.Omega.{arith}
use Rattle.std.proofs.lemmas.Grind.{common_steps}
use Rattle.whole_sheet.proofs.Judged.{admitted, planned, refused, sheet_roomy}
use Rattle.register.specs.Areas.{areas}
use Rattle.whole_sheet.proofs.plan_whole.Goals as goal

pub settle_whole-requires : goal.settle_whole-requires
settle_whole-requires c =
    let of-whole = c.of_whole in
    let a = c.args in
    let lent = areas a.fibres.now a.assigns.now a.work.now in
    let fit = admitted a.line a.circuits.now lent a.sheet.now _ _ of-whole.ensures c.in_ok-m.was in
    let roomy = sheet_roomy a.line a.circuits.now lent a.sheet.now _ _ of-whole.ensures c.in_ok-m.was in
    record { admitted = rw c.on-job.ensures fit; room = rw c.on-job.ensures roomy }

pub returns-in_err-m : goal.returns-in_err-m
returns-in_err-m c = refused _ _ _ _ _ _ _ c.of_whole.ensures c.in_err-m.was (grind (arith, common_steps))

pub returns : goal.returns
returns c =
    let of-whole = c.of_whole in
    let settle-whole = c.settle_whole in
    let settled = rw c.on-job.ensures at settle-whole.ensures.settled in
    let drawn = rw c.on-job.ensures at settle-whole.ensures.sheet_after in
    planned _ _ _ _ _ _ of-whole.ensures c.in_ok-m.was _ _ _ settled drawn
