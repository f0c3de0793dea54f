-- `of_whole`: the tests of the planner, and then row 21 with M. Assumes nothing.
use Prim.Native.Nat.{ℕ, ◌*◌}
use mathlib.Core.Path.{ap, ◌∙◌, sym, subst}
use native.Mathlib.Omega.{arith}
use native.Mathlib.Nat.{mul-le-mul}
use Rattle.whole_sheet.proofs.Judged.{plan_counted, plan_accepted, room_gives, room_leaves}
use Rattle.whole_sheet.specs.WholeOutcome.{row21}
use Rattle.register.specs.declared.Job.{Job}
use Rattle.rows.specs.Accepted.{Accepted}
use Rattle.rows.proofs.FillLaws.{top_low}
use Rattle.std.proofs.lemmas.Grind.{common_steps}
use Rattle.std.specs.Prelude.{Ok}
use Rattle.refusals.specs.Table.{tested}
use Rattle.whole_sheet.proofs.admit.of_whole.Goals as goal

pub most_of-top-requires : goal.most_of-top-requires
most_of-top-requires c =
    subst (λ (y : Job). Accepted y.links y.wavelengths y.circuits c.args.circuits.now) (sym c.on.ensures)
    (plan_accepted _ _ _ _ _ _ _ c.of_plan.ensures c.in_ok-m.was)

pub overflow_mul-top : goal.overflow_mul-top
overflow_mul-top c =
    let of_plan = c.of_plan in
    let a = c.args in
    omega
    (arith, top_low a.line.links a.line.wavelengths _ _ a.circuits.now (plan_accepted _ _ _ _ _ _ _ of_plan.ensures c.in_ok-m.was) (rw c.on.ensures at c.most_of-top.ensures))

pub overflow_mul-line : goal.overflow_mul-line
overflow_mul-line c =
    let of_plan = c.of_plan in
    let most-of = c.most_of-top in
    let a = c.args in
    let y = plan_accepted _ _ _ _ _ _ _ of_plan.ensures c.in_ok-m.was in
    omega
    (arith, mul-le-mul {n₁ = a.line.links} {m₁ = most-of.result * a.line.wavelengths} {n₂ = 512} {m₂ = 2127} y.file.line (top_low a.line.links a.line.wavelengths _ _ a.circuits.now y (rw c.on.ensures at most-of.ensures)))

pub returns-in_err-sheet_room : goal.returns-in_err-sheet_room
returns-in_err-sheet_room c =
    let a = c.args in
    let counted = plan_counted _ _ _ _ _ _ _ c.of_plan.ensures c.in_ok-m.was in
    let given = rw c.on.ensures at c.most_of-top.ensures in
    let top = rw counted at given in
    let e = ap (λ (x : ℕ). tested (row21 (a.line.links * (x * a.line.wavelengths)) a.sheet) a.sheet) (sym top) ∙ sym c.sheet_room.ensures ∙ c.in_err-sheet_room.was in
    let f = room_gives a.line a.circuits.now a.fibres a.assigns a.work a.sheet _ a.sheet _ (sym c.of_plan.ensures ∙ c.in_ok-m.was) e in
    grind (arith, common_steps, f)

pub returns : goal.returns
returns c =
    let a = c.args in
    let counted = plan_counted _ _ _ _ _ _ _ c.of_plan.ensures c.in_ok-m.was in
    let given = rw c.on.ensures at c.most_of-top.ensures in
    let top = rw counted at given in
    let e = ap (λ (x : ℕ). tested (row21 (a.line.links * (x * a.line.wavelengths)) a.sheet) a.sheet) (sym top) ∙ sym c.sheet_room.ensures ∙ c.in_ok-sheet_room.was in
    ap Ok counted ∙ sym (room_leaves a.line a.circuits.now a.fibres a.assigns a.work a.sheet _ a.sheet _ (sym c.of_plan.ensures ∙ c.in_ok-m.was) e)
