-- `of_plan`: the tests of the circuits, which find how many there are, and then those of the areas. Assumes nothing.
use Prim.Native.Nat.{ℕ, ◌/◌}
use mathlib.Core.Path.{◌≡◌, ap, ◌∙◌, sym}
use mathlib.Core.List.{[], ◌++◌}
use lib.ListN.{length}
use Rattle.std.specs.Prelude.{Ok}
use Rattle.refusals.specs.Table.{circuit_rows, plan_table, area_rows, verdict}
use Rattle.refusals.proofs.Chain.{circuits_few, circuits_short, piece_leaves}
use Rattle.refusals.proofs.First.{verdict_passed}
use Rattle.planner.proofs.admit.of_plan.Goals as goal

pub of_areas-requires : goal.of_areas-requires
of_areas-requires c =
    let e = sym c.of_circuits.ensures ∙ c.in_ok-m.was in
    (circuits_short _ _ _ _ e, rw (verdict_passed _ _ _ e).0 (circuits_few _ _ _ _ e))

pub returns : goal.returns
unfolding plan_table area_rows verdict
returns c =
    let a = c.args in
    let s = a.circuits.now in
    let k = length s / 8 in
    let e : verdict (circuit_rows a.line s) k ≡ Ok c.in_ok-m.m = sym c.of_circuits.ensures ∙ c.in_ok-m.was in
    let m : c.in_ok-m.m ≡ k = (verdict_passed (circuit_rows a.line s) k _ e).0 in
    c.of_areas.ensures
    ∙ ap (λ (x : ℕ). verdict (area_rows a.line.links x a.fibres a.assigns a.work) x) m
    ∙ sym (piece_leaves (circuit_rows a.line s) (area_rows a.line.links k a.fibres a.assigns a.work ++ []) k k _ e)
