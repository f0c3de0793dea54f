-- `of_check`: the tests of the circuits, which find how many there are, and then those of the lists. Assumes nothing.
use Prim.Native.Nat.{◌/◌}
use mathlib.Core.Path.{◌≡◌, ap, ◌∙◌, sym}
use mathlib.Core.List.{[], ◌++◌}
use lib.ListN.{length}
use Rattle.std.specs.Prelude.{Ok}
use Rattle.refusals.specs.Table.{circuit_rows, verdict}
use Rattle.refusals.proofs.Chain.{piece_leaves}
use Rattle.refusals.proofs.First.{verdict_passed}
use Rattle.checker.specs.Checked.{list_rows, check_table}
use Rattle.checker.proofs.admit.of_check.Goals as goal

pub returns : goal.returns
unfolding check_table verdict
returns c =
    let a = c.args in
    let s = a.circuits.now in
    let k = length s / 8 in
    let rows = list_rows a.fibres a.assigns in
    let e : verdict (circuit_rows a.line s) k ≡ Ok c.in_ok-m.m = sym c.of_circuits.ensures ∙ c.in_ok-m.was in
    let f : verdict rows (a.assigns / 8) ≡ Ok c.in_ok-of_lists.field-0 = sym c.of_lists.ensures ∙ c.in_ok-of_lists.was in
    ap Ok (verdict_passed (circuit_rows a.line s) k _ e).0
    ∙ sym (piece_leaves (circuit_rows a.line s) (rows ++ []) k k _ e ∙ piece_leaves rows [] k _ _ f)
