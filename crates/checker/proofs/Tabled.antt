-- Each row of the table of a check: the order of the numbers, and the wrong end. Assumes nothing.
use Prim.Native.Nat.{ℕ, ◌/◌}
use mathlib.Core.Path.{◌≡◌}
use mathlib.Core.List.{List, [], ◌∷◌}
use mathlib.Core.Option.{some}
use native.Mathlib.Omega.{arith}
use lib.ListN.{length}
use Rattle.records.specs.declared.Line.{Line}
use Rattle.refusals.specs.Refusals.{number_of}
use Rattle.refusals.specs.declared.Refusal.{Refusal}
use Rattle.refusals.specs.declared.Reason.TheVariants.{PartList}
use Rattle.refusals.specs.Given.{InOrder}
use Rattle.refusals.specs.Ends.{TellsEnd}
use Rattle.refusals.specs.Table.{no_end, file_rows, line_rows, record_rows, circuit_rows, area_rows, plan_table}
use Rattle.refusals.proofs.EndLaws.{EachGives, circuits_tell, each_both, each_end, each_more, each_tells}
use Rattle.refusals.proofs.Pieces.{plan_in_order, wherever_gives}
use Rattle.checker.specs.Checked.{bad_list, row16, list_rows, check_table}

-- a list's row gives 16
sixteen : (place limit has : ℕ) (r : Refusal) → row16 place limit has ≡ some r → number_of r.reason ≡ 16
sixteen place limit has = wherever_gives PartList no_end (bad_list place limit has)

-- refusal 6 of a check tells the wrong end as that of `plan` does, and no other refusal tells one
pub check_tells : (line : Line) (s : List ℕ) (fibres assigns : ℕ) → EachGives (TellsEnd line.links (length s / 8) s) (check_table line s fibres assigns)
unfolding check_table list_rows
check_tells line s fibres assigns =
    let P : Refusal → Type 0 = TellsEnd line.links (length s / 8) s in
    let each = each_tells line.links (length s / 8) s in
    each_both P (circuit_rows line s) _ (circuits_tell line s)
    (each_more P _ _ (each PartList (bad_list 1 4096 fibres) (λ z. omega arith))
    (each_more P _ _ (each PartList (bad_list 2 2048 assigns) (λ z. omega arith))
    (each_end P)))

-- the tests of a check stand in the order of their numbers, with 12 just before 4, as those of `plan` do
pub check_in_order : (line : Line) (s : List ℕ) (fibres assigns : ℕ) → InOrder (1 ∷ 2 ∷ 3 ∷ 12 ∷ 4 ∷ 5 ∷ 6 ∷ 7 ∷ 16 ∷ 16 ∷ []) (check_table line s fibres assigns)
unfolding check_table list_rows plan_table circuit_rows file_rows line_rows record_rows area_rows
check_in_order line s fibres assigns =
    let p = plan_in_order line s 0 0 0 in
    let q = p.1.1.1.1 in
    (p.0, (p.1.0, (p.1.1.0, (p.1.1.1.0, (q.0, (q.1.0, (q.1.1.0, (q.1.1.1.0, (sixteen 1 4096 fibres, (sixteen 2 2048 assigns, tt))))))))))
