-- `loads_to_needs`: the first i links have their c(i), `most` is the largest of them. Assumes nothing.
use Rattle.std.proofs.Common.{◌≡◌, ◌+◌, max, refl, ap, ◌∙◌, ap₂, arith, rules}
use Rattle.basics.specs.Tools.{top}
use native.Mathlib.Numerals.{add-one}
use Rattle.records.specs.Bytes.{cells_of}
use Rattle.records.proofs.CellLaws.{length_cells_of, stored}
use Rattle.rows.specs.inner.Loads.{rounded, rounded_at}
use Rattle.rows.proofs.Written.{written_start, written_next, written_all, read_next}
use Rattle.rows.proofs.LoadLaws.{below_at}
use Rattle.rows.proofs.loads.loads_to_needs.Goals as goal

pub loop-i-init : goal.loop-i-init
unfolding top
loop-i-init c = (written_start _ _ _, refl, refl)

pub needed-c-requires : goal.needed-c-requires
needed-c-requires c =
    let l = c.loop-i in
    let a = c.args in
    let v = read_next _ l.cells l.i _ _ l.invariant.0 (omega arith) c.get-v.ensures in
    let z = below_at 2048 (cells_of a.cells.now) (l.i + 1) c.requires.4 in
    (search rules, search rules, omega arith)

pub loop-i-preserved : goal.loop-i-preserved
unfolding rounded_at top
loop-i-preserved c =
    let l = c.loop-i in
    let put = c.put in
    let a = c.args in
    let v = read_next _ l.cells l.i _ _ l.invariant.0 (omega arith) c.get-v.ensures in
    let q = c.needed-c.ensures ∙ ap (rounded a.w) v in (
      written_next _ l.i _ _ _ _ l.invariant.0 (stored _ _ _ _ put.ensures) q (omega (arith, length_cells_of a.cells.now a.n (omega arith))),
      put.auto.work ∙ l.invariant.1,
      c.max-most.ensures ∙ ap₂ max q l.invariant.2 ∙ rw add-one,
    )

pub returns : goal.returns
returns c =
    let l = c.loop-i in
    let a = c.args in
    let e : l.i ≡ a.n = omega arith in
    (l.invariant.2 ∙ ap (top _) e, written_all _ _ (l.i + 1) _ _ l.invariant.0 (length_cells_of a.cells.now a.n (omega arith)) (omega arith))
