-- `layer_of` meets its contract: the cell holds the row doubled. Assumes nothing.
use Prim.Native.Nat.{ℕ, suc, ◌+◌, ◌-◌, ◌*◌, ◌/◌}
use mathlib.Core.Path.{◌≡◌, sym, ap, ◌∙◌}
use native.Mathlib.Omega.{arith}
use native.Mathlib.Nat.{div-le_self}
use native.Mathlib.Numerals.{add-one}
use mathlib.Core.List.{List}
use lib.ListN.{get_or}
use Rattle.basics.proofs.Tables.{get_d_part}
use Rattle.records.specs.Area.{rows_in}
use Rattle.records.specs.Bytes.{cell, cells_of}
use Rattle.records.proofs.CellLaws.{cell_is}
use Rattle.method.specs.Fibres.{layer_of}
use Rattle.lit.specs.inner.Sweeps.{HasRow}
use Rattle.lit.proofs.layer_of.Goals as goal

-- the cell that is read is circuit j's in the rows' part
row_is : (n w m j v : ℕ) (work : List ℕ) → HasRow n w m j work → v ≡ cell work (2 * n + j) → v ≡ get_or (rows_in n m (cells_of work)) j 0
row_is n w m j v work p e = e ∙ cell_is work (2 * n + j) (omega arith) ∙ sym (get_d_part (2 * n) m (cells_of work) j 0 p.there)

pub overflow_sub-result : goal.overflow_sub-result
overflow_sub-result c =
    let a = c.args in
    let e = row_is a.job.links a.job.wavelengths a.job.circuits a.j c.get.result a.work.now c.requires c.get.ensures in
    let p = c.requires.row in
    omega arith

pub returns : goal.returns
unfolding layer_of
returns c =
    let a = c.args in
    let e = row_is a.job.links a.job.wavelengths a.job.circuits a.j c.get.result a.work.now c.requires c.get.ensures in
    let h = div-le_self (c.from-row.result / 2 - 1) a.job.wavelengths in
    (add-one ((c.from-row.result / 2 - 1) / a.job.wavelengths) ∙ ap (λ (v : ℕ). suc ((v / 2 - 1) / a.job.wavelengths)) (c.from-row.ensures ∙ e), omega arith)
