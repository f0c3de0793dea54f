-- `all_rows`: before row k the lent sheet has k - 1 rows. Assumes nothing.
use Prim.Native.Nat.{ℕ, ◌+◌, ◌-◌, ◌*◌}
use mathlib.Core.Path.{◌≡◌, ◌∙◌, subst}
use native.Mathlib.Omega.{arith}
use Rattle.whole_sheet.proofs.Drawing.{kept_on}
use Rattle.whole_sheet.specs.inner.Tables.{TableAfter}
use Rattle.rows.proofs.FillLaws.{top_low}
use Rattle.whole_sheet.proofs.table.all_rows.Goals as goal

pub overflow_mul-k-end : goal.overflow_mul-k-end
overflow_mul-k-end c =
    let a = c.args in
    let y = c.requires.0 in
    let l = top_low a.job.links a.job.wavelengths a.job.circuits a.top a.circuits.now y.accepted y.top_is in
    omega arith

pub overflow_add-k-end : goal.overflow_add-k-end
overflow_add-k-end c =
    let a = c.args in
    let y = c.requires.0 in
    let l = top_low a.job.links a.job.wavelengths a.job.circuits a.top a.circuits.now y.accepted y.top_is in
    omega arith

pub loop-k-preserved : goal.loop-k-preserved
loop-k-preserved c =
    let one-row = c.one_row in
    let a = c.args in
    let l = c.loop-k in
    let v = l.invariant in
    let s = one-row.ensures in
    let e : l.k ≡ l.k + 1 - 1 = omega arith in (
      s.0,
      subst
          (λ (x : ℕ). TableAfter a.job.links a.job.wavelengths a.job.circuits x a.circuits.now one-row.new.work one-row.new.sheet)
          e s.1,
      kept_on a.job.links l.k (a.top * a.job.wavelengths) _ _ _ (omega arith) v.2 s.2,
      one-row.auto.sheet ∙ v.3,
    )
