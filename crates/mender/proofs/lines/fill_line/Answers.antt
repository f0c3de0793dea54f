-- `fill_line` meets its contract. Assumes nothing.
use Prim.Native.Nat.{ℕ, ◌+◌, ◌*◌}
use mathlib.Core.Path.{ap, ◌∙◌}
use mathlib.Core.List.{List}
use Rattle.records.specs.Bytes.{set_cell}
use Rattle.records.specs.Records.{assignment_of, record_at}
use Rattle.records.specs.declared.AssignmentRecord.{AssignmentRecord}
use Rattle.mender.specs.inner.Lines.{filled_in}
use Rattle.mender.proofs.lines.fill_line.Goals as goal

pub returns : goal.returns
unfolding filled_in
returns c =
    let index = c.from-j in
    let get = c.get in
    let assignment_at_lem = c.record_at-a in
    let put2 = c.put-2 in
    let put = c.put in
    let a = c.args in
    let e = index.ensures ∙ get.ensures in
    let r = assignment_at_lem.ensures ∙ ap (λ (j : ℕ). assignment_of (record_at a.assigns.now j)) e in
    put2.ensures ∙ ap (λ (x : List ℕ). set_cell x (6 * a.t + 4 + 1) assignment_at_lem.result.wavelength) put.ensures
    ∙ ap (λ (x : AssignmentRecord). set_cell (set_cell a.report.now (6 * a.t + 4) x.fibre) (6 * a.t + 4 + 1) x.wavelength) r
