-- `begin_line` meets its contract: the part that was lent comes back as line t. Assumes nothing.
use Prim.Native.Nat.{ℕ, ◌+◌, ◌*◌}
use mathlib.Core.Path.{ap₂, ◌∙◌}
use mathlib.Core.List.{List, ◌++◌}
use native.Mathlib.Omega.{arith}
use lib.ListN.{take}
use borrow.Rule.Slice.PartMut.{Post-is}
use Rattle.records.specs.declared.Circuit.{Circuit}
use Rattle.records.specs.declared.AssignmentRecord.{AssignmentRecord}
use Rattle.mender.specs.Report.{line_bytes}
use Rattle.mender.specs.inner.Lines.{begun_with, put_line}
use Rattle.mender.proofs.lines.begin_line.Goals as goal

pub returns : goal.returns
unfolding put_line
returns c =
    let write-line = c.write_line in
    let circuit-at = c.record_at-c in
    let assignment_at_lem = c.record_at-was in
    let a = c.args in
    let R = a.report.now in
    let its : Circuit → AssignmentRecord → List ℕ = λ x y. line_bytes (begun_with (record { circuit = x.number; fibre = y.fibre; wavelength = y.wavelength }) a.j) in
    let q = write-line.ensures ∙ ap₂ its circuit-at.ensures assignment_at_lem.ensures in
    λ k. take (12 * a.t) R ++ (q k ++ Post-is (12 * a.t) (12 * a.t + 12) R (omega arith) k)
