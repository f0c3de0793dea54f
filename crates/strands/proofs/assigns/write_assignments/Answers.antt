-- `strands::assigns::write_assignments` meets its contract: the records of the first j circuits stand at the start. Assumes nothing.
use Rattle.std.proofs.Common.{◌≡◌, refl, ◌∙◌, arith}
use Rattle.basics.specs.Tools.{each}
use Rattle.register.specs.Lists.{assignment_records}
use Rattle.strands.specs.inner.Area.{records_to}
use Rattle.strands.proofs.Assigned.{assigned_turn, assigned_all}
use Rattle.strands.proofs.assigns.write_assignments.Goals as goal

pub loop-j-init : goal.loop-j-init
unfolding records_to each assignment_records
loop-j-init c = refl

pub loop-j-preserved : goal.loop-j-preserved
loop-j-preserved c =
    let o = c.write_assignment in
    let a = c.args in
    assigned_turn a.job.links a.job.wavelengths a.job.circuits a.circuits.now c.loop-j.j a.out.now c.loop-j.out _ c.loop-j.invariant o.ensures

pub returns : goal.returns
returns c =
    let a = c.args in
    let e : c.loop-j.j ≡ a.job.circuits = omega arith in
    (rw e at c.loop-j.invariant) ∙ assigned_all a.job.links a.job.wavelengths a.job.circuits a.circuits.now a.out.now
