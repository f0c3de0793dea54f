-- `first_where`: the search goes on by one place, from where `skip` has come. Assumes nothing.
use Rattle.std.proofs.Common.{sym, ◌∙◌, arith}
use Rattle.scans.proofs.ScanLaws.{came_here, came_over, came_past}
use Rattle.scans.proofs.first_where.Goals as goal

pub returns-then-passes : goal.returns-then-passes
returns-then-passes g c =
    let l = c.loop-i in
    λ p t. came_here p _ _ l.i (l.invariant p t) (omega arith) (sym (t l.i _ (omega arith) (omega arith) c.passes.ensures) ∙ c.if-passes.true)

pub loop-i-preserved : goal.loop-i-preserved
loop-i-preserved g c =
    let l = c.loop-i in
    λ p t. came_past p _ _ l.i (l.invariant p t) (omega arith) (sym (t l.i _ (omega arith) (omega arith) c.passes.ensures) ∙ c.if-passes.false)

pub returns : goal.returns
returns g c =
    let l = c.loop-i in
    λ p t. came_over p _ _ l.i (l.invariant p t) (omega arith)
