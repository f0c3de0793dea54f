-- `any_of`: `hit` tells whether one of the first k places passes. Assumes nothing.
use Rattle.std.proofs.Common.{◌≡◌, ◌+◌, ap, refl, ◌∙◌, arith}
use Rattle.basics.specs.Tools.{any}
use Rattle.scans.proofs.ScanLaws.{any_more}
use Rattle.scans.proofs.any_of.Goals as goal

pub loop-k-init : goal.loop-k-init
unfolding any
loop-k-init g c = λ p t. refl

pub loop-k-preserved : goal.loop-k-preserved
loop-k-preserved g c =
    let l = c.loop-k in
    λ p t. any_more _ l.k _ _ (l.invariant p t) (t (c.args.i + l.k) _ (omega arith) (omega arith) c.passes-hit.ensures)

pub returns : goal.returns
returns g c =
    let l = c.loop-k in
    let e : l.k ≡ g.row.N = omega arith in
    λ p t. l.invariant p t ∙ ap (any _) e
