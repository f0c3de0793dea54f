-- `most_of`: the largest c(i) of the links before i. Assumes nothing.
use Prim.Native.Nat.{◌-◌, max}
use mathlib.Core.Path.{◌≡◌, refl, ap, ap₂, ◌∙◌, sym}
use native.Mathlib.Omega.{arith}
use Rattle.basics.specs.Tools.{top}
use Rattle.basics.proofs.Counts.{top_more}
use Rattle.method.specs.Sheet.{most}
use Rattle.whole_sheet.proofs.loads.most_of.Goals as goal

pub loop-i-init : goal.loop-i-init
unfolding top
loop-i-init c = refl

pub loop-i-preserved : goal.loop-i-preserved
loop-i-preserved c =
    let l = c.loop-i in
    c.max-most.ensures ∙ ap₂ max c.need_of.ensures.0 l.invariant ∙ sym (top_more _ l.i (omega arith))

pub returns : goal.returns
unfolding most
returns c =
    let l = c.loop-i in
    let e : l.i - 1 ≡ c.args.job.links = omega arith in
    l.invariant ∙ ap (top _) e
