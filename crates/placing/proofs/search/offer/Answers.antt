-- `offer` meets its contract: a fibre that has nothing gets a corner that is right. Assumes nothing.
use native.Mathlib.Omega.{arith}
use Rattle.placing.proofs.CornerLaws.{corner_noted, corner_shuts}
use Rattle.placing.proofs.SpotLaws.{none_up_to}
use Rattle.placing.proofs.search.offer.Goals as goal

pub returns-then-is_none : goal.returns-then-is_none
returns-then-is_none c =
    let a = c.args in
    let p = c.requires.numbers in
    let x = c.corner_on-x in λ many rs l m h k.
    let free = c.free_on-free.ensures rs h in
    let shuts = corner_shuts a.waves.low a.waves.high rs a.c a.q _ _ (none_up_to _ a.waves.high _ free (c.if-is_none.ensures)) (x.ensures rs a.assigns.now h) in
    (free, corner_noted many a.waves.low a.waves.high rs a.corners.now.untils a.corners.now.froms a.q x.result.until x.result.from p.0 l (omega (arith, m)) (omega (arith, m)) shuts k)
