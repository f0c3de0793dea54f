-- `keep` meets its contract: one flag and one rider more. Assumes nothing.
use mathlib.Core.Path.{refl}
use native.Mathlib.Omega.{arith}
use Rattle.placing.proofs.Keeping.{keeps_riding}
use Rattle.placing.proofs.keep.Goals as goal

pub returns : goal.returns
returns c =
    let a = c.args in
    let p = c.requires.room in
    let g = c.requires.riding in (
      refl,
      keeps_riding a.many a.m a.j a.circuits.now a.ends.now a.assigns.now a.kept.now a.chains.now.heads a.chains.now.next _ _ _ _ _ _ p.2 (omega (arith, p.2, p.5))
          (omega (arith, p.3)) (omega (arith, p.1)) g.1 g.0 refl refl refl c.ride_as_said.ensures g.2,
    )
