-- `ride_if` meets its contract: the circuit rides, or its flag is 0. Assumes nothing.
use mathlib.Core.Path.{refl}
use native.Mathlib.Omega.{arith}
use Rattle.placing.specs.Riding.{kept_in}
use Rattle.placing.proofs.RideAll.{ride_turn, ride_skip}
use Rattle.placing.proofs.Keeping.{kept_not, kept_yes}
use Rattle.placing.proofs.riders.ride_if.Goals as goal

pub returns-then-kept-j-ne0 : goal.returns-then-kept-j-ne0
returns-then-kept-j-ne0 c = let a = c.args in let p = c.requires in let some = c.if-kept-j-ne0.true in let y = p.7 a.j p.2 some in let r = c.ride_as_said.ensures in
    λ room h. ride_turn a.many a.m a.j a.circuits.now (kept_in a.m a.assigns.now a.kept.now) room a.ends.now a.assigns.now a.chains.now.heads a.chains.now.next _ _ _ _ _ _ p.2 (omega (arith, p.3)) (omega arith) (kept_yes a.m a.assigns.now a.kept.now a.j p.2 some) y.0 y.1 y.2 refl refl refl r.0 r.1 r.2 h

pub returns-else-kept-j-ne0 : goal.returns-else-kept-j-ne0
returns-else-kept-j-ne0 c = let a = c.args in let p = c.requires in λ room h. ride_skip a.many a.m a.j a.circuits.now (kept_in a.m a.assigns.now a.kept.now) room a.ends.now a.assigns.now a.chains.now.heads a.chains.now.next p.2 (kept_not a.m a.assigns.now a.kept.now a.j p.2 c.if-kept-j-ne0.false) h
