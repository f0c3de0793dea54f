-- `ride_all` meets its contract: after j turns the first j circuits ride. Assumes nothing.
use borrow.Author.Rules.{rules}
use Prim.Native.Nat.{◌<◌}
use mathlib.Core.Path.{refl}
use native.Mathlib.Omega.{arith}
use lib.ListN.{length}
use Rattle.placing.specs.Riding.{places_of}
use Rattle.placing.proofs.RideAll.{length_places_of, assignment_in, ride_start, ride_turn, ride_end}
use Rattle.placing.proofs.ride_all.Goals as goal

pub returns : goal.returns
returns c = let a = c.args in let l = c.loop-j in ride_end a.many a.m l.j a.circuits.now (places_of a.m a.assigns.now) (length a.ends.now) l.ends a.assigns.now l.chains.heads l.chains.next (let n = length_places_of a.m a.assigns.now in omega arith) l.invariant.2

pub loop-j-init : goal.loop-j-init
loop-j-init c = let a = c.args in let p = c.requires in (search rules, search rules, ride_start a.many a.m a.circuits.now (places_of a.m a.assigns.now) a.ends.now a.assigns.now a.chains.now.heads a.chains.now.next p.5)

pub loop-j-preserved : goal.loop-j-preserved
loop-j-preserved c = let a = c.args in let p = c.requires in let l = c.loop-j in let lt : l.j < a.m = c.loop-j-test.true in let r = c.ride_as_said.ensures in let y = p.6 l.j lt in
    (search rules, search rules, ride_turn a.many a.m l.j a.circuits.now (places_of a.m a.assigns.now) (length a.ends.now) l.ends a.assigns.now l.chains.heads l.chains.next _ _ _ _ _ _ lt (omega (arith, p.2, l.invariant.0)) l.invariant.1 (assignment_in a.m a.assigns.now l.j lt) y.0 y.1 y.2 refl refl refl r.0 r.1 r.2 l.invariant.2)
