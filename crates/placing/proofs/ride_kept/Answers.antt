-- `ride_kept` meets its contract: after j turns those kept of the first j circuits ride. Assumes nothing.
use mathlib.Core.Path.{subst}
use mathlib.Core.List.{List, [], append-nil}
use native.Mathlib.Omega.{arith}
use lib.ListN.{length}
use Rattle.records.specs.Records.{circuits_in}
use Rattle.places.specs.Places.{Rider, riders}
use Rattle.placing.specs.Riding.{Riding, kept_in}
use Rattle.placing.proofs.RideAll.{ride_start, ride_end}
use Rattle.placing.proofs.Keeping.{length_kept_in}
use Rattle.placing.proofs.ride_kept.Goals as goal

pub loop-j-init : goal.loop-j-init
loop-j-init c = let a = c.args in let p = c.requires in ride_start a.many a.m a.circuits.now (kept_in a.m a.assigns.now a.kept.now) a.ends.now a.assigns.now a.chains.now.heads a.chains.now.next p.6

pub loop-j-preserved : goal.loop-j-preserved
loop-j-preserved c = let a = c.args in let l = c.loop-j in let v = l.invariant in let r = c.ride_if in let lt = c.loop-j-test.true in
    r.ensures (length a.ends.now) v

pub returns : goal.returns
returns c = let a = c.args in let p = c.requires in let l = c.loop-j in let gs = kept_in a.m a.assigns.now a.kept.now in
    subst (λ (rs : List Rider). Riding a.many rs l.ends a.assigns.now l.chains.heads l.chains.next) (append-nil (riders (circuits_in a.m a.circuits.now) gs))
    (ride_end a.many a.m l.j a.circuits.now gs (length a.ends.now) l.ends a.assigns.now l.chains.heads l.chains.next (let n = length_kept_in a.m a.assigns.now a.kept.now in omega arith) l.invariant [] (λ d b. absurd (omega arith)) (omega (arith, p.1)) (omega (arith, p.5)) (omega (arith, p.3)))
