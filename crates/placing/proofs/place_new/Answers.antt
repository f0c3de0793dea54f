-- `place_new` meets its contract: the old circuits ride, then the new ones are placed. Assumes nothing.
use Prim.Native.Nat.{ℕ}
use mathlib.Core.Path.{ap, ◌∙◌}
use native.Mathlib.Omega.{arith}
use lib.ListN.{replicate, length-replicate}
use Rattle.records.specs.Bytes.{cells_of}
use Rattle.records.specs.Records.{circuits_in}
use Rattle.records.proofs.CellLaws.{length_cells_of}
use Rattle.records.proofs.Files.{length_circuits_in}
use Rattle.method.specs.Line.{unassigned}
use Rattle.places.specs.Places.{riders}
use Rattle.places.proofs.RiderLaws.{length_riders}
use Rattle.additions.specs.Adding.{give}
use Rattle.placing.specs.Riding.{places_of, spans_of}
use Rattle.placing.specs.Turns.{recorded}
use Rattle.register.specs.Plans.{plan_in}
use Rattle.placing.proofs.Orderly.{ordered_in_turn}
use Rattle.placing.proofs.Written.{none_yet, found_written}
use Rattle.placing.proofs.place_new.Goals as goal

pub place_all-requires-clause-riding : goal.place_all-requires-clause-riding
place_all-requires-clause-riding c = let a = c.args in let b = c.requires.room in let d = c.requires.files in
    let cs = circuits_in a.before a.old.now in let ds = circuits_in a.m a.new.now in
    let n = length_riders ds (replicate a.m unassigned) in let k = length_circuits_in a.m a.new.now in
    (riders cs (places_of a.before a.assigns.now), replicate a.m unassigned, length_riders cs (places_of a.before a.assigns.now) ∙ length_circuits_in a.before a.old.now, length-replicate a.m unassigned, ordered_in_turn a.m ds (cells_of a.order.now) (length_cells_of a.order.now a.m b.3) d.2, c.ride_all.ensures (riders ds (replicate a.m unassigned)) (none_yet ds a.m) (omega (arith, b.2, n, k)) (omega (arith, b.8, n, k)) (omega (arith, b.7, n, k)))

pub returns : goal.returns
unfolding places_of spans_of plan_in
returns c = let a = c.args in let b = c.requires.room in let d = c.requires.files in
    let cs = circuits_in a.before a.old.now in let ds = circuits_in a.m a.new.now in
    let n = length_riders ds (replicate a.m unassigned) in let k = length_circuits_in a.m a.new.now in
    let o = length_riders cs (places_of a.before a.assigns.now) ∙ length_circuits_in a.before a.old.now in
    let lc = length_cells_of a.order.now a.m b.3 in
    let y = c.place_all.ensures (riders cs (places_of a.before a.assigns.now)) (replicate a.m unassigned) o (length-replicate a.m unassigned) (ordered_in_turn a.m ds (cells_of a.order.now) lc d.2) (c.ride_all.ensures (riders ds (replicate a.m unassigned)) (none_yet ds a.m) (omega (arith, b.2, n, k)) (omega (arith, b.8, n, k)) (omega (arith, b.7, n, k))) in
    found_written a.w a.m cs (plan_in a.many a.before a.fibres.now a.assigns.now) ds (cells_of a.order.now) a.assigns.now _ a.before lc k d.1 d.3 d.2 b.7 (y.said ∙ ap (λ (i : ℕ). recorded ds i (give (spans_of a.many a.fibres.now) a.w (riders cs (places_of a.before a.assigns.now)) ds (cells_of a.order.now) (replicate a.m unassigned)) (cells_of a.order.now) a.assigns.now) o)
