-- `settle_part` meets its contract: the part is settled with a list of its own, whose records are then put at their places. Assumes nothing.
use native.Mathlib.Omega.{arith}
use Rattle.parts.proofs.Apart.{place_room, settled_part}
use Rattle.parts.proofs.settle_part.Goals as goal

pub put_part-requires : goal.put_part-requires
put_part-requires c =
    let a = c.args in
    let h = c.requires in
    let few = h.1.accepted.file.few in
    let kept = c.settle-counts.auto.assigns in
    (h.1.listed, few, h.1.rooms.base, omega (arith, kept, few), h.1.once, place_room a.job.links a.job.wavelengths a.job.circuits a.job.from a.base a.places.now a.fibres.now a.assigns.now a.work.now h.0 a.part.now h.1)

pub returns : goal.returns
returns c =
    let a = c.args in
    let h = c.requires in
    settled_part a.job.links a.job.wavelengths a.job.circuits a.job.from a.base a.places.now a.fibres.now a.assigns.now a.work.now h.0 a.part.now h.1 _ _ _ _ _ _ c.settle-counts.ensures c.put_part.ensures
