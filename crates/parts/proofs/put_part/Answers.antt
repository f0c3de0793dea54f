-- `put_part` meets its contract: record by record. Assumes nothing.
use borrow.Author.Rules.{rules}
use Prim.Native.Nat.{◌<◌}
use mathlib.Core.Path.{refl, ap}
use native.Mathlib.Omega.{arith}
use Rattle.records.specs.Bytes.{cells_of}
use Rattle.records.specs.Records.{assignment_bytes, assignment_of, record_at}
use Rattle.parts.proofs.Scattering.{scattered_more}
use Rattle.parts.proofs.Copying.{place_read}
use Rattle.parts.proofs.put_part.Goals as goal

pub put_record-requires : goal.put_record-requires
put_record-requires c = let a = c.args in let b = c.requires in let l = c.loop-t in
    let lt : l.t < a.k = search rules in
    let r = place_read a.places.now a.k l.t c.get.result c.from-i.result b.0 lt c.get.ensures c.from-i.ensures in
    let room = b.5 l.t lt in let n = l.invariant.sized in omega arith

pub loop-t-preserved : goal.loop-t-preserved
loop-t-preserved c = let a = c.args in let b = c.requires in let l = c.loop-t in
    let lt : l.t < a.k = c.loop-t-test.true in
    let r = place_read a.places.now a.k l.t c.get.result c.from-i.result b.0 lt c.get.ensures c.from-i.ensures in
    (scattered_more a.base (cells_of a.places.now) (λ t. assignment_bytes (assignment_of (record_at a.list.now t))) a.k l.t c.from-i.result a.assigns.now l.assigns _ _ b.4 lt r (b.5 l.t lt) refl l.invariant (ap assignment_bytes c.record_at-a.ensures) c.put_record.ensures)
