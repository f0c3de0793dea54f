-- `copy_part` meets its contract: record by record. Assumes nothing.
use borrow.Author.Rules.{rules}
use Prim.Native.Nat.{◌*◌, ◌<◌}
use mathlib.Core.List.{◌++◌}
use mathlib.Core.Path.{◌≡◌, refl, ap₂, ◌∙◌}
use native.Mathlib.Omega.{arith}
use lib.ListN.{drop, length-map}
use lib.Seq.{take_all}
use Rattle.records.specs.Bytes.{cells_of}
use Rattle.records.specs.Records.{circuits_of, file_of}
use Rattle.records.proofs.CellLaws.{length_cells_of}
use Rattle.method.specs.Line.{circuit}
use Rattle.parts.specs.Part.{chosen}
use Rattle.parts.proofs.Copying.{place_read, chosen_read, copied_more}
use Rattle.parts.proofs.copy_part.Goals as goal

pub loop-t-init : goal.loop-t-init
unfolding file_of
loop-t-init c = refl

pub record_at-requires : goal.record_at-requires
record_at-requires c = let a = c.args in let b = c.requires in let l = c.loop-t in
    let lt : l.t < a.k = search rules in
    let r = place_read a.places.now a.k l.t c.get.result c.from-i.result b.0 lt c.get.ensures c.from-i.ensures in
    let th = b.3 l.t (omega (arith, lt, length_cells_of a.places.now a.k b.0)) in omega arith

pub loop-t-preserved : goal.loop-t-preserved
loop-t-preserved c = let a = c.args in let b = c.requires in let l = c.loop-t in
    let lt : l.t < a.k = c.loop-t-test.true in
    let js = cells_of a.places.now in
    let n = length_cells_of a.places.now a.k b.0 in
    let r = place_read a.places.now a.k l.t c.get.result c.from-i.result b.0 lt c.get.ensures c.from-i.ensures in
    let q = chosen_read a.circuits.now js l.t c.from-i.result c.record_at.result (omega arith) b.3 r c.record_at.ensures in
    copied_more (chosen (circuits_of a.circuits.now) js) l.t c.record_at.result a.file.now l.file _ (omega (arith, length-map js (circuit (circuits_of a.circuits.now)))) q l.invariant c.put_record.ensures

pub returns : goal.returns
returns c = let a = c.args in let b = c.requires in let l = c.loop-t in
    let js = cells_of a.places.now in
    let n = length_cells_of a.places.now a.k b.0 in
    let e : l.t ≡ a.k = omega arith in
    let part = chosen (circuits_of a.circuits.now) js in
    l.invariant ∙ ap₂ (λ x y. file_of x ++ drop (8 * y) a.file.now) (take_all l.t part (omega (arith, length-map js (circuit (circuits_of a.circuits.now))))) e
