-- `place`: the circuit is read, taken out, entered, and its links are painted. Assumes nothing.
use Rattle.std.proofs.Common.{ℕ, ◌+◌, min, max, ap, ◌∙◌, arith}
use Rattle.rows.proofs.AreaLaws.{desk_on}
use Rattle.rows.proofs.StepLaws.{placed, place_read}
use Rattle.rows.proofs.sheet.place.Goals as goal

pub record_at-c-requires : goal.record_at-c-requires
record_at-c-requires c =
    let get = c.get in
    let from = c.from-j in
    let a = c.args in
    let d = c.requires.desk in
    let f = d.file.whole in
    let h = c.requires.placeable in
    let h₁ = h.1 in
    let j = place_read a.file.many a.p get.result from.result a.list.now h.0 d.columns get.ensures from.ensures in
    omega arith

pub put-requires-2 : goal.put-requires-2
put-requires-2 c =
    let get = c.get in
    let from = c.from-j in
    let a = c.args in
    let d = c.requires.desk in
    let r = d.room in
    let h = c.requires.placeable in
    let h₁ = h.1 in
    let j = place_read a.file.many a.p get.result from.result a.list.now h.0 d.columns get.ensures from.ensures in
    omega arith

pub returns : goal.returns
returns c =
    let get = c.get in
    let from = c.from-j in
    let record_at = c.record_at-c in
    let from2 = c.from in
    let from3 = c.from-2 in
    let put = c.put in
    let put2 = c.put-2 in
    let e = c.paint_links.ensures in
    let a = c.args in
    let d = c.requires.desk in
    let h = c.requires.placeable in
    let j = place_read a.file.many a.p get.result from.result a.list.now h.0 d.columns get.ensures from.ensures in
    record {
      desk = desk_on a.file.links a.file.many _ _ _ _ _ d e.room (put.auto.work ∙ d.columns);
      placed = placed a.file.links a.file.many a.k a.p from.result c.max-start.result c.min-past.result a.file.circuits.now a.list.now _ a.work.now _ _ record_at.result a.run h.1 j record_at.ensures
          (c.max-start.ensures ∙ ap (λ (z : ℕ). max z a.run.from) from2.ensures) (c.min-past.ensures ∙ ap (λ (z : ℕ). min (z + 1) a.run.past) from3.ensures) put.ensures put2.ensures
          e.needs e.lasts e.rows;
    }
