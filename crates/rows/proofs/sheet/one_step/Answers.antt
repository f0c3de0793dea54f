-- `one_step`: a step of the method, taken links counted as red. Assumes nothing.
use Rattle.std.proofs.Common.{◌*◌, arith}
use borrow.Rule.Slice.PartMut.{mid_len}
use Rattle.rows.proofs.AreaLaws.{desk_on}
use Rattle.rows.proofs.OneStepLaws.{first_lent, bounds, there, out_many, out_done, blue_done}
use Rattle.rows.proofs.sheet.one_step.Goals as goal

pub run_at-run-requires : goal.run_at-run-requires
run_at-run-requires c =
    let a = c.args in
    let d = c.requires.desk in
    let row = c.requires.at_run.0 in
    let r = d.room in
    let z = mid_len (2 * a.file.links) (4 * a.file.links) a.work.now (omega arith) in
    (omega arith, d.file.line, (row.0, row.1, row.2, first_lent a.file.links a.k a.l a.work.now row.3))

pub lowest_fit-p-requires : goal.lowest_fit-p-requires
lowest_fit-p-requires c =
    let run_at = c.run_at-run in
    let a = c.args in
    let d = c.requires.desk in
    let l = d.file.line in
    let q = c.requires.at_run.1 in
    let b = bounds a.file.links a.file.many a.k a.l _ _ _ _ _ d c.requires.at_run.0 q run_at.ensures in record {
      in_list = (d.file.few, d.columns, q.ends.0, q.ends.1);
      low_le_from = (b.1, b.2, b.3, omega arith);
    }

pub place-requires : goal.place-requires
place-requires c =
    let run_at = c.run_at-run in
    let lowest_fit = c.lowest_fit-p in
    let a = c.args in
    let d = c.requires.desk in
    let q = c.requires.at_run.1 in
    let e = q.ends in
    let b = bounds a.file.links a.file.many a.k a.l _ _ _ _ _ d c.requires.at_run.0 q run_at.ensures in
    let w = there a.file.links a.file.many a.k a.l _ _ _ _ _ d c.requires.at_run.0 q run_at.ensures _ lowest_fit.ensures c.if-p-waiting.true in record {
      desk = d;
      placeable = (omega arith, w, omega arith, omega arith);
    }

pub overflow_sub-result : goal.overflow_sub-result
overflow_sub-result c =
    let run_at = c.run_at-run in
    let lowest_fit = c.lowest_fit-p in
    let a = c.args in
    out_many a.file.links a.file.many a.k a.l _ _ _ _ _ c.requires.desk c.requires.at_run.0 c.requires.at_run.1 run_at.ensures _ lowest_fit.ensures _ _ c.if-p-waiting.true c.place.ensures.placed

pub returns-then-p-waiting : goal.returns-then-p-waiting
returns-then-p-waiting c =
    let run_at = c.run_at-run in
    let lowest_fit = c.lowest_fit-p in
    let place = c.place in
    let a = c.args in
    let t = out_done a.file.links a.file.many a.k a.l _ _ _ _ _ c.requires.desk c.requires.at_run.0 c.requires.at_run.1 run_at.ensures _ lowest_fit.ensures _ _ c.if-p-waiting.true place.ensures.placed in
    record { desk = place.ensures.desk; shows = t.0; waits = t.1 }

pub returns : goal.returns
returns c =
    let run_at = c.run_at-run in
    let lowest_fit = c.lowest_fit-p in
    let e = c.paint_links.ensures in
    let a = c.args in
    let d = c.requires.desk in
    let t = blue_done a.file.links a.file.many a.k a.l _ _ _ _ _ d c.requires.at_run.0 c.requires.at_run.1 run_at.ensures _ lowest_fit.ensures _ c.if-p-waiting.false e.needs e.lasts e.rows in
    record { desk = desk_on a.file.links a.file.many _ _ _ _ _ d e.room d.columns; shows = t.0; waits = t.1 }
