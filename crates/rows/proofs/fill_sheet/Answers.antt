-- `fill_sheet`: the rows are few enough for the machine's numbers, and the sheet after them is the full one. Assumes nothing.
use Rattle.std.proofs.Common.{arith}
use Rattle.rows.proofs.FillLaws.{top_low, filled_is}
use Rattle.rows.proofs.fill_sheet.Goals as goal

pub all_rows-requires : goal.all_rows-requires
all_rows-requires c =
    let prepare = c.prepare-most in
    let a = c.args in
    let p = c.requires.accepted in
    let e = prepare.ensures.top in
    let f = top_low a.n a.w a.m _ a.circuits.now p e in record {
      accepted = (p, record { desk = record { file = p.file; room = prepare.ensures.room; columns = c.requires.work_len.1 }; sheet = prepare.ensures.sheet });
      top_value = (e, omega arith);
    }

pub returns : goal.returns
returns c =
    let a = c.args in
    let prepare = c.prepare-most in
    let all_rows = c.all_rows in
    let e = prepare.ensures.top in
    (e, filled_is a.n a.w a.m _ a.circuits.now _ e all_rows.ensures.desk.room all_rows.ensures.sheet, all_rows.ensures.desk.columns)
