-- `fill_whole`: what is ready before the first row is done after the last. Assumes nothing.
use Rattle.whole_sheet.proofs.Drawing.{first_sources, first_table, all_filled, all_drawn}
use Rattle.whole_sheet.specs.Cells.{sheet_list}
use Rattle.whole_sheet.proofs.fill_whole.Goals as goal

pub all_rows-requires : goal.all_rows-requires
all_rows-requires c =
    let prepare = c.prepare in
    let most-of = c.most_of-top in
    let a = c.args in
    let c' = prepare.ensures in (
      first_sources a.job.links a.job.wavelengths a.job.circuits a.circuits.now _ c' _ a.sheet.now c.requires.accepted most-of.ensures c.requires.room.1,
      first_table a.job.links a.job.wavelengths a.job.circuits a.circuits.now _ c' a.sheet.now,
    )

pub returns : goal.returns
unfolding sheet_list
returns c =
    let all-rows = c.all_rows in
    let most-of = c.most_of-top in
    let a = c.args in
    let r = all-rows.ensures in (
      most-of.ensures,
      all_filled a.job.links a.job.wavelengths a.job.circuits _ a.circuits.now _ a.sheet.now _ r.0 r.1,
      all_drawn a.job.links a.job.wavelengths a.job.circuits _ a.circuits.now _ a.sheet.now _ r.0 r.1 r.2,
    )
