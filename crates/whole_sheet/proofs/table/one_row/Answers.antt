-- `one_row`: the row begins and is filled, and stands behind the rows before it. Assumes nothing.
use native.Mathlib.Omega.{arith}
use native.Mathlib.Nat.{mul-le-mul_left}
use Rattle.whole_sheet.proofs.Drawing.{needs_low, drawn_more, kept_more, sources_more}
use Rattle.whole_sheet.proofs.RowStarts.{times_turn}
use Rattle.rows.proofs.FillLaws.{top_low}
use Rattle.whole_sheet.proofs.table.one_row.Goals as goal

pub begin_row-requires : goal.begin_row-requires
begin_row-requires c =
    let a = c.args in
    let n = a.job.links in
    let y = c.requires.sources.0 in
    let p = c.requires.sources.1 in
    let q = c.requires.sources.2 in
    let f = y.accepted.file in
    let l = top_low n a.job.wavelengths a.job.circuits a.top a.circuits.now y.accepted y.top_is in
    let t = times_turn n a.k p in
    let g = y.cells_room in (
      p,
      omega arith,
      f.line,
      l,
      omega arith,
      needs_low n a.job.wavelengths a.job.circuits a.top a.circuits.now a.work.now a.sheet.now y,
      omega (arith, mul-le-mul_left n q),
    )

pub overflow_cast-k : goal.overflow_cast-k
overflow_cast-k c =
    let a = c.args in
    let y = c.requires.sources.0 in
    let l = top_low a.job.links a.job.wavelengths a.job.circuits a.top a.circuits.now y.accepted y.top_is in
    omega arith

pub returns : goal.returns
returns c =
    let begin-row = c.begin_row in
    let fill-row = c.fill_row in
    let a = c.args in
    let n = a.job.links in
    let m = a.job.circuits in
    let y = c.requires.sources.0 in
    let p = c.requires.sources.1 in
    let q = c.requires.sources.2 in
    let t = c.requires.table_after in
    let b = begin-row.ensures in
    let f = fill-row.ensures in (
      sources_more n a.job.wavelengths m a.top a.k a.circuits.now a.work.now a.sheet.now _ y p q t b _ _ f,
      drawn_more n a.job.wavelengths m a.top a.k a.circuits.now a.work.now a.sheet.now _ y p q t b _ _ f,
      kept_more n a.job.wavelengths m a.top a.k a.circuits.now a.work.now a.sheet.now _ y p q t b _ _ f,
    )
