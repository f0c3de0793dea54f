-- `begin_row`: the links before i have the colours with which the row begins. Assumes nothing.
use mathlib.Core.Path.{◌∙◌}
use native.Mathlib.Omega.{arith}
use lib.ListN.{take}
use Rattle.whole_sheet.proofs.RowStarts.{start_turn}
use Rattle.records.specs.Bytes.{cells_of}
use Rattle.rows.proofs.Written.{at_front, read}
use Rattle.rows.proofs.LoadLaws.{below_at}
use Rattle.whole_sheet.proofs.table.begin_row.Goals as goal

pub overflow_sub-top : goal.overflow_sub-top
overflow_sub-top c =
    let get = c.get in
    let a = c.args in
    let l = c.loop-i in
    let v = read a.work.now l.i get.result (omega arith) (omega arith) get.ensures in
    omega
    (arith, v, at_front a.job.links (cells_of a.work.now) l.i (omega arith) (omega arith), below_at a.top (take a.job.links (cells_of a.work.now)) l.i c.requires.5)

pub loop-i-preserved : goal.loop-i-preserved
loop-i-preserved c =
    let starting = c.starting in
    let index = c.from-c in
    let get = c.get in
    let a = c.args in
    let l = c.loop-i in
    let y = l.invariant in
    let r = c.requires.6 in
    start_turn a.job.links a.job.wavelengths a.top a.k l.i _ _ _ (cells_of a.work.now) a.sheet.now l.sheet (omega arith) (omega arith) r y starting.ensures
    (index.ensures ∙ read a.work.now l.i get.result (omega arith) (omega arith) get.ensures) c.above-was.ensures
