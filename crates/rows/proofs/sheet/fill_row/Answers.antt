-- `fill_row`: what is left of the row leads where all of it leads; the open links become fewer. Assumes nothing.
use Rattle.std.proofs.Common.{subst, refl, arith, rules}
use Rattle.records.specs.Bytes.{cells_of}
use Rattle.method.proofs.Colours.{from_pos}
use Rattle.records.specs.Area.{lasts_in}
use Rattle.rows.specs.inner.Colours.{shown, LinkTold}
use Rattle.rows.proofs.OneStepLaws.{seek_lent, next_lent, told_link, told_none}
use Rattle.rows.proofs.RowLaws.{row_start, row_turn, row_end, row_less}
use Rattle.rows.proofs.sheet.fill_row.Goals as goal

pub loop-open-init : goal.loop-open-init
loop-open-init c =
    let a = c.args in
    let n = a.file.links in
    (c.requires.desk, row_start n a.file.many a.k _ _, c.requires.le_k.1, subst (λ x. LinkTold n x c.first_open-open.result) (seek_lent n a.k _ a.work.now refl) c.first_open-open.ensures)

pub first_open-open-requires-in-Some : goal.first_open-open-requires-in-Some
first_open-open-requires-in-Some c =
    let l = c.loop-open in
    let a = c.args in
    let d = c.one_step-waiting.ensures.desk in
    let r = d.room in
    let t = told_link _ _ _ _ l.invariant.3 c.in-Some.is in
    let q = t.0 in
    let o = t.1 in
    let p = from_pos a.file.links (shown a.file.links a.k (lasts_in a.file.links (cells_of l.work))) in
    (search rules, d.file.line, c.requires.le_k.0.0, omega arith, omega arith)

pub loop-open-smaller : goal.loop-open-smaller
loop-open-smaller c =
    let v = c.loop-open.invariant in
    let a = c.args in
    let t = told_link _ _ _ _ v.3 c.in-Some.is in
    let q = t.0 in
    let o = t.1 in
    row_less a.file.links a.file.many a.k _ _ _ _ c.requires.desk.file.lies (omega arith) v.1 c.one_step-waiting.ensures.shows

pub loop-open-preserved : goal.loop-open-preserved
loop-open-preserved c =
    let s = c.one_step-waiting.ensures in
    let next = c.first_open-open-in-Some in
    let a = c.args in
    let n = a.file.links in
    let v = c.loop-open.invariant in
    let t = told_link _ _ _ _ v.3 c.in-Some.is in
    let q = t.0 in
    let o = t.1 in (
      s.desk,
      row_turn n a.file.many a.k _ _ _ _ c.requires.desk.file.lies (omega arith) v.1 s.shows,
      s.waits,
      subst (λ x. LinkTold n x next.result) (next_lent n a.k c.in-Some.l _ _ _ (omega arith) q s.shows.moved refl) next.ensures,
    )

pub returns : goal.returns
returns c =
    let v = c.loop-open.invariant in
    let a = c.args in
    record { desk = v.0; shows = row_end a.file.links a.file.many a.k _ _ _ (told_none _ _ _ v.3 c.in_default.not-Some) v.1; waits = v.2 }
