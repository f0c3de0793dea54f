-- `all_rows`: before row k the work area is that of the sheet after k - 1 rows. Assumes nothing.
use Rattle.std.proofs.Common.{◌≡◌, ℕ, ◌-◌, ◌*◌, sym, ◌∙◌, subst, arith, rules}
use Rattle.records.proofs.Files.{length_circuits_in}
use Rattle.rows.specs.inner.Sheeted.{DeskAfter}
use Rattle.rows.proofs.AreaLaws.{desk_on}
use Rattle.rows.proofs.RowLaws.{first_queued, first_there, sheet_more}
use Rattle.rows.proofs.sheet.all_rows.Goals as goal

pub line_up-waiting-requires : goal.line_up-waiting-requires
line_up-waiting-requires c =
    let d = c.requires.accepted.1.desk in
    (d.file.whole, d.file.few, d.columns)

pub loop-k-init : goal.loop-k-init
loop-k-init c =
    let u = c.line_up-waiting.ensures in
    let a = c.args in
    let d = c.requires.accepted.1 in (
      record { desk = desk_on a.file.links a.file.many _ _ _ _ _ d.desk d.desk.room u.0; sheet = d.sheet },
      first_queued a.file.links a.file.many a.w _ _ _ _ (length_circuits_in a.file.many a.file.circuits.now) d.sheet u.1,
    )

pub shorten-waiting-requires : goal.shorten-waiting-requires
shorten-waiting-requires c =
    let v = c.loop-k.invariant in
    let d = v.0.desk in
    let q = v.1 in
    ((d.file.few, d.columns, q.ends.0, q.ends.1), q.few.1)

pub fill_row-waiting-requires : goal.fill_row-waiting-requires
fill_row-waiting-requires c =
    let v = c.loop-k.invariant in
    let u = c.shorten-waiting.ensures in
    let a = c.args in
    let d = v.0.desk in
    let r = c.requires.top_value.1 in record {
      desk = desk_on a.file.links a.file.many _ _ _ _ _ d d.room u.0;
      le_k = ((omega arith, omega arith), u.1 _ _ (first_there a.file.links a.file.many _ (length_circuits_in a.file.many a.file.circuits.now) d.file.lies) v.1);
    }

pub overflow_step-k : goal.overflow_step-k
overflow_step-k c =
    let r = c.requires.top_value.1 in
    let t = c.loop-k-test.true in
    search rules

pub loop-k-preserved : goal.loop-k-preserved
loop-k-preserved c =
    let l = c.loop-k in
    let t = c.loop-k-test.true in
    let f = c.fill_row-waiting.ensures in
    let a = c.args in
    let p = c.requires.top_value in
    let r = p.1 in (
      record {
        desk = f.desk;
        sheet = sheet_more a.file.links a.file.many a.w a.top l.k _ _ _ l.invariant.0.desk.file.lies (length_circuits_in a.file.many a.file.circuits.now) l.auto.k (omega arith) p.0 r l.invariant.0.sheet f.shows;
      },
      f.waits,
    )

pub shape_of-work : goal.shape_of-work
shape_of-work c =
    c.loop-k.invariant.0.desk.room ∙ sym c.requires.accepted.1.desk.room

pub shape_of-list : goal.shape_of-list
shape_of-list c =
    c.loop-k.invariant.0.desk.columns ∙ sym c.requires.accepted.1.desk.columns

pub returns : goal.returns
returns c =
    let l = c.loop-k in
    let a = c.args in
    let e : l.k - 1 ≡ a.top * a.w = omega arith in
    subst (λ (k : ℕ). DeskAfter a.file.links a.file.many a.w k a.file.circuits.now l.work l.list) e l.invariant.0
