-- `fill_row`: what is left of the row leads where all of it leads; the open links become fewer. Assumes nothing.
use Prim.Native.Nat.{◌<◌}
use mathlib.Core.Path.{refl, ◌∙◌, sym, subst}
use native.Mathlib.Omega.{arith}
use Rattle.whole_sheet.specs.inner.Board.{state_in}
use Rattle.records.specs.Records.{circuits_in}
use Rattle.method.specs.Sheet.{State}
use Rattle.method.proofs.Closed.{opens}
use Rattle.rows.proofs.RowLoop.{loop_end, loop_less as fewer-open, loop_start as begin-loop, loop_turn}
use Rattle.whole_sheet.proofs.table.fill_row.Goals as goal

pub loop-l-init : goal.loop-l-init
loop-l-init c =
    let a = c.args in (
      c.requires,
      begin-loop a.job.links (circuits_in a.job.circuits a.circuits.now) a.k (state_in a.job.links a.job.circuits a.work.now a.row.now),
      refl,
    )

pub loop-l-smaller : goal.loop-l-smaller
loop-l-smaller c =
    let loop = c.loop-l in
    let one-step = c.one_step in
    let a = c.args in
    let v = loop.invariant in
    let first = rw (v.0.wide, c.in-Some.is) at c.first_open.ensures in
    subst (λ (x : State). opens a.job.links x < opens a.job.links (state_in a.job.links a.job.circuits loop.work loop.row))
    (sym one-step.ensures.shows)
    (fewer-open a.job.links (circuits_in a.job.circuits a.circuits.now) v.0.file.lies a.k (state_in a.job.links a.job.circuits loop.work loop.row) (omega (arith, first.0, first.1)))

pub loop-l-preserved : goal.loop-l-preserved
loop-l-preserved c =
    let loop = c.loop-l in
    let one-step = c.one_step in
    let a = c.args in
    let v = loop.invariant in
    let first = rw (v.0.wide, c.in-Some.is) at c.first_open.ensures in
    let s = one-step.ensures in (
      record { file = v.0.file; room = s.room; wide = s.wide },
      loop_turn a.job.links (circuits_in a.job.circuits a.circuits.now) v.0.file.lies a.k _ _ _ v.1 (omega (arith, first.0, first.1)) s.shows,
      s.needs ∙ v.2,
    )

pub returns : goal.returns
returns c =
    let a = c.args in
    let v = c.loop-l.invariant in
    let none = rw (v.0.wide, c.in_default.is) at c.first_open.ensures in
    record {
      room = v.0.room;
      wide = v.0.wide;
      needs = v.2;
      shows = loop_end a.job.links (circuits_in a.job.circuits a.circuits.now) a.k _ _ v.1 (omega (arith, none));
    }
