-- `one_step`: a step of the method, whether somebody fits or nobody. Assumes nothing.
use Prim.Native.Nat.{ℕ, ◌≤◌}
use mathlib.Core.Path.{◌≡◌, refl, ap, ◌∙◌, sym}
use mathlib.Core.List.{List}
use native.Mathlib.Omega.{arith}
use Rattle.whole_sheet.proofs.Stepping.{blue_step, place_step}
use Rattle.whole_sheet.specs.inner.Board.{AtRun}
use Rattle.whole_sheet.specs.inner.Choices.{place_of}
use Rattle.method.specs.Sheet.{run_from, run_past}
use Rattle.method.proofs.Colours.{from_pos, past_le}
use Rattle.whole_sheet.proofs.table.one_step.Goals as goal

-- the run that was found
found-run : (n l past : ℕ) (row : List ℕ) → l ≡ run_from n row → past ≡ run_past n row → l ≤ n → AtRun n row (record { from = l; past = past })
found-run n l past row a b h = record { starts = a; ends = b; there = h }

pub turn_blue-requires : goal.turn_blue-requires
turn_blue-requires c =
    let first-closed = c.first_closed-past in
    let a = c.args in
    let b = c.requires.0 in
    let p = from_pos a.job.links a.row.now in
    let q = past_le a.job.links a.row.now (omega arith) in
    let past = rw b.wide at first-closed.ensures in
    let wide = b.wide in
    let line = b.file.line in
    (omega arith, omega arith, omega arith)

pub returns-in-Some : goal.returns-in-Some
returns-in-Some c =
    let place = c.place in
    let first-closed = c.first_closed-past in
    let lowest-fit = c.lowest_fit in
    let a = c.args in
    let s = place.ensures in
    let past = rw c.requires.0.wide at first-closed.ensures in
    record {
      room = s.room;
      wide = s.wide;
      needs = s.needs;
      shows = place_step a.job.links a.job.circuits a.k a.circuits.now a.work.now a.row.now _
          (found-run a.job.links a.l _ a.row.now c.requires.1 past c.requires.2) _ _
          (sym lowest-fit.ensures.0 ∙ ap place_of c.in-Some.is) s.shows;
    }

pub returns-in-None : goal.returns-in-None
returns-in-None c =
    let turn-blue = c.turn_blue in
    let first-closed = c.first_closed-past in
    let lowest-fit = c.lowest_fit in
    let a = c.args in
    let b = c.requires.0 in
    let past = rw b.wide at first-closed.ensures in
    let blues = rw b.wide at turn-blue.ensures in
    record {
      room = b.room;
      wide = turn-blue.auto.row ∙ b.wide;
      needs = refl;
      shows = blue_step a.job.links a.job.circuits a.k a.circuits.now a.work.now a.row.now _
          (found-run a.job.links a.l _ a.row.now c.requires.1 past c.requires.2) _
          (sym lowest-fit.ensures.0 ∙ ap place_of c.in-None.is) blues;
    }
