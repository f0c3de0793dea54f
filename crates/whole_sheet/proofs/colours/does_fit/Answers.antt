-- `does_fit`: both ends beside the run, and then each link. Assumes nothing.
use Prim.Native.Nat.{ℕ, suc, ◌-◌, ◌≤◌}
use mathlib.Core.Path.{◌≡◌, ap₂, ◌∙◌, sym}
use mathlib.Core.Bool.{false}
use mathlib.Core.Logic.{⊎_elim}
use native.Mathlib.Omega.{arith}
use lib.ListN.{length}
use borrow.Author.Tests.{lt-leb, le-ltb}
use Rattle.basics.specs.Tools.{every}
use Rattle.method.specs.Sheet.{fits}
use Rattle.whole_sheet.specs.inner.Board.{light}
use Rattle.whole_sheet.proofs.Fitting.{fits_before, fits_behind, fits_every}
use Rattle.whole_sheet.proofs.colours.does_fit.Goals as goal
use Rattle.whole_sheet.proofs.colours.does_fit.Goals.{then-run-last, else-run-last}

pub returns-then-first-run : goal.returns-then-first-run
returns-then-first-run c =
    let a = c.args in
    let e = c.if-first-run.true in
    c.all_light.ensures
    ∙ ap₂ (λ (f l : ℕ). every (light a.run a.row.now) f (suc l - f)) c.from-first.ensures c.from-last.ensures
    ∙ fits_every (length a.row.now) a.row.now a.run c.requires.at_run.1 a.c (omega (arith, e.0)) (omega (arith, e.1))

pub returns-else-first-run : goal.returns-else-first-run
returns-else-first-run c =
    let a = c.args in
    let no : fits (length a.row.now) a.row.now a.c ≡ false =
    ⊎_elim
    (λ e. fits_behind (length a.row.now) a.row.now a.run c.requires.at_run.1 a.c (omega (arith, e.0)) (omega (arith, e.1)))
    (λ l. fits_before (length a.row.now) a.row.now a.run c.requires.at_run.1 a.c (omega (arith, l)))
    c.if-first-run.either in
    elim c.if-run-last.branch [
      | then-run-last w ↦
          let behind : a.run.past ≤ c.from-first.result = ⊎_elim (λ e. e.1) (λ l. absurd (omega (arith, l, w.if-run-last.true))) c.if-first-run.either in
          w.t-7-is ∙ le-ltb _ _ behind ∙ sym no
      | else-run-last w ↦ w.t-7-is ∙ lt-leb _ _ w.if-run-last.false ∙ sym no
    ]
