-- `take_links`: the circuit's links of the run before i are taken. Assumes nothing.
use borrow.Author.Rules.{rules}
use mathlib.Core.Path.{refl, ap, ◌∙◌}
use mathlib.Core.Bool.{cond}
use native.Mathlib.Omega.{arith}
use Rattle.whole_sheet.proofs.Stepping.{take_done}
use Rattle.method.specs.Line.{uses}
use Rattle.method.specs.Sheet.{taken}
use Rattle.rows.proofs.Written.{at_get, written_turn}
use Rattle.whole_sheet.proofs.colours.take_links.Goals as goal

pub loop-i-preserved : goal.loop-i-preserved
loop-i-preserved c =
    let l = c.loop-i in
    let s = l.invariant.1.since in (
      search rules,
      written_turn _ _ l.i _ _ _ _ l.invariant.1 refl
          (c.taken_or.ensures ∙ ap (cond (uses c.args.c l.i) taken) (at_get l.row l.i (omega arith) ∙ l.invariant.1.late l.i (omega arith)))
          (omega arith) (omega arith),
    )

pub returns : goal.returns
returns c = let l = c.loop-i in take_done _ _ _ l.i _ _ _ (omega arith) (omega arith) (omega arith) l.invariant.1
