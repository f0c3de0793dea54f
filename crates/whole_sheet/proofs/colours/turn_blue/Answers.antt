-- `turn_blue`: the links of the run before i are blue. Assumes nothing.
use borrow.Author.Rules.{rules}
use mathlib.Core.Path.{refl}
use native.Mathlib.Omega.{arith}
use Rattle.rows.proofs.Written.{written_turn}
use Rattle.rows.proofs.ColourLaws.{paint_done}
use Rattle.whole_sheet.proofs.colours.turn_blue.Goals as goal

pub loop-i-preserved : goal.loop-i-preserved
loop-i-preserved c =
    let l = c.loop-i in
    (search rules, written_turn _ _ l.i _ _ _ _ l.invariant.1 refl refl (omega arith) (omega arith))

pub returns : goal.returns
returns c = let l = c.loop-i in paint_done _ _ _ _ l.i _ _ (omega arith) (omega arith) (omega arith) l.invariant.1
