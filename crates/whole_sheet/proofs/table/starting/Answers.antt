-- `starting` meets its contract: red, blue, open. Assumes nothing.
use native.Mathlib.Omega.{arith}
use borrow.Author.Tests.{le-leb, lt-leb, eq-eqb, ne_eqb}
use Rattle.whole_sheet.specs.inner.Tables.{start_as}
use Rattle.whole_sheet.proofs.table.starting.Goals as goal

pub returns-then-k-reds : goal.returns-then-k-reds
unfolding start_as
returns-then-k-reds c = let a = c.args in rw (le-leb a.k a.reds (omega arith))

pub returns-then-was-eq-BLUE : goal.returns-then-was-eq-BLUE
unfolding start_as
returns-then-was-eq-BLUE c = let a = c.args in rw (lt-leb a.k a.reds (omega arith), eq-eqb a.was 1 (omega arith))

pub returns : goal.returns
unfolding start_as
returns c = let a = c.args in rw (lt-leb a.k a.reds (omega arith), ne_eqb a.was 1 (omega arith))
