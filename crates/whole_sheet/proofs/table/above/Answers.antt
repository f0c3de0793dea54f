-- `above` meets its contract: there is a row above, or none. Assumes nothing.
use Prim.Native.Nat.{◌+◌, ◌-◌}
use native.Mathlib.Omega.{arith}
use borrow.Author.Tests.{lt-ltb, le-ltb}
use Rattle.whole_sheet.specs.inner.Tables.{above_at}
use Rattle.rows.proofs.Written.{at_get}
use Rattle.whole_sheet.proofs.table.above.Goals as goal

pub returns-then-a-n : goal.returns-then-a-n
unfolding above_at
returns-then-a-n c = let a = c.args in rw (lt-ltb a.a a.n (omega arith))

pub returns : goal.returns
unfolding above_at
returns c =
    let a = c.args in
    rw (le-ltb a.a a.n (omega arith)) (at_get a.sheet.now (a.a + a.i - a.n) (omega arith))
