-- `trim_all` meets its contract: after each turn one old fibre more is done. Assumes nothing.
use mathlib.Core.Path.{◌≡◌}
use native.Mathlib.Omega.{arith}
use Rattle.lit.proofs.trim_all.Goals as goal

pub returns : goal.returns
returns c = let e : c.loop-o.o ≡ c.args.many = omega arith in λ x g s. rw e at (c.loop-o.invariant x g s)
