-- `strands::assigns::pair_over` meets its contract: what is sought from here on is what was sought from the start. Assumes nothing.
use Prim.Native.Nat.{◌-◌}
use mathlib.Core.Path.{◌≡◌}
use Rattle.basics.specs.Tools.{seek}
use Rattle.strands.specs.inner.Area.{pair_reaches}
use Rattle.strands.proofs.assigns.pair_over.Given as goal

abbrev pub invariant-loop-i : goal.invariant-loop-i
invariant-loop-i l = seek (pair_reaches l.pairs.lasts l.x) l.i (l.pairs.count - l.i) ≡ seek (pair_reaches l.pairs.lasts l.x) l.start (l.pairs.count - l.start)
