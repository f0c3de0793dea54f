-- `length_of` meets its contract: the sum so far is the length of the fibres passed. Assumes nothing.
use Prim.Native.Nat.{◌*◌, ◌≤◌}
use mathlib.Core.Path.{◌≡◌}
use Rattle.checker.specs.Checked.{fibres_in, length_in}
use Rattle.checker.proofs.measures.length_of.Given as goal

abbrev pub invariant-loop-i : goal.invariant-loop-i
invariant-loop-i l = (l.all ≤ 65536 * l.i) × (l.all ≡ length_in (fibres_in l.i l.fibres))
