-- `strands::needs::floor_of` meets its contract: the sum so far is `sum` of the links passed. Assumes nothing.
use Prim.Native.Nat.{◌*◌, ◌≤◌}
use mathlib.Core.Path.{◌≡◌}
use Rattle.basics.specs.Tools.{sum}
use Rattle.records.specs.Bytes.{cells_of}
use Rattle.method.specs.Sheet.{at}
use Rattle.strands.proofs.needs.floor_of.Given as goal

abbrev pub invariant-loop-i : goal.invariant-loop-i
invariant-loop-i l = (l.all ≤ 65536 * l.i) × (l.all ≡ sum (at (cells_of l.work)) l.i)
