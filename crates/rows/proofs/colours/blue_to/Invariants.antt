-- `blue_to`: all links from i to `stop` are blue. Assumes nothing.
use Rattle.std.proofs.Common.{◌≡◌, ℕ, ◌<◌, ◌≤◌}
use Rattle.method.specs.Sheet.{at, blue}
use Rattle.records.specs.Bytes.{cells_of}
use Rattle.rows.specs.inner.Colours.{shown}
use Rattle.rows.proofs.colours.blue_to.Given as goal

abbrev pub invariant-loop-i : goal.invariant-loop-i
invariant-loop-i l = (1 ≤ l.i) × ((x : ℕ) → l.i ≤ x → x < l.stop → at (shown l.n l.k (cells_of l.lasts)) x ≡ blue)
