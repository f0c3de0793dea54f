-- `first_place` meets its contract: no byte before the place passes. Assumes nothing.
use Rattle.std.proofs.Common.{ℕ, ◌<◌, ◌≤◌, false}
use Rattle.entry_text.specs.Entries.{byte}
use Rattle.entry_text.proofs.words.first_place.Given as goal

abbrev pub invariant-loop-i : goal.invariant-loop-i
invariant-loop-i g l = goal.F-IsAlwaysCallable g l.passes × ((k : ℕ) → l.start ≤ k → k < l.i → goal.F-post g l.passes (byte l.text k) false)
