-- `any_of`: `hit` tells whether one of the first k places passes. Assumes nothing.
use Rattle.std.proofs.Common.{◌≡◌, ◌+◌, ℕ, Bool}
use Rattle.basics.specs.Tools.{any}
use Rattle.scans.specs.Scans.{Tells}
use Rattle.scans.proofs.any_of.Given as goal

abbrev pub invariant-loop-k : goal.invariant-loop-k
invariant-loop-k g l = (p : ℕ → Bool) → Tells (goal.F-post g l.passes) p l.i (l.i + g.row.N) → l.hit ≡ any (λ j. p (l.i + j)) l.k
