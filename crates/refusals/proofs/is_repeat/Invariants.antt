-- `is_repeat` meets its contract: no record that the walk left behind has the number. Assumes nothing.
use Prim.Native.Nat.{ℕ, suc, ◌≤◌, ◌<◌}
use mathlib.Core.Path.{◌≡◌}
use mathlib.Core.Bool.{false}
use mathlib.Core.List.{List}
use Rattle.records.specs.Chains.{entry_of}
use Rattle.refusals.specs.Table.{has_number}
use Rattle.refusals.specs.inner.Remainders.{remainder_of, rem}
use Rattle.refusals.proofs.is_repeat.Given as goal

-- the walk along the chain of the remainder of x: record z - 1 has it, if z is not 0, and no record from z to j has the number x
pub record Walking (s : List ℕ) (x j z : ℕ) : Type 0 where
  pub low : z ≤ j
  pub mine : (q : ℕ) → z ≡ suc q → rem s q ≡ remainder_of x
  pub others : (d : ℕ) → z ≤ d → d < j → has_number s x d ≡ false

abbrev pub invariant-loop-at : goal.invariant-loop-at
invariant-loop-at l = Walking l.circuits l.x l.j (entry_of l.at)

abbrev pub decreases-loop-at : goal.decreases-loop-at
decreases-loop-at l = entry_of l.at
