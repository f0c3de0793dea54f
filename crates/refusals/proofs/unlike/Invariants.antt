-- `unlike` meets its contract: no record before the one that is compared repeats an earlier one, and all of them are in the chains of their remainders.
-- Assumes nothing.
use Prim.Native.Nat.{ℕ, ◌<◌}
use mathlib.Core.Path.{◌≡◌}
use mathlib.Core.Bool.{false}
use mathlib.Core.List.{List}
use lib.ListN.{length, get_or}
use Rattle.basics.specs.Lasts.{last_place}
use Rattle.refusals.specs.Table.{repeats}
use Rattle.refusals.specs.inner.Remainders.{rem}
use Rattle.refusals.proofs.unlike.Given as goal

-- the records below j by remainder: H tells the last that has each, and N the one before each
pub record Chained (s : List ℕ) (j : ℕ) (H N : List ℕ) : Type 0 where
  pub long : length H ≡ 4096
  pub room : length N ≡ 2048
  pub heads : (k : ℕ) → k < 4096 → get_or H k 0 ≡ last_place (rem s) k j
  pub links : (d : ℕ) → d < j → get_or N d 0 ≡ last_place (rem s) (rem s d) d

abbrev pub invariant-loop-j : goal.invariant-loop-j
invariant-loop-j l = ((i : ℕ) → i < l.j → repeats l.circuits i ≡ false) × Chained l.circuits l.j l.chains.heads l.chains.next
