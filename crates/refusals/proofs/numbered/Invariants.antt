-- `numbered` meets its contract: no record before the one that is read has the number 0. Assumes nothing.
use Prim.Native.Nat.{ℕ, ◌<◌}
use mathlib.Core.Path.{◌≡◌}
use mathlib.Core.Bool.{Bool, false}
use mathlib.Core.List.{List}
use lib.Dec.{eqb}
use Rattle.records.specs.Records.{number_in}
use Rattle.refusals.proofs.numbered.Given as goal

-- record i has the number 0
abbrev pub is_zero : List ℕ → ℕ → Bool
is_zero s i = eqb (number_in s i) 0

abbrev pub invariant-loop-j : goal.invariant-loop-j
invariant-loop-j l = (i : ℕ) → i < l.j → is_zero l.circuits i ≡ false
