-- Where the stretches begin and end. Assumes nothing.
use Prim.Native.Nat.{ℕ, zero, suc, ◌+◌, ◌-◌, ◌<◌, ◌≤◌}
use mathlib.Core.Path.{◌≡◌, ap}
use mathlib.Core.List.{List}
use native.Mathlib.Omega.{arith}
use lib.ListN.{length}
use Rattle.basics.specs.Tools.{sum}
use Rattle.basics.proofs.Bools.{by_eq}
use Rattle.records.specs.declared.Circuit.{Circuit}
use Rattle.method.specs.Sheet.{load}
use Rattle.riders.specs.Index.{start_of, cells_for}
use Rattle.riders.proofs.LoadLaws.{sum_most, load_few}

-- a sum to a later place is no less
sum_mono : (f : ℕ → ℕ) (a b : ℕ) → a ≤ b → sum f a ≤ sum f b
unfolding sum
sum_mono f a zero h = let e : a ≡ 0 = omega arith in omega (arith, ap (sum f) e)
sum_mono f a (suc b) h = by_eq a (suc b) (λ e. omega (arith, ap (sum f) e)) (λ e. omega (arith, sum_mono f a b (omega arith)))

-- the last term of a sum
sum_last : (f : ℕ → ℕ) (i : ℕ) → 1 ≤ i → sum f i ≡ f i + sum f (i - 1)
unfolding sum
sum_last f zero h = absurd (omega arith)
sum_last f (suc i) h = let e : suc i - 1 ≡ i = omega arith in rw e

module _ (n : ℕ) (cs : List Circuit) where
  -- link 1 begins after the starts
  pub start_first : start_of n cs 1 ≡ n + 1
  unfolding start_of sum
  start_first = omega arith

  -- each link begins where the one before it ends
  pub start_next : (i : ℕ) → 1 ≤ i → start_of n cs (i + 1) ≡ start_of n cs i + load cs i
  unfolding start_of
  start_next i h = let e : i + 1 - 1 ≡ i = omega arith in rw e (omega (arith, sum_last (load cs) i h))

  -- past the last link the index ends
  pub start_last : start_of n cs (n + 1) ≡ cells_for n cs
  unfolding start_of cells_for
  start_last = let e : n + 1 - 1 ≡ n = omega arith in rw e (omega arith)

  -- no stretch is among the starts
  pub start_high : (i : ℕ) → n < start_of n cs i
  unfolding start_of
  start_high i = omega arith

  -- a stretch ends before a later one begins
  pub start_later : (i l : ℕ) → 1 ≤ i → i < l → start_of n cs i + load cs i ≤ start_of n cs l
  unfolding start_of
  start_later i l h k = omega (arith, sum_last (load cs) i h, sum_mono (load cs) i (l - 1) (omega arith))

  -- and within the index
  pub start_in : (i : ℕ) → 1 ≤ i → i ≤ n → start_of n cs i + load cs i ≤ cells_for n cs
  start_in i h k = omega (arith, start_later i (n + 1) h (omega arith), start_last)

  -- the starts are within it too
  pub starts_in : n < cells_for n cs
  unfolding cells_for
  starts_in = omega arith

  -- how many cells at most
  pub cells_few : length cs ≤ 2048 → n ≤ 512 → cells_for n cs ≤ 1049089
  unfolding cells_for
  cells_few h k = omega (arith, sum_most (load cs) 2048 n (λ i. omega (arith, load_few cs i)))
