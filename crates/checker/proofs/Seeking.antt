-- A run that stops at the first place that passes is the search for it. Assumes nothing.
use Prim.Native.Nat.{ℕ, ◌+◌, ◌<◌, ◌≤◌}
use mathlib.Core.Path.{◌≡◌, sym}
use mathlib.Core.Bool.{Bool, true, false}
use native.Mathlib.Omega.{arith}
use Rattle.basics.specs.Tools.{seek}
use Rattle.basics.proofs.Searches.{seek_first, seek_none}

module _ (p : ℕ → Bool) where
  -- place j passes, and none before it
  pub stops_at : (m j : ℕ) → j < m → p j ≡ true → ((i : ℕ) → i < j → p i ≡ false) → j ≡ seek p 0 m
  stops_at m j l t before = sym (seek_first p 0 m j (omega arith) (omega arith) t (λ i a b. before i b))

  -- none passes
  pub runs_out : (m j : ℕ) → m ≤ j → ((i : ℕ) → i < j → p i ≡ false) → m ≡ seek p 0 m
  runs_out m j l before =
      let z : seek p 0 m ≡ 0 + m = seek_none p 0 m (λ i a b. before i (omega arith)) in
      omega arith
