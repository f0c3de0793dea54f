-- What the loops over cells have done so far. Assumes nothing.
use Rattle.std.specs.Prelude.{◌≡◌, ℕ, ◌+◌, ◌*◌, ◌<◌, ◌≤◌, List, ◌++◌, length, take, drop, replicate}
use Rattle.basics.specs.Tools.{each}
use Rattle.records.specs.Bytes.{cells_of}
use Rattle.records.specs.declared.Circuit.{Circuit}
use Rattle.method.specs.Sheet.{at, need}

-- a loop that writes f at the links from `start` on, before link i: those are written, the others are as they were
pub record Written (f : ℕ → ℕ) (start i : ℕ) (C₀ C : List ℕ) : Type 0 where
  pub since : start ≤ i
  pub long : length C ≡ length C₀
  pub done : (x : ℕ) → start ≤ x → x < i → at C x ≡ f x
  pub early : (x : ℕ) → x < start → at C x ≡ at C₀ x
  pub late : (x : ℕ) → i ≤ x → at C x ≡ at C₀ x

-- the same last row for each link
abbrev pub one_row : ℕ → ℕ → ℕ
one_row v x = v

-- while last red rows are written, after i links: the needs are as they were, the first i rows are written
pub record Reddening (n : ℕ) (f : ℕ → ℕ) (i : ℕ) (C₀ C : List ℕ) : Type 0 where
  pub front : take n C ≡ take n C₀
  pub back : Written f 1 (i + 1) (drop n C₀) (drop n C)

-- the work area has c(i) of each link, and zeros
pub record Counted (n m w : ℕ) (cs : List Circuit) (b : List ℕ) : Type 0 where
  pub long : length b ≡ 4 * n + 4 * m
  pub cells : cells_of b ≡ each (need w cs) 1 n ++ (replicate n 0 ++ (replicate m 0 ++ replicate m 0))
