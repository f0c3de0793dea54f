-- What the searches look for in columns of cells. A contract between crates.
-- Assumes nothing.
use Rattle.std.specs.Prelude.{◌≡◌, ℕ, ◌*◌, ◌<◌, ◌≤◌, Bool, ◌&&◌, List, length, nat_le, slice_index}
use Rattle.scans.specs.declared.Bounds.{Bounds}

-- whether a number lies within the bounds
unfoldable pub within : Bounds → ℕ → Bool
within b x = nat_le b.low x && nat_le x b.high

-- whether cell i does
unfoldable pub cell_within : Bounds → List ℕ → ℕ → Bool
cell_within b C i = within b (slice_index C i)

-- whether at place p the cell of the first column lies within a and that of the second within b
unfoldable pub both_within : Bounds → Bounds → List ℕ → List ℕ → ℕ → Bool
both_within a b A B p = cell_within a A p && cell_within b B p

-- two columns of bytes are searched together from place `from` to before place `to`, each for its bounds
pub record Searched (firsts lasts : List ℕ) (from to : ℕ) (a b : Bounds) : Type 0 where
  pub in_firsts : 2 * to ≤ length firsts
  pub in_lasts : 2 * to ≤ length lasts
  pub places : (from ≤ to) × (to ≤ 65535)
  pub bounds : (a.low ≤ a.high) × (b.low ≤ b.high)

-- a test may be made at each place from `from` to before `to`: pre says where it may be
abbrev pub TakesFrom : (ℕ → Type 0) → ℕ → ℕ → Type 0
TakesFrom pre from to = (x : ℕ) → from ≤ x → x < to → pre x

-- and at these places it answers p: post says what it may answer
abbrev pub Tells : (ℕ → Bool → Type 0) → (ℕ → Bool) → ℕ → ℕ → Type 0
Tells post p from to = (x : ℕ) (b : Bool) → from ≤ x → x < to → post x b → b ≡ p x
