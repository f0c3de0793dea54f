-- Channels and frequencies as plain numbers, on both grids and at every wavelength. Assumes nothing.
use Prim.Native.Nat.{ℕ, zero, suc, ◌+◌, ◌*◌, ◌-◌, ◌<◌, ◌≤◌}
use mathlib.Core.Path.{◌≡◌, ap, ◌∙◌}
use mathlib.Core.Bool.{Bool, true, false, cond}
use native.Mathlib.Nat.{mul-add, mul-le-mul}
use native.Mathlib.Omega.{arith}
use borrow.Author.Tests.{lt-ltb, le-ltb}
use lib.Dec.{T, eqb}
use lib.Signed.{non_neg}
use lib.IntN.{ℤ, pos, negsuc, neg_ℤ, ◌+ℤ◌, ◌-ℤ◌, ◌*ℤ◌, nat_abs}
use mir.Syntax.{w32}
use mir.Val.{SFits}
use Rattle.basics.proofs.Bools.{by_le, on}
use Rattle.grid.specs.Frequencies.{limit_of, anchor_of, spacing_of, channel_of, frequency_of}

-- what is taken away from a number that is not smaller
pub minus_less : (b k : ℕ) → k ≤ b → pos b -ℤ pos k ≡ pos (b - k)
minus_less b zero h = ap pos (omega arith)
minus_less b (suc k) h = rw (le-ltb b (suc k) h)

-- and from one that is
pub minus_more : (b k : ℕ) → b < k → pos b -ℤ pos k ≡ negsuc (k - suc b)
minus_more b zero h = absurd (omega arith)
minus_more b (suc k) h = rw (lt-ltb b (suc k) h)

-- a 16-bit number less a small one fits 32 signed bits
difference_fits : (a v : ℕ) → a ≤ 21 → v < 65536 → SFits w32 (pos v -ℤ pos a)
difference_fits a v l h =
    by_le a v
    (λ f. rw (minus_less v a f) (record { sfits = omega arith }))
    (λ b. rw (minus_more v a b) (record { sfits = omega arith }))

-- so does the opposite of a number that is not too large
opposite_fits : (k : ℕ) → k ≤ 2147483647 → SFits w32 (neg_ℤ (pos k))
opposite_fits zero h = record { sfits = omega arith }
opposite_fits (suc k) h = record { sfits = omega arith }

-- EVERY GRID, by its anchor a and its spacing p
module _ (a p v : ℕ) where
  -- p times a channel number that is not negative
  above : a ≤ v → pos p *ℤ (pos v -ℤ pos a) ≡ pos (p * (v - a))
  above h = ap (λ (z : ℤ). pos p *ℤ z) (minus_less v a h)

  -- p times one that is
  below : v < a → pos p *ℤ (pos v -ℤ pos a) ≡ neg_ℤ (pos (p * (a - v)))
  below h =
      let e : suc (a - suc v) ≡ a - v = omega arith in
      ap (λ (z : ℤ). pos p *ℤ z) (minus_more v a h) ∙ ap (λ (n : ℕ). neg_ℤ (pos (p * n))) e

  -- both fit 32 signed bits
  times_fits : a ≤ 21 → p ≤ 100 → v < 65536 → SFits w32 (pos p *ℤ (pos v -ℤ pos a))
  times_fits l q h =
      let x : p * (v - a) ≤ 100 * 65536 = mul-le-mul {m₂ = 65536} q (omega arith) in
      let y : p * (a - v) ≤ 100 * 21 = mul-le-mul {m₂ = 21} q (omega arith) in
      by_le a v (λ f. rw (above f) (record { sfits = omega arith })) (λ b. rw (below b) (opposite_fits (p * (a - v)) (omega arith)))

  -- the frequency, whatever the sign of the channel number; o is where wavelength 0 would be
  from_anchor : (o : ℕ) → o + p * a ≡ 193100 → pos 193100 +ℤ (pos p *ℤ (pos v -ℤ pos a)) ≡ pos (o + p * v)
  from_anchor o e =
      by_le a v
      (λ f.
      let s : p * (a + (v - a)) ≡ p * v = ap (λ (n : ℕ). p * n) (omega arith) in
      let t = mul-add p a (v - a) in
      rw (above f) (ap pos (omega arith)))
      (λ b.
      let s : p * (v + (a - v)) ≡ p * a = ap (λ (n : ℕ). p * n) (omega arith) in
      let t = mul-add p v (a - v) in
      rw (below b) (minus_less 193100 (p * (a - v)) (omega arith) ∙ ap pos (omega arith)))

-- THE TWO GRIDS. What bounds both of two numbers bounds either
either : (b : Bool) (x y m : ℕ) → x ≤ m → y ≤ m → cond b x y ≤ m
either true x y m h k = h
either false x y m h k = k

-- no grid has more than 80 wavelengths
pub limit_small : (grid : ℕ) → limit_of grid ≤ 80
unfolding limit_of
limit_small grid = either (eqb grid 2) 80 40 80 (omega arith) (omega arith)

-- on which channel 0 is wavelength 21 at most
pub anchor_small : (grid : ℕ) → anchor_of grid ≤ 21
unfolding anchor_of
anchor_small grid = either (eqb grid 2) 21 11 21 (omega arith) (omega arith)

-- no two channels lie further apart than 100 GHz
pub spacing_small : (grid : ℕ) → spacing_of grid ≤ 100
unfolding spacing_of
spacing_small grid = either (eqb grid 2) 50 100 100 (omega arith) (omega arith)

-- the frequency of wavelength v is 192,000 + 100 v, or 192,050 + 50 v on grid 2
pub frequency_is : (grid v : ℕ) → frequency_of grid v ≡ pos (cond (eqb grid 2) (192050 + 50 * v) (192000 + 100 * v))
unfolding frequency_of channel_of anchor_of spacing_of
frequency_is grid v = on (eqb grid 2) (λ e. rw e (from_anchor 21 50 v 192050 (omega arith))) (λ e. rw e (from_anchor 11 100 v 192000 (omega arith)))

-- and so it is never negative, and this is its size
pub frequency_size : (grid v : ℕ) → nat_abs (frequency_of grid v) ≡ cond (eqb grid 2) (192050 + 50 * v) (192000 + 100 * v)
frequency_size grid v = ap nat_abs (frequency_is grid v)

-- which no grid makes larger than this
pub frequency_small : (grid v : ℕ) → cond (eqb grid 2) (192050 + 50 * v) (192000 + 100 * v) ≤ 192050 + 100 * v
frequency_small grid v = either (eqb grid 2) (192050 + 50 * v) (192000 + 100 * v) (192050 + 100 * v) (omega arith) (omega arith)

-- every channel number of a 16-bit wavelength fits 32 signed bits
pub channel_fits : (grid v : ℕ) → v < 65536 → SFits w32 (channel_of grid v)
unfolding channel_of
channel_fits grid v h = difference_fits (anchor_of grid) v (anchor_small grid) h

-- so does the spacing times it
pub product_fits : (grid v : ℕ) → v < 65536 → SFits w32 (pos (spacing_of grid) *ℤ channel_of grid v)
unfolding channel_of
product_fits grid v h = times_fits (anchor_of grid) (spacing_of grid) v (anchor_small grid) (spacing_small grid) h

-- and the frequency
pub frequency_fits : (grid v : ℕ) → v < 65536 → SFits w32 (frequency_of grid v)
frequency_fits grid v h =
    let z = frequency_small grid v in rw (frequency_is grid v) (record { sfits = omega arith })

-- the frequency is not negative
pub frequency_pos : (grid v : ℕ) → T (non_neg (frequency_of grid v))
frequency_pos grid v = rw (frequency_is grid v) tt
