-- The grids of ITU-T G.694.1, anchored at 193.1 THz: 1 has a spacing of 100 GHz, 2 of 50 GHz. What a reader must believe.
-- Assumes nothing.
use Rattle.std.specs.Prelude.{ℕ, Bool, ◌||◌, cond, eqb, ℤ, pos, ◌+ℤ◌, ◌-ℤ◌, ◌*ℤ◌}

-- the grids that there are; what is said below matters for these two only
unfoldable pub is_grid : ℕ → Bool
is_grid grid = eqb grid 1 || eqb grid 2

-- how many wavelengths a grid has
unfoldable pub limit_of : ℕ → ℕ
limit_of grid = cond (eqb grid 2) 80 40

-- which of them is channel 0
unfoldable pub anchor_of : ℕ → ℕ
anchor_of grid = cond (eqb grid 2) 21 11

-- how many GHz lie between two channels
unfoldable pub spacing_of : ℕ → ℕ
spacing_of grid = cond (eqb grid 2) 50 100

-- wavelength v has channel number v − 11, or v − 21 on grid 2, which is negative, zero or positive
unfoldable pub channel_of : ℕ → ℕ → ℤ
channel_of grid v = pos v -ℤ pos (anchor_of grid)

-- and frequency 193,100 GHz + 100 × channel, or 50 × channel on grid 2
unfoldable pub frequency_of : ℕ → ℕ → ℤ
frequency_of grid v = pos 193100 +ℤ (pos (spacing_of grid) *ℤ channel_of grid v)
