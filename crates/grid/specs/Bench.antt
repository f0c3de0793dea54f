-- Bench cases of the grids. `proofs/Cases.antt` shows that each holds. What a reader must believe.
-- Assumes nothing.
use Rattle.std.specs.Prelude.{ℕ, ◌≡◌, List, [], ◌∷◌, ℤ, pos, negsuc}
use Rattle.grid.specs.Frequencies.{limit_of, channel_of, frequency_of}

-- what a case says
pub data Case : Type 0 where
  -- wavelength v of a grid is this channel, at this frequency
  at : (grid v : ℕ) → ℤ → ℕ → Case
  -- a grid has so many wavelengths
  has : (grid many : ℕ) → Case

-- a case holds
abbrev pub Holds : Case → Type 0
Holds (at grid v channel frequency) = (channel_of grid v ≡ channel) × (frequency_of grid v ≡ pos frequency)
Holds (has grid many) = limit_of grid ≡ many

-- every case of a table holds
abbrev pub AllHold : List Case → Type 0
AllHold [] = Unit {0}
AllHold (c ∷ cases) = Holds c × AllHold cases

-- the first wavelength, the anchor and the last wavelength of each grid; negsuc 9 is −10, negsuc 19 is −20
unfoldable pub cases : List Case
cases =
    at 1 1 (negsuc 9) 192100 ∷
    at 1 11 (pos 0) 193100 ∷
    at 1 40 (pos 29) 196000 ∷
    has 1 40 ∷
    at 2 1 (negsuc 19) 192100 ∷
    at 2 21 (pos 0) 193100 ∷
    at 2 80 (pos 59) 196050 ∷
    has 2 80 ∷
    []
