-- Bench cases 1 to 7 as request R-1 has them, and slips, each with an instance that it gets wrong. `proofs/Bench.antt` shows that each holds. What a reader must
-- believe.
-- Assumes nothing.
use Rattle.std.specs.Prelude.{List, [], ◌∷◌}
use Rattle.method.specs.Bench.{Case, c, f, g, rented, three}

-- cases 1 to 7
unfoldable pub lit_cases : List Case
lit_cases =
    rented 1 1 [] [] [] 0 0 ∷
    rented 1 1 (c 7 1 1 ∷ []) (f 1 1 1 ∷ []) (g 1 1 ∷ []) 1 1 ∷
    rented 1 2 (c 1 1 1 ∷ c 2 1 1 ∷ c 3 1 1 ∷ []) (f 1 1 1 ∷ f 1 1 2 ∷ []) (g 1 1 ∷ g 1 2 ∷ g 2 1 ∷ []) 2 2 ∷
    rented 3 1 (c 1 1 1 ∷ c 2 3 3 ∷ []) (f 1 1 1 ∷ f 3 3 1 ∷ []) (g 1 1 ∷ g 2 1 ∷ []) 2 2 ∷
    rented 3 2 three (f 1 3 2 ∷ f 2 3 2 ∷ []) (g 1 2 ∷ g 1 1 ∷ g 2 1 ∷ []) 5 4 ∷
    rented 5 2 (c 10 1 3 ∷ c 20 2 5 ∷ c 30 1 2 ∷ c 40 4 5 ∷ []) (f 1 5 2 ∷ f 2 5 2 ∷ []) (g 1 2 ∷ g 2 1 ∷ g 1 1 ∷ g 1 2 ∷ []) 9 6 ∷
    rented 5 2 (c 40 4 5 ∷ c 30 1 2 ∷ c 20 2 5 ∷ c 10 1 3 ∷ []) (f 1 5 2 ∷ f 2 5 2 ∷ []) (g 1 2 ∷ g 1 1 ∷ g 2 1 ∷ g 1 2 ∷ []) 9 6 ∷
    []

-- slips, each with an instance that it gets wrong
unfoldable pub lit_slips : List Case
lit_slips =
    -- one fibre from the first to the last lit link: a gap splits
    rented 4 1 (c 1 4 4 ∷ c 2 1 2 ∷ c 3 2 3 ∷ []) (f 1 2 2 ∷ f 4 4 2 ∷ f 2 3 2 ∷ []) (g 2 1 ∷ g 1 1 ∷ g 3 1 ∷ []) 5 5 ∷
    -- circuits that abut on fibres of their own: they join
    rented 2 1 (c 1 1 1 ∷ c 2 2 2 ∷ []) (f 1 2 1 ∷ []) (g 1 1 ∷ g 1 1 ∷ []) 2 2 ∷
    -- numbered by left end before old fibre, over the layers
    rented 2 1 (c 1 1 2 ∷ c 2 2 2 ∷ []) (f 2 2 1 ∷ f 1 2 2 ∷ []) (g 2 1 ∷ g 1 1 ∷ []) 3 3 ∷
    -- numbered by left end before old fibre, within a layer
    rented 4 1 (c 1 1 2 ∷ c 2 2 3 ∷ c 3 4 4 ∷ []) (f 1 2 2 ∷ f 4 4 2 ∷ f 2 3 2 ∷ []) (g 1 1 ∷ g 3 1 ∷ g 2 1 ∷ []) 5 5 ∷
    -- the first fibres of a layer's pairs before the second ones
    rented 5 1 (c 1 1 2 ∷ c 2 2 3 ∷ c 3 5 5 ∷ []) (f 1 2 2 ∷ f 2 3 2 ∷ f 5 5 2 ∷ []) (g 1 1 ∷ g 2 1 ∷ g 3 1 ∷ []) 5 5 ∷
    -- layers counted anew from 1; dark links kept on a fibre that is used; a link lit by either fibre of the pair
    rented 3 1 (c 1 1 2 ∷ c 2 2 3 ∷ []) (f 1 2 2 ∷ f 2 3 2 ∷ []) (g 1 1 ∷ g 2 1 ∷ []) 4 4 ∷
    -- a fibre for each wavelength
    rented 1 2 (c 1 1 1 ∷ c 2 1 1 ∷ []) (f 1 1 1 ∷ []) (g 1 1 ∷ g 1 2 ∷ []) 1 1 ∷
    -- the wavelengths of a fibre counted anew from 1
    rented 3 2 (c 1 1 1 ∷ c 2 3 3 ∷ c 3 1 2 ∷ c 4 2 3 ∷ c 5 2 2 ∷ []) (f 2 2 1 ∷ f 1 3 2 ∷ f 2 3 2 ∷ []) (g 2 1 ∷ g 2 1 ∷ g 2 2 ∷ g 3 2 ∷ g 1 1 ∷ []) 6 4 ∷
    []
