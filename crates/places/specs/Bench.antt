-- Places and turns worked out. `proofs/Bench.antt` shows that each holds. What a reader must believe.
-- Assumes nothing.
use Rattle.std.specs.Prelude.{ℕ, true, List, [], ◌∷◌, ◌≡◌}
use Rattle.records.specs.declared.Circuit.{Circuit}
use Rattle.method.specs.Bench.{c, f, g}
use Rattle.method.specs.Line.{Assignment, Fibre, unassigned}
use Rattle.places.specs.Places.{Rider, place, riding}
use Rattle.places.specs.Turns.{by_number}

-- what a case says
pub data Case : Type 0 where
  -- on these fibres, wavelengths lo to hi, beside these riders, the circuit finds this
  finds : List Fibre → (lo hi : ℕ) → List Rider → Circuit → Assignment → Case
  -- the circuits come in this order, by their places
  come : List Circuit → List ℕ → Case

-- a case holds
abbrev pub Holds : Case → Type 0
Holds (finds fs lo hi rs k found) = place fs lo hi rs k ≡ found
Holds (come cs js) = by_number (λ j. true) cs ≡ js

-- every case of a table holds
abbrev pub AllHold : List Case → Type 0
AllHold [] = Unit {0}
AllHold (k ∷ ks) = Holds k × AllHold ks

-- the table
unfoldable pub place_cases : List Case
place_cases =
    -- a fibre spans from its first link to its last
    finds (f 2 4 1 ∷ []) 1 1 [] (c 1 2 4) (g 1 1) ∷
    -- it spans no circuit that begins before it
    finds (f 2 4 1 ∷ []) 1 1 [] (c 1 1 3) unassigned ∷
    -- nor one that ends past it
    finds (f 2 4 1 ∷ []) 1 1 [] (c 1 3 5) unassigned ∷
    -- circuits that meet on one link clash
    finds (f 1 5 1 ∷ []) 1 2 (riding (c 1 1 3) (g 1 1) ∷ []) (c 2 3 5) (g 1 2) ∷
    -- circuits that abut do not
    finds (f 1 5 1 ∷ []) 1 2 (riding (c 1 1 2) (g 1 1) ∷ riding (c 2 4 5) (g 1 1) ∷ []) (c 3 3 3) (g 1 1) ∷
    -- one that lies within another clashes
    finds (f 1 5 1 ∷ []) 1 1 (riding (c 1 3 3) (g 1 1) ∷ []) (c 2 1 5) unassigned ∷
    -- who rides on another fibre does not clash
    finds (f 1 2 1 ∷ f 1 2 1 ∷ []) 1 1 (riding (c 1 1 2) (g 2 1) ∷ []) (c 2 1 2) (g 1 1) ∷
    -- who has another wavelength does not
    finds (f 1 2 1 ∷ []) 1 2 (riding (c 1 1 2) (g 1 2) ∷ []) (c 2 1 2) (g 1 1) ∷
    -- who has no place yet does not
    finds (f 1 2 1 ∷ []) 1 1 (riding (c 1 1 2) unassigned ∷ []) (c 2 1 2) (g 1 1) ∷
    -- the lowest fibre comes before the lowest wavelength
    finds (f 1 1 1 ∷ f 1 1 1 ∷ []) 1 2 (riding (c 1 1 1) (g 1 1) ∷ []) (c 2 1 1) (g 1 2) ∷
    -- the lowest number, not the shortest span
    finds (f 1 3 1 ∷ f 1 1 1 ∷ []) 1 1 [] (c 1 1 1) (g 1 1) ∷
    -- the lowest wavelength, not the highest
    finds (f 1 1 1 ∷ []) 1 3 (riding (c 1 1 1) (g 1 2) ∷ []) (c 2 1 1) (g 1 1) ∷
    -- a fibre that is full there is passed over, and so is one that does not span
    finds (f 1 1 1 ∷ f 2 2 1 ∷ f 1 1 1 ∷ []) 1 1 (riding (c 1 1 1) (g 1 1) ∷ []) (c 2 1 1) (g 3 1) ∷
    -- only the wavelengths lo to hi
    finds (f 1 1 1 ∷ []) 3 4 (riding (c 1 1 1) (g 1 3) ∷ []) (c 2 1 1) (g 1 4) ∷
    -- no other, though it is free
    finds (f 1 1 1 ∷ []) 3 4 (riding (c 1 1 1) (g 1 3) ∷ riding (c 2 1 1) (g 1 4) ∷ []) (c 3 1 1) unassigned ∷
    -- by number, not by place in the file
    come (c 30 1 1 ∷ c 10 1 1 ∷ c 20 1 1 ∷ []) (1 ∷ 2 ∷ 0 ∷ []) ∷
    -- nobody
    come [] [] ∷
    []
