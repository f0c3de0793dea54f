-- Request R-9: one side of an idle link planned alone. `proofs/Sides.antt` shows it for every n, every w ≥ 1, every list of circuits that lie on the line, no number
-- twice, and every link of load 0. What a reader must believe.
-- Assumes nothing.
use Rattle.std.specs.Prelude.{◌<◌, ◌≤◌, ℕ, ltb, length, Bool, cond, List, [], ◌∷◌, ◌⊎◌, ◌≡◌}
use Rattle.records.specs.declared.Circuit.{Circuit}
use Rattle.method.specs.Bench.{Case, c, f, g, rented}
use Rattle.method.specs.Demands.{Rearranged}
use Rattle.method.specs.Line.{Distinct, Plan, assigned, circuit, fibre_under}
use Rattle.method.specs.Lit.{lit_plan}

-- the circuits that pass, in the order of the file
unfoldable pub keep : (Circuit → Bool) → List Circuit → List Circuit
keep p [] = []
keep p (c ∷ cs) = cond (p c) (c ∷ keep p cs) (keep p cs)

-- only the circuits left of link z: they end before it
unfoldable pub left_of : ℕ → List Circuit → List Circuit
left_of z cs = keep (λ c. ltb c.last z) cs

-- only those right of it: they begin past it
unfoldable pub right_of : ℕ → List Circuit → List Circuit
right_of z cs = keep (λ c. ltb z c.first) cs

-- circuit i of plan p has the wavelength and the fibre span of circuit j of plan q
pub record SameWavelengthAndSpan (p : Plan) (i : ℕ) (q : Plan) (j : ℕ) : Type 0 where
  pub wavelength : (assigned p i).wavelength ≡ (assigned q j).wavelength
  pub first : (fibre_under p i).first ≡ (fibre_under q j).first
  pub last : (fibre_under p i).last ≡ (fibre_under q j).last

-- ds is a file of the circuits of cs that are `On` one side, and R-1's plan of it gives each what the full plan does
pub record SideAlone (n w : ℕ) (cs ds : List Circuit) (On : Circuit → Type 0) : Type 0 where
  -- each circuit of the side has its place in the file
  pub has_place_lem : (j : ℕ) → j < length cs → On (circuit cs j) → (i : ℕ) × (i < length ds) × (circuit ds i ≡ circuit cs j)
  -- no other circuit has
  pub no_other : (i : ℕ) → i < length ds → (j : ℕ) × (j < length cs) × (circuit ds i ≡ circuit cs j) × On (circuit cs j)
  -- no number stands twice in it
  pub once : Distinct ds
  -- so it is no longer than the whole file
  pub no_more : length ds ≤ length cs
  -- each circuit has the wavelength and fibre span of the full plan
  pub as_full : (i j : ℕ) → i < length ds → j < length cs → circuit ds i ≡ circuit cs j → SameWavelengthAndSpan (lit_plan n w ds) i (lit_plan n w cs) j

-- what is promised for link z, for each side's file in any order
pub record SideDemand (n w z : ℕ) (cs : List Circuit) : Type 0 where
  -- each circuit is left of the link or right of it
  pub one_side : (j : ℕ) → j < length cs → ((circuit cs j).last < z) ⊎ (z < (circuit cs j).first)
  -- only the circuits left of it
  pub left : (ds : List Circuit) → Rearranged (left_of z cs) ds → SideAlone n w cs ds (λ c. c.last < z)
  -- only those right of it
  pub right : (ds : List Circuit) → Rearranged (right_of z cs) ds → SideAlone n w cs ds (λ c. z < c.first)

-- LAYERS AND FIBRE NUMBERS MAY DIFFER. Three circuits on three links, of which link 2 has load 0
abbrev pub apart : List Circuit
apart = c 1 1 1 ∷ c 2 3 3 ∷ c 3 3 3 ∷ []

-- one wavelength, the whole and its two sides: circuit 1 has fibre 2, of layer 2, and alone fibre 1, of layer 1; circuit 3 has fibre 3, and alone fibre 2
unfoldable pub side_cases : List Case
side_cases =
    rented 3 1 apart (f 3 3 1 ∷ f 1 1 2 ∷ f 3 3 2 ∷ []) (g 2 1 ∷ g 1 1 ∷ g 3 1 ∷ []) 3 3 ∷
    rented 3 1 (left_of 2 apart) (f 1 1 1 ∷ []) (g 1 1 ∷ []) 1 1 ∷
    rented 3 1 (right_of 2 apart) (f 3 3 1 ∷ f 3 3 2 ∷ []) (g 1 1 ∷ g 2 1 ∷ []) 2 2 ∷
    []
