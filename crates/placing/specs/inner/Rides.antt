-- One rider more, and the circuits of a file that ride so far. Assumes nothing.
use Rattle.std.specs.Prelude.{◌+◌, ◌*◌, ◌-◌, ◌<◌, ◌≤◌, suc, zero, ℕ, get_or, length, set, take, List, ◌++◌, ◌≡◌}
use Rattle.records.specs.Bytes.{set_cell}
use Rattle.records.specs.Records.{circuits_in}
use Rattle.records.specs.declared.Circuit.{Circuit}
use Rattle.method.specs.Line.{Assignment}
use Rattle.places.specs.Places.{Rider, rider, riders}
use Rattle.placing.specs.Riding.{Among, Chain, NoneRides, Riding}

-- how many places follow from z on, k at most: the measure of a walk
unfoldable pub hops : List ℕ → ℕ → ℕ → ℕ
hops next zero z = 0
hops next (suc k) zero = 0
hops next (suc k) (suc j) = suc (hops next k (get_or next j 0))

-- the walk along the chain of fibre q has come to z
pub record Walking (rs : List Rider) (next : List ℕ) (q z : ℕ) : Type 0 where
  pub left : List ℕ
  pub linked : Chain next z left
  pub short : length left ≤ 2048
  pub mine : (d : ℕ) → Among d left → (d < length rs) × ((rider rs d).fibre ≡ q)

-- the ends of circuit c noted at place j
unfoldable pub noted : Circuit → ℕ → List ℕ → List ℕ
noted c j ends = set_cell (set_cell ends (2 * j) c.first) (2 * j + 1) c.last

-- c rides on fibre q, at place j: its ends are noted, and it is the head of the chain
abbrev pub Ridden : Circuit → ℕ → ℕ → List ℕ → List ℕ → List ℕ → List ℕ → List ℕ → List ℕ → Type 0
Ridden c j q ends heads next ends' heads' next' = (ends' ≡ noted c j ends) × (heads' ≡ set heads (q - 1) (j + 1)) × (next' ≡ set next j (get_or heads (q - 1) 0))

-- the first j circuits of a file of m have what gs gives them; those that have a fibre ride
abbrev pub RidingTo : ℕ → ℕ → List ℕ → List Assignment → ℕ → List ℕ → List ℕ → List ℕ → List ℕ → ℕ → Type 0
RidingTo many m s gs room ends assigns heads next j =
    (xs : List Rider) → NoneRides xs → m + length xs ≤ 2048 → 4 * (m + length xs) ≤ room → 8 * (m + length xs) ≤ length assigns → Riding many (riders (circuits_in m s) (take j gs) ++ xs) ends assigns heads next
