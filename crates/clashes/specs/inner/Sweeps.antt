-- The sweep along the circuits of a fibre, by rising first link, as the loops do it.
-- Assumes nothing.
use Rattle.std.specs.Prelude.{ℕ, zero, suc, ◌+◌, ◌-◌, ◌*◌, ◌≤◌, ◌<◌, Bool, ◌&&◌, false, ◌≡◌, ◌⊎◌, List, length, get_or, eqb}
use Rattle.records.specs.Records.{circuit_of, circuits_in, record_at}
use Rattle.records.specs.declared.Circuit.{Circuit}
use Rattle.method.specs.Line.{Lies, circuit}
use Rattle.chains.specs.Riders.{Chained, First, Rides, fibre_in, key}
use Rattle.clashes.specs.Clashes.{clashes_in, wave_in}

-- assignment j is on fibre f, and clashes with an earlier one
abbrev pub clashes_on : List ℕ → List ℕ → ℕ → ℕ → Bool
clashes_on s assigns f j = eqb (fibre_in assigns j) f && clashes_in s assigns j

-- of the first q circuits, none on fibres 1 to o clashes with an earlier one
abbrev pub ApartTo : ℕ → ℕ → List ℕ → List ℕ → Type 0
ApartTo o q s assigns = (j : ℕ) → j < q → 1 ≤ fibre_in assigns j → fibre_in assigns j ≤ o → clashes_in s assigns j ≡ false

-- the first q circuits, on the line and with wavelengths of at most 80, stand in chains by fibre
pub record InChains (q : ℕ) (s assigns next heads : List ℕ) : Type 0 where
  pub few : q ≤ 2048
  pub file : 8 * q ≤ length s
  pub listed : 8 * q ≤ length assigns
  pub lies : Lies 512 (circuits_in q s)
  pub waves : (j : ℕ) → j < q → wave_in assigns j ≤ 80
  pub chained : Chained (circuits_in q s) (fibre_in assigns) next heads

-- some first circuits stand in chains by fibre
abbrev pub SomeChains : List ℕ → List ℕ → List ℕ → List ℕ → Type 0
SomeChains s assigns next heads = (q : ℕ) × InChains q s assigns next heads

-- of the circuits on fibre f, those that stand before t are walked: reach has, for each wavelength, the farthest last link of these, or 0; and each begins past
-- those before it that have its wavelength
pub record Walked (cs : List Circuit) (on wave : ℕ → ℕ) (f t : ℕ) (reach : List ℕ) : Type 0 where
  pub all_end : (d : ℕ) → Rides cs on f d → key cs d < t → (circuit cs d).last ≤ get_or reach (wave d) 0
  pub one_ends : (v : ℕ) → (get_or reach v 0 ≡ 0) ⊎ ((d : ℕ) × Rides cs on f d × (key cs d < t) × (wave d ≡ v) × ((circuit cs d).last ≡ get_or reach v 0))
  pub past : (d e : ℕ) → Rides cs on f d → Rides cs on f e → wave d ≡ wave e → key cs d < key cs e → key cs e < t → (circuit cs d).last < (circuit cs e).first

-- a walk along the chain of fibre f comes to the circuit told by z, and has walked those before it
pub record Walk (cs : List Circuit) (on wave : ℕ → ℕ) (f z : ℕ) (reach : List ℕ) : Type 0 where
  pub from : ℕ
  pub told : First cs on f from z
  pub walked : Walked cs on wave f from reach

-- how far a walk has to go that comes to the circuit told by z: 2,048 x 513 is past all circuits, by first link and then place
unfoldable pub to_go : List ℕ → ℕ → ℕ
to_go s zero = 0
to_go s (suc j) = 1050624 - (2048 * (circuit_of (record_at s j)).first + j)
