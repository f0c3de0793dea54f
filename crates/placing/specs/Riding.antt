-- How riders stand in lent bytes and tables: ends in cells, wavelengths in assignment records, chains by fibre in two tables. What a reader must believe.
-- Assumes nothing.
use Rattle.std.specs.Prelude.{◌+◌, ◌*◌, ◌-◌, ◌<◌, ◌≤◌, ℕ, eqb, get_or, length, cond, List, [], ◌∷◌, ◌≢◌, ◌⊎◌, ◌≡◌}
use Rattle.basics.specs.Tools.{count, each}
use Rattle.records.specs.Bytes.{cell}
use Rattle.records.specs.Records.{assignment_of, fibre_of, record_at}
use Rattle.method.specs.Line.{Assignment, Fibre, unassigned}
use Rattle.register.specs.Plans.{place_of, span_of}
use Rattle.places.specs.Places.{Rider, rider}

-- THE LISTS. The first `many` fibres of a list of records
unfoldable pub spans_of : ℕ → List ℕ → List Fibre
spans_of many s = each (λ i. span_of (fibre_of (record_at s i))) 0 many

-- the first m assignments of a list of records
unfoldable pub places_of : ℕ → List ℕ → List Assignment
places_of m s = each (λ i. place_of (assignment_of (record_at s i))) 0 m

-- record j gives one of the fibres 1 to `many` and a wavelength that fits the table
abbrev pub Given : ℕ → List ℕ → ℕ → Type 0
Given many s j = (1 ≤ (assignment_of (record_at s j)).fibre) × ((assignment_of (record_at s j)).fibre ≤ many) × ((assignment_of (record_at s j)).wavelength < 96)

-- the first m records do
abbrev pub GivenAll : ℕ → ℕ → List ℕ → Type 0
GivenAll many m s = (j : ℕ) → j < m → Given many s j

-- THOSE THAT ARE KEPT: record j says where its circuit rides if flag j of K is not 0
unfoldable pub kept_at : List ℕ → List ℕ → ℕ → Assignment
kept_at s K j = cond (eqb (get_or K j 0) 0) unassigned (place_of (assignment_of (record_at s j)))

-- of the first m records those that are kept; the others give no place
unfoldable pub kept_in : ℕ → List ℕ → List ℕ → List Assignment
kept_in m s K = each (kept_at s K) 0 m

-- the kept ones of the first m records give fibres 1 to `many` and wavelengths that fit the table
abbrev pub GivenKept : ℕ → ℕ → List ℕ → List ℕ → Type 0
GivenKept many m s K = (j : ℕ) → j < m → get_or K j 0 ≢ 0 → Given many s j

-- riders that have no place
abbrev pub NoneRides : List Rider → Type 0
NoneRides rs = (d : ℕ) → d < length rs → (rider rs d).fibre ≡ 0

-- CHAINS. From z on the places l stand in a chain: z is the first place plus 1, the cell of a place leads to the next one, and 0 ends it
abbrev pub Chain : List ℕ → ℕ → List ℕ → Type 0
Chain next z [] = z ≡ 0
Chain next z (j ∷ l) = (z ≡ j + 1) × Chain next (get_or next j 0) l

-- place d stands in l
abbrev pub Among : ℕ → List ℕ → Type 0
Among d [] = ⊥
Among d (j ∷ l) = (d ≡ j) ⊎ Among d l

-- THE RIDERS OF FIBRE q, of the list rs, stand in a chain from z on, each once; the bytes `ends` hold their first and last links (cells 2 d and 2 d + 1 for the rider at
-- place d), the records `assigns` their wavelengths
pub record Chained (rs : List Rider) (ends assigns next : List ℕ) (z q : ℕ) : Type 0 where
  pub few : length rs ≤ 2048
  pub room_ends : 4 * length rs ≤ length ends
  pub room_assigns : 8 * length rs ≤ length assigns
  pub places : List ℕ
  pub linked : Chain next z places
  pub mine : (d : ℕ) → Among d places → (d < length rs) × ((rider rs d).fibre ≡ q)
  pub all : (d : ℕ) → d < length rs → (rider rs d).fibre ≡ q → Among d places
  pub once : length places ≡ count (λ d. eqb (rider rs d).fibre q) (length rs)
  pub first_is : (d : ℕ) → d < length rs → (rider rs d).fibre ≡ q → cell ends (2 * d) ≡ (rider rs d).who.first
  pub last_is : (d : ℕ) → d < length rs → (rider rs d).fibre ≡ q → cell ends (2 * d + 1) ≡ (rider rs d).who.last
  pub wave_is : (d : ℕ) → d < length rs → (rider rs d).fibre ≡ q → (assignment_of (record_at assigns d)).wavelength ≡ (rider rs d).wavelength
  pub wave_fits : (d : ℕ) → d < length rs → (rider rs d).fibre ≡ q → (rider rs d).wavelength < 96

-- ALL RIDERS, on the fibres 1 to `many`: the chain of fibre q begins at entry q − 1 of `heads`. A rider of fibre 0 stands in no chain
pub record Riding (many : ℕ) (rs : List Rider) (ends assigns heads next : List ℕ) : Type 0 where
  pub numbered : (d : ℕ) → d < length rs → (rider rs d).fibre ≤ many
  pub chained : (q : ℕ) → 1 ≤ q → q ≤ many → Chained rs ends assigns next (get_or heads (q - 1) 0) q
