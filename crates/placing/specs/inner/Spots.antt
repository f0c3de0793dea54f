-- What a fibre offers a circuit, and whom it shuts out. Assumes nothing.
use Rattle.std.specs.Prelude.{◌-◌, ◌<◌, ◌≤◌, ℕ, leb, ltb, get_or, length, cond, Option, Some, None, Bool, ◌&&◌, not, true, List, ◌≡◌}
use Rattle.basics.specs.Tools.{each}
use Rattle.records.specs.Records.{fibre_of, record_at}
use Rattle.records.specs.declared.Circuit.{Circuit}
use Rattle.method.specs.Line.{Fibre, overlap}
use Rattle.places.specs.Places.{Rider, free_wavelength, rider, has_place}
use Rattle.placing.specs.Riding.{Among}
use Rattle.placing.specs.inner.Rides.{Walking}

-- v is what fibre q offers circuit c: its lowest free wavelength of lo to hi, if it spans c and has one
abbrev pub Offers : List Fibre → ℕ → ℕ → List Rider → Circuit → ℕ → Option ℕ → Type 0
Offers fs lo hi rs c q v = v ≡ cond (has_place fs lo hi rs c q) (Some (free_wavelength lo hi rs c q)) None

-- CORNERS. Fibre q shuts out the circuits that begin at link p or before and end at link t or later: none of them finds a wavelength there
abbrev pub ShutsOut : ℕ → ℕ → List Rider → ℕ → ℕ → ℕ → Type 0
ShutsOut lo hi rs q p t = (c : Circuit) → 1 ≤ c.first → c.first ≤ p → t ≤ c.last → hi < free_wavelength lo hi rs c q

-- whom the fibres 1 to `many` shut out: entry q − 1 of untils and froms is the corner of fibre q (0 in untils: it shuts out nobody)
abbrev pub CornersHold : ℕ → ℕ → ℕ → List Rider → List ℕ → List ℕ → Type 0
CornersHold many lo hi rs untils froms = (q : ℕ) → 1 ≤ q → q ≤ many → ShutsOut lo hi rs q (get_or untils (q - 1) 0) (get_or froms (q - 1) 0)

-- whether corner i lies within c
unfoldable pub within : List ℕ → List ℕ → ℕ → Circuit → Bool
within untils froms i c = leb c.first (get_or untils i 0) && leb (get_or froms i 0) c.last

-- COLUMNS. The fibres whose first and last links stand in two tables, those of fibre q at entry q − 1; a place does not ask for layers
unfoldable pub spans_in : ℕ → List ℕ → List ℕ → List Fibre
spans_in many firsts lasts = each (λ i. record { first = get_or firsts i 0; last = get_or lasts i 0; layer = 0 }) 0 many

-- the columns have the first and last links of the first `many` fibre records
pub record Columns (many : ℕ) (fibres firsts lasts : List ℕ) : Type 0 where
  pub first_is : (i : ℕ) → i < many → get_or firsts i 0 ≡ (fibre_of (record_at fibres i)).first
  pub last_is : (i : ℕ) → i < many → get_or lasts i 0 ≡ (fibre_of (record_at fibres i)).last

-- whether the fibre of entry i spans c and does not shut it out
unfoldable pub open_to : List ℕ → List ℕ → List ℕ → List ℕ → Circuit → ℕ → Bool
open_to firsts lasts untils froms c i = (leb (get_or firsts i 0) c.first && leb c.last (get_or lasts i 0)) && not (within untils froms i c)

-- the entry i, if it comes before `many`
unfoldable pub before : ℕ → ℕ → Option ℕ
before many i = cond (ltb i many) (Some i) None

-- the rider from a to b, if it overlaps c, ends at p or later and begins at t or before
abbrev pub Bounded : ℕ → ℕ → Circuit → ℕ → ℕ → Type 0
Bounded a b c p t = leb a c.last && leb c.first b ≡ true → (p ≤ b) × (a ≤ t)

-- each rider of fibre q that overlaps c ends at p or later and begins at t or before
abbrev pub Cornered : List Rider → Circuit → ℕ → ℕ → ℕ → Type 0
Cornered rs c q p t = (d : ℕ) → d < length rs → (rider rs d).fibre ≡ q → overlap (rider rs d).who c ≡ true → (p ≤ (rider rs d).who.last) × ((rider rs d).who.first ≤ t)

-- the walk along the chain of fibre q has come to z: the riders passed are bounded
pub record Cornering (rs : List Rider) (next : List ℕ) (c : Circuit) (q z p t : ℕ) : Type 0 where
  pub walk : Walking rs next q z
  pub passed : (d : ℕ) → d < length rs → (rider rs d).fibre ≡ q → overlap (rider rs d).who c ≡ true → (Among d walk.left → ⊥) → (p ≤ (rider rs d).who.last) × ((rider rs d).who.first ≤ t)
