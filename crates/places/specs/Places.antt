-- Who rides on which fibre and wavelength, and the lowest place that is free for a circuit. What a reader must believe.
-- Assumes nothing.
use Rattle.std.specs.Prelude.{◌-◌, ◌<◌, ◌≤◌, suc, ℕ, eqb, leb, get_or, length, Bool, ◌&&◌, cond, not, true, List, ◌≢◌, ◌≡◌}
use Rattle.basics.specs.Tools.{any, each, seek}
use Rattle.records.specs.declared.Circuit.{Circuit}
use Rattle.method.specs.Line.{Assignment, Fibre, circuit, no_fibre, nobody, overlap, unassigned}

-- WHO RIDES. A rider is a circuit with the number of its fibre and its wavelength; fibre 0 means that it has no place yet
pub record Rider : Type 0 where
  pub who : Circuit
  pub fibre : ℕ
  pub wavelength : ℕ

-- what stands past the end of a list of riders
abbrev pub no_rider : Rider
no_rider = record { who = nobody; fibre = 0; wavelength = 0 }

-- the rider at place d of a list
unfoldable pub rider : List Rider → ℕ → Rider
rider rs d = get_or rs d no_rider

-- circuit c with what it is given
abbrev pub riding : Circuit → Assignment → Rider
riding c g = record { who = c; fibre = g.fibre; wavelength = g.wavelength }

-- what the circuit at place j is given, by a list in the order of the file
unfoldable pub given_to : List Assignment → ℕ → Assignment
given_to gs j = get_or gs j unassigned

-- the riders of a file: each circuit with what it is given
unfoldable pub riders : List Circuit → List Assignment → List Rider
riders cs gs = each (λ j. riding (circuit cs j) (given_to gs j)) 0 (length cs)

-- FREE PLACES. A fibre spans a circuit if the circuit's links lie within the fibre's
unfoldable pub spans : Fibre → Circuit → Bool
spans f c = leb f.first c.first && leb c.last f.last

-- a rider clashes with circuit c on fibre q and wavelength v if it overlaps c and has both
unfoldable pub clashes : Rider → Circuit → ℕ → ℕ → Bool
clashes r c q v = overlap r.who c && eqb r.fibre q && eqb r.wavelength v

-- wavelength v of fibre q is free for c if no rider clashes
unfoldable pub free : List Rider → Circuit → ℕ → ℕ → Bool
free rs c q v = not (any (λ d. clashes (rider rs d) c q v) (length rs))

-- fibre q of a list, by its number
abbrev pub fibre_at : List Fibre → ℕ → Fibre
fibre_at fs q = get_or fs (q - 1) no_fibre

-- the lowest of the wavelengths lo to hi that is free for c on fibre q, beside the riders rs; past hi if none is
unfoldable pub free_wavelength : ℕ → ℕ → List Rider → Circuit → ℕ → ℕ
free_wavelength lo hi rs c q = seek (free rs c q) lo (suc hi - lo)

-- THE LOWEST PLACE, on the fibres fs and their wavelengths lo to hi, beside the riders rs, for circuit c
module _ (fs : List Fibre) (lo hi : ℕ) (rs : List Rider) (c : Circuit) where
  -- whether fibre q spans the circuit and has a free wavelength there
  unfoldable pub has_place : ℕ → Bool
  has_place q = spans (fibre_at fs q) c && leb (free_wavelength lo hi rs c q) hi

  -- the lowest-numbered fibre that does; past the last if none does
  unfoldable pub free_fibre : ℕ
  free_fibre = seek has_place 1 (length fs)

  -- the place: that fibre, and the lowest such wavelength; fibre 0 if there is none
  unfoldable pub place : Assignment
  place = cond (leb free_fibre (length fs)) (record { fibre = free_fibre; wavelength = free_wavelength lo hi rs c free_fibre }) unassigned

  -- WHAT IS PROMISED OF IT. Fibre q and wavelength v are a place for c
  pub record Fits (q v : ℕ) : Type 0 where
    -- the fibre is of the list
    pub from_one : 1 ≤ q
    pub in_list : q ≤ length fs
    -- the circuit's links lie within its links
    pub first_within : (fibre_at fs q).first ≤ c.first
    pub last_within : c.last ≤ (fibre_at fs q).last
    -- the wavelength is one of lo to hi
    pub low : lo ≤ v
    pub high : v ≤ hi
    -- no rider that overlaps the circuit has both
    pub free_there_lem : (d : ℕ) → d < length rs → overlap (rider rs d).who c ≡ true → (rider rs d).fibre ≡ q → (rider rs d).wavelength ≢ v

  -- the lowest place: no lower-numbered fibre has one, and no lower wavelength of this fibre is one
  pub record Lowest (g : Assignment) : Type 0 where
    pub fits : Fits g.fibre g.wavelength
    pub lowest_fibre : (q v : ℕ) → Fits q v → g.fibre ≤ q
    pub lowest_wavelength : (v : ℕ) → Fits g.fibre v → g.wavelength ≤ v

  -- there is no place
  abbrev pub NoPlace : Type 0
  NoPlace = (q v : ℕ) → Fits q v → ⊥

-- the same riders in another order: each rider of one list stands in the other
pub record SameRiders (rs ss : List Rider) : Type 0 where
  pub to : (d : ℕ) → d < length rs → (e : ℕ) × (e < length ss) × (rider rs d ≡ rider ss e)
  pub fro : (e : ℕ) → e < length ss → (d : ℕ) × (d < length rs) × (rider ss e ≡ rider rs d)

-- all that is promised
pub record Placing (fs : List Fibre) (lo hi : ℕ) (rs : List Rider) (c : Circuit) : Type 0 where
  -- what is found is the lowest place
  pub lowest : 1 ≤ (place fs lo hi rs c).fibre → Lowest fs lo hi rs c (place fs lo hi rs c)
  -- and what is the lowest place is found
  pub no_other : (g : Assignment) → Lowest fs lo hi rs c g → place fs lo hi rs c ≡ g
  -- none is found exactly if no fibre has a place
  pub none_if : NoPlace fs lo hi rs c → place fs lo hi rs c ≡ unassigned
  pub none_only : (place fs lo hi rs c).fibre ≡ 0 → NoPlace fs lo hi rs c
  -- the order of the riders does not matter
  pub any_order : (ss : List Rider) → SameRiders rs ss → place fs lo hi rs c ≡ place fs lo hi ss c
