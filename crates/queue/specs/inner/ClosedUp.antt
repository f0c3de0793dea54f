-- How those that wait close up, and how the first of them is found. Assumes nothing.
use Rattle.std.specs.Prelude.{ℕ, ◌+◌, ◌*◌, ◌≤◌, ◌<◌, Bool, not, ◌≡◌, ◌≢◌, List, length, get_or, eqb}
use Rattle.basics.specs.Tools.{count}
use Rattle.scans.specs.declared.Bounds.{Bounds}

-- whether the circuit at place p of the list waits
unfoldable pub waits_in : List ℕ → ℕ → Bool
waits_in L p = not (eqb (get_or L p 0) 0)

-- the three cells of place x of C are those of place y of L
abbrev pub Alike : ℕ → List ℕ → ℕ → List ℕ → ℕ → Type 0
Alike m C x L y = (get_or C x 0 ≡ get_or L y 0) × (get_or C (m + x) 0 ≡ get_or L (m + y) 0) × (get_or C (2 * m + x) 0 ≡ get_or L (2 * m + y) 0)

-- places before p are closed up, r of them wait; places from p on are as they were
pub record Closing (m : ℕ) (L C : List ℕ) (p r : ℕ) : Type 0 where
  pub long : length C ≡ 4 * m
  pub rank : r ≡ count (waits_in L) p
  pub moved : (x : ℕ) → x < p → get_or L x 0 ≢ 0 → Alike m C (count (waits_in L) x) L x
  pub ahead : (x : ℕ) → p ≤ x → x < m → Alike m C x L x

-- each that waits has moved to the place that is the number of those that wait before it, with its three cells; r wait in all
pub record ClosedUp (m to : ℕ) (L L' : List ℕ) (r : ℕ) : Type 0 where
  pub many : r ≡ count (waits_in L) to
  pub moved : (p : ℕ) → p < to → get_or L p 0 ≢ 0 → Alike m L' (count (waits_in L) p) L p

-- the bounds of the first links of those that wait
abbrev pub any_link : Bounds
any_link = record { low = 1; high = 65535 }
