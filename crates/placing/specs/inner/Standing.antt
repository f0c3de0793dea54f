-- What stands in bytes and tables between two turns. Assumes nothing.
use Rattle.std.specs.Prelude.{◌+◌, ◌≤◌, ℕ, length, set, List, ◌++◌, ◌≡◌}
use Rattle.records.specs.Records.{assignment_bytes, put_record}
use Rattle.records.specs.declared.Circuit.{Circuit}
use Rattle.method.specs.Line.{Assignment, Fibre}
use Rattle.places.specs.Places.{Rider, riders}
use Rattle.additions.specs.Adding.{finds}
use Rattle.placing.specs.Riding.{Riding}
use Rattle.placing.specs.Turns.{given_bytes}
use Rattle.placing.specs.inner.Rides.{Ridden}
use Rattle.placing.specs.inner.Spots.{CornersHold}

-- the riders `old`, and behind them the circuits ds with what gs gives them, stand in the bytes and tables; the corners are right for them
pub record Standing (many w : ℕ) (old : List Rider) (ds : List Circuit) (gs : List Assignment) (ends assigns heads next untils froms : List ℕ) : Type 0 where
  pub one_each : length gs ≡ length ds
  pub riding : Riding many (old ++ riders ds gs) ends assigns heads next
  pub corners : CornersHold many 1 w (old ++ riders ds gs) untils froms

-- the record at place j says that circuit c has fibre q and wavelength v; it rides there, unless q is 0
pub record Seated (c : Circuit) (q v j : ℕ) (assigns ends heads next assigns' ends' heads' next' : List ℕ) : Type 0 where
  pub said : assigns' ≡ put_record assigns j (assignment_bytes (record { circuit = c.number; fibre = q; wavelength = v }))
  pub none : q ≡ 0 → (ends' ≡ ends) × (heads' ≡ heads) × (next' ≡ next)
  pub rides : 1 ≤ q → Ridden c j q ends heads next ends' heads' next'

-- circuit i was placed: its record says what it finds, and it rides there
pub record PlacedOne (many w : ℕ) (old : List Rider) (ds : List Circuit) (fs : List Fibre) (gs : List Assignment) (i : ℕ) (s₀ ends assigns heads next untils froms : List ℕ) : Type 0 where
  pub said : assigns ≡ put_record s₀ (length old + i) (given_bytes ds i (finds fs w old ds gs i))
  pub stands : Standing many w old ds (set gs i (finds fs w old ds gs i)) ends assigns heads next untils froms
