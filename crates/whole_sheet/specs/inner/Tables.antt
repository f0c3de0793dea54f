-- The sheet between two rows, and the colours as a row begins. Assumes nothing.
use Rattle.std.specs.Prelude.{ℕ, ◌+◌, ◌-◌, ◌*◌, ◌≤◌, cond, List, ◌≡◌, leb, ltb, eqb, length, take, drop}
use Rattle.basics.specs.Tools.{each}
use Rattle.records.specs.Area.{needs_in, rows_in}
use Rattle.records.specs.Bytes.{cells_of}
use Rattle.records.specs.Records.{circuits_in}
use Rattle.method.specs.Sheet.{at, red, blue, open', need, most, sheet}
use Rattle.rows.specs.Accepted.{Accepted}
use Rattle.whole_sheet.specs.Cells.{cells_to}

-- the colour of link i in the row above the one that starts at place a; above the first row no link is blue
unfoldable pub above_at : ℕ → ℕ → List ℕ → ℕ → ℕ
above_at n a area i = cond (ltb a n) red (at area (a + i - n))

-- the colour as row k begins, for a link with this last red row and this colour in the row above
unfoldable pub start_as : ℕ → ℕ → ℕ → ℕ
start_as k red_to was = cond (leb k red_to) red (cond (eqb was blue) blue open')

-- the colour of place x of the sheet as row k, which starts at place a, begins; C has the c(i), and M is `top`
unfoldable pub start_at : ℕ → ℕ → ℕ → ℕ → List ℕ → List ℕ → ℕ → ℕ
start_at n w top k C area x = start_as k ((top - at C (x - n * (k - 1))) * w) (above_at n (n * (k - 1)) area (x - n * (k - 1)))

-- an accepted file with M, a work area of its size with the c(i), and room for the rows
pub record Sources (n w m top : ℕ) (s work area : List ℕ) : Type 0 where
  pub accepted : Accepted n w m s
  pub top_is : top ≡ most n w (circuits_in m s)
  pub room : length work ≡ 4 * n + 4 * m
  pub needs : needs_in n (cells_of work) ≡ each (need w (circuits_in m s)) 1 n
  pub cells_room : n * (top * w) ≤ length area

-- after k rows of the sheet: they stand at the start of the area, and the circuits have their rows
pub record TableAfter (n w m k : ℕ) (s work area : List ℕ) : Type 0 where
  pub placed : rows_in n m (cells_of work) ≡ (sheet n w (circuits_in m s) k).rows
  pub drawn : take (n * k) area ≡ cells_to n w (circuits_in m s) k

-- what is behind the first b cells is as it was
abbrev pub KeptBehind : ℕ → List ℕ → List ℕ → Type 0
KeptBehind b area area' = drop b area' ≡ drop b area
