-- What the work area shows of the sheet, and how it changes. Assumes nothing.
use Rattle.std.specs.Prelude.{◌≡◌, ℕ, ◌+◌, ◌*◌, ◌≤◌, ◌&&◌, List, length, slice_set}
use Rattle.records.specs.Area.{needs_in, lasts_in, rows_in}
use Rattle.records.specs.Bytes.{cells_of}
use Rattle.records.specs.declared.Circuit.{Circuit}
use Rattle.method.specs.Line.{circuit, uses}
use Rattle.method.specs.Sheet.{State, paint}
use Rattle.queue.specs.Queued.{place_in}
use Rattle.rows.specs.declared.colours.Run.{Run}
use Rattle.rows.specs.inner.Colours.{shown, LastsMoved, between, painted}

-- the state of the sheet that the work area shows in row k
abbrev pub state_in : ℕ → ℕ → ℕ → List ℕ → State
state_in n m k C = record { colours = shown n k (lasts_in n C); rows = rows_in n m C }

-- in row k the cells changed from C to C': now they show the state s, the needs are as they were, and the last rows moved as a row may move them
pub record Shows (n m k : ℕ) (s : State) (C C' : List ℕ) : Type 0 where
  pub needs : needs_in n C' ≡ needs_in n C
  pub state : state_in n m k C' ≡ s
  pub moved : LastsMoved n k (lasts_in n C) (lasts_in n C')

-- the circuit at place p of the list L is placed in row k: it is out of the list and has its row, and its links within the run get k for their last row
pub record Placed (n m k p : ℕ) (run : Run) (cs : List Circuit) (C C' L L' : List ℕ) : Type 0 where
  pub needs : needs_in n C' ≡ needs_in n C
  pub lasts : lasts_in n C' ≡ paint n (λ x. between run.from run.past x && uses (circuit cs (place_in m L p)) x) k (lasts_in n C)
  pub rows : rows_in n m C' ≡ slice_set (rows_in n m C) (place_in m L p) k
  pub out : L' ≡ slice_set L p 0

-- a work area of its size, and links of the line, from `start` to before `past`
abbrev pub Paintable : ℕ → ℕ → ℕ → ℕ → List ℕ → Type 0
Paintable n m start past work = (n ≤ 512) × (m ≤ 2048) × (length work ≡ 4 * n + 4 * m) × (1 ≤ start) × (past ≤ n + 1)

-- the links from `start` to before `past` got the last row v; needs, rows and size stay
pub record PaintedLinks (n m start past v : ℕ) (work work' : List ℕ) : Type 0 where
  pub room : length work' ≡ 4 * n + 4 * m
  pub needs : needs_in n (cells_of work') ≡ needs_in n (cells_of work)
  pub lasts : lasts_in n (cells_of work') ≡ painted n start past v (lasts_in n (cells_of work))
  pub rows : rows_in n m (cells_of work') ≡ rows_in n m (cells_of work)
