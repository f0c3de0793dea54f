-- File, work area and one row of the sheet together, and what a step and a row make of them. Assumes nothing.
use Rattle.std.specs.Prelude.{ℕ, Option, Some, None, ◌+◌, ◌*◌, ◌<◌, ◌≤◌, Bool, ◌&&◌, ◌||◌, List, ◌≡◌, leb, ltb, eqb, length, set}
use Rattle.records.specs.Area.{needs_in, rows_in}
use Rattle.records.specs.Bytes.{cells_of}
use Rattle.records.specs.Records.{circuits_in}
use Rattle.method.specs.Line.{circuit, uses}
use Rattle.method.specs.Sheet.{State, at, blue, taken, in_run, run_from, run_past, paint, step, steps}
use Rattle.rows.specs.Accepted.{OnLine}
use Rattle.whole_sheet.specs.declared.colours.Run.{Run}

-- the state of the sheet: the row has the colours, the work area the rows of the circuits
abbrev pub state_in : ℕ → ℕ → List ℕ → List ℕ → State
state_in n m work row = record { colours = row; rows = rows_in n m (cells_of work) }

-- the file is as the tests leave it, and work area and row have their sizes
pub record Board (n m : ℕ) (s work row : List ℕ) : Type 0 where
  pub file : OnLine n m s
  pub room : length work ≡ 4 * n + 4 * m
  pub wide : length row ≡ n

-- the leftmost run of open links, which there is
pub record AtRun (n : ℕ) (row : List ℕ) (run : Run) : Type 0 where
  pub starts : run.from ≡ run_from n row
  pub ends : run.past ≡ run_past n row
  pub there : run.from ≤ n

-- the first open link is told, or that there is none
abbrev pub FirstOpen : ℕ → List ℕ → Option ℕ → Type 0
FirstOpen n row (Some l) = (l ≡ run_from n row) × (l ≤ n)
FirstOpen n row None = n < run_from n row

-- link x is in the run or blue
unfoldable pub light : Run → List ℕ → ℕ → Bool
light run row x = (leb run.from x && ltb x run.past) || eqb (at row x) blue

-- work area and row were brought to a state of the sheet; the needs are as they were
pub record BroughtTo (n m : ℕ) (state : State) (work work' row' : List ℕ) : Type 0 where
  pub room : length work' ≡ 4 * n + 4 * m
  pub wide : length row' ≡ n
  pub needs : needs_in n (cells_of work') ≡ needs_in n (cells_of work)
  pub shows : state_in n m work' row' ≡ state

-- circuit j was placed in row k: it has its row, and its links within the run are taken
abbrev pub placed_state : ℕ → ℕ → ℕ → ℕ → List ℕ → List ℕ → List ℕ → State
placed_state n m k j s work row =
    record {
      colours = paint n (λ x. in_run n row x && uses (circuit (circuits_in m s) j) x) taken row;
      rows = set (rows_in n m (cells_of work)) j k;
    }

-- one step of row k was made
abbrev pub Stepped : ℕ → ℕ → ℕ → List ℕ → List ℕ → List ℕ → List ℕ → List ℕ → Type 0
Stepped n m k s work row work' row' = BroughtTo n m (step n (circuits_in m s) k (state_in n m work row)) work work' row'

-- all n steps of row k were made
abbrev pub RowFilled : ℕ → ℕ → ℕ → List ℕ → List ℕ → List ℕ → List ℕ → List ℕ → Type 0
RowFilled n m k s work row work' row' = BroughtTo n m (steps n (circuits_in m s) n k (state_in n m work row)) work work' row'
