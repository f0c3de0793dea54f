-- File, work area and list of waiting circuits together, and what a step and a row make of them. Assumes nothing.
use Rattle.std.specs.Prelude.{◌≡◌, ℕ, ◌+◌, ◌*◌, ◌<◌, ◌≤◌, List, length}
use Rattle.records.specs.Area.{rows_in}
use Rattle.records.specs.Bytes.{cells_of}
use Rattle.records.specs.Records.{circuits_in}
use Rattle.method.specs.Sheet.{State, step, steps}
use Rattle.queue.specs.declared.Queue.{Queue}
use Rattle.queue.specs.Queued.{Queued, place_in}
use Rattle.rows.specs.declared.colours.Run.{Run}
use Rattle.rows.specs.Accepted.{OnLine}
use Rattle.rows.specs.inner.Area.{state_in, Shows, Placed}
use Rattle.rows.specs.inner.Colours.{plain}

-- the file is as the tests leave it, and work area and list have their sizes
pub record Desk (n m : ℕ) (s work list : List ℕ) : Type 0 where
  pub file : OnLine n m s
  pub room : length work ≡ 4 * n + 4 * m
  pub columns : length list ≡ 8 * m

-- the list is a queue of the circuits that have no row in the work area
abbrev pub Waiting : ℕ → ℕ → List ℕ → List ℕ → List ℕ → Queue → Type 0
Waiting n m s work list q = Queued m (circuits_in m s) (rows_in n m (cells_of work)) (cells_of list) q

-- place p of the list has a circuit of the file, and the run lies on the line
abbrev pub Placeable : ℕ → ℕ → ℕ → Run → List ℕ → Type 0
Placeable n m p run list = (p < m) × (place_in m (cells_of list) p < m) × (1 ≤ run.from) × (run.past ≤ n + 1)

-- the circuit at place p of the list was placed in row k
pub record PlacedOnDesk (n m k p : ℕ) (run : Run) (s work work' list list' : List ℕ) : Type 0 where
  pub desk : Desk n m s work' list'
  pub placed : Placed n m k p run (circuits_in m s) (cells_of work) (cells_of work') (cells_of list) (cells_of list')

-- in row k the desk was brought to a state of the sheet, and the queue r is that of the circuits that still wait
pub record BroughtTo (n m k : ℕ) (state : State) (s work work' list' : List ℕ) (r : Queue) : Type 0 where
  pub desk : Desk n m s work' list'
  pub shows : Shows n m k (plain n state) (cells_of work) (cells_of work')
  pub waits : Waiting n m s work' list' r

-- one step of row k was made
abbrev pub Stepped : ℕ → ℕ → ℕ → List ℕ → List ℕ → List ℕ → List ℕ → Queue → Type 0
Stepped n m k s work work' list' r = BroughtTo n m k (step n (circuits_in m s) k (state_in n m k (cells_of work))) s work work' list' r

-- all n steps of row k were made
abbrev pub RowFilled : ℕ → ℕ → ℕ → List ℕ → List ℕ → List ℕ → List ℕ → Queue → Type 0
RowFilled n m k s work work' list' r = BroughtTo n m k (steps n (circuits_in m s) n k (state_in n m k (cells_of work))) s work work' list' r
