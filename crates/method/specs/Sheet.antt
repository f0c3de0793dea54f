-- The sheet, row by row. What a reader must believe.
-- Rows are numbered from 1; row 0 means that a circuit is still waiting.
-- Assumes nothing.
use Rattle.std.specs.Prelude.{ℕ, zero, suc, ◌+◌, ◌-◌, ◌*◌, ◌/◌, Bool, not, ◌&&◌, ◌||◌, cond, List, length, get_or, set, replicate, leb, ltb, eqb}
use Rattle.std.proofs.Math.Option.{Option, none, some}
use Rattle.basics.specs.Tools.{count, every, seek, each, top, lowest}
use Rattle.records.specs.declared.Circuit.{Circuit}
use Rattle.method.specs.Line.{circuit, uses}

-- L(i): the number of circuits on link i
unfoldable pub load : List Circuit → ℕ → ℕ
load cs i = count (λ j. uses (circuit cs j) i) (length cs)

-- c(i): L(i) / w rounded up
unfoldable pub need : ℕ → List Circuit → ℕ → ℕ
need w cs i = (load cs i + (w - 1)) / w

-- M: the largest c(i)
unfoldable pub most : ℕ → ℕ → List Circuit → ℕ
most n w cs = top (need w cs) n

-- THE COLOURS of a link in a row
abbrev pub red : ℕ
red = 0

abbrev pub blue : ℕ
blue = 1

abbrev pub taken : ℕ
taken = 2

abbrev pub open' : ℕ
open' = 3

-- the colour of link i; a link that is not on the line counts as red
unfoldable pub at : List ℕ → ℕ → ℕ
at colours zero = red
at colours (suc i) = get_or colours i red

-- the state of the sheet: the colour of each link in the current row, and the row of each circuit
pub record State : Type 0 where
  pub colours : List ℕ
  pub rows : List ℕ

-- the row of circuit j, or 0 while it waits
abbrev pub row_of : State → ℕ → ℕ
row_of s j = get_or s.rows j 0

-- ONE STEP
module _ (n : ℕ) where
  -- the leftmost maximal run [l, r] of open links: l, or n + 1 if no link is open
  unfoldable pub run_from : List ℕ → ℕ
  run_from colours = seek (λ i. eqb (at colours i) open') 1 n

  -- r + 1: the first link after l that is not open
  unfoldable pub run_past : List ℕ → ℕ
  run_past colours = seek (λ i. not (eqb (at colours i) open')) (run_from colours) (suc n - run_from colours)

  -- whether link i is in the run
  unfoldable pub in_run : List ℕ → ℕ → Bool
  in_run colours i = leb (run_from colours) i && ltb i (run_past colours)

  -- a circuit fits if it uses a link of the run (it ends no sooner than the run begins, and begins no later than it ends) and each of its links is in the
  -- run or blue
  unfoldable pub fits : List ℕ → Circuit → Bool
  fits colours c =
      leb (run_from colours) c.last && ltb c.first (run_past colours)
      && every (λ i. in_run colours i || eqb (at colours i) blue) c.first (suc c.last - c.first)

  -- the links that pass get a colour, the others keep theirs
  unfoldable pub paint : (ℕ → Bool) → ℕ → List ℕ → List ℕ
  paint p colour colours = each (λ i. cond (p i) colour (at colours i)) 1 n

module _ (n : ℕ) (cs : List Circuit) where
  -- of the waiting circuits that fit, the one with the lowest circuit number
  unfoldable pub chosen : State → Option ℕ
  chosen s = lowest (λ j. eqb (row_of s j) 0 && fits n s.colours (circuit cs j)) (λ j. (circuit cs j).number) (length cs)

  -- in row k: if none fits, every link of the run becomes blue; if circuit j is chosen, its links within the run become taken
  unfoldable pub act : ℕ → State → Option ℕ → State
  act k s none = record { colours = paint n (in_run n s.colours) blue s.colours; rows = s.rows }
  act k s (some j) =
      record { colours = paint n (λ i. in_run n s.colours i && uses (circuit cs j) i) taken s.colours; rows = set s.rows j k }

  -- one step of row k: nothing where no link is open
  unfoldable pub step : ℕ → State → State
  step k s = cond (leb (run_from n s.colours) n) (act k s (chosen s)) s

  -- f steps of row k
  unfoldable pub steps : ℕ → ℕ → State → State
  steps zero k s = s
  steps (suc f) k s = steps f k (step k s)

-- ROWS AND SHEET
module _ (n w : ℕ) (cs : List Circuit) where
  -- in row k link i is red if k ≤ (M − c(i)) × w: its last red row
  unfoldable pub red_to : ℕ → ℕ
  red_to i = (most n w cs - need w cs i) * w

  -- the colours as row k begins, from those at the end of row k − 1: red, blue if it was blue, else open
  unfoldable pub fresh : ℕ → List ℕ → List ℕ
  fresh k colours = each (λ i. cond (leb k (red_to i)) red (cond (eqb (at colours i) blue) blue open')) 1 n

  -- row k begins
  unfoldable pub begun : ℕ → State → State
  begun k s = record { colours = fresh k s.colours; rows = s.rows }

  -- row k: each step takes at least one link from the open ones, so n steps end it
  unfoldable pub row : ℕ → State → State
  row k s = steps n cs n k (begun k s)

  -- the sheet after k rows; before the first row no link is blue and every circuit waits
  unfoldable pub sheet : ℕ → State
  sheet zero = record { colours = replicate n red; rows = replicate (length cs) 0 }
  sheet (suc k) = row (suc k) (sheet k)

  -- the row of each circuit on the full sheet of M × w rows
  unfoldable pub rows : List ℕ
  rows = (sheet (most n w cs * w)).rows
