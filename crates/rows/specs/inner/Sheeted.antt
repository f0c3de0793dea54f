-- The work area between two rows of the sheet. Assumes nothing.
use Rattle.std.specs.Prelude.{◌≡◌, ℕ, ◌+◌, ◌*◌, ◌<◌, ◌≤◌, ◌≢◌, List, length, ◌==◌}
use Rattle.basics.specs.Tools.{each}
use Rattle.records.specs.Area.{needs_in, lasts_in, rows_in}
use Rattle.records.specs.Bytes.{cells_of}
use Rattle.records.specs.Records.{circuits_in}
use Rattle.records.specs.declared.Circuit.{Circuit}
use Rattle.method.specs.Sheet.{at, blue, need, most, red_to, sheet}
use Rattle.rows.specs.inner.Colours.{blue_row}
use Rattle.rows.specs.inner.Desk.{Desk}

-- between rows k and k + 1, the last rows D of links of these colours: blue is told, a link that will be red has its last red row, any other link has a row that is over
pub record Resting (n w k : ℕ) (cs : List Circuit) (colours D : List ℕ) : Type 0 where
  pub blues : (x : ℕ) → 1 ≤ x → x ≤ n → (at D x == blue_row) ≡ (at colours x == blue)
  pub reds : (x : ℕ) → 1 ≤ x → x ≤ n → k < red_to n w cs x → at D x ≡ red_to n w cs x
  pub over : (x : ℕ) → 1 ≤ x → x ≤ n → red_to n w cs x ≤ k → at D x ≢ blue_row → at D x ≤ k

-- the cells C are those of the sheet after k rows
pub record Sheeted (n m w k : ℕ) (cs : List Circuit) (C : List ℕ) : Type 0 where
  pub needs : needs_in n C ≡ each (need w cs) 1 n
  pub rows : rows_in n m C ≡ (sheet n w cs k).rows
  pub resting : Resting n w k cs (sheet n w cs k).colours (lasts_in n C)

-- the work area is ready for the first row, and r is M
pub record Prepared (n m w : ℕ) (s work : List ℕ) (r : ℕ) : Type 0 where
  pub room : length work ≡ 4 * n + 4 * m
  pub top : r ≡ most n w (circuits_in m s)
  pub sheet : Sheeted n m w 0 (circuits_in m s) (cells_of work)

-- the desk after k rows of the sheet
pub record DeskAfter (n m w k : ℕ) (s work list : List ℕ) : Type 0 where
  pub desk : Desk n m s work list
  pub sheet : Sheeted n m w k (circuits_in m s) (cells_of work)
