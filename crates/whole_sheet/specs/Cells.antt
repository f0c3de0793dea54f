-- Request R-13, the whole sheet: every row as it ends. What a reader must believe.
-- A row is n cells, one a link: 0 red, 1 blue, 2 taken, the codes of `Sheet`. Rows are numbered from 1.
-- Assumes nothing.
use Rattle.std.specs.Prelude.{ℕ, zero, suc, ◌*◌, List, [], ◌++◌, drop}
use Rattle.records.specs.declared.Circuit.{Circuit}
use Rattle.method.specs.Sheet.{most, sheet}

module _ (n w : ℕ) (cs : List Circuit) where
  -- the sheet has M × w rows
  abbrev pub row_count : ℕ
  row_count = most n w cs * w

  -- rows 1 to k, each as it ends, one after the other
  unfoldable pub cells_to : ℕ → List ℕ
  cells_to zero = []
  cells_to (suc k) = cells_to k ++ (sheet n w cs (suc k)).colours

  -- the whole sheet, row by row
  abbrev pub cells : List ℕ
  cells = cells_to row_count

  -- how many cells it has: n × rows
  abbrev pub cell_count : ℕ
  cell_count = n * row_count

  -- the lent sheet: the cells at its start, row by row, and the rest as it was
  unfoldable pub sheet_list : List ℕ → List ℕ
  sheet_list old = cells ++ drop cell_count old
