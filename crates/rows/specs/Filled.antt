-- What phase one leaves in the work area. A contract between crates.
-- Assumes nothing.
use Rattle.std.specs.Prelude.{◌≡◌, ℕ, ◌+◌, ◌*◌, List, length}
use Rattle.basics.specs.Tools.{each}
use Rattle.records.specs.Bytes.{cells_of}
use Rattle.records.specs.Records.{circuits_in}
use Rattle.method.specs.Sheet.{need, rows}
use Rattle.records.specs.Area.{needs_in, rows_in}

-- c(i) of each link in the first n cells, and the row of each circuit from cell 2n on
pub record Filled (n w m : ℕ) (s work : List ℕ) : Type 0 where
  pub sized : length work ≡ 4 * n + 4 * m
  pub needs : needs_in n (cells_of work) ≡ each (need w (circuits_in m s)) 1 n
  pub rows : rows_in n m (cells_of work) ≡ rows n w (circuits_in m s)
