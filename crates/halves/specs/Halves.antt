-- First or second fibre of its pair, in the cells of the work area. A contract between crates.
-- Assumes nothing.
use Rattle.std.specs.Prelude.{ℕ, ◌+◌, ◌*◌, ◌≤◌, ◌<◌, cond, ◌≡◌, List, length, get_or}
use Rattle.records.specs.Area.{needs_in, rows_in, spare_in}
use Rattle.records.specs.Bytes.{cells_of}
use Rattle.records.specs.Records.{circuits_in}
use Rattle.records.specs.declared.Circuit.{Circuit}
use Rattle.method.specs.Fibres.{on_first}
use Rattle.method.specs.Line.{Lies, circuit}

-- a file of m circuits, the work area for them and n links, and room for a cell for each circuit
abbrev pub Lent : ℕ → ℕ → List ℕ → List ℕ → List ℕ → Type 0
Lent n m s work before = (length s ≡ 8 * m) × (m ≤ 2048) × (n ≤ 512) × (length work ≡ 4 * n + 4 * m) × (2 * m ≤ length before)

-- the rows are few enough for the table of reaches: at most 2,048 + 79
unfoldable pub FewRows : ℕ → ℕ → List ℕ → Type 0
FewRows n m C = (j : ℕ) → j < m → get_or (rows_in n m C) j 0 < 2128

-- no two circuits of a row end at the same link
unfoldable pub OneEnd : ℕ → ℕ → List Circuit → List ℕ → Type 0
OneEnd n m cs C = (i j : ℕ) → i < m → j < m → get_or (rows_in n m C) i 0 ≡ get_or (rows_in n m C) j 0 → (circuit cs i).last ≡ (circuit cs j).last → i ≡ j

-- circuits on the line, with rows as the sheet gives them
abbrev pub Halvable : ℕ → ℕ → List Circuit → List ℕ → Type 0
Halvable n m cs C = Lies n cs × (FewRows n m C × OneEnd n m cs C)

-- the row of each circuit becomes twice the row, and 1 more for the second fibre of the pair; n cells before and m cells behind stay; runs are
-- left out, which makes no difference (run_idle of Demand2)
pub record Halved (n m : ℕ) (cs : List Circuit) (C C' : List ℕ) : Type 0 where
  pub needs : needs_in n C' ≡ needs_in n C
  pub halves : (j : ℕ) → j < m → get_or (rows_in n m C') j 0 ≡ 2 * get_or (rows_in n m C) j 0 + cond (on_first cs (rows_in n m C) (λ d. 0) j) 0 1
  pub spare : spare_in n m C' ≡ spare_in n m C

-- the halves of the circuits of a file are in the work area, and the sizes stay
abbrev pub HalvesWritten : ℕ → ℕ → List ℕ → List ℕ → List ℕ → List ℕ → List ℕ → Type 0
HalvesWritten n m s work work' before before' =
    (length work' ≡ length work) × (length before' ≡ length before) × Halved n m (circuits_in m s) (cells_of work) (cells_of work')
