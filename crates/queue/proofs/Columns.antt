-- The columns of the list, lent as parts. Assumes nothing.
use Prim.Native.Nat.{ℕ, ◌-◌, ◌*◌}
use mathlib.Core.Path.{◌≡◌, ap, ap₂, ◌∙◌}
use mathlib.Core.List.{List}
use native.Mathlib.Omega.{arith}
use lib.ListN.{take}
use borrow.Rule.Slice.PartMut.{mid_of}
use Rattle.basics.specs.Tools.{part, seek}
use Rattle.records.specs.Bytes.{cells_of}
use Rattle.records.proofs.PartCells.{cells_mid, cells_take}
use Rattle.scans.specs.Scans.{cell_within, both_within}
use Rattle.scans.specs.declared.Bounds.{Bounds}

-- the first column
first_column : (m : ℕ) (s : List ℕ) → cells_of (take (2 * m) s) ≡ part 0 m (cells_of s)
first_column m s = cells_take m s

-- the second column
second_column : (m : ℕ) (s : List ℕ) → cells_of (mid_of (2 * m) (4 * m - 2 * m) s) ≡ part m m (cells_of s)
second_column m s = cells_mid (2 * m) (4 * m - 2 * m) m m s (omega arith) (omega arith)

-- what is found in the first column, lent
pub found_within : (m from k r : ℕ) (b : Bounds) (s : List ℕ) → r ≡ seek (cell_within b (cells_of (take (2 * m) s))) from k
    → r ≡ seek (cell_within b (part 0 m (cells_of s))) from k
found_within m from k r b s e = e ∙ ap (λ (C : List ℕ). seek (cell_within b C) from k) (first_column m s)

-- what is found in both columns, lent
pub found_both : (m from k r : ℕ) (a b : Bounds) (s : List ℕ)
    → r ≡ seek (both_within a b (cells_of (take (2 * m) s)) (cells_of (mid_of (2 * m) (4 * m - 2 * m) s))) from k
    → r ≡ seek (both_within a b (part 0 m (cells_of s)) (part m m (cells_of s))) from k
found_both m from k r a b s e = e ∙ ap₂ (λ (C D : List ℕ). seek (both_within a b C D) from k) (first_column m s) (second_column m s)
