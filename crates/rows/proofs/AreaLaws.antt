-- What the work area holds after a change of one part. Assumes nothing.
use Rattle.std.proofs.Common.{◌≡◌, ℕ, ◌+◌, ◌-◌, ◌*◌, ◌<◌, ◌≤◌, List, ◌++◌, length, take, drop, set, sym, refl, ap, ◌∙◌, ap₂, arith, length-take-le, drop-drop, take_at, drop_at}
use lib.Seq.{take-set-le, take-set-lt, drop-set-add}
use borrow.Rule.Slice.PartMut.{put_mid, mid_of}
use Rattle.basics.proofs.Tables.{length_each}
use Rattle.method.specs.Sheet.{paint}
use Rattle.records.specs.Bytes.{cells_of}
use Rattle.records.proofs.CellLaws.{length_cells_of}
use Rattle.records.proofs.PartCells.{cells_mid, cells_put}
use Rattle.records.specs.Area.{lasts_in, rows_in}
use Rattle.rows.specs.inner.Desk.{Desk}
use Rattle.rows.specs.inner.Colours.{painted}

-- file, work area and list after a change that keeps their sizes
pub desk_on : (n m : ℕ) (s work list work' list' : List ℕ) → Desk n m s work list → length work' ≡ 4 * n + 4 * m → length list' ≡ 8 * m → Desk n m s work' list'
desk_on n m s work list work' list' d r c =
    record { file = d.file; room = r; columns = c }

-- the last rows became X
relast : (n m : ℕ) (X C C' : List ℕ) → length X ≡ n → 2 * n ≤ length C → C' ≡ take n C ++ (X ++ drop (2 * n) C)
    → (take n C' ≡ take n C) × (lasts_in n C' ≡ X) × (rows_in n m C' ≡ rows_in n m C)
relast n m X C C' l r e =
    let t : length (take n C) ≡ n = length-take-le n C (omega arith) in
    let d : drop n C' ≡ X ++ drop (2 * n) C = ap (drop n) e ∙ drop_at (take n C) (X ++ drop (2 * n) C) n t in
    let k : n + n ≡ 2 * n = omega arith in
    let dd : drop (2 * n) C' ≡ drop (2 * n) C = sym (ap (λ (z : ℕ). drop z C') k) ∙ sym (drop-drop n n C') ∙ ap (drop n) d ∙ drop_at X (drop (2 * n) C) n l in
    (ap (take n) e ∙ take_at (take n C) (X ++ drop (2 * n) C) n t, ap (take n) d ∙ take_at X (drop (2 * n) C) n l, ap (take m) dd)

-- the row of circuit j became v
pub enter_row : (n m j v : ℕ) (C C' : List ℕ) → j < m → C' ≡ set C (2 * n + j) v
    → (take n C' ≡ take n C) × (lasts_in n C' ≡ lasts_in n C) × (rows_in n m C' ≡ set (rows_in n m C) j v)
enter_row n m j v C C' h e =
    let k : 2 * n + j ≡ n + (n + j) = omega arith in (
      ap (take n) e ∙ take-set-le n C (2 * n + j) v (omega arith),
      ap (λ (z : List ℕ). take n (drop n z)) (e ∙ ap (λ (z : ℕ). set C z v) k) ∙ ap (take n) (drop-set-add n C (n + j) v) ∙ take-set-le n (drop n C) (n + j) v (omega arith),
      ap (λ (z : List ℕ). take m (drop (2 * n) z)) e ∙ ap (take m) (drop-set-add (2 * n) C j v) ∙ take-set-lt m (drop (2 * n) C) j v h,
    )

-- the last rows, as they are lent
pub lent_lasts : (n : ℕ) (b : List ℕ) → cells_of (mid_of (2 * n) (4 * n - 2 * n) b) ≡ lasts_in n (cells_of b)
lent_lasts n b = cells_mid (2 * n) (4 * n - 2 * n) n n b refl (omega arith)

-- the last rows were lent and painted
pub painted_lasts : (n m start past v : ℕ) (b ys b' : List ℕ) → length b ≡ 4 * n + 4 * m → length ys ≡ 4 * n - 2 * n
    → cells_of ys ≡ painted n start past v (cells_of (mid_of (2 * n) (4 * n - 2 * n) b)) → b' ≡ put_mid (2 * n) (4 * n - 2 * n) b ys
    → (take n (cells_of b') ≡ take n (cells_of b)) × (lasts_in n (cells_of b') ≡ painted n start past v (lasts_in n (cells_of b))) × (rows_in n m (cells_of b') ≡ rows_in n m (cells_of b))
unfolding paint
painted_lasts n m start past v b ys b' r l e u =
    let k : n + n ≡ 2 * n = omega arith in
    let c = length_cells_of b (2 * n + 2 * m) (omega arith) in
    let X : List ℕ = painted n start past v (lasts_in n (cells_of b)) in
    let x : cells_of ys ≡ X = e ∙ ap (painted n start past v) (lent_lasts n b) in
    relast n m X (cells_of b) (cells_of b') (length_each _ 1 n) (omega arith)
    (ap cells_of u ∙ cells_put (2 * n) (4 * n - 2 * n) n n b ys refl (omega arith) (omega arith) l ∙ ap₂ (λ (y : List ℕ) (z : ℕ). take n (cells_of b) ++ (y ++ drop z (cells_of b))) x k)
