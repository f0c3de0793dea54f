-- Laws of cells: what a store into a cell and a read of it mean for the list of all cells. Assumes nothing.
use Prim.Native.Nat.{ℕ, zero, suc, ◌+◌, ◌*◌, ◌<◌, ◌≤◌}
use mathlib.Core.Path.{◌≡◌, refl, ap, ◌∙◌}
use mathlib.Core.List.{List, [], ◌∷◌}
use native.Mathlib.Nat.{mod-add-div, not-suc-le-zero}
use native.Mathlib.Omega.{arith}
use lib.ListN.{length, get_or, set}
use Rattle.records.specs.Bytes.{cell, set_cell, cells_of}

-- the cell after cell k starts two bytes later
pub two_suc : (k : ℕ) → 2 * suc k ≡ suc (suc (2 * k))
two_suc k = omega arith

-- the second byte of a cell after cell k is two bytes later too
pub two_suc' : (k : ℕ) → suc (suc (2 * k)) + 1 ≡ suc (suc (2 * k + 1))
two_suc' k = omega arith

-- a store into cell k changes element k of the list of cells, and nothing else
pub cells_of_set : (b : List ℕ) (k v : ℕ) → cells_of (set_cell b k v) ≡ set (cells_of b) k v
unfolding set_cell cells_of
cells_of_set [] k v = refl
cells_of_set (x ∷ []) zero v = refl
cells_of_set (x ∷ []) (suc k) v = rw (two_suc k, two_suc' k)
cells_of_set (x ∷ y ∷ t) zero v = ap (λ (n : ℕ). n ∷ cells_of t) (mod-add-div v 256)
cells_of_set (x ∷ y ∷ t) (suc k) v = rw (two_suc k, two_suc' k) (ap (λ (l : List ℕ). (x + 256 * y) ∷ l) (cells_of_set t k v))

-- cell k is element k of the list of cells
pub cell_is : (b : List ℕ) (k : ℕ) → 2 * k + 1 < length b → cell b k ≡ get_or (cells_of b) k 0
unfolding cell cells_of
cell_is [] k h = refl
cell_is (x ∷ []) k h = absurd (let z : 0 < 0 = omega arith in not-suc-le-zero z)
cell_is (x ∷ y ∷ t) zero h = refl
cell_is (x ∷ y ∷ t) (suc k) h = rw (two_suc k, two_suc' k) (cell_is t k (omega arith))

-- 2 n bytes hold n cells
pub length_cells_of : (b : List ℕ) (n : ℕ) → length b ≡ 2 * n → length (cells_of b) ≡ n
unfolding cells_of
length_cells_of [] n h = omega arith
length_cells_of (x ∷ []) n h = absurd (omega arith)
length_cells_of (x ∷ y ∷ t) zero h = absurd (omega arith)
length_cells_of (x ∷ y ∷ t) (suc n) h = ap suc (length_cells_of t n (omega arith))

-- at least 2 n bytes hold at least n cells
pub cells_room : (b : List ℕ) (n : ℕ) → 2 * n ≤ length b → n ≤ length (cells_of b)
unfolding cells_of
cells_room b zero h = omega arith
cells_room [] (suc n) h = absurd (omega arith)
cells_room (x ∷ []) (suc n) h = absurd (omega arith)
cells_room (x ∷ y ∷ t) (suc n) h = omega (arith, cells_room t n (omega arith))

-- bytes that are others with one cell stored, by their cells
pub stored : (b b' : List ℕ) (k v : ℕ) → b' ≡ set_cell b k v → cells_of b' ≡ set (cells_of b) k v
stored b b' k v e = ap cells_of e ∙ cells_of_set b k v
