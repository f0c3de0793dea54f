-- Laws of the cells of a part: a part of the bytes, and the whole when a lent part is back. Assumes nothing.
use Prim.Native.Nat.{ℕ, zero, suc, ◌+◌, ◌*◌, ◌≤◌}
use mathlib.Core.Path.{◌≡◌, refl, ap, ap₂, ◌∙◌}
use mathlib.Core.List.{List, [], ◌∷◌, ◌++◌}
use native.Mathlib.Omega.{arith}
use lib.ListN.{length, take, drop}
use lib.Seq.{take-nil, drop-nil, drop-drop, length-take-le}
use borrow.Rule.Slice.PartMut.{mid_of, post_of, put_mid}
use Rattle.records.specs.Bytes.{cells_of}
use Rattle.records.proofs.CellLaws.{two_suc}

-- the cells of the first 2 k bytes are the first k cells
pub cells_take : (k : ℕ) (b : List ℕ) → cells_of (take (2 * k) b) ≡ take k (cells_of b)
unfolding cells_of
cells_take zero b = refl
cells_take (suc k) [] = rw (two_suc k)
cells_take (suc k) (x ∷ []) = rw (two_suc k, take-nil)
cells_take (suc k) (x ∷ y ∷ t) = rw (two_suc k) (ap (λ (l : List ℕ). (x + 256 * y) ∷ l) (cells_take k t))

-- the cells after the first 2 k bytes are those after the first k cells
pub cells_drop : (k : ℕ) (b : List ℕ) → cells_of (drop (2 * k) b) ≡ drop k (cells_of b)
unfolding cells_of
cells_drop zero b = refl
cells_drop (suc k) [] = rw (two_suc k)
cells_drop (suc k) (x ∷ []) = rw (two_suc k, drop-nil)
cells_drop (suc k) (x ∷ y ∷ t) = rw (two_suc k) (cells_drop k t)

-- the cells of an even number of bytes, and then of the others
pub cells_append : (k : ℕ) (a b : List ℕ) → length a ≡ 2 * k → cells_of (a ++ b) ≡ cells_of a ++ cells_of b
unfolding cells_of
cells_append k [] b h = refl
cells_append k (x ∷ []) b h = absurd (omega arith)
cells_append zero (x ∷ y ∷ t) b h = absurd (omega arith)
cells_append (suc k) (x ∷ y ∷ t) b h = ap (λ (l : List ℕ). (x + 256 * y) ∷ l) (cells_append k t b (omega arith))

-- the cells of the part that starts at cell a and has k cells
pub cells_mid : (A L a k : ℕ) (b : List ℕ) → A ≡ 2 * a → L ≡ 2 * k → cells_of (mid_of A L b) ≡ take k (drop a (cells_of b))
cells_mid A L a k b p q =
    ap₂ (λ (x y : ℕ). cells_of (take x (drop y b))) q p ∙ cells_take k (drop (2 * a) b) ∙ ap (take k) (cells_drop a b)

-- the cells of the whole, with ys in that part's place
pub cells_put : (A L a k : ℕ) (b ys : List ℕ) → A ≡ 2 * a → L ≡ 2 * k → A ≤ length b → length ys ≡ L
    → cells_of (put_mid A L b ys) ≡ take a (cells_of b) ++ (cells_of ys ++ drop (a + k) (cells_of b))
cells_put A L a k b ys p q r l =
    let e : A + L ≡ 2 * (a + k) = omega arith in
    cells_append a (take A b) (ys ++ post_of A L b) (length-take-le A b r ∙ p)
    ∙ ap₂ ◌++◌ (ap (λ (x : ℕ). cells_of (take x b)) p ∙ cells_take a b)
    (cells_append k ys (post_of A L b) (l ∙ q)
    ∙ ap (λ (z : List ℕ). cells_of ys ++ z) (ap cells_of (drop-drop L A b ∙ ap (λ (x : ℕ). drop x b) e) ∙ cells_drop (a + k) b))
