-- Laws of encoding: from cells to bytes and back. Assumes nothing.
use Prim.Native.Nat.{ℕ, zero, suc, ◌+◌, ◌*◌, ◌/◌, ◌%◌, ◌<◌}
use mathlib.Core.Path.{◌≡◌, refl, ap}
use mathlib.Core.List.{List, [], ◌∷◌}
use native.Mathlib.Omega.{arith}
use lib.ListN.{length, get_or, take, replicate}
use Rattle.records.specs.Bytes.{cells_of, encode}
use Rattle.records.proofs.CellLaws.{two_suc}

-- an even number of bytes is what its cells are written as
pub encode_cells_of : (n : ℕ) (b : List ℕ) → length b ≡ 2 * n → ((i : ℕ) → get_or b i 0 < 256) → encode (cells_of b) ≡ b
unfolding encode cells_of
encode_cells_of n [] l h = refl
encode_cells_of n (x ∷ []) l h = absurd (omega arith)
encode_cells_of zero (x ∷ y ∷ t) l h = absurd (omega arith)
encode_cells_of (suc n) (x ∷ y ∷ t) l h =
    let p = h 0 in
    let q = h 1 in
    let e : (x + 256 * y) % 256 ≡ x = omega arith in
    let f : (x + 256 * y) / 256 ≡ y = omega arith in
    λ i. e i ∷ f i ∷ encode_cells_of n t (omega arith) (λ j. h (suc (suc j))) i

-- 2 n bytes that are 0 hold n cells that are 0
pub cells_of_zeros : (n : ℕ) → cells_of (replicate (2 * n) 0) ≡ replicate n 0
unfolding cells_of
cells_of_zeros zero = refl
cells_of_zeros (suc n) = rw (two_suc n) (ap (λ (l : List ℕ). 0 ∷ l) (cells_of_zeros n))

-- cells that fit into two bytes are written as bytes
pub encode_bytes : (cells : List ℕ) → ((k : ℕ) → get_or cells k 0 < 65536) → (i : ℕ) → get_or (encode cells) i 0 < 256
unfolding encode
encode_bytes [] h i = omega arith
encode_bytes (v ∷ cells) h zero = omega arith
encode_bytes (v ∷ cells) h (suc zero) = let p = h 0 in omega arith
encode_bytes (v ∷ cells) h (suc (suc i)) = encode_bytes cells (λ k. h (suc k)) i

-- the first n of a list of bytes are bytes
pub take_bytes : (n : ℕ) (b : List ℕ) → ((i : ℕ) → get_or b i 0 < 256) → (i : ℕ) → get_or (take n b) i 0 < 256
take_bytes zero b h i = omega arith
take_bytes (suc n) [] h i = omega arith
take_bytes (suc n) (x ∷ b) h zero = h 0
take_bytes (suc n) (x ∷ b) h (suc i) = take_bytes n b (λ j. h (suc j)) i

-- cells of bytes fit two bytes
pub cells_fit : (b : List ℕ) → ((i : ℕ) → get_or b i 0 < 256) → (k : ℕ) → get_or (cells_of b) k 0 < 65536
unfolding cells_of
cells_fit [] h k = omega arith
cells_fit (x ∷ []) h k = omega arith
cells_fit (x ∷ y ∷ t) h zero = omega (arith, h 0, h 1)
cells_fit (x ∷ y ∷ t) h (suc k) = cells_fit t (λ i. h (suc (suc i))) k
