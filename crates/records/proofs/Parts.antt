-- Laws of parts: lists of a known length, records that are stored, and parts that were lent and came back. Assumes nothing.
use Prim.Native.Nat.{ℕ, zero, suc, ◌+◌, ◌-◌, ◌/◌, ◌%◌, ◌≤◌}
use mathlib.Core.Path.{◌≡◌, refl, ap, ◌∙◌, sym}
use mathlib.Core.List.{List, [], ◌∷◌, ◌++◌, append_assoc, append-nil}
use native.Mathlib.Omega.{arith}
use lib.ListN.{length, get_or, drop, take, drop_of_length-le, replicate}
use Rattle.records.specs.Bytes.{bytes16, bytes32, set_cell, encode}
use Rattle.records.specs.Records.{put_record}
use borrow.Rule.Slice.PartMut.{put_mid, drop_put}
use lib.Seq.{take_at, drop-append-add, drop-drop}

-- the first n elements, written out one by one
abbrev pub firsts : ℕ → List ℕ → List ℕ
firsts zero r = []
firsts (suc n) r = get_or r 0 0 ∷ firsts n (drop 1 r)

-- a list of n elements is its first n elements
pub written_out : (n : ℕ) (r : List ℕ) → length r ≡ n → r ≡ firsts n r
written_out zero [] h = refl
written_out zero (x ∷ r) h = absurd (omega arith)
written_out (suc n) [] h = absurd (omega arith)
written_out (suc n) (x ∷ r) h = ap (λ (l : List ℕ). x ∷ l) (written_out n r (omega arith))

-- where d is written at the start of a list, and then b after it, d and b are written and the rest is as it was
pub block_more : (d b out₀ : List ℕ) (a e : ℕ) → length d ≡ a → a + length b ≡ e
    → take a (d ++ drop a out₀) ++ (b ++ drop e (d ++ drop a out₀)) ≡ (d ++ b) ++ drop e out₀
block_more d b out₀ a e p q =
    let r : drop e (d ++ drop a out₀) ≡ drop e out₀ =
    ap (λ (k : ℕ). drop k (d ++ drop a out₀)) (sym q ∙ ap (λ (k : ℕ). k + length b) (sym p))
    ∙ drop-append-add d (drop a out₀) (length b) ∙ drop-drop (length b) a out₀ ∙ ap (λ (k : ℕ). drop k out₀) q in
    rw (take_at d (drop a out₀) a p, r) (sym (append_assoc d b (drop e out₀)))

-- 8 bytes into which four cells are stored are those four cells, written
pub four_cells : (r r₁ r₂ r₃ r₄ : List ℕ) (a b c d : ℕ) → length r ≡ 8 → r₁ ≡ set_cell r 0 a → r₂ ≡ set_cell r₁ 1 b → r₃ ≡ set_cell r₂ 2 c → r₄ ≡ set_cell r₃ 3 d
    → r₄ ≡ encode (a ∷ b ∷ c ∷ d ∷ [])
unfolding set_cell encode
four_cells r r₁ r₂ r₃ r₄ a b c d h p₁ p₂ p₃ p₄ =
    p₄ ∙ ap (λ (l : List ℕ). set_cell l 3 d) (p₃ ∙ ap (λ (l : List ℕ). set_cell l 2 c) (p₂ ∙ ap (λ (l : List ℕ). set_cell l 1 b) p₁))
    ∙ ap (λ (l : List ℕ). set_cell (set_cell (set_cell (set_cell l 0 a) 1 b) 2 c) 3 d) (written_out 8 r h)

-- a record that is put as four cells, the first two of them the halves of v, is v and the other two, written
pub put_wide : (t s : List ℕ) (i low high v c d : ℕ) → low ≡ v % 65536 → high ≡ v / 65536
    → t ≡ put_record s i (encode (low ∷ high ∷ c ∷ d ∷ [])) → t ≡ put_record s i (bytes32 v ++ (bytes16 c ++ bytes16 d))
unfolding encode
put_wide t s i low high v c d p q e = e ∙ (λ k. put_record s i (encode (p k ∷ q k ∷ c ∷ d ∷ [])))

-- a list of k elements of which k became zero is k zeros
pub zeroed : (w w₀ : List ℕ) (k : ℕ) → length w₀ ≡ k → w ≡ replicate k 0 ++ drop k w₀ → w ≡ replicate k 0
zeroed w w₀ k l h = h ∙ ap (λ (t : List ℕ). replicate k 0 ++ t) (drop_of_length-le w₀ {i = k} (omega arith)) ∙ append-nil (replicate k 0)

-- a part at the start that was lent and is back changes nothing past it
pub rest_kept : (e k : ℕ) (xs ys : List ℕ) → e ≤ k → e ≤ length xs → length ys ≡ e - 0 → drop k (put_mid 0 (e - 0) xs ys) ≡ drop k xs
rest_kept e k xs ys h l q =
    let z : e + (k - e) ≡ k = omega arith in
    let d : drop e (put_mid 0 (e - 0) xs ys) ≡ drop e xs = drop_put 0 e xs ys (omega arith) l q in
    ap (λ x. drop x (put_mid 0 (e - 0) xs ys)) (sym z) ∙ sym (drop-drop (k - e) e (put_mid 0 (e - 0) xs ys)) ∙ ap (drop (k - e)) d
    ∙ drop-drop (k - e) e xs ∙ ap (λ x. drop x xs) z
