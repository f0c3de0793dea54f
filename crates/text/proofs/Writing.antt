-- Text that is written at the start of a list, and then more of it. Assumes nothing.
use Prim.Native.Nat.{ℕ, ◌+◌, ◌-◌, ◌/◌, ◌%◌, ◌^◌, ◌<◌, ◌≤◌}
use mathlib.Core.Path.{◌≡◌, refl, ap, ◌∙◌, sym}
use mathlib.Core.List.{List, [], ◌∷◌, ◌++◌, append-nil}
use native.Mathlib.Omega.{arith}
use native.Mathlib.Nat.{le_refl}
use native.Mathlib.Numerals.{add-one}
use lib.ListN.{length, set, take, drop, length-append, length-drop, drop_of_length-le}
use lib.Seq.{drop-drop, take_all, set_split}
use borrow.Rule.Slice.PartMut.{mid_of, post_of, put_mid}
use Rattle.records.proofs.Parts.{block_more}
use Rattle.text.specs.Decimals.{decimal}
use Rattle.text.specs.Wrote.{Wrote}
use Rattle.text.proofs.Digits.{decimal_one, decimal_more, length_more}

-- a part from a on was lent, text was written at its start, and the part came back
pub tail_back : (a k : ℕ) (xs ys b : List ℕ) → ys ≡ b ++ drop k (mid_of a (length xs - a) xs) → put_mid a (length xs - a) xs ys ≡ take a xs ++ (b ++ drop (a + k) xs)
tail_back a k xs ys b h =
    let l : length (drop a xs) ≤ length xs - a = rw length-drop (le_refl (length xs - a)) in
    let m : mid_of a (length xs - a) xs ≡ drop a xs = take_all (length xs - a) (drop a xs) l in
    let p : post_of a (length xs - a) xs ≡ [] = drop_of_length-le (drop a xs) {i = length xs - a} l in
    ap (λ (z : List ℕ). take a xs ++ z)
    ((λ i. ys ++ p i) ∙ append-nil ys ∙ h ∙ ap (λ (z : List ℕ). b ++ drop k z) m ∙ ap (λ (z : List ℕ). b ++ z) (drop-drop k a xs))

-- the first byte is stored
pub first_byte : (v : ℕ) (xs : List ℕ) → 0 < length xs → Wrote (v ∷ []) 1 xs (set xs 0 v)
first_byte v [] h = absurd (omega arith)
first_byte v (x ∷ xs) h = (refl, refl)

-- after a text of n bytes, k more bytes come
pub then_more : (d b before after last : List ℕ) (n k : ℕ) → Wrote d n before after → k ≡ length b → last ≡ take n after ++ (b ++ drop (n + k) after)
    → Wrote (d ++ b) (n + k) before last
then_more d b before after last n k w l e =
    let s : n + length b ≡ n + k = omega arith in (
      sym (length-append d b ∙ omega arith),
      e ∙ ap (λ (t : List ℕ). take n t ++ (b ++ drop (n + k) t)) w.1 ∙ block_more d b before n (n + k) (sym w.0) s,
    )

-- after a text of n bytes, a byte is stored
pub then_byte : (d : List ℕ) (v : ℕ) (before after : List ℕ) (n : ℕ) → Wrote d n before after → n < length after → Wrote (d ++ (v ∷ [])) (n + 1) before (set after n v)
then_byte d v before after n w h = then_more d (v ∷ []) before after (set after n v) n 1 w refl (set_split after n v h ∙ rw add-one)

-- after a text of n bytes, the rest was lent, text was written at its start, and the rest came back
pub then_part : (d b before after part : List ℕ) (n k : ℕ) → Wrote d n before after → Wrote b k (mid_of n (length after - n) after) part
    → Wrote (d ++ b) (n + k) before (put_mid n (length after - n) after part)
then_part d b before after part n k w p = then_more d b before after _ n k w p.0 (tail_back n k after part b p.1)

-- what was written lies within a list that keeps its length
pub within : (text before after : List ℕ) (n : ℕ) → Wrote text n before after → length after ≡ length before → n ≤ length before
within text before after n w l = omega (arith, w.0, ap length w.1 ∙ length-append text (drop n before), length-drop n before)

-- a number below 10 is written by one byte
pub digit_written : (x : ℕ) (xs : List ℕ) → x < 10 → length (decimal x) ≤ length xs → Wrote (decimal x) 1 xs (set xs 0 (48 + x))
digit_written x xs h l =
    let e : decimal x ≡ (48 + x) ∷ [] = decimal_one x h in
    rw e (first_byte (48 + x) xs (omega (arith, ap length e)))

-- any other is written by its tenth, and one byte more
pub digits_written : (x n : ℕ) (before after : List ℕ) → 10 ≤ x → x < 10 ^ 20 → length (decimal x) ≤ length after → Wrote (decimal (x / 10)) n before after
    → Wrote (decimal x) (n + 1) before (set after n (48 + x % 10))
digits_written x n before after m h l w =
    let e : n < length after = omega (arith, length_more x m h, w.0) in
    rw (decimal_more x m h) (then_byte (decimal (x / 10)) (48 + x % 10) before after n w e)

-- the same bytes stand there, whatever they are called
pub by_name : (d t before after : List ℕ) (n : ℕ) → d ≡ t → Wrote d n before after → Wrote t n before after
by_name d t before after n e w = (w.0 ∙ ap length e, w.1 ∙ ap (λ (l : List ℕ). l ++ drop n before) e)
