-- How a number's digits are made, whatever number of them is allowed. Assumes nothing.
use Prim.Native.Nat.{ℕ, zero, suc, ◌+◌, ◌*◌, ◌/◌, ◌%◌, ◌^◌, ◌<◌, ◌≤◌}
use mathlib.Core.Path.{◌≡◌, ap, ◌∙◌}
use mathlib.Core.List.{List, [], ◌∷◌, ◌++◌}
use native.Mathlib.Nat.{pow-succ'}
use native.Mathlib.Omega.{arith}
use borrow.Author.Tests.{lt-ltb, le-ltb}
use lib.ListN.{length, length-append}
use Rattle.basics.proofs.Bools.{by_le}
use Rattle.text.specs.Decimals.{decimal_in, decimal}

-- a number below 10 has one digit
pub one_digit : (k x : ℕ) → x < 10 → decimal_in (suc k) x ≡ (48 + x) ∷ []
unfolding decimal_in
one_digit k x h = rw (lt-ltb x 10 h)

-- any other has the digits of its tenth, and one more
pub more_digits : (k x : ℕ) → 10 ≤ x → decimal_in (suc k) x ≡ decimal_in k (x / 10) ++ ((48 + x % 10) ∷ [])
unfolding decimal_in
more_digits k x h = rw (le-ltb x 10 h)

-- a tenth has one digit less
pub tenth : (j x : ℕ) → x < 10 ^ suc j → x / 10 < 10 ^ j
tenth j x h = let e : 10 ^ suc j ≡ 10 * 10 ^ j = pow-succ' 10 j in omega arith

-- if j + 1 digits hold the number, allowing one more changes nothing
pub enough : (j x : ℕ) → x < 10 ^ suc j → decimal_in (suc j) x ≡ decimal_in (suc (suc j)) x
enough zero x h = rw (one_digit 0 x h, one_digit 1 x h)
enough (suc j) x h =
    by_le 10 x
    (λ m. rw (more_digits (suc j) x m, more_digits (suc (suc j)) x m) (ap (λ (t : List ℕ). t ++ ((48 + x % 10) ∷ [])) (enough j (x / 10) (tenth (suc j) x h))))
    (λ l. rw (one_digit (suc j) x l, one_digit (suc (suc j)) x l))

-- the text of a number below 10
pub decimal_one : (x : ℕ) → x < 10 → decimal x ≡ (48 + x) ∷ []
unfolding decimal
decimal_one x h = one_digit 19 x h

-- the text of any other number of at most twenty digits
pub decimal_more : (x : ℕ) → 10 ≤ x → x < 10 ^ 20 → decimal x ≡ decimal (x / 10) ++ ((48 + x % 10) ∷ [])
unfolding decimal
decimal_more x m h = rw (more_digits 19 x m) (ap (λ (t : List ℕ). t ++ ((48 + x % 10) ∷ [])) (enough 18 (x / 10) (tenth 19 x h)))

-- one digit is one byte
pub length_one : (x : ℕ) → x < 10 → length (decimal x) ≡ 1
length_one x h = ap length (decimal_one x h)

-- the digit more is one byte more
pub length_more : (x : ℕ) → 10 ≤ x → x < 10 ^ 20 → length (decimal x) ≡ length (decimal (x / 10)) + 1
length_more x m h = ap length (decimal_more x m h) ∙ length-append (decimal (x / 10)) ((48 + x % 10) ∷ [])
