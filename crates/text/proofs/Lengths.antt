-- How long a number's text is. Assumes nothing.
use Prim.Native.Nat.{ℕ, zero, suc, ◌/◌, ◌^◌, ◌<◌, ◌≤◌}
use native.Mathlib.Omega.{arith}
use lib.ListN.{length, length-append}
use Rattle.basics.proofs.Bools.{by_le}
use Rattle.text.specs.Decimals.{decimal_in, decimal}
use Rattle.text.proofs.Digits.{one_digit, more_digits, tenth}

-- the text of a number of at most j + 1 digits has at most j + 1 bytes
pub length_decimal_in : (k j x : ℕ) → x < 10 ^ suc j → length (decimal_in k x) ≤ suc j
unfolding decimal_in
length_decimal_in zero j x h = omega arith
length_decimal_in (suc k) zero x h = rw (one_digit k x h) (omega arith)
length_decimal_in (suc k) (suc j) x h =
    by_le 10 x
    (λ m. rw (more_digits k x m, length-append) (omega (arith, length_decimal_in k j (x / 10) (tenth (suc j) x h))))
    (λ l. rw (one_digit k x l) (omega arith))

-- the same of the text with twenty digits allowed
pub length_decimal : (j x : ℕ) → x < 10 ^ suc j → length (decimal x) ≤ suc j
unfolding decimal
length_decimal j x h = length_decimal_in 20 j x h

-- no text of a number has more bytes than are allowed
pub length_allowed : (k x : ℕ) → length (decimal_in k x) ≤ k
unfolding decimal_in
length_allowed zero x = omega arith
length_allowed (suc k) x =
    by_le 10 x
    (λ m. rw (more_digits k x m, length-append) (omega (arith, length_allowed k (x / 10))))
    (λ l. rw (one_digit k x l) (omega arith))

-- twenty bytes hold every number's text
pub length_twenty : (x : ℕ) → length (decimal x) ≤ 20
unfolding decimal
length_twenty x = length_allowed 20 x
