-- What a decimal text says: it reads back as its number, it has no leading zero, and it is made of digits. Assumes nothing.
use Prim.Native.Nat.{ℕ, zero, suc, ◌+◌, ◌-◌, ◌*◌, ◌/◌, ◌%◌, ◌^◌, ◌<◌, ◌≤◌}
use mathlib.Core.Path.{◌≡◌, refl, ap, ◌∙◌, sym, subst}
use mathlib.Core.List.{List, [], ◌∷◌, ◌++◌}
use native.Mathlib.Omega.{arith}
use lib.ListN.{length, get_or, length-append, get_or-append}
use lib.Seq.{get_or-append_seam}
use Rattle.basics.proofs.Bools.{by_le}
use Rattle.text.specs.Decimals.{decimal_in, decimal, value_from, value}
use Rattle.text.proofs.Digits.{one_digit, more_digits, tenth}

-- one digit more makes ten of each and adds the digit
value_more : (n d : ℕ) (ds : List ℕ) → value_from n (ds ++ (d ∷ [])) ≡ 10 * value_from n ds + (d - 48)
unfolding value_from
value_more n d [] = refl
value_more n d (e ∷ ds) = value_more (10 * n + (e - 48)) d ds

-- the digits of a number that they hold read back as the number
reads_in : (j x : ℕ) → x < 10 ^ suc j → value_from 0 (decimal_in (suc j) x) ≡ x
unfolding value_from
reads_in zero x h = rw (one_digit 0 x h) (omega arith)
reads_in (suc j) x h =
    by_le 10 x
    (λ m. rw (more_digits (suc j) x m) (value_more 0 (48 + x % 10) (decimal_in (suc j) (x / 10)) ∙ omega (arith, reads_in j (x / 10) (tenth (suc j) x h))))
    (λ l. rw (one_digit (suc j) x l) (omega arith))

-- the text of every number of at most twenty digits reads back as the number
pub reads_back : (x : ℕ) → x < 10 ^ 20 → value (decimal x) ≡ x
unfolding value decimal
reads_back x h = reads_in 19 x h

-- a number's digits are at least one
some_digit : (j x : ℕ) → 0 < length (decimal_in (suc j) x)
some_digit j x =
    by_le 10 x
    (λ m. rw (more_digits j x m, length-append) (omega arith))
    (λ l. rw (one_digit j x l) (omega arith))

-- a text that begins with the digit 0 is that of 0
leads_in : (j x : ℕ) → x < 10 ^ suc j → get_or (decimal_in (suc j) x) 0 0 ≡ 48 → x ≡ 0
leads_in zero x h e = let q : 48 + x ≡ 48 = rw (one_digit 0 x h) at e in omega arith
leads_in (suc j) x h e =
    by_le 10 x
    (λ m.
    let d = decimal_in (suc j) (x / 10) in
    let f : get_or d 0 0 ≡ 48 = sym (get_or-append d ((48 + x % 10) ∷ []) 0 0 (some_digit j (x / 10))) ∙ (rw (more_digits (suc j) x m) at e) in
    omega (arith, leads_in j (x / 10) (tenth (suc j) x h) f))
    (λ l. let q : 48 + x ≡ 48 = rw (one_digit (suc j) x l) at e in omega arith)

-- no text has a leading zero but the one digit 0
pub no_leading_zero : (x : ℕ) → x < 10 ^ 20 → get_or (decimal x) 0 0 ≡ 48 → decimal x ≡ 48 ∷ []
unfolding decimal decimal_in
no_leading_zero x h e = ap decimal (leads_in 19 x h e)

-- a byte that is a digit
abbrev pub Digit : ℕ → Type 0
Digit b = (48 ≤ b) × (b ≤ 57)

-- one digit alone
digit_alone : (v i : ℕ) → Digit v → i < length (v ∷ []) → Digit (get_or (v ∷ []) i 0)
digit_alone v zero d h = d
digit_alone v (suc i) d h = absurd (omega arith)

-- digits and one more
digit_after : (ds : List ℕ) (v i : ℕ) → (i < length ds → Digit (get_or ds i 0)) → Digit v → i < length (ds ++ (v ∷ [])) → Digit (get_or (ds ++ (v ∷ [])) i 0)
digit_after ds v i all d h =
    by_le (length ds) i
    (λ g. let e : i ≡ length ds = omega (arith, length-append ds (v ∷ [])) in rw (e, get_or-append_seam) d)
    (λ l. rw (get_or-append ds (v ∷ []) 0 i l) (all l))

-- the bytes of a text are digits, however many are allowed
digits_in : (k x i : ℕ) → i < length (decimal_in k x) → Digit (get_or (decimal_in k x) i 0)
unfolding decimal_in
digits_in zero x i h = absurd (omega arith)
digits_in (suc k) x i h =
    by_le 10 x
    (λ m. subst (λ (t : List ℕ). i < length t → Digit (get_or t i 0)) (sym (more_digits k x m))
    (digit_after (decimal_in k (x / 10)) (48 + x % 10) i (digits_in k (x / 10) i) (omega arith, omega arith)) h)
    (λ l. subst (λ (t : List ℕ). i < length t → Digit (get_or t i 0)) (sym (one_digit k x l)) (digit_alone (48 + x) i (omega arith, omega arith)) h)

-- every byte of every number's text is a digit, 48 to 57
pub all_digits : (x i : ℕ) → i < length (decimal x) → Digit (get_or (decimal x) i 0)
unfolding decimal
all_digits x i h = digits_in 20 x i h
