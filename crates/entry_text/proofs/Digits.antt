-- Digits, one after the other. Assumes nothing.
use Prim.Native.Nat.{ℕ, zero, suc, ◌+◌, ◌-◌, ◌*◌, ◌<◌, ◌≤◌}
use mathlib.Core.Bool.{true, false}
use mathlib.Core.List.{List}
use Rattle.std.specs.Prelude.{Option, None, Some}
use mathlib.Core.Path.{◌≡◌, ◌∙◌, ap}
use native.Mathlib.Numerals.{add-one}
use native.Mathlib.Omega.{arith}
use lib.Dec.{leb, ltb}
use borrow.Author.Tests.{le-ltb, leb-true, lt-ltb, ltb-true}
use Rattle.basics.proofs.Bools.{on, and_l}
use Rattle.entry_text.specs.Entries.{byte, is_digit, spelt, below, numeral_in, word_number, word_from, word_to}

-- a number that is not below the limit is not below it with more digits
pub stays : (s : List ℕ) (i k v limit : ℕ) → limit ≤ v → below limit (spelt s i k v) ≡ None
unfolding spelt
stays s i zero v limit h = rw (le-ltb v limit h)
stays s i (suc k) v limit h =
    on (is_digit (byte s i)) (λ q. rw q (stays s (suc i) k (10 * v + (byte s i - 48)) limit (omega arith))) (λ q. rw q)

-- a digit is 48 or more
pub digit_ge : (b : ℕ) → is_digit b ≡ true → 48 ≤ b
unfolding is_digit
digit_ge b q = leb-true 48 b (and_l (leb 48 b) (leb b 57) q)

-- a digit at i: the number goes on
pub digit_on : (s : List ℕ) (i e v : ℕ) → i < e → is_digit (byte s i) ≡ true → spelt s i (e - i) v ≡ spelt s (i + 1) (e - (i + 1)) (10 * v + (byte s i - 48))
unfolding spelt
digit_on s i e v h q =
    let k : e - i ≡ suc (e - (i + 1)) = omega arith in
    rw (k, q, add-one i)

-- another byte: no number
pub no_digit : (s : List ℕ) (i e v : ℕ) → i < e → is_digit (byte s i) ≡ false → spelt s i (e - i) v ≡ None
unfolding spelt
no_digit s i e v h q =
    let k : e - i ≡ suc (e - (i + 1)) = omega arith in
    rw (k, q)

-- no more digits: the number is told
pub spelt_over : (s : List ℕ) (i e v : ℕ) → e ≤ i → spelt s i (e - i) v ≡ Some v
unfolding spelt
spelt_over s i e v h = let k : e - i ≡ 0 = omega arith in rw k

-- a digit that takes the number to the limit: none is below it
pub grown : (s : List ℕ) (i e v limit : ℕ) → i < e → is_digit (byte s i) ≡ true → limit ≤ 10 * v + (byte s i - 48) → below limit (spelt s i (e - i) v) ≡ None
grown s i e v limit h q g = ap (below limit) (digit_on s i e v h q) ∙ stays s (i + 1) (e - (i + 1)) (10 * v + (byte s i - 48)) limit g

-- at the end, a number below the limit
pub told_over : (s : List ℕ) (i e v limit : ℕ) → e ≤ i → v < limit → below limit (spelt s i (e - i) v) ≡ Some v
told_over s i e v limit h g = rw (spelt_over s i e v h, lt-ltb v limit g)

-- a number that was told is below the limit
pub below_limit : (limit v : ℕ) (o : Option ℕ) → below limit o ≡ Some v → v < limit
below_limit limit v None q = let z : ◌≡◌ {A = ℕ} 0 1 = cc in absurd (omega arith)
below_limit limit v (Some x) q =
    on (ltb x limit)
    (λ t. let z : Some x ≡ Some v = rw t at q in let y : x ≡ v = cc in omega (arith, ltb-true x limit t))
    (λ t. let z : None ≡ Some v = rw t at q in let y : ◌≡◌ {A = ℕ} 0 1 = cc in absurd (omega arith))

-- so is the number of a word
pub word_below : (s : List ℕ) (i e limit v : ℕ) → word_number s i e limit ≡ Some v → v < limit
unfolding word_number numeral_in
word_below s i e limit v q =
    on (ltb (word_from s i e) (word_to s (word_from s i e) e))
    (λ t. below_limit limit v (spelt s (word_from s i e) (word_to s (word_from s i e) e - word_from s i e) 0) (rw t at q))
    (λ t. let z : None ≡ Some v = rw t at q in let y : ◌≡◌ {A = ℕ} 0 1 = cc in absurd (omega arith))
