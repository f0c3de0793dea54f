-- Numbers in decimal, byte for byte. What a reader must believe.
-- Assumes nothing.
use Rattle.std.specs.Prelude.{ℕ, zero, suc, ◌+◌, ◌-◌, ◌*◌, ◌/◌, ◌%◌, cond, List, [], ◌∷◌, ◌++◌, ltb}

-- the last k digits of x in decimal, as text; a number with fewer has no zeros before it, and one below 10 has one digit
unfoldable pub decimal_in : ℕ → ℕ → List ℕ
decimal_in zero x = []
decimal_in (suc k) x = cond (ltb x 10) ((48 + x) ∷ []) (decimal_in k (x / 10) ++ ((48 + x % 10) ∷ []))

-- x in decimal: twenty digits hold every 64-bit number
unfoldable pub decimal : ℕ → List ℕ
decimal x = decimal_in 20 x

-- READING BACK. The number whose first digits are n and whose further digits are the bytes given
unfoldable pub value_from : ℕ → List ℕ → ℕ
value_from n [] = n
value_from n (d ∷ ds) = value_from (10 * n + (d - 48)) ds

-- the number that a list of digit bytes stands for
unfoldable pub value : List ℕ → ℕ
value ds = value_from 0 ds
