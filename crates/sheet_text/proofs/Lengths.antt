-- How long the lines are. Assumes nothing.
use Prim.Native.Nat.{ℕ, ◌+◌, ◌*◌, ◌<◌, ◌≤◌}
use mathlib.Core.Path.{◌≡◌}
use mathlib.Core.List.{List, [], ◌∷◌}
use native.Mathlib.Omega.{arith}
use lib.ListN.{length, length-append}
use Rattle.sheet_text.specs.Text.{fields, line}
use Rattle.text.specs.Decimals.{decimal}
use Rattle.text.proofs.Lengths.{length_decimal, length_twenty}

-- a line is its letter, its fields and a newline
pub line_length : (letter : ℕ) (xs : List ℕ) → length (line letter xs) ≡ 2 + length (fields xs)
unfolding line
line_length letter xs = omega (arith, length-append (fields xs) (10 ∷ []))

-- a field more is a space and its number
field_length : (x : ℕ) (xs : List ℕ) → length (fields (x ∷ xs)) ≡ 1 + length (decimal x) + length (fields xs)
unfolding fields
field_length x xs = omega (arith, length-append (decimal x) (fields xs))

-- a field has at most a space and twenty digits
fields_room : (xs : List ℕ) → length (fields xs) ≤ 21 * length xs
unfolding fields
fields_room [] = omega arith
fields_room (x ∷ xs) = omega (arith, length-append (decimal x) (fields xs), length_twenty x, fields_room xs)

-- so a line of so many fields has room here
pub line_room : (letter : ℕ) (xs : List ℕ) → length (line letter xs) ≤ 2 + 21 * length xs
line_room letter xs = omega (arith, line_length letter xs, fields_room xs)

-- a line of four
line_of_four : (letter a b c d : ℕ) → length (line letter (a ∷ b ∷ c ∷ d ∷ [])) ≡ 6 + length (decimal a) + length (decimal b) + length (decimal c) + length (decimal d)
unfolding fields
line_of_four letter a b c d =
    omega (arith, line_length letter (a ∷ b ∷ c ∷ d ∷ []), field_length a (b ∷ c ∷ d ∷ []), field_length b (c ∷ d ∷ []), field_length c (d ∷ []), field_length d [])

-- the four numbers of a fibre have at most 5 digits each
pub fibre_room : (letter a b c d : ℕ) → a < 65536 → b < 65536 → c < 65536 → d < 65536 → length (line letter (a ∷ b ∷ c ∷ d ∷ [])) ≤ 26
fibre_room letter a b c d p q r s =
    omega (arith, line_of_four letter a b c d, length_decimal 4 a (omega arith), length_decimal 4 b (omega arith), length_decimal 4 c (omega arith), length_decimal 4 d (omega arith))

-- a circuit's number has at most 10 digits, its fibre and wavelength at most 5 each, and its frequency at most 7
pub circuit_room : (letter a b c d : ℕ) → a < 4294967296 → b < 65536 → c < 65536 → d ≤ 192050 + 100 * c → length (line letter (a ∷ b ∷ c ∷ d ∷ [])) ≤ 33
circuit_room letter a b c d p q r e =
    omega (arith, line_of_four letter a b c d, length_decimal 9 a (omega arith), length_decimal 4 b (omega arith), length_decimal 4 c (omega arith), length_decimal 6 d (omega arith))
