-- Fields that make a line, and lines that make a list. Assumes nothing.
use Prim.Native.Nat.{ℕ, zero, suc, ◌+◌, ◌<◌, ◌≤◌}
use mathlib.Core.Path.{◌≡◌, ap, ◌∙◌, sym}
use mathlib.Core.List.{List, [], ◌∷◌, ◌++◌, append_assoc, append-nil}
use native.Mathlib.Numerals.{add-one}
use native.Mathlib.Omega.{arith}
use lib.ListN.{length, take, get_or, length-append}
use Rattle.records.specs.Records.{record_at, fibre_of, assignment_of}
use Rattle.records.specs.declared.FibreRecord.{FibreRecord}
use Rattle.records.specs.declared.AssignmentRecord.{AssignmentRecord}
use Rattle.text.specs.Decimals.{decimal}
use Rattle.sheet_text.specs.Text.{fields, fibre_line, circuit_line, fibre_lines, circuit_lines}

-- the first i fields, a space and the next number are the fields up to it
fields_to : (xs : List ℕ) (i : ℕ) → i < length xs → fields (take i xs) ++ (32 ∷ decimal (get_or xs i 0)) ≡ fields (take (suc i) xs)
unfolding fields
fields_to [] i h = absurd (omega arith)
fields_to (x ∷ xs) zero h = sym (append-nil (32 ∷ decimal x))
fields_to (x ∷ xs) (suc i) h =
    append_assoc (32 ∷ decimal x) (fields (take i xs)) (32 ∷ decimal (get_or xs i 0)) ∙ ap (λ (t : List ℕ). (32 ∷ decimal x) ++ t) (fields_to xs i (omega arith))

-- and those are i + 1
pub fields_more : (xs : List ℕ) (i : ℕ) → i < length xs → fields (take i xs) ++ (32 ∷ decimal (get_or xs i 0)) ≡ fields (take (i + 1) xs)
fields_more xs i h = rw (add-one i) (fields_to xs i h)

-- they are no longer than all
pub fields_room : (xs : List ℕ) (i : ℕ) → i < length xs → length (fields (take i xs)) + 1 + length (decimal (get_or xs i 0)) ≤ length (fields xs)
unfolding fields
fields_room [] i h = absurd (omega arith)
fields_room (x ∷ xs) zero h = omega (arith, length-append (decimal x) (fields xs))
fields_room (x ∷ xs) (suc i) h =
    omega (arith, length-append (decimal x) (fields xs), length-append (decimal x) (fields (take i xs)), fields_room xs i (omega arith))

-- i lines and the line of fibre record i are i + 1 lines
pub fibre_more : (i : ℕ) (s : List ℕ) (f : FibreRecord) → f ≡ fibre_of (record_at s i) → fibre_lines i s ++ fibre_line f ≡ fibre_lines (i + 1) s
unfolding fibre_lines
fibre_more i s f e = rw (add-one i, fibre_lines) (ap (λ (r : FibreRecord). fibre_lines i s ++ fibre_line r) e)

-- i lines and the line of assignment record i are i + 1 lines
pub circuit_more : (grid i : ℕ) (s : List ℕ) (a : AssignmentRecord) → a ≡ assignment_of (record_at s i) → circuit_lines grid i s ++ circuit_line grid a ≡ circuit_lines grid (i + 1) s
unfolding circuit_lines
circuit_more grid i s a e = rw (add-one i, circuit_lines) (ap (λ (r : AssignmentRecord). circuit_lines grid i s ++ circuit_line grid r) e)
