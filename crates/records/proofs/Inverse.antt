-- Laws of records: writing and reading are inverse where the fields fit. Assumes nothing.
use Prim.Native.Nat.{ℕ, zero, suc, ◌+◌, ◌*◌, ◌/◌, ◌%◌, ◌<◌}
use mathlib.Core.Path.{◌≡◌, refl, ap, ◌∙◌, sym, subst}
use mathlib.Core.Bool.{Bool, true, false}
use mathlib.Core.List.{List, [], ◌∷◌, ◌++◌}
use native.Mathlib.Nat.{mod-add-div}
use native.Mathlib.Omega.{arith}
use lib.ListN.{length, get_or}
use Rattle.records.specs.Bytes.{le16, le32, bytes16, bytes32, cells_of, encode}
use Rattle.records.specs.LineFiles.{line_bytes, line_in, line_on}
use Rattle.std.specs.Prelude.{Some}
use Rattle.records.specs.Records.{circuit_of, fibre_of, assignment_of, circuit_bytes, fibre_bytes, assignment_bytes}
use Rattle.records.specs.declared.Circuit.{Circuit}
use Rattle.records.specs.declared.FibreRecord.{FibreRecord}
use Rattle.records.specs.declared.AssignmentRecord.{AssignmentRecord}
use Rattle.records.proofs.Encode.{encode_cells_of, encode_bytes}
use Rattle.records.proofs.Parts.{written_out}

-- the two bytes of a number are read as that number
pub le16_bytes16 : (v : ℕ) → le16 (bytes16 v) 0 ≡ v
le16_bytes16 v = mod-add-div v 256

-- the bytes of a line's file say that line, which is on grid 1 if they do not name it
pub line_read_written : (n w grid : ℕ) (named : Bool) → (named ≡ false → grid ≡ 1) → line_in (line_bytes n w grid named) ≡ Some (record { links = n; wavelengths = w; grid = grid })
unfolding line_in line_on line_bytes
line_read_written n w grid false h = λ i. Some (record { links = le16_bytes16 n i; wavelengths = le16_bytes16 w i; grid = sym (h refl) i })
line_read_written n w grid true h = λ i. Some (record { links = le16_bytes16 n i; wavelengths = le16_bytes16 w i; grid = le16_bytes16 grid i })

-- the four bytes of a number are read as that number
pub le32_bytes32 : (v : ℕ) → le32 (bytes32 v) 0 ≡ v
le32_bytes32 v = (λ i. le16_bytes16 (v % 65536) i + 65536 * le16_bytes16 (v / 65536) i) ∙ mod-add-div v 65536

-- a number that is put together from two 2-byte numbers is written as these two
pub bytes32_halves : (low high : ℕ) → low < 65536 → bytes32 (low + 65536 * high) ≡ bytes16 low ++ bytes16 high
bytes32_halves low high h =
    let p : (low + 65536 * high) % 65536 ≡ low = omega arith in
    let q : (low + 65536 * high) / 65536 ≡ high = omega arith in
    λ i. bytes16 (p i) ++ bytes16 (q i)

-- the 2-byte number at k in a list of bytes fits into two bytes
pub le16_fits : (r : List ℕ) → ((i : ℕ) → get_or r i 0 < 256) → (k : ℕ) → le16 r k < 65536
le16_fits r h k = let p = h k in let q = h (k + 1) in omega arith

-- 8 bytes hold four cells
pub cells_of_eight : (r : List ℕ) → length r ≡ 8 → cells_of r ≡ le16 r 0 ∷ le16 r 2 ∷ le16 r 4 ∷ le16 r 6 ∷ []
unfolding cells_of
cells_of_eight r l = subst (λ (z : List ℕ). cells_of z ≡ le16 z 0 ∷ le16 z 2 ∷ le16 z 4 ∷ le16 z 6 ∷ []) (sym (written_out 8 r l)) refl

-- 8 bytes are what their four 2-byte numbers are written as
pub four_written_read : (r : List ℕ) → length r ≡ 8 → ((i : ℕ) → get_or r i 0 < 256) → encode (le16 r 0 ∷ le16 r 2 ∷ le16 r 4 ∷ le16 r 6 ∷ []) ≡ r
four_written_read r l h = ap encode (sym (cells_of_eight r l)) ∙ encode_cells_of 4 r l h

-- 8 bytes are what the 4-byte number and the two 2-byte numbers in them are written as
pub wide_written_read : (r : List ℕ) → length r ≡ 8 → ((i : ℕ) → get_or r i 0 < 256) → bytes32 (le32 r 0) ++ (bytes16 (le16 r 4) ++ bytes16 (le16 r 6)) ≡ r
unfolding encode
wide_written_read r l h =
    (λ i. bytes32_halves (le16 r 0) (le16 r 2) (le16_fits r h 0) i ++ (bytes16 (le16 r 4) ++ bytes16 (le16 r 6))) ∙ four_written_read r l h

-- of four numbers that fit into two bytes each fits, and past them there is only 0
pub four_fit : (a b c d : ℕ) → a < 65536 → b < 65536 → c < 65536 → d < 65536 → (k : ℕ) → get_or (a ∷ b ∷ c ∷ d ∷ []) k 0 < 65536
four_fit a b c d p q r s zero = p
four_fit a b c d p q r s (suc zero) = q
four_fit a b c d p q r s (suc (suc zero)) = r
four_fit a b c d p q r s (suc (suc (suc zero))) = s
four_fit a b c d p q r s (suc (suc (suc (suc k)))) = omega arith

-- four 2-byte numbers that fit are written as 8 bytes
pub four_bytes : (a b c d : ℕ) → a < 65536 → b < 65536 → c < 65536 → d < 65536
    → (length (encode (a ∷ b ∷ c ∷ d ∷ [])) ≡ 8) × ((i : ℕ) → get_or (encode (a ∷ b ∷ c ∷ d ∷ [])) i 0 < 256)
unfolding encode
four_bytes a b c d p q r s = (refl, encode_bytes (a ∷ b ∷ c ∷ d ∷ []) (four_fit a b c d p q r s))

-- a 4-byte number and two 2-byte numbers that fit are written as 8 bytes
pub wide_bytes : (v c d : ℕ) → v < 4294967296 → c < 65536 → d < 65536
    → (length (bytes32 v ++ (bytes16 c ++ bytes16 d)) ≡ 8) × ((i : ℕ) → get_or (bytes32 v ++ (bytes16 c ++ bytes16 d)) i 0 < 256)
unfolding encode
wide_bytes v c d p q r =
    let low : v % 65536 < 65536 = omega arith in
    let high : v / 65536 < 65536 = omega arith in
    four_bytes (v % 65536) (v / 65536) c d low high q r

-- a circuit that is written is read back as it was
pub circuit_read_written : (c : Circuit) → circuit_of (circuit_bytes c) ≡ c
circuit_read_written c = λ i. record { number = le32_bytes32 c.number i; first = le16_bytes16 c.first i; last = le16_bytes16 c.last i }

-- 8 bytes are what the circuit in them is written as
pub circuit_written_read : (r : List ℕ) → length r ≡ 8 → ((i : ℕ) → get_or r i 0 < 256) → circuit_bytes (circuit_of r) ≡ r
circuit_written_read = wide_written_read

-- a circuit whose fields fit is written as 8 bytes
pub circuit_bytes_lem : (c : Circuit) → c.number < 4294967296 → c.first < 65536 → c.last < 65536
    → (length (circuit_bytes c) ≡ 8) × ((i : ℕ) → get_or (circuit_bytes c) i 0 < 256)
circuit_bytes_lem c = wide_bytes c.number c.first c.last

-- a fibre that is written is read back as it was
pub fibre_read_written : (f : FibreRecord) → fibre_of (fibre_bytes f) ≡ f
fibre_read_written f =
    λ i. record {
      number = le16_bytes16 f.number i;
      first = le16_bytes16 f.first i;
      last = le16_bytes16 f.last i;
      layer = le16_bytes16 f.layer i;
    }

-- 8 bytes are what the fibre in them is written as
pub fibre_written_read : (r : List ℕ) → length r ≡ 8 → ((i : ℕ) → get_or r i 0 < 256) → fibre_bytes (fibre_of r) ≡ r
unfolding encode
fibre_written_read = four_written_read

-- a fibre whose fields fit is written as 8 bytes
pub fibre_bytes_lem : (f : FibreRecord) → f.number < 65536 → f.first < 65536 → f.last < 65536 → f.layer < 65536
    → (length (fibre_bytes f) ≡ 8) × ((i : ℕ) → get_or (fibre_bytes f) i 0 < 256)
unfolding encode
fibre_bytes_lem f = four_bytes f.number f.first f.last f.layer

-- an assignment that is written is read back as it was
pub assignment_read_written : (a : AssignmentRecord) → assignment_of (assignment_bytes a) ≡ a
assignment_read_written a =
    λ i. record { circuit = le32_bytes32 a.circuit i; fibre = le16_bytes16 a.fibre i; wavelength = le16_bytes16 a.wavelength i }

-- 8 bytes are what the assignment in them is written as
pub assignment_written_read : (r : List ℕ) → length r ≡ 8 → ((i : ℕ) → get_or r i 0 < 256) → assignment_bytes (assignment_of r) ≡ r
assignment_written_read = wide_written_read

-- an assignment whose fields fit is written as 8 bytes
pub assignment_bytes_lem : (a : AssignmentRecord) → a.circuit < 4294967296 → a.fibre < 65536 → a.wavelength < 65536
    → (length (assignment_bytes a) ≡ 8) × ((i : ℕ) → get_or (assignment_bytes a) i 0 < 256)
assignment_bytes_lem a = wide_bytes a.circuit a.fibre a.wavelength
