-- The three records of 8 bytes, and lists of them. What a reader must believe.
-- Assumes nothing.
use Rattle.std.specs.Prelude.{ℕ, ◌+◌, ◌*◌, ◌/◌, List, [], ◌∷◌, ◌++◌, length, take, drop}
use Rattle.basics.specs.Tools.{each}
use Rattle.records.specs.Bytes.{le16, le32, bytes16, bytes32}
use Rattle.records.specs.declared.Circuit.{Circuit}
use Rattle.records.specs.declared.FibreRecord.{FibreRecord}
use Rattle.records.specs.declared.AssignmentRecord.{AssignmentRecord}

-- the 8-byte part of s that is its record i, counted from 0
abbrev pub record_at : List ℕ → ℕ → List ℕ
record_at s i = take 8 (drop (8 * i) s)

-- READING. Circuit: number in bytes 0 to 3, first link in 4 and 5, last link in 6 and 7
abbrev pub circuit_of : List ℕ → Circuit
circuit_of r = record { number = le32 r 0; first = le16 r 4; last = le16 r 6 }

-- fibre: fibre number, first link, last link, layer
abbrev pub fibre_of : List ℕ → FibreRecord
fibre_of r = record { number = le16 r 0; first = le16 r 2; last = le16 r 4; layer = le16 r 6 }

-- assignment: circuit number in bytes 0 to 3, fibre number in 4 and 5, wavelength in 6 and 7
abbrev pub assignment_of : List ℕ → AssignmentRecord
assignment_of r = record { circuit = le32 r 0; fibre = le16 r 4; wavelength = le16 r 6 }

-- the number of circuit i of a file
abbrev pub number_in : List ℕ → ℕ → ℕ
number_in s i = (circuit_of (record_at s i)).number

-- the first m circuits of a file, in its order
unfoldable pub circuits_in : ℕ → List ℕ → List Circuit
circuits_in m s = each (λ i. circuit_of (record_at s i)) 0 m

-- all circuits of a file
abbrev pub circuits_of : List ℕ → List Circuit
circuits_of s = circuits_in (length s / 8) s

-- WRITING. The bytes of a circuit
abbrev pub circuit_bytes : Circuit → List ℕ
circuit_bytes c = bytes32 c.number ++ (bytes16 c.first ++ bytes16 c.last)

-- the bytes of a fibre
abbrev pub fibre_bytes : FibreRecord → List ℕ
fibre_bytes f = bytes16 f.number ++ (bytes16 f.first ++ (bytes16 f.last ++ bytes16 f.layer))

-- the bytes of an assignment
abbrev pub assignment_bytes : AssignmentRecord → List ℕ
assignment_bytes a = bytes32 a.circuit ++ (bytes16 a.fibre ++ bytes16 a.wavelength)

-- the bytes of a file of circuits
unfoldable pub file_of : List Circuit → List ℕ
file_of [] = []
file_of (c ∷ cs) = circuit_bytes c ++ file_of cs

-- s with the 8 bytes r as its record i, and all else as it was
unfoldable pub put_record : List ℕ → ℕ → List ℕ → List ℕ
put_record s i r = take (8 * i) s ++ (r ++ drop (8 * i + 8) s)
