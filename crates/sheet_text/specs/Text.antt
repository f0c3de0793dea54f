-- The lines of the sheet and of a check, byte for byte. What a reader must believe.
-- Assumes nothing.
use Rattle.std.specs.Prelude.{ℕ, zero, suc, List, [], ◌∷◌, ◌++◌, nat_abs}
use Rattle.text.specs.Decimals.{decimal}
use Rattle.grid.specs.Frequencies.{frequency_of}
use Rattle.records.specs.Records.{record_at, fibre_of, assignment_of}
use Rattle.records.specs.declared.FibreRecord.{FibreRecord}
use Rattle.records.specs.declared.AssignmentRecord.{AssignmentRecord}
use Rattle.refusals.specs.Refusals.{number_of, end_told}
use Rattle.refusals.specs.declared.Refusal.{Refusal}

-- a space and x, for each x
unfoldable pub fields : List ℕ → List ℕ
fields [] = []
fields (x ∷ xs) = (32 ∷ decimal x) ++ fields xs

-- a line: a letter, its fields, and a newline
unfoldable pub line : ℕ → List ℕ → List ℕ
line letter xs = (letter ∷ fields xs) ++ (10 ∷ [])

-- F: fibre, first link, last link, layer
unfoldable pub fibre_line : FibreRecord → List ℕ
fibre_line f = line 70 (f.number ∷ f.first ∷ f.last ∷ f.layer ∷ [])

-- C: circuit, fibre, wavelength, frequency on the grid in GHz
unfoldable pub circuit_line : ℕ → AssignmentRecord → List ℕ
circuit_line grid a = line 67 (a.circuit ∷ a.fibre ∷ a.wavelength ∷ nat_abs (frequency_of grid a.wavelength) ∷ [])

-- T: fibres, total length, floor
unfoldable pub total_line : ℕ → ℕ → ℕ → List ℕ
total_line fibres total floor = line 84 (fibres ∷ total ∷ floor ∷ [])

-- R: number, place, which end is wrong
unfoldable pub refusal_numbers : ℕ → ℕ → ℕ → List ℕ
refusal_numbers number place end = line 82 (number ∷ place ∷ end ∷ [])

-- R: the numbers of a refusal
unfoldable pub refusal_line : Refusal → List ℕ
refusal_line r = refusal_numbers (number_of r.reason) r.place (end_told r.end)

-- Y: total length, floor
unfoldable pub yes_line : ℕ → ℕ → List ℕ
yes_line total floor = line 89 (total ∷ floor ∷ [])

-- N: the first broken rule, its place
unfoldable pub no_line : ℕ → ℕ → List ℕ
no_line rule place = line 78 (rule ∷ place ∷ [])

-- the lines of the first k fibre records
unfoldable pub fibre_lines : ℕ → List ℕ → List ℕ
fibre_lines zero fibres = []
fibre_lines (suc k) fibres = fibre_lines k fibres ++ fibre_line (fibre_of (record_at fibres k))

-- the lines of the first m assignment records
unfoldable pub circuit_lines : ℕ → ℕ → List ℕ → List ℕ
circuit_lines grid zero assigns = []
circuit_lines grid (suc m) assigns = circuit_lines grid m assigns ++ circuit_line grid (assignment_of (record_at assigns m))

-- the sheet of k fibres and m circuits on a grid
unfoldable pub sheet_text : ℕ → ℕ → ℕ → List ℕ → List ℕ → ℕ → ℕ → List ℕ
sheet_text grid k m fibres assigns total floor = fibre_lines k fibres ++ circuit_lines grid m assigns ++ total_line k total floor
