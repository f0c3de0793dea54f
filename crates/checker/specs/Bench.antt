-- Bench cases of the check: each rule broken alone, two faults at once, and refusals. `proofs/Bench.antt` shows `bench_holds`, that each does.
-- Assumes nothing.
use Rattle.std.specs.Prelude.{ℕ, List, [], ◌∷◌, ◌≡◌, Some, None, Result, Ok}
use Rattle.records.specs.declared.Circuit.{Circuit}
use Rattle.records.specs.declared.FibreRecord.{FibreRecord}
use Rattle.records.specs.declared.AssignmentRecord.{AssignmentRecord}
use Rattle.records.specs.declared.Line.{Line}
use Rattle.refusals.specs.Table.{verdict}
use Rattle.refusals.specs.Bench.{refused}
use Rattle.refusals.specs.declared.Refusal.{Refusal}
use Rattle.refusals.specs.declared.Reason.TheVariants.{PartRecord, Links, Wavelengths, NumberZero, WrongEnd, NumberTwice, Grid, PartList}
use Rattle.refusals.specs.declared.End.TheVariants.{FirstPastLast}
use Rattle.checker.specs.Checked.{check_table, found, checked}
use Rattle.checker.specs.declared.Finding.{Finding}
use Rattle.checker.specs.declared.Finding.TheVariants.{Yes, No}

-- what a case says
pub data Case : Type 0 where
  -- what is found of lists of records, on grid 1
  case : (n w : ℕ) → List Circuit → List FibreRecord → List AssignmentRecord → Finding → Case
  -- what is answered of bytes
  bytes : (n w grid : ℕ) → (circuits fibres assigns : List ℕ) → Result Finding Refusal → Case
  -- what the tests say of the circuit bytes and the lengths of the two lists, on grid 1
  lengths : (n w : ℕ) → List ℕ → (fibres assigns : ℕ) → Result ℕ Refusal → Case

-- a line of n links with w wavelengths of a grid
abbrev pub on : ℕ → ℕ → ℕ → Line
on n w grid = record { links = n; wavelengths = w; grid = grid }

-- a case holds
abbrev pub Holds : Case → Type 0
Holds (case n w cs fs gs finding) = found (on n w 1) cs fs gs ≡ finding
Holds (bytes n w grid s fibres assigns finding) = checked (on n w grid) s fibres assigns ≡ finding
Holds (lengths n w s fibres assigns test) = verdict (check_table (on n w 1) s fibres assigns) 0 ≡ test

-- every case of a table holds
abbrev pub AllHold : List Case → Type 0
AllHold [] = Unit {0}
AllHold (c ∷ cases) = Holds c × AllHold cases

-- circuit m [a, b]
abbrev pub c : ℕ → ℕ → ℕ → Circuit
c m a b = record { number = m; first = a; last = b }

-- fibre q [a, b] of layer h
abbrev pub f : ℕ → ℕ → ℕ → ℕ → FibreRecord
f q a b h = record { number = q; first = a; last = b; layer = h }

-- circuit m has fibre q, wavelength v
abbrev pub g : ℕ → ℕ → ℕ → AssignmentRecord
g m q v = record { circuit = m; fibre = q; wavelength = v }

-- the rules
unfoldable pub rulings : List Case
rulings =
    -- no circuits, and no plan
    case 1 1 [] [] [] (Yes 0 0) ∷
    -- the listing's plan
    case 5 2 (c 10 1 3 ∷ c 20 2 5 ∷ c 30 1 2 ∷ c 40 4 5 ∷ []) (f 1 2 2 1 ∷ f 2 2 2 1 ∷ f 3 1 5 2 ∷ f 4 1 5 2 ∷ []) (g 10 3 2 ∷ g 20 4 1 ∷ g 30 3 1 ∷ g 40 3 2 ∷ []) (Yes 12 6) ∷
    -- and what R-1 makes of it
    case 5 2 (c 10 1 3 ∷ c 20 2 5 ∷ c 30 1 2 ∷ c 40 4 5 ∷ []) (f 1 1 5 2 ∷ f 2 2 5 2 ∷ []) (g 10 1 2 ∷ g 20 2 1 ∷ g 30 1 1 ∷ g 40 1 2 ∷ []) (Yes 9 6) ∷
    -- two circuits on two wavelengths of one fibre, and one that carries nothing
    case 3 2 (c 7 1 2 ∷ c 9 2 3 ∷ []) (f 1 1 3 1 ∷ f 2 2 3 1 ∷ []) (g 7 1 1 ∷ g 9 1 2 ∷ []) (Yes 5 3) ∷
    -- the layer is ignored
    case 3 2 (c 7 1 2 ∷ c 9 2 3 ∷ []) (f 1 1 3 0 ∷ f 2 2 3 65535 ∷ []) (g 7 1 1 ∷ g 9 1 2 ∷ []) (Yes 5 3) ∷
    -- on two fibres with one wavelength
    case 3 2 (c 7 1 2 ∷ c 9 2 3 ∷ []) (f 1 1 3 1 ∷ f 2 2 3 1 ∷ []) (g 7 1 1 ∷ g 9 2 1 ∷ []) (Yes 5 3) ∷
    -- circuits that meet at a hut and share no link
    case 3 2 (c 7 1 2 ∷ c 9 3 3 ∷ []) (f 1 1 3 1 ∷ f 2 2 3 1 ∷ []) (g 7 1 1 ∷ g 9 1 1 ∷ []) (Yes 5 3) ∷
    -- 1: the number of the second fibre isn't its place
    case 3 2 (c 7 1 2 ∷ c 9 2 3 ∷ []) (f 1 1 3 1 ∷ f 3 2 3 1 ∷ []) (g 7 1 1 ∷ g 9 1 2 ∷ []) (No 1 2) ∷
    -- 1: numbered from 0
    case 3 2 (c 7 1 2 ∷ c 9 2 3 ∷ []) (f 0 1 3 1 ∷ f 1 2 3 1 ∷ []) (g 7 1 1 ∷ g 9 1 2 ∷ []) (No 1 1) ∷
    -- 2: first link 0
    case 3 2 (c 7 1 2 ∷ c 9 2 3 ∷ []) (f 1 0 3 1 ∷ f 2 2 3 1 ∷ []) (g 7 1 1 ∷ g 9 1 2 ∷ []) (No 2 1) ∷
    -- 2: first past last
    case 3 2 (c 7 1 2 ∷ c 9 2 3 ∷ []) (f 1 1 3 1 ∷ f 2 3 2 1 ∷ []) (g 7 1 1 ∷ g 9 1 2 ∷ []) (No 2 2) ∷
    -- 2: last past the line
    case 3 2 (c 7 1 2 ∷ c 9 2 3 ∷ []) (f 1 1 3 1 ∷ f 2 2 4 1 ∷ []) (g 7 1 1 ∷ g 9 1 2 ∷ []) (No 2 2) ∷
    -- 3: too few assignments
    case 3 2 (c 7 1 2 ∷ c 9 2 3 ∷ []) (f 1 1 3 1 ∷ f 2 2 3 1 ∷ []) (g 7 1 1 ∷ []) (No 3 0) ∷
    -- 3: too many assignments
    case 3 2 (c 7 1 2 ∷ c 9 2 3 ∷ []) (f 1 1 3 1 ∷ f 2 2 3 1 ∷ []) (g 7 1 1 ∷ g 9 1 2 ∷ g 9 1 2 ∷ []) (No 3 0) ∷
    -- 4: not in the order of the file
    case 3 2 (c 7 1 2 ∷ c 9 2 3 ∷ []) (f 1 1 3 1 ∷ f 2 2 3 1 ∷ []) (g 9 1 2 ∷ g 7 1 1 ∷ []) (No 4 1) ∷
    -- 5: fibre 0
    case 3 2 (c 7 1 2 ∷ c 9 2 3 ∷ []) (f 1 1 3 1 ∷ f 2 2 3 1 ∷ []) (g 7 0 1 ∷ g 9 1 2 ∷ []) (No 5 1) ∷
    -- 5: one fibre more than there are
    case 3 2 (c 7 1 2 ∷ c 9 2 3 ∷ []) (f 1 1 3 1 ∷ f 2 2 3 1 ∷ []) (g 7 1 1 ∷ g 9 3 2 ∷ []) (No 5 2) ∷
    -- 6: the circuit begins before its fibre
    case 3 2 (c 7 1 2 ∷ c 9 2 3 ∷ []) (f 1 1 3 1 ∷ f 2 2 3 1 ∷ []) (g 7 2 1 ∷ g 9 1 2 ∷ []) (No 6 1) ∷
    -- 6: the circuit ends after its fibre
    case 3 2 (c 7 1 2 ∷ c 9 2 3 ∷ []) (f 1 1 3 1 ∷ f 2 1 2 1 ∷ []) (g 7 1 1 ∷ g 9 2 2 ∷ []) (No 6 2) ∷
    -- 7: wavelength 0
    case 3 2 (c 7 1 2 ∷ c 9 2 3 ∷ []) (f 1 1 3 1 ∷ f 2 2 3 1 ∷ []) (g 7 1 0 ∷ g 9 1 2 ∷ []) (No 7 1) ∷
    -- 7: one wavelength more than there are
    case 3 2 (c 7 1 2 ∷ c 9 2 3 ∷ []) (f 1 1 3 1 ∷ f 2 2 3 1 ∷ []) (g 7 1 1 ∷ g 9 1 3 ∷ []) (No 7 2) ∷
    -- 8: the same fibre and wavelength on link 2
    case 3 2 (c 7 1 2 ∷ c 9 2 3 ∷ []) (f 1 1 3 1 ∷ f 2 2 3 1 ∷ []) (g 7 1 1 ∷ g 9 1 1 ∷ []) (No 8 2) ∷
    -- 8: its place is the later one of two that clash, though one stands between
    case 3 2 (c 7 1 2 ∷ c 9 2 3 ∷ c 11 1 1 ∷ []) (f 1 1 3 1 ∷ f 2 2 3 1 ∷ []) (g 7 1 1 ∷ g 9 1 2 ∷ g 11 1 1 ∷ []) (No 8 3) ∷
    -- 8: of three that clash, the second
    case 3 2 (c 7 1 2 ∷ c 9 2 3 ∷ c 8 2 2 ∷ []) (f 1 1 3 1 ∷ f 2 2 3 1 ∷ []) (g 7 1 1 ∷ g 9 1 1 ∷ g 8 1 1 ∷ []) (No 8 2) ∷
    -- the first faulty fibre, and not the lowest rule of all
    case 3 2 (c 7 1 2 ∷ c 9 2 3 ∷ []) (f 1 0 3 1 ∷ f 3 2 3 1 ∷ []) (g 7 1 1 ∷ g 9 1 2 ∷ []) (No 2 1) ∷
    -- a fibre that breaks rules 1 and 2
    case 3 2 (c 7 1 2 ∷ c 9 2 3 ∷ []) (f 1 1 3 1 ∷ f 3 2 4 1 ∷ []) (g 7 1 1 ∷ g 9 1 2 ∷ []) (No 1 2) ∷
    -- the first faulty assignment, and not the lowest rule of all
    case 3 2 (c 7 1 2 ∷ c 9 2 3 ∷ []) (f 1 1 3 1 ∷ f 2 2 3 1 ∷ []) (g 7 1 3 ∷ g 8 1 1 ∷ []) (No 7 1) ∷
    -- an assignment that breaks rules 4, 5 and 7
    case 3 2 (c 7 1 2 ∷ c 9 2 3 ∷ []) (f 1 1 3 1 ∷ f 2 2 3 1 ∷ []) (g 7 1 1 ∷ g 8 3 3 ∷ []) (No 4 2) ∷
    -- an assignment that breaks rules 5 and 7
    case 3 2 (c 7 1 2 ∷ c 9 2 3 ∷ []) (f 1 1 3 1 ∷ f 2 2 3 1 ∷ []) (g 7 1 1 ∷ g 9 3 3 ∷ []) (No 5 2) ∷
    -- an assignment that breaks rules 6 and 7
    case 3 2 (c 7 1 2 ∷ c 9 2 3 ∷ []) (f 1 1 3 1 ∷ f 2 2 3 1 ∷ []) (g 7 2 3 ∷ g 9 1 2 ∷ []) (No 6 1) ∷
    -- an assignment that breaks rules 6 and 8
    case 3 2 (c 7 2 2 ∷ c 9 1 2 ∷ []) (f 1 1 3 1 ∷ f 2 2 3 1 ∷ []) (g 7 2 1 ∷ g 9 2 1 ∷ []) (No 6 2) ∷
    -- an assignment that breaks rules 4 and 6
    case 3 2 (c 7 1 2 ∷ c 9 2 3 ∷ []) (f 1 1 3 1 ∷ f 2 2 3 1 ∷ []) (g 8 2 1 ∷ g 9 1 2 ∷ []) (No 4 1) ∷
    -- an assignment that breaks rules 4 and 7
    case 3 2 (c 7 1 2 ∷ c 9 2 3 ∷ []) (f 1 1 3 1 ∷ f 2 2 3 1 ∷ []) (g 8 1 3 ∷ g 9 1 2 ∷ []) (No 4 1) ∷
    -- an assignment that breaks rules 4 and 8
    case 3 2 (c 7 1 2 ∷ c 9 2 3 ∷ []) (f 1 1 3 1 ∷ f 2 2 3 1 ∷ []) (g 7 1 1 ∷ g 8 1 1 ∷ []) (No 4 2) ∷
    -- 5 at place 1 before 4 at place 2
    case 3 2 (c 7 1 2 ∷ c 9 2 3 ∷ []) (f 1 1 3 1 ∷ f 2 2 3 1 ∷ []) (g 7 3 1 ∷ g 8 1 2 ∷ []) (No 5 1) ∷
    -- 6 at place 1 before 5 at place 2
    case 3 2 (c 7 1 2 ∷ c 9 2 3 ∷ []) (f 1 1 3 1 ∷ f 2 2 3 1 ∷ []) (g 7 2 1 ∷ g 9 3 2 ∷ []) (No 6 1) ∷
    -- 6 at place 1 before 4 at place 2
    case 3 2 (c 7 1 2 ∷ c 9 2 3 ∷ []) (f 1 1 3 1 ∷ f 2 2 3 1 ∷ []) (g 7 2 1 ∷ g 8 1 2 ∷ []) (No 6 1) ∷
    -- 7 at place 1 before 6 at place 2
    case 3 2 (c 7 1 2 ∷ c 9 2 3 ∷ []) (f 1 1 3 1 ∷ f 2 1 2 1 ∷ []) (g 7 1 3 ∷ g 9 2 2 ∷ []) (No 7 1) ∷
    -- 7 at place 1 before 5 at place 2
    case 3 2 (c 7 1 2 ∷ c 9 2 3 ∷ []) (f 1 1 3 1 ∷ f 2 2 3 1 ∷ []) (g 7 1 3 ∷ g 9 3 2 ∷ []) (No 7 1) ∷
    -- 8 at place 2 before 4 at place 3
    case 3 2 (c 7 1 2 ∷ c 9 2 3 ∷ c 11 1 1 ∷ []) (f 1 1 3 1 ∷ f 2 2 3 1 ∷ []) (g 7 1 1 ∷ g 9 1 1 ∷ g 12 1 2 ∷ []) (No 8 2) ∷
    -- 8 at place 2 before 5 at place 3
    case 3 2 (c 7 1 2 ∷ c 9 2 3 ∷ c 11 1 1 ∷ []) (f 1 1 3 1 ∷ f 2 2 3 1 ∷ []) (g 7 1 1 ∷ g 9 1 1 ∷ g 11 3 2 ∷ []) (No 8 2) ∷
    -- 8 at place 2 before 6 at place 3
    case 3 2 (c 7 1 2 ∷ c 9 2 3 ∷ c 11 1 1 ∷ []) (f 1 1 3 1 ∷ f 2 2 3 1 ∷ []) (g 7 1 1 ∷ g 9 1 1 ∷ g 11 2 2 ∷ []) (No 8 2) ∷
    -- 8 at place 2 before 7 at place 3
    case 3 2 (c 7 1 2 ∷ c 9 2 3 ∷ c 11 1 1 ∷ []) (f 1 1 3 1 ∷ f 2 2 3 1 ∷ []) (g 7 1 1 ∷ g 9 1 1 ∷ g 11 1 3 ∷ []) (No 8 2) ∷
    -- 7 at place 2 before 8 at place 3
    case 3 2 (c 7 1 2 ∷ c 9 2 3 ∷ c 11 1 1 ∷ []) (f 1 1 3 1 ∷ f 2 2 3 1 ∷ []) (g 7 1 1 ∷ g 9 1 3 ∷ g 11 1 1 ∷ []) (No 7 2) ∷
    -- a wrong count before a clash
    case 3 2 (c 7 1 2 ∷ c 9 2 3 ∷ c 11 1 1 ∷ []) (f 1 1 3 1 ∷ f 2 2 3 1 ∷ []) (g 7 1 1 ∷ g 9 1 1 ∷ []) (No 3 0) ∷
    -- a clash at place 2 before another fault at place 3
    case 3 2 (c 7 1 2 ∷ c 9 2 3 ∷ c 11 1 1 ∷ []) (f 1 1 3 1 ∷ f 2 2 3 1 ∷ []) (g 7 1 1 ∷ g 9 1 1 ∷ g 11 0 0 ∷ []) (No 8 2) ∷
    -- a wrong count before a faulty assignment
    case 3 2 (c 7 1 2 ∷ c 9 2 3 ∷ []) (f 1 1 3 1 ∷ f 2 2 3 1 ∷ []) (g 8 0 0 ∷ []) (No 3 0) ∷
    -- too many assignments, and a faulty one among them
    case 3 2 (c 7 1 2 ∷ c 9 2 3 ∷ []) (f 1 1 3 1 ∷ f 2 2 3 1 ∷ []) (g 7 1 1 ∷ g 8 0 0 ∷ g 9 1 2 ∷ []) (No 3 0) ∷
    -- 1 at the second fibre before a wrong count
    case 3 2 (c 7 1 2 ∷ c 9 2 3 ∷ []) (f 1 1 3 1 ∷ f 3 2 3 1 ∷ []) (g 7 1 1 ∷ []) (No 1 2) ∷
    -- 2 at the second fibre before a wrong count
    case 3 2 (c 7 1 2 ∷ c 9 2 3 ∷ []) (f 1 1 3 1 ∷ f 2 2 4 1 ∷ []) (g 7 1 1 ∷ []) (No 2 2) ∷
    -- a faulty fibre that carries nothing, before a faulty assignment
    case 3 2 (c 7 1 2 ∷ c 9 2 3 ∷ []) (f 1 1 3 1 ∷ f 2 2 4 1 ∷ []) (g 8 1 1 ∷ g 9 1 2 ∷ []) (No 2 2) ∷
    []

-- BYTES. Circuit 7 [1, 1]
abbrev pub circuit7 : List ℕ
circuit7 = 7 ∷ 0 ∷ 0 ∷ 0 ∷ 1 ∷ 0 ∷ 1 ∷ 0 ∷ []

-- fibre 1 [1, 1] of layer 1
abbrev pub fibre1 : List ℕ
fibre1 = 1 ∷ 0 ∷ 1 ∷ 0 ∷ 1 ∷ 0 ∷ 1 ∷ 0 ∷ []

-- circuit 7 on fibre 1 with wavelength 1
abbrev pub on_wavelength_1 : List ℕ
on_wavelength_1 = 7 ∷ 0 ∷ 0 ∷ 0 ∷ 1 ∷ 0 ∷ 1 ∷ 0 ∷ []

-- and with wavelength 41
abbrev pub on_wavelength_41 : List ℕ
on_wavelength_41 = 7 ∷ 0 ∷ 0 ∷ 0 ∷ 1 ∷ 0 ∷ 41 ∷ 0 ∷ []

-- circuit 7 twice
abbrev pub twice7 : List ℕ
twice7 = 7 ∷ 0 ∷ 0 ∷ 0 ∷ 1 ∷ 0 ∷ 1 ∷ 0 ∷ 7 ∷ 0 ∷ 0 ∷ 0 ∷ 1 ∷ 0 ∷ 1 ∷ 0 ∷ []

-- circuit 1 [2, 1], and circuit 0 [1, 1]
abbrev pub ends_number : List ℕ
ends_number = 1 ∷ 0 ∷ 0 ∷ 0 ∷ 2 ∷ 0 ∷ 1 ∷ 0 ∷ 0 ∷ 0 ∷ 0 ∷ 0 ∷ 1 ∷ 0 ∷ 1 ∷ 0 ∷ []

-- circuit 4 [1, 1] twice, and circuit 5 [2, 1]
abbrev pub twice_ends : List ℕ
twice_ends = 4 ∷ 0 ∷ 0 ∷ 0 ∷ 1 ∷ 0 ∷ 1 ∷ 0 ∷ 4 ∷ 0 ∷ 0 ∷ 0 ∷ 1 ∷ 0 ∷ 1 ∷ 0 ∷ 5 ∷ 0 ∷ 0 ∷ 0 ∷ 2 ∷ 0 ∷ 1 ∷ 0 ∷ []

-- the refusals, and answers about bytes
unfoldable pub refusals : List Case
refusals =
    bytes 1 1 1 circuit7 fibre1 on_wavelength_1 (Ok (Yes 1 1)) ∷
    -- no assignment
    bytes 1 1 1 circuit7 fibre1 [] (Ok (No 3 0)) ∷
    -- a fibre list that isn't whole records
    bytes 1 1 1 circuit7 (1 ∷ []) on_wavelength_1 (refused PartList 1 None) ∷
    -- an assignment list that isn't whole records
    bytes 1 1 1 circuit7 fibre1 (1 ∷ []) (refused PartList 2 None) ∷
    -- both
    bytes 1 1 1 circuit7 (1 ∷ []) (1 ∷ []) (refused PartList 1 None) ∷
    -- a repeated number before a broken list
    bytes 1 1 1 twice7 (1 ∷ []) on_wavelength_1 (refused NumberTwice 2 None) ∷
    -- no wavelength before a repeated number
    bytes 1 0 1 twice7 fibre1 on_wavelength_1 (refused Wavelengths 0 None) ∷
    -- part of a circuit
    bytes 1 1 1 (7 ∷ []) fibre1 on_wavelength_1 (refused PartRecord 0 None) ∷
    -- no link and no wavelength, and 3 before 4
    bytes 0 0 1 [] [] [] (refused Links 0 None) ∷
    -- a number 0 at place 2 before wrong ends at place 1
    bytes 1 1 1 ends_number [] [] (refused NumberZero 2 None) ∷
    -- wrong ends at place 3 before a number that stands twice, and which end is wrong
    bytes 1 1 1 twice_ends [] [] (refused WrongEnd 3 (Some FirstPastLast)) ∷
    -- the longest line, and the most wavelengths of each grid
    bytes 512 40 1 [] [] [] (Ok (Yes 0 0)) ∷
    bytes 1 80 2 [] [] [] (Ok (Yes 0 0)) ∷
    -- one link more, and one wavelength more
    bytes 513 40 1 [] [] [] (refused Links 0 None) ∷
    bytes 1 41 1 [] [] [] (refused Wavelengths 0 None) ∷
    bytes 1 81 2 [] [] [] (refused Wavelengths 0 None) ∷
    -- grids that there are not: after 3, before 4 and before the records
    bytes 1 1 0 [] [] [] (refused Grid 0 None) ∷
    bytes 1 0 3 twice7 (1 ∷ []) on_wavelength_1 (refused Grid 0 None) ∷
    bytes 0 1 3 [] [] [] (refused Links 0 None) ∷
    -- wavelength 41 on grid 2
    bytes 1 41 2 circuit7 fibre1 on_wavelength_41 (Ok (Yes 1 1)) ∷
    -- and on grid 1, where there are 40
    bytes 1 40 1 circuit7 fibre1 on_wavelength_41 (Ok (No 7 1)) ∷
    -- the longest lists, and one record more
    lengths 1 1 [] 32768 16384 (Ok 0) ∷
    lengths 1 1 [] 32776 16384 (refused PartList 1 None) ∷
    lengths 1 1 [] 32768 16392 (refused PartList 2 None) ∷
    lengths 1 1 [] 32776 16392 (refused PartList 1 None) ∷
    []
