-- What is lent to mending (R-11), and the report in bytes, 12 a line. What a reader must believe.
-- Assumes nothing.
use Rattle.std.specs.Prelude.{ℕ, ◌*◌, List, [], ◌∷◌, ◌++◌, length, drop, take}
use Rattle.basics.specs.Tools.{each}
use Rattle.records.specs.Bytes.{le16, le32, bytes16, bytes32}
use Rattle.mending.specs.Mending.{ReportLine}

-- the four lent areas, as bytes
pub record Lent : Type 0 where
  pub fibres : List ℕ
  pub assigns : List ℕ
  pub report : List ℕ
  pub work : List ℕ

-- the areas of these bytes
abbrev pub lent_areas : List ℕ → List ℕ → List ℕ → List ℕ → Lent
lent_areas fibres assigns report work = record { fibres = fibres; assigns = assigns; report = report; work = work }

-- WRITING. The bytes of a line: the circuit's number (4), the fibre and the wavelength found, the fibre and the wavelength given (2 each)
abbrev pub line_bytes : ReportLine → List ℕ
line_bytes l =
    bytes32 l.number
    ++ (bytes16 l.found.fibre ++ (bytes16 l.found.wavelength ++ (bytes16 l.given.fibre ++ bytes16 l.given.wavelength)))

-- the bytes of a report
unfoldable pub report_bytes : List ReportLine → List ℕ
report_bytes [] = []
report_bytes (l ∷ ls) = line_bytes l ++ report_bytes ls

-- the report buffer: the lines at its start, and the rest as it was
unfoldable pub report_list : List ReportLine → List ℕ → List ℕ
report_list ls report = report_bytes ls ++ drop (12 * length ls) report

-- READING. The line that 12 bytes hold
abbrev pub line_of_bytes : List ℕ → ReportLine
line_of_bytes r =
    record {
      number = le32 r 0;
      found = record { fibre = le16 r 4; wavelength = le16 r 6 };
      given = record { fibre = le16 r 8; wavelength = le16 r 10 };
    }

-- the first k lines of a report buffer
unfoldable pub report_in : ℕ → List ℕ → List ReportLine
report_in k report = each (λ t. line_of_bytes (take 12 (drop (12 * t) report))) 0 k
