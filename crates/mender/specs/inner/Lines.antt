-- Lines of the report that begin, and are filled in. Contracts inside the crate.
-- Assumes nothing.
use Rattle.std.specs.Prelude.{ℕ, ◌+◌, ◌*◌, Bool, cond, List, [], ◌∷◌, ◌++◌, drop, take}
use Rattle.records.specs.Bytes.{cell, set_cell}
use Rattle.records.specs.Records.{assignment_of, number_in, record_at}
use Rattle.records.specs.declared.AssignmentRecord.{AssignmentRecord}
use Rattle.register.specs.Plans.{place_of}
use Rattle.mending.specs.Mending.{ReportLine}

-- those of some places that pass
unfoldable pub passing : (ℕ → Bool) → List ℕ → List ℕ
passing who [] = []
passing who (j ∷ js) = cond (who j) (j ∷ passing who js) (passing who js)

-- a line, begun: a circuit's number, what was found, and, where `given` will stand, its place j in the file
abbrev pub begun_with : AssignmentRecord → ℕ → ReportLine
begun_with found j = record { number = found.circuit; found = place_of found; given = record { fibre = j; wavelength = 0 } }

-- that of the circuit at place j of file s, in whose place `assigns` has a record
abbrev pub begun_line : List ℕ → List ℕ → ℕ → ReportLine
begun_line s assigns j =
    record { number = number_in s j; found = place_of (assignment_of (record_at assigns j)); given = record { fibre = j; wavelength = 0 } }

-- and filled in, from the records as they are at the end
abbrev pub filled_line : List ℕ → List ℕ → List ℕ → ℕ → ReportLine
filled_line s before after j =
    record { number = number_in s j; found = place_of (assignment_of (record_at before j)); given = place_of (assignment_of (record_at after j)) }

-- a report with 12 bytes put in as line t
unfoldable pub put_line : List ℕ → ℕ → List ℕ → List ℕ
put_line report t line = take (12 * t) report ++ (line ++ drop (12 * t + 12) report)

-- a report in which `given` of line t becomes what record j of `assigns` gives, for the place j that stood there
unfoldable pub filled_in : List ℕ → ℕ → List ℕ → List ℕ
filled_in assigns t report =
    set_cell (set_cell report (6 * t + 4) (assignment_of (record_at assigns (cell report (6 * t + 4)))).fibre) (6 * t + 4 + 1)
    (assignment_of (record_at assigns (cell report (6 * t + 4)))).wavelength
