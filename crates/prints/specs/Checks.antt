-- What the check program prints, from the four files of its folder. What a reader must believe.
-- `proofs/CheckLaws.antt` shows `check_first_bytes`, that what the program leaves unread of long files changes nothing,
-- and `proofs/KeepingLaws.antt` shows `kept_checked`, that the lists which `lists` keeps get a yes.
-- Assumes nothing.
use Rattle.std.specs.Prelude.{ℕ, ◌≡◌, List, take, Option, Some, None, Result, Ok, Err}
use Rattle.records.specs.LineFiles.{line_in}
use Rattle.records.specs.Records.{circuits_of}
use Rattle.records.specs.declared.Line.{Line}
use Rattle.method.specs.Fibres.{floor}
use Rattle.method.specs.Line.{total}
use Rattle.refusals.specs.declared.Refusal.{Refusal}
use Rattle.planner.specs.Outcome.{plan_of}
use Rattle.checker.specs.Checked.{checked}
use Rattle.checker.specs.declared.Finding.{Finding}
use Rattle.checker.specs.declared.Finding.TheVariants.{Yes, No}
use Rattle.sheet_text.specs.Text.{yes_line, no_line, refusal_line}
use Rattle.files.specs.declared.Start.{Start}
use Rattle.prints.specs.Reads.{Into, SheetRead}
use Rattle.prints.specs.Sheets.{unread}

-- the one line of a finding or of a refusal
abbrev pub finding_text : Result Finding Refusal → List ℕ
finding_text (Ok (Yes long its_floor)) = yes_line long its_floor
finding_text (Ok (No rule place)) = no_line rule place
finding_text (Err r) = refusal_line r

-- the line for circuit bytes s and the two lists on a line
unfoldable pub check_of : Line → List ℕ → List ℕ → List ℕ → List ℕ
check_of line s fibres assigns = finding_text (checked line s fibres assigns)

-- what `line.rec` says comes first, and then at most the first 16,392 bytes of `circuits.rec` count, as for the sheet
abbrev pub check_printed_by : Option Line → List ℕ → List ℕ → List ℕ → List ℕ
check_printed_by None s fibres assigns = unread
check_printed_by (Some line) s fibres assigns = check_of line (take 16392 s) fibres assigns

-- what is printed, from `line.rec`, `circuits.rec`, `fibres.rec` and `assign.rec`: none where the file cannot be read, else its bytes; 11 comes before all others
unfoldable pub check_printed : Option (List ℕ) → Option (List ℕ) → Option (List ℕ) → Option (List ℕ) → List ℕ
check_printed None circuits fibres assigns = unread
check_printed (Some line) None fibres assigns = unread
check_printed (Some line) (Some circuits) None assigns = unread
check_printed (Some line) (Some circuits) (Some fibres) None = unread
check_printed (Some line) (Some circuits) (Some fibres) (Some assigns) = check_printed_by (line_in line) circuits fibres assigns

-- the yes line of the plan's own total and floor, for circuit bytes s on a line
abbrev pub plan_yes : Line → List ℕ → List ℕ
plan_yes line s = yes_line (total (plan_of line s).fibres) (floor line.links line.wavelengths (circuits_of s))

-- `line.rec` is a line, and what is printed is that yes of as many bytes of `circuits.rec` as count
pub record PrintsYes (line circuits fibres assigns : List ℕ) : Type 0 where
  pub said : Line
  pub is_line : line_in line ≡ Some said
  pub prints : check_printed (Some line) (Some circuits) (Some fibres) (Some assigns) ≡ plan_yes said (take 16392 circuits)

-- what the check program read: two files as the sheet program reads them, and a record more of each list than it may have, which tells that it is too long
pub record CheckRead (line circuits fibres assigns : Option Start) : Type 0 where
  pub sheet_read : SheetRead line circuits
  pub fibres_read : Into 32776 fibres
  pub assigns_read : Into 16392 assigns
