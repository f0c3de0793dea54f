-- What the sheet program prints, from the two files of its folder. What a reader must believe.
-- Assumes nothing.
use Rattle.std.specs.Prelude.{ℕ, ◌/◌, List, length, take, Option, Some, None, Result}
use Rattle.records.specs.LineFiles.{line_in}
use Rattle.records.specs.Records.{circuits_of}
use Rattle.records.specs.declared.Circuit.{Circuit}
use Rattle.records.specs.declared.Line.{Line}
use Rattle.method.specs.Fibres.{floor}
use Rattle.method.specs.Line.{Plan, total}
use Rattle.refusals.specs.Refusals.{refusal_in, if_refused}
use Rattle.refusals.specs.Table.{verdict, circuit_rows}
use Rattle.refusals.specs.declared.Refusal.{Refusal}
use Rattle.refusals.specs.declared.Reason.TheVariants.{Unread}
use Rattle.register.specs.Lists.{fibre_records, assignment_records}
use Rattle.planner.specs.Outcome.{plan_of}
use Rattle.sheet_text.specs.Text.{sheet_text, refusal_line}

-- the lines of plan p of circuits cs on a grid, with the floor
unfoldable pub plan_text : ℕ → List Circuit → Plan → ℕ → List ℕ
plan_text grid cs p floor = sheet_text grid (length p.fibres) (length cs) (fibre_records 0 p.fibres) (assignment_records 0 cs p.assignments) (total p.fibres) floor

-- a refusal is one line, and nothing else is printed then
abbrev pub text_by : Result ℕ Refusal → List ℕ → List ℕ
text_by v sheet = if_refused (refusal_in v) refusal_line sheet

-- the text for circuit bytes s on a line: tests 1 to 7 and 12, and then the plan; 8, 9 and 10 never come, since the program lends enough
unfoldable pub sheet_of : Line → List ℕ → List ℕ
sheet_of line s = text_by (verdict (circuit_rows line s) (length s / 8)) (plan_text line.grid (circuits_of s) (plan_of line s) (floor line.links line.wavelengths (circuits_of s)))

-- refusal 11, which only the program gives
abbrev pub unread : List ℕ
unread = refusal_line (record { reason = Unread; place = 0; end = None })

-- what `line.rec` says comes first, and then at most the first 16,392 bytes of `circuits.rec` count
abbrev pub printed_by : Option Line → List ℕ → List ℕ
printed_by None s = unread
printed_by (Some line) s = sheet_of line (take 16392 s)

-- what is printed, from `line.rec` and `circuits.rec`: none where the file cannot be read, else its bytes; 11 comes before all others
unfoldable pub printed : Option (List ℕ) → Option (List ℕ) → List ℕ
printed None circuits = unread
printed (Some line) None = unread
printed (Some line) (Some circuits) = printed_by (line_in line) circuits
