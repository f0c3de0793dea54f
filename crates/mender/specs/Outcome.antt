-- What `mend` answers, and what the four lent areas hold afterwards, for every input. What a reader must believe.
-- `mend` in `src/lib.rt` promises it; `specs/Seen.antt` says what a caller sees of it, and `specs/Bench.antt` works out calls.
-- Assumes nothing.
use Rattle.std.specs.Prelude.{ℕ, ◌+◌, ◌*◌, ◌/◌, ◌≡◌, List, length, drop, Result, Ok, Err}
use Rattle.records.specs.Records.{circuits_of}
use Rattle.records.specs.declared.AssignmentRecord.{AssignmentRecord}
use Rattle.records.specs.declared.Line.{Line}
use Rattle.method.specs.Line.{Fibre}
use Rattle.refusals.specs.Refusals.{refusal_in, if_refused}
use Rattle.refusals.specs.Table.{verdict}
use Rattle.refusals.specs.declared.Refusal.{Refusal}
use Rattle.register.specs.Areas.{zeroed_to}
use Rattle.register.specs.Lists.{assignment_records, behind, fibre_list}
use Rattle.register.specs.Plans.{plan_in}
use Rattle.register.specs.declared.Counts.{Counts}
use Rattle.planner.specs.Outcome.{if_accepted}
use Rattle.checker.specs.Checked.{assignments_in}
use Rattle.mending.specs.Mending as Lists
use Rattle.mending.specs.Mending.{Mend, mend_counts, mend_lines}
use Rattle.mender.specs.Report.{Lent, report_list}
use Rattle.mender.specs.Table.{mend_table}
use Rattle.mender.specs.declared.Mended.{Mended}

-- what `mend` answers: the three numbers of the plan and how many lines the report has, or a refusal
abbrev pub Answer : Type 0
Answer = Result Mended Refusal

-- mended, with these numbers and so many lines
abbrev pub mended_with : Counts → ℕ → Answer
mended_with counts lines = Ok (record { counts = counts; lines = lines })

-- the verdict of the tests: the first refusal that applies, or else how many circuits there are
unfoldable pub judged : Line → List ℕ → ℕ → Lent → Result ℕ Refusal
judged line s many lent = verdict (mend_table line s many lent) (length s / 8)

-- the fibres that there are
abbrev pub old_fibres : ℕ → Lent → List Fibre
old_fibres many lent = (plan_in many 0 lent.fibres lent.assigns).fibres

-- the damaged records, one for each circuit of file s
abbrev pub damaged : List ℕ → Lent → List AssignmentRecord
damaged s lent = assignments_in (length s / 8) lent.assigns

-- the plan and the report that mending makes of them
abbrev pub mended_to : Line → List ℕ → ℕ → Lent → Mend
mended_to line s many lent = Lists.mend line.links line.wavelengths (old_fibres many lent) (circuits_of s) (damaged s lent)

-- mended, with the three numbers of the plan and how many lines the report has, or refused, as the table says
abbrev pub answer_by : Result ℕ Refusal → Counts → ℕ → Answer
answer_by v counts lines = if_refused (refusal_in v) Err (mended_with counts lines)

-- the answer and every byte of the four lent areas
pub record Outcome (line : Line) (s : List ℕ) (many : ℕ) (before after : Lent) (answer : Answer) : Type 0 where
  pub answered : answer
      ≡ answer_by (judged line s many before) (mend_counts line.links line.wavelengths (old_fibres many before) (circuits_of s) (damaged s before))
      (mend_lines line.links line.wavelengths (old_fibres many before) (circuits_of s) (damaged s before))
  -- behind the old fibre records, which stay, those of the new fibres, numbered on; the rest as it was
  pub listed : after.fibres
      ≡ if_accepted (judged line s many before) (behind (8 * many) (fibre_list many (drop many (mended_to line s many before).plan.fibres)) before.fibres) before.fibres
  -- each circuit's own record, in the order of the file
  pub assigned : after.assigns ≡ if_accepted (judged line s many before) (assignment_records 0 (circuits_of s) (mended_to line s many before).plan.assignments) before.assigns
  -- the lines of the report; the rest as it was
  pub reported : after.report ≡ if_accepted (judged line s many before) (report_list (mended_to line s many before).report before.report) before.report
  pub cleared : after.work ≡ if_accepted (judged line s many before) (zeroed_to (4 * line.links + 4 * (length s / 8)) before.work) before.work
