-- What `plan_whole` answers, and what the four lent areas hold afterwards, for every input. What a reader must believe.
-- Assumes nothing.
use Rattle.std.specs.Prelude.{ℕ, ◌+◌, ◌*◌, ◌/◌, ◌||◌, List, [], ◌∷◌, ◌++◌, ◌≡◌, ltb, length, Result}
use Rattle.records.specs.Records.{circuits_of}
use Rattle.records.specs.declared.Line.{Line}
use Rattle.refusals.specs.Table.{Row, whenever, verdict, plan_table}
use Rattle.refusals.specs.declared.Refusal.{Refusal}
use Rattle.refusals.specs.declared.Reason.TheVariants.{SheetRoom}
use Rattle.register.specs.Areas.{Areas, zeroed_to}
use Rattle.register.specs.Lists.{fibre_list, assignment_list}
use Rattle.planner.specs.Outcome.{Answer, plan_of, numbers_of, answer_by, if_accepted}
use Rattle.whole_sheet.specs.Cells.{cell_count, sheet_list}

-- 21: the sheet has more than 65,536 cells, or the lent sheet is shorter
abbrev pub row21 : ℕ → ℕ → Row
row21 count has = whenever SheetRoom (ltb 65536 count || ltb has count)

-- how many cells the sheet of a file of circuits on a line has
abbrev pub count_for : Line → List ℕ → ℕ
count_for line s = cell_count line.links line.wavelengths (circuits_of s)

-- the tests of `plan`, and then 21, with the lengths of the fibre list, the assignment list, the work area and the sheet
unfoldable pub whole_table : Line → List ℕ → ℕ → ℕ → ℕ → ℕ → List Row
whole_table line s fibres assigns work sheet = plan_table line s fibres assigns work ++ (row21 (count_for line s) sheet ∷ [])

-- the table for a line, circuit bytes s and lent areas
abbrev pub whole_for : Line → List ℕ → Areas → List ℕ → List Row
whole_for line s lent sheet = whole_table line s (length lent.fibres) (length lent.assigns) (length lent.work) (length sheet)

-- the verdict of the tests: the first refusal that applies, or else how many circuits there are
unfoldable pub judged_whole : Line → List ℕ → Areas → List ℕ → Result ℕ Refusal
judged_whole line s lent sheet = verdict (whole_for line s lent sheet) (length s / 8)

-- the answer and every byte of the four lent areas: those of `plan`, and the sheet
pub record WholeOutcome (line : Line) (s : List ℕ) (before after : Areas) (sheet sheet' : List ℕ) (answer : Answer) : Type 0 where
  pub answered : answer ≡ answer_by (judged_whole line s before sheet) (numbers_of line s)
  pub listed : after.fibres ≡ if_accepted (judged_whole line s before sheet) (fibre_list 0 (plan_of line s).fibres before.fibres) before.fibres
  pub assigned : after.assigns ≡ if_accepted (judged_whole line s before sheet) (assignment_list 0 (circuits_of s) (plan_of line s).assignments before.assigns) before.assigns
  pub cleared : after.work ≡ if_accepted (judged_whole line s before sheet) (zeroed_to (4 * line.links + 4 * (length s / 8)) before.work) before.work
  pub drawn : sheet' ≡ if_accepted (judged_whole line s before sheet) (sheet_list line.links line.wavelengths (circuits_of s) sheet) sheet
