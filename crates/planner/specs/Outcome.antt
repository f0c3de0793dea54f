-- What `plan` answers, and what the three lent areas hold afterwards, for every input. What a reader must believe.
-- Assumes nothing.
use Rattle.std.specs.Prelude.{ℕ, ◌+◌, ◌*◌, ◌/◌, ◌≡◌, List, length, Result, Ok, Err}
use Rattle.records.specs.Records.{circuits_of}
use Rattle.records.specs.declared.Line.{Line}
use Rattle.method.specs.Line.{Plan}
use Rattle.method.specs.Fibres.{floor}
use Rattle.method.specs.Lit.{lit_plan}
use Rattle.refusals.specs.Refusals.{refusal_in, if_refused}
use Rattle.refusals.specs.Table.{Row, verdict, plan_table}
use Rattle.refusals.specs.declared.Refusal.{Refusal}
use Rattle.register.specs.Areas.{Areas, zeroed_to}
use Rattle.register.specs.Lists.{counts_of, fibre_list, assignment_list}
use Rattle.register.specs.declared.Counts.{Counts}

-- what `plan` answers: the three numbers of a plan, or a refusal
abbrev pub Answer : Type 0
Answer = Result Counts Refusal

-- the table of refusals for a line, circuit bytes s and lent areas
abbrev pub table_for : Line → List ℕ → Areas → List Row
table_for line s lent = plan_table line s (length lent.fibres) (length lent.assigns) (length lent.work)

-- the verdict of the tests: the first refusal that applies, or else how many circuits there are
unfoldable pub judged : Line → List ℕ → Areas → Result ℕ Refusal
judged line s lent = verdict (table_for line s lent) (length s / 8)

-- the plan of R-1, for a file of circuits on a line
abbrev pub plan_of : Line → List ℕ → Plan
plan_of line s = lit_plan line.links line.wavelengths (circuits_of s)

-- its three numbers
abbrev pub numbers_of : Line → List ℕ → Counts
numbers_of line s = counts_of (plan_of line s) (floor line.links line.wavelengths (circuits_of s))

-- planned, with the three numbers, or refused, as the table says
abbrev pub answer_by : Result ℕ Refusal → Counts → Answer
answer_by v counts = if_refused (refusal_in v) Err (Ok counts)

-- a lent area is changed only where the circuits were accepted
abbrev pub if_accepted : Result ℕ Refusal → List ℕ → List ℕ → List ℕ
if_accepted v after before = if_refused (refusal_in v) (λ r. before) after

-- the answer and every byte of the three lent areas
pub record Outcome (line : Line) (s : List ℕ) (before after : Areas) (answer : Answer) : Type 0 where
  pub answered : answer ≡ answer_by (judged line s before) (numbers_of line s)
  pub listed : after.fibres ≡ if_accepted (judged line s before) (fibre_list 0 (plan_of line s).fibres before.fibres) before.fibres
  pub assigned : after.assigns ≡ if_accepted (judged line s before) (assignment_list 0 (circuits_of s) (plan_of line s).assignments before.assigns) before.assigns
  pub cleared : after.work ≡ if_accepted (judged line s before) (zeroed_to (4 * line.links + 4 * (length s / 8)) before.work) before.work
