-- What `add` answers, and what the three lent areas hold afterwards, for every input. What a reader must believe.
-- Assumes nothing.
use Rattle.std.specs.Prelude.{ℕ, ◌+◌, ◌*◌, ◌/◌, ◌≡◌, List, length, drop, Result}
use Rattle.records.specs.Records.{circuits_of}
use Rattle.records.specs.declared.Line.{Line}
use Rattle.method.specs.Line.{Plan}
use Rattle.refusals.specs.Table.{verdict}
use Rattle.refusals.specs.declared.Refusal.{Refusal}
use Rattle.register.specs.Areas.{Areas, zeroed_to}
use Rattle.register.specs.Lists.{fibre_list, assignment_list, behind}
use Rattle.register.specs.Plans.{plan_in}
use Rattle.register.specs.declared.Counts.{Counts}
use Rattle.additions.specs.Adding.{add, add_counts}
use Rattle.planner.specs.Outcome.{answer_by, if_accepted, Answer}
use Rattle.adder.specs.Table.{add_table}
use Rattle.adder.specs.declared.Named.{Named}

-- the verdict of the tests: the first refusal that applies, or else how many circuits there are in both files
unfoldable pub judged : Line → List ℕ → List ℕ → Named → Areas → Result ℕ Refusal
judged line old new named lent = verdict (add_table line old new named lent) (length old / 8 + length new / 8)

-- the old plan: that of the records that are named
abbrev pub old_plan : Named → Areas → Plan
old_plan named lent = plan_in named.fibres named.assignments lent.fibres lent.assigns

-- the plan with the new circuits added
abbrev pub grown_plan : Line → List ℕ → List ℕ → Named → Areas → Plan
grown_plan line old new named lent = add line.links line.wavelengths (circuits_of old) (old_plan named lent) (circuits_of new)

-- its three numbers
abbrev pub grown_numbers : Line → List ℕ → List ℕ → Named → Areas → Counts
grown_numbers line old new named lent = add_counts line.links line.wavelengths (circuits_of old) (old_plan named lent) (circuits_of new)

-- the fibre list: behind the old records, which stay, those of the new fibres, numbered on; the rest as it was
abbrev pub grown_fibres : Line → List ℕ → List ℕ → Named → Areas → List ℕ
grown_fibres line old new named lent =
    behind (8 * named.fibres) (fibre_list named.fibres (drop named.fibres (grown_plan line old new named lent).fibres)) lent.fibres

-- the assignment list: behind the old records, which stay, those of the new circuits, in the order of the new file; the rest as it was
abbrev pub grown_assignments : Line → List ℕ → List ℕ → Named → Areas → List ℕ
grown_assignments line old new named lent =
    behind (8 * named.assignments) (assignment_list 0 (circuits_of new) (drop named.assignments (grown_plan line old new named lent).assignments)) lent.assigns

-- the answer and every byte of the three lent areas
pub record Outcome (line : Line) (old new : List ℕ) (named : Named) (before after : Areas) (answer : Answer) : Type 0 where
  pub answered : answer ≡ answer_by (judged line old new named before) (grown_numbers line old new named before)
  pub listed : after.fibres ≡ if_accepted (judged line old new named before) (grown_fibres line old new named before) before.fibres
  pub assigned : after.assigns ≡ if_accepted (judged line old new named before) (grown_assignments line old new named before) before.assigns
  pub cleared : after.work
      ≡ if_accepted (judged line old new named before) (zeroed_to (4 * line.links + 4 * (length old / 8 + length new / 8)) before.work) before.work
