-- What the steps of mending ask and leave. Contracts inside the crate.
-- Assumes nothing.
use Rattle.std.specs.Prelude.{ℕ, ◌+◌, ◌*◌, ◌<◌, ◌≤◌, Bool, ◌≡◌, List, map, eqb, drop, get_or, length, take}
use Rattle.records.specs.Bytes.{cells_of}
use Rattle.records.specs.Records.{assignment_of, circuits_in, number_in, record_at}
use Rattle.method.specs.Line.{Assignment}
use Rattle.register.specs.Areas.{zeroed_to}
use Rattle.register.specs.Lists.{assignment_records, behind, fibre_list}
use Rattle.register.specs.Plans.{plan_in}
use Rattle.rows.specs.Accepted.{Accepted}
use Rattle.places.specs.Places.{riders}
use Rattle.places.specs.Turns.{by_number, number}
use Rattle.additions.specs.Adding.{unplaced}
use Rattle.checker.specs.Checked.{assignments_in}
use Rattle.mending.specs.Mending as Lists
use Rattle.mending.specs.Mending.{Mend, keepable, kept, mend_counts, mend_lines, refilled}
use Rattle.placing.specs.Riding.{GivenKept, Riding, kept_in, spans_of}
use Rattle.parts.specs.Left.{said_behind}
use Rattle.mender.specs.Report.{Lent, report_list}
use Rattle.mender.specs.declared.Mended.{Mended}
use Rattle.mender.specs.inner.Lines.{begun_line}

-- WHAT THE TESTS LEAVE: m circuits of file s on a line of n links with w wavelengths, numbered from 1 on, `many` fibres, and one assignment record for each circuit
pub record Register (n w m many : ℕ) (s fibres assigns : List ℕ) : Type 0 where
  pub accepted : Accepted n w m s
  pub from_one : (j : ℕ) → j < m → 1 ≤ number (circuits_in m s) j
  pub few_fibres : many ≤ 2048
  pub fibres_there : 8 * many ≤ length fibres
  pub one_each : length assigns ≡ 8 * m

-- and room for what is written
pub record MendAsked (n w m many : ℕ) (s : List ℕ) (lent : Lent) : Type 0 where
  pub register : Register n w m many s lent.fibres lent.assigns
  pub fibre_room : 8 * (many + m) ≤ length lent.fibres
  pub report_room : 12 * m ≤ length lent.report
  pub work_room : 4 * n + 4 * m ≤ length lent.work

-- FIRST PASS. A circuit waits for the second pass if its flag is 0
abbrev pub waits : List ℕ → ℕ → Bool
waits flags j = eqb (get_or flags j 0) 0

-- those whose flags are set have places that fit the tables, and ride there
pub record Staying (m many : ℕ) (s assigns flags ends heads next : List ℕ) : Type 0 where
  pub given : GivenKept many m assigns flags
  pub riding : Riding many (riders (circuits_in m s) (kept_in m assigns flags)) ends assigns heads next

module _ (w m many : ℕ) (s fibres assigns : List ℕ) where
  -- whether the record of circuit j stays beside gs, those kept so far
  abbrev pub may_stay : List Assignment → ℕ → Bool
  may_stay = keepable w (spans_of many fibres) (circuits_in m s) (assignments_in m assigns)

  -- what those have that are kept
  abbrev pub kept_of : List Assignment
  kept_of = kept w (spans_of many fibres) (circuits_in m s) (assignments_in m assigns)

  -- the others, by rising number
  abbrev pub lost : List ℕ
  lost = by_number (unplaced kept_of) (circuits_in m s)

  -- the first pass is done: those that are kept ride, and for the k others their turns and their lines, begun, are there
  pub record Sifted (report report' turns ends heads next : List ℕ) (k : ℕ) : Type 0 where
    pub many_lost : k ≡ length lost
    pub few_lost : k ≤ m
    pub their_turns : take k (cells_of turns) ≡ lost
    pub begun : report' ≡ report_list (map (begun_line s assigns) lost) report
    pub riding : Riding many (riders (circuits_in m s) kept_of) ends assigns heads next

  -- SECOND PASS. Both are done: the records say who has which place on the old fibres
  pub record Refilled (assigns' report report' : List ℕ) (k : ℕ) : Type 0 where
    pub many_lost : k ≡ length lost
    pub few_lost : k ≤ m
    pub begun : report' ≡ report_list (map (begun_line s assigns) lost) report
    pub sized : length assigns' ≡ length assigns
    pub said : said_behind 0 m assigns' ≡ refilled w (spans_of many fibres) (circuits_in m s) (assignments_in m assigns)
    pub named : (j : ℕ) → j < m → (assignment_of (record_at assigns' j)).circuit ≡ number_in s j

-- ALL STEPS. The plan and the report that mending makes of what was lent
abbrev pub remade : ℕ → ℕ → ℕ → ℕ → List ℕ → Lent → Mend
remade n w m many s lent = Lists.mend n w (plan_in many 0 lent.fibres lent.assigns).fibres (circuits_in m s) (assignments_in m lent.assigns)

-- what is left: that plan and report in the lent areas, with their numbers, and a work area of which the part that was used is zeroed
pub record Remade (n w m many : ℕ) (s : List ℕ) (before after : Lent) (told : Mended) : Type 0 where
  pub counted : told.counts ≡ mend_counts n w (plan_in many 0 before.fibres before.assigns).fibres (circuits_in m s) (assignments_in m before.assigns)
  pub lined : told.lines ≡ mend_lines n w (plan_in many 0 before.fibres before.assigns).fibres (circuits_in m s) (assignments_in m before.assigns)
  pub listed : after.fibres ≡ behind (8 * many) (fibre_list many (drop many (remade n w m many s before).plan.fibres)) before.fibres
  pub assigned : after.assigns ≡ assignment_records 0 (circuits_in m s) (remade n w m many s before).plan.assignments
  pub reported : after.report ≡ report_list (remade n w m many s before).report before.report
  pub cleared : after.work ≡ zeroed_to (4 * n + 4 * m) before.work
