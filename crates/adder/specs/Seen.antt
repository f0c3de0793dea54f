-- What a caller of `add` sees: the answer and the bytes of the lent areas. `proofs/Answers.antt` shows `seen`, that every call meets `Seen`. What a reader must believe.
-- Demand 3 is about calls one after the other: Additions.
-- Assumes nothing.
use Rattle.std.specs.Prelude.{ℕ, ◌+◌, ◌*◌, ◌/◌, ◌≤◌, ◌≡◌, List, ◌++◌, length, take, drop, replicate, Ok}
use Rattle.std.proofs.Math.Option.{none, some}
use Rattle.records.specs.Records.{circuits_of}
use Rattle.records.specs.declared.Line.{Line}
use Rattle.method.specs.Line.{total, Plan, Valid}
use Rattle.method.specs.Fibres.{floor}
use Rattle.refusals.specs.declared.Refusal.{Refusal}
use Rattle.refusals.specs.Table.{Row, circuit_rows}
use Rattle.refusals.specs.Given.{Given, NoneApplies}
use Rattle.refusals.specs.Ends.{TellsEnd}
use Rattle.register.specs.Areas.{Areas}
use Rattle.register.specs.Plans.{plan_in, Numbered, InFileOrder}
use Rattle.register.specs.declared.Counts.{Counts}
use Rattle.additions.specs.Added.{Added}
use Rattle.refusals.specs.Refusals.{refusal_in}
use Rattle.planner.specs.Outcome.{Answer}
use Rattle.checker.specs.Sound.{Sound}
use Rattle.checker.specs.Checked.{fibres_in, assignments_in}
use Rattle.adder.specs.Table.{add_table, row13}
use Rattle.adder.specs.Outcome.{old_plan}
use Rattle.adder.specs.declared.Named.{Named}

-- an old plan is fit for an addition: valid, numbered, on the line, in file order, and at most 2,048 fibres
pub record Fit (line : Line) (old : List ℕ) (named : Named) (lent : Areas) : Type 0 where
  pub few : named.fibres ≤ 2048
  pub sound : Sound line (circuits_of old) (fibres_in named.fibres lent.fibres) (assignments_in named.assignments lent.assigns)

module _ (line : Line) (old new : List ℕ) (named : Named) (before after : Areas) where
  -- the table of refusals for this input
  abbrev pub tests : List Row
  tests = add_table line old new named before

  -- how many circuits there are in both files
  abbrev pub circuits_in_all : ℕ
  circuits_in_all = length old / 8 + length new / 8

  -- the bytes of the work area that are used
  abbrev pub used : ℕ
  used = 4 * line.links + 4 * circuits_in_all

  -- the input passes, said without the table: whole records in each file, a joined file that passes the tests of `plan` for circuits, a fit old plan, and room
  pub record Passes : Type 0 where
    pub old_whole : 8 * (length old / 8) ≡ length old
    pub new_whole : 8 * (length new / 8) ≡ length new
    pub joined : NoneApplies (circuit_rows line (old ++ new))
    pub fit : Fit line old named before
    pub fibre_room : 8 * (named.fibres + length new / 8) ≤ length before.fibres
    pub assignment_room : 8 * circuits_in_all ≤ length before.assigns
    pub work_room : used ≤ length before.work

  -- demand 1: a refusal is given exactly as tabled, tells the wrong end as R-6 has it, and then no byte is changed; what passes is planned;
  -- and 13 applies exactly if the old plan is not fit
  pub record Seen1 (answer : Answer) : Type 0 where
    pub as_tabled : (r : Refusal) → refusal_in answer ≡ some r → Given tests r
    pub whenever_tabled : (r : Refusal) → Given tests r → refusal_in answer ≡ some r
    pub otherwise_planned : NoneApplies tests → (counts : Counts) × (answer ≡ Ok counts)
    pub planned_if : Passes → (counts : Counts) × (answer ≡ Ok counts)
    pub end_told : (r : Refusal) → refusal_in answer ≡ some r → TellsEnd line.links circuits_in_all (old ++ new) r
    pub unchanged : (r : Refusal) → refusal_in answer ≡ some r → after ≡ before
    pub fit_passes : Fit line old named before → row13 line old named before.fibres before.assigns ≡ none
    pub passes_fit : row13 line old named before.fibres before.assigns ≡ none → Fit line old named before

  -- the plan that the two lists hold
  abbrev pub held : Counts → Plan
  held counts = plan_in counts.fibres circuits_in_all after.fibres after.assigns

  -- demand 2: nothing else is planned; the lists hold the old plan and its addition, numbered and in file order, and it is valid; no old record changes a byte;
  -- and the rest of the areas is as promised
  pub record Seen2 (counts : Counts) : Type 0 where
    pub passes : Passes
    pub added : Added line.links line.wavelengths (circuits_of old) (old_plan named before) (circuits_of new) (held counts)
    pub valid : Valid line.wavelengths (circuits_of (old ++ new)) (held counts)
    pub numbered : Numbered counts.fibres after.fibres
    pub in_file_order : InFileOrder circuits_in_all (old ++ new) after.assigns
    pub old_fibres_stay : take (8 * named.fibres) after.fibres ≡ take (8 * named.fibres) before.fibres
    pub old_assignments_stay : take (length old) after.assigns ≡ take (length old) before.assigns
    pub the_total : counts.total ≡ total (held counts).fibres
    pub the_floor : counts.floor ≡ floor line.links line.wavelengths (circuits_of (old ++ new))
    pub few_fibres : counts.fibres ≤ named.fibres + length new / 8
    pub fibres_kept : drop (8 * counts.fibres) after.fibres ≡ drop (8 * counts.fibres) before.fibres
    pub assigns_kept : drop (length old + length new) after.assigns ≡ drop (length old + length new) before.assigns
    pub work_zeroed : take used after.work ≡ replicate used 0
    pub work_kept : drop used after.work ≡ drop used before.work

  -- one call of `add`
  pub record Seen (answer : Answer) : Type 0 where
    pub demand_1 : Seen1 answer
    pub demand_2 : (counts : Counts) → answer ≡ Ok counts → Seen2 counts
