-- The demands, about what a caller sees: the answer and the bytes of the lent areas. `proofs/Demands.antt` shows `seen`, that every call of `plan` meets `Seen`, and
-- `same_sheet`, that of `TwoOrders`, if one call is planned, the other gives the `SameSheet`. What a reader must believe.
-- Assumes nothing.
use Rattle.std.specs.Prelude.{ℕ, ◌+◌, ◌*◌, ◌/◌, ◌≤◌, ◌<◌, ◌≡◌, List, length, take, drop, replicate, Ok}
use Rattle.std.proofs.Math.Option.{some}
use Rattle.records.specs.Records.{record_at, circuits_of, number_in}
use Rattle.records.specs.declared.Line.{Line}
use Rattle.method.specs.Line.{fibres_over, total, Plan, Valid}
use Rattle.method.specs.Sheet.{need}
use Rattle.method.specs.Fibres.{floor, plan}
use Rattle.method.specs.Demands.{Rearranged}
use Rattle.method.specs.LitDemands.{LitRules}
use Rattle.refusals.specs.Refusals.{refusal_in}
use Rattle.refusals.specs.declared.Refusal.{Refusal}
use Rattle.refusals.specs.Given.{Given, NoneApplies}
use Rattle.refusals.specs.Ends.{TellsEnd}
use Rattle.register.specs.Areas.{Areas}
use Rattle.register.specs.Plans.{plan_in, Numbered, InFileOrder}
use Rattle.register.specs.declared.Counts.{Counts}
use Rattle.planner.specs.Outcome.{Answer, table_for, plan_of, Outcome}

module _ (line : Line) (s : List ℕ) (before after : Areas) where
  -- demand 1: a refusal is given exactly as tabled, tells the wrong end as R-6 has it, and then no byte is changed
  pub record Seen1 (answer : Answer) : Type 0 where
    pub as_tabled : (r : Refusal) → refusal_in answer ≡ some r → Given (table_for line s before) r
    pub whenever_tabled : (r : Refusal) → Given (table_for line s before) r → refusal_in answer ≡ some r
    pub otherwise_planned : NoneApplies (table_for line s before) → (counts : Counts) × (answer ≡ Ok counts)
    pub end_told : (r : Refusal) → refusal_in answer ≡ some r → TellsEnd line.links (length s / 8) s r
    pub unchanged : (r : Refusal) → refusal_in answer ≡ some r → after ≡ before

  -- the plan that the two lists hold
  abbrev pub held : Counts → Plan
  held counts = plan_in counts.fibres (length s / 8) after.fibres after.assigns

  -- the bytes of the work area that are used
  abbrev pub used : ℕ
  used = 4 * line.links + 4 * (length s / 8)

  -- demand 2: the lists hold the plan of R-1, numbered and in file order; it is valid, and beside 01's plan it keeps the rules of R-1; and the rest of the areas is as promised
  pub record Seen2 (counts : Counts) : Type 0 where
    pub the_plan : held counts ≡ plan_of line s
    pub valid : Valid line.wavelengths (circuits_of s) (held counts)
    pub rules : LitRules line.links line.wavelengths (circuits_of s) (plan line.links line.wavelengths (circuits_of s)) (held counts)
    pub numbered : Numbered counts.fibres after.fibres
    pub in_file_order : InFileOrder (length s / 8) s after.assigns
    pub the_total : counts.total ≡ total (held counts).fibres
    pub the_floor : counts.floor ≡ floor line.links line.wavelengths (circuits_of s)
    pub fibres_kept : drop (8 * counts.fibres) after.fibres ≡ drop (8 * counts.fibres) before.fibres
    pub assigns_kept : drop (length s) after.assigns ≡ drop (length s) before.assigns
    pub work_zeroed : take used after.work ≡ replicate used 0
    pub work_kept : drop used after.work ≡ drop used before.work

  -- demand 3, as R-1 leaves it
  pub record Seen3 (counts : Counts) : Type 0 where
    -- at most twice the fibres over each link, and twice the length, of any valid plan whatsoever
    pub twice_over : (p : Plan) → Valid line.wavelengths (circuits_of s) p → (i : ℕ) → 1 ≤ i → i ≤ line.links
        → fibres_over (held counts).fibres i ≤ 2 * fibres_over p.fibres i
    pub twice_total : (p : Plan) → Valid line.wavelengths (circuits_of s) p → counts.total ≤ 2 * total p.fibres
    -- over link i at most 2 c(i) fibres, and a total of at most twice the floor
    pub over_few : (i : ℕ) → 1 ≤ i → i ≤ line.links → fibres_over (held counts).fibres i ≤ 2 * need line.wavelengths (circuits_of s) i
    pub total_few : counts.total ≤ 2 * counts.floor
    -- at most one fibre for each circuit
    pub few_fibres : counts.fibres ≤ length s / 8

  -- one call of `plan`: demand 1 in any case, demands 2 and 3 of the three numbers that it answers
  pub record Seen (answer : Answer) : Type 0 where
    pub demand_1 : Seen1 answer
    pub demand_2 : (counts : Counts) → answer ≡ Ok counts → Seen2 counts
    pub demand_3 : (counts : Counts) → answer ≡ Ok counts → Seen3 counts

-- what is the same in another call, for file s' in place of s: the answer, the fibre records, and each circuit's assignment record
pub record SameSheet (s s' : List ℕ) (after after' : Areas) (counts : Counts) (answer' : Answer) : Type 0 where
  pub same_answer : answer' ≡ Ok counts
  pub same_fibres : take (8 * counts.fibres) after'.fibres ≡ take (8 * counts.fibres) after.fibres
  pub same_assignment : (i j : ℕ) → i < length s / 8 → j < length s' / 8 → number_in s i ≡ number_in s' j → record_at after'.assigns j ≡ record_at after.assigns i

-- two calls of `plan` with the same records in another file order, and lent areas of the same lengths
pub record TwoOrders (line : Line) (s s' : List ℕ) (before after before' after' : Areas) (answer answer' : Answer) : Type 0 where
  pub one : Outcome line s before after answer
  pub two : Outcome line s' before' after' answer'
  pub long : length s' ≡ length s
  pub same : Rearranged (circuits_of s) (circuits_of s')
  pub rooms : (length before'.fibres ≡ length before.fibres) × (length before'.assigns ≡ length before.assigns) × (length before'.work ≡ length before.work)
