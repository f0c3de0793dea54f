-- What a caller of `mend` sees: the answer and the bytes of the lent areas. `proofs/Answers.antt` shows `seen`, that every call meets `Seen`. What a reader must believe.
-- Assumes nothing.
use Rattle.std.specs.Prelude.{ℕ, ◌+◌, ◌*◌, ◌/◌, ◌<◌, ◌≤◌, false, ◌≡◌, ◌⊎◌, List, get_or, length, take, drop, replicate}
use Rattle.std.proofs.Math.Option.{none, some}
use Rattle.records.specs.Records.{circuits_of, record_at}
use Rattle.records.specs.declared.Line.{Line}
use Rattle.method.specs.Line.{total, Valid}
use Rattle.method.specs.Fibres.{floor}
use Rattle.refusals.specs.Refusals.{number_of, refusal_in}
use Rattle.refusals.specs.declared.Refusal.{Refusal}
use Rattle.refusals.specs.Table.{Row, circuit_rows}
use Rattle.refusals.specs.Given.{Given, NoneApplies}
use Rattle.refusals.specs.Ends.{TellsEnd}
use Rattle.register.specs.Plans.{plan_in, Numbered, InFileOrder}
use Rattle.register.specs.declared.Counts.{Counts}
use Rattle.checker.specs.Rules.{Breach, fibre_rules}
use Rattle.checker.specs.Sound.{FirstFault, NoneFaulty}
use Rattle.checker.specs.Checked.{fibres_in}
use Rattle.mending.specs.Mending.{Mend}
use Rattle.mending.specs.Mended as Lists
use Rattle.mending.specs.Mended.{reported}
use Rattle.mender.specs.Report.{Lent, report_in}
use Rattle.mender.specs.Table.{mend_table, row20}
use Rattle.mender.specs.Outcome.{Answer, damaged, mended_with, old_fibres}

-- the first `many` fibres of a list break neither rule 1 nor rule 2, and are at most 2,048
pub record FibresFit (n many : ℕ) (fibres : List ℕ) : Type 0 where
  pub few : many ≤ 2048
  pub sound : NoneFaulty (fibre_rules n (fibres_in many fibres)) many

-- what 20 tells of them: place 0 for over 2,048, else the first that breaks a rule
abbrev pub FibreTold : ℕ → ℕ → List ℕ → ℕ → Type 0
FibreTold n many fibres place =
    ((2048 < many) × (place ≡ 0)) ⊎ ((many ≤ 2048) × (b : Breach) × (b.place ≡ place) × FirstFault (fibre_rules n (fibres_in many fibres)) many b)

-- the lent areas have room to mend m circuits on n links behind `many` fibres: 8 bytes a circuit after the fibres, 4n + 4m of the work area, and a line of 12 for each
pub record Room (n m many : ℕ) (lent : Lent) : Type 0 where
  pub fibres : 8 * (many + m) ≤ length lent.fibres
  pub work : 4 * n + 4 * m ≤ length lent.work
  pub report : 12 * m ≤ length lent.report

-- a list of bytes, as every lent area is
abbrev pub Bytes : List ℕ → Type 0
Bytes area = (i : ℕ) → get_or area i 0 < 256

module _ (line : Line) (s : List ℕ) (many : ℕ) (before after : Lent) where
  -- the table of refusals for this input
  abbrev pub tests : List Row
  tests = mend_table line s many before

  -- the fibres of this input are fit
  abbrev pub Fit : Type 0
  Fit = FibresFit line.links many before.fibres

  -- what passes, said without the table of mending
  pub record Passes : Type 0 where
    pub circuits : NoneApplies (circuit_rows line s)
    pub room : Room line.links (length s / 8) many before
    pub one_each : length before.assigns ≡ 8 * (length s / 8)
    pub fit : Fit

  -- demand 1: a refusal is given exactly as tabled, tells the wrong end as R-6 has it, and then no byte is changed; what passes is mended;
  -- 20 applies exactly if the fibres are not fit, and tells which
  pub record Seen1 (answer : Answer) : Type 0 where
    pub as_tabled : (r : Refusal) → refusal_in answer ≡ some r → Given tests r
    pub whenever_tabled : (r : Refusal) → Given tests r → refusal_in answer ≡ some r
    pub otherwise_mended : NoneApplies tests → (counts : Counts) × (lines : ℕ) × (answer ≡ mended_with counts lines)
    pub passes_mended : Passes → (counts : Counts) × (lines : ℕ) × (answer ≡ mended_with counts lines)
    pub end_told : (r : Refusal) → refusal_in answer ≡ some r → TellsEnd line.links (length s / 8) s r
    pub fibre_told : (r : Refusal) → refusal_in answer ≡ some r → number_of r.reason ≡ 20 → FibreTold line.links many before.fibres r.place
    pub unchanged : (r : Refusal) → refusal_in answer ≡ some r → after ≡ before
    pub fit_passes : Fit → row20 line.links many before.fibres ≡ none
    pub passes_fit : row20 line.links many before.fibres ≡ none → Fit

  -- the plan that the two lists hold, and the report
  abbrev pub held : Counts → ℕ → Mend
  held counts lines = record { plan = plan_in counts.fibres (length s / 8) after.fibres after.assigns; report = report_in lines after.report }

  -- the bytes of the work area that are used
  abbrev pub used : ℕ
  used = 4 * line.links + 4 * (length s / 8)

  -- demand 2: what the lists and the report hold is the mending, valid, numbered and in file order; no record that is kept and no old fibre changes a byte; and the rest of the areas is as promised
  pub record Seen2 (counts : Counts) (lines : ℕ) : Type 0 where
    pub passed : Passes
    pub mended : Lists.Mended line.links line.wavelengths (old_fibres many before) (circuits_of s) (damaged s before) (held counts lines)
    pub valid : Valid line.wavelengths (circuits_of s) (held counts lines).plan
    pub numbered : Numbered counts.fibres after.fibres
    pub in_file_order : InFileOrder (length s / 8) s after.assigns
    pub old_fibres_stay : take (8 * many) after.fibres ≡ take (8 * many) before.fibres
    pub kept_stay : Bytes before.assigns → (j : ℕ) → j < length s / 8 → reported (circuits_of s) (held counts lines) j ≡ false → record_at after.assigns j ≡ record_at before.assigns j
    pub the_total : counts.total ≡ total (held counts lines).plan.fibres
    pub the_floor : counts.floor ≡ floor line.links line.wavelengths (circuits_of s)
    pub few_lines : lines ≤ length s / 8
    pub few_fibres : counts.fibres ≤ many + lines
    pub assigns_long : length after.assigns ≡ length before.assigns
    pub fibres_kept : drop (8 * counts.fibres) after.fibres ≡ drop (8 * counts.fibres) before.fibres
    pub report_kept : drop (12 * lines) after.report ≡ drop (12 * lines) before.report
    pub work_zeroed : take used after.work ≡ replicate used 0
    pub work_kept : drop used after.work ≡ drop used before.work

  -- one call of `mend`
  pub record Seen (answer : Answer) : Type 0 where
    pub demand_1 : Seen1 answer
    pub demand_2 : (counts : Counts) (lines : ℕ) → answer ≡ mended_with counts lines → Seen2 counts lines
