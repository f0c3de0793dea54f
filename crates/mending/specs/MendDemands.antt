-- All that is promised of mending (R-11). `proofs/MendDemands.antt` shows that it holds for all that the tests leave. What a reader must believe.
-- Assumes nothing.
use Rattle.std.specs.Prelude.{◌+◌, ◌<◌, ◌≤◌, ℕ, length, false, List, [], ◌≡◌}
use Rattle.basics.specs.Tools.{count, each}
use Rattle.records.specs.declared.AssignmentRecord.{AssignmentRecord}
use Rattle.records.specs.declared.Circuit.{Circuit}
use Rattle.method.specs.Demands.{Rearranged, SamePlan}
use Rattle.method.specs.Fibres.{floor}
use Rattle.method.specs.Line.{Distinct, Fibre, Lies, Plan, Valid, total}
use Rattle.register.specs.Plans.{place_of}
use Rattle.places.specs.Turns.{number}
use Rattle.additions.specs.Grown.{FibresOn}
use Rattle.mending.specs.Mended.{Mended, reported}
use Rattle.mending.specs.Mending.{Mend, mend, mend_counts, mend_lines, mended_records, record_of}

-- what the tests leave: w is at least 1, the circuits lie on the line, no number stands twice, and none is 0. The fibres and the records may be anything
pub record Mendable (n w : ℕ) (cs : List Circuit) : Type 0 where
  pub waves : 1 ≤ w
  pub lies : Lies n cs
  pub once : Distinct cs
  pub from_one : (j : ℕ) → j < length cs → 1 ≤ number cs j

-- the same register with the circuit file in another order, and the records permuted alike
pub record Permuted (cs : List Circuit) (rs : List AssignmentRecord) (cs' : List Circuit) (rs' : List AssignmentRecord) : Type 0 where
  pub circuits : Rearranged cs cs'
  pub record_same : (i : ℕ) → i < length cs → record_of rs i ≡ record_of rs' (circuits.there i)

-- each record names the circuit of its place
abbrev pub NamesItsOwn : List Circuit → List AssignmentRecord → Type 0
NamesItsOwn cs rs = (j : ℕ) → j < length cs → (record_of rs j).circuit ≡ number cs j

-- the plan that the fibres and the records hold, as found
unfoldable pub plan_found : List Fibre → List Circuit → List AssignmentRecord → Plan
plan_found fs cs rs = record { fibres = fs; assignments = each (λ j. place_of (record_of rs j)) 0 (length cs) }

-- a plan that is left as it is: nothing is reported
abbrev pub nothing_reported : Plan → Mend
nothing_reported p = record { plan = p; report = [] }

-- what is promised then
pub record MendDemand (n w : ℕ) (fs : List Fibre) (cs : List Circuit) (rs : List AssignmentRecord) : Type 0 where
  -- who is kept, where the rest go, and the report
  pub mended : Mended n w fs cs rs (mend n w fs cs rs)
  -- nothing else is so
  pub no_other : (M : Mend) → Mended n w fs cs rs M → M ≡ mend n w fs cs rs
  -- the plan is valid
  pub valid : Valid w cs (mend n w fs cs rs).plan
  -- its fibres lie on the line if the old ones do
  pub on_line : FibresOn n fs → FibresOn n (mend n w fs cs rs).plan.fibres
  -- at most one new fibre for each line of the report
  pub few_fibres : length (mend n w fs cs rs).plan.fibres ≤ length fs + length (mend n w fs cs rs).report
  -- the order of the file, with its records, matters neither for the plan nor for the report
  pub any_order : (cs' : List Circuit) (rs' : List AssignmentRecord) → Permuted cs rs cs' rs' → SamePlan n w cs cs' (mend n w fs cs rs).plan (mend n w fs cs' rs').plan
  pub any_report : (cs' : List Circuit) (rs' : List AssignmentRecord) → Permuted cs rs cs' rs' → (mend n w fs cs rs).report ≡ (mend n w fs cs' rs').report
  -- the three numbers are those of the whole plan, with the floor of the file
  pub fibres_are : (mend_counts n w fs cs rs).fibres ≡ length (mend n w fs cs rs).plan.fibres
  pub total_is : (mend_counts n w fs cs rs).total ≡ total (mend n w fs cs rs).plan.fibres
  pub floor_is : (mend_counts n w fs cs rs).floor ≡ floor n w cs
  -- the answer adds how many lines the report has: as many as circuits are not kept
  pub lines_are : mend_lines n w fs cs rs ≡ length (mend n w fs cs rs).report
  pub one_line_each : length (mend n w fs cs rs).report ≡ count (reported cs (mend n w fs cs rs)) (length cs)
  -- each record then names the circuit of its place, and a record that is kept is as it was
  pub names_own : NamesItsOwn cs (mended_records n w fs cs rs)
  pub record_kept : (j : ℕ) → j < length cs → reported cs (mend n w fs cs rs) j ≡ false → record_of (mended_records n w fs cs rs) j ≡ record_of rs j
  -- a sound register is left as it is, with an empty report
  pub sound_stays : NamesItsOwn cs rs → Valid w cs (plan_found fs cs rs) → mend n w fs cs rs ≡ nothing_reported (plan_found fs cs rs)
  -- so mending twice is mending once
  pub mended_stays : mend n w (mend n w fs cs rs).plan.fibres cs (mended_records n w fs cs rs) ≡ nothing_reported (mend n w fs cs rs).plan
