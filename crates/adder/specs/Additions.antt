-- Calls of `plan` and `add`, one after the other and side by side. What a reader must believe.
-- `proofs/After.antt` shows `after_within`: after k additions demand 3 holds as R-2 has it;
-- `after_yes`: the check says yes to every plan that `plan` or an addition wrote;
-- and `added_yes`: so it does to what one addition writes, whoever made the old plan.
-- `proofs/Orders.antt` shows `same_addition`: of `TwoAdditions`, if one call is planned, the other gives the `SameSheet`.
-- `proofs/Nothing.antt` shows `nothing_new`, an addition of nothing, and `nothing_old`, an addition to nothing.
-- Assumes nothing.
use Rattle.std.specs.Prelude.{ℕ, suc, min, ◌*◌, ◌/◌, ◌<◌, ◌≡◌, List, ◌++◌, length, take, Ok}
use Rattle.records.specs.Records.{record_at, circuits_of}
use Rattle.records.specs.declared.Line.{Line}
use Rattle.method.specs.Demands.{Rearranged}
use Rattle.method.specs.Line.{Plan}
use Rattle.register.specs.Areas.{Areas}
use Rattle.register.specs.Plans.{plan_in}
use Rattle.register.specs.declared.Counts.{Counts}
use Rattle.planner.specs.Outcome as Planner
use Rattle.planner.specs.Outcome.{Answer}
use Rattle.adder.specs.Outcome.{Outcome}
use Rattle.adder.specs.declared.Named.{Named}

-- ONE AFTER THE OTHER. A plan as its three record files
pub record Files : Type 0 where
  pub circuits : List ℕ
  pub fibres : List ℕ
  pub assigns : List ℕ

-- the files that a call leaves: the circuit bytes, and the records at the start of the two lists
abbrev pub files_left : List ℕ → Counts → Areas → Files
files_left s counts lent = record { circuits = s; fibres = take (8 * counts.fibres) lent.fibres; assigns = take (length s) lent.assigns }

-- how many records they have
abbrev pub named_in : Files → Named
named_in kept = record { fibres = length kept.fibres / 8; assignments = length kept.assigns / 8 }

-- the plan that they hold
abbrev pub plan_of_files : Files → Plan
plan_of_files kept = plan_in (length kept.fibres / 8) (length kept.assigns / 8) kept.fibres kept.assigns

-- lent lists begin with these records
pub record Begins (kept : Files) (lent : Areas) : Type 0 where
  pub fibres : take (length kept.fibres) lent.fibres ≡ kept.fibres
  pub assigns : take (length kept.assigns) lent.assigns ≡ kept.assigns

-- After k w line kept: one call of `plan` and then k calls of `add`, each on the files that the last one left, left these;
-- w is the least that the calls were given, and the last one was given this line. Each call has its own line
pub data After : ℕ → ℕ → Line → Files → Type 0 where
  planned : (line : Line) (s : List ℕ) (before after : Areas) (counts : Counts) → Planner.Outcome line s before after (Ok counts)
      → After 0 line.wavelengths line (files_left s counts after)
  added : {k w : ℕ} {last : Line} {kept : Files} → After k w last kept → (line : Line) (new : List ℕ) (before after : Areas) (counts : Counts) → Begins kept before
      → Outcome line kept.circuits new (named_in kept) before after (Ok counts)
      → After (suc k) (min w line.wavelengths) line (files_left (kept.circuits ++ new) counts after)

-- no old records, as they are named in an addition to nothing
abbrev pub none_named : Named
none_named = record { fibres = 0; assignments = 0 }

-- SIDE BY SIDE: two calls of `add` with the same old records in another order, the old assignments with them, the same new records in another order,
-- the same old fibres, and lent areas of the same lengths
pub record TwoAdditions (line : Line) (named : Named) (old new old' new' : List ℕ) (before after before' after' : Areas) (answer answer' : Answer) : Type 0 where
  pub one : Outcome line old new named before after answer
  pub two : Outcome line old' new' named before' after' answer'
  pub old_long : length old' ≡ length old
  pub new_long : length new' ≡ length new
  pub old_same : Rearranged (circuits_of old) (circuits_of old')
  pub new_same : Rearranged (circuits_of new) (circuits_of new')
  pub fibres_same : take (8 * named.fibres) before'.fibres ≡ take (8 * named.fibres) before.fibres
  pub assignments_same : (i : ℕ) → i < length old / 8 → record_at before'.assigns (old_same.there i) ≡ record_at before.assigns i
  pub rooms : (length before'.fibres ≡ length before.fibres) × (length before'.assigns ≡ length before.assigns)
      × (length before'.work ≡ length before.work)
