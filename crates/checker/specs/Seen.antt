-- What a caller of `check_plan` sees. `proofs/Answers.antt` shows `seen`, that every call meets `Seen`, and `proofs/Planned.antt` that what `plan` writes gets a yes.
-- What a reader must believe.
-- Assumes nothing.
use Rattle.std.specs.Prelude.{ℕ, ◌*◌, ◌/◌, ◌≡◌, List, length, take, Result}
use Rattle.records.specs.Records.{circuits_of}
use Rattle.records.specs.declared.Line.{Line}
use Rattle.method.specs.Line.{total, Plan, Valid}
use Rattle.method.specs.Fibres.{floor}
use Rattle.refusals.specs.declared.Refusal.{Refusal}
use Rattle.refusals.specs.Table.{Row}
use Rattle.refusals.specs.Given.{Given, NoneApplies}
use Rattle.refusals.specs.Ends.{TellsEnd}
use Rattle.register.specs.Areas.{Areas}
use Rattle.register.specs.Plans.{plan_in}
use Rattle.register.specs.declared.Counts.{Counts}
use Rattle.checker.specs.Rules.{Breach}
use Rattle.checker.specs.Sound.{Sound, FirstBreach}
use Rattle.checker.specs.Checked.{fibres_of, assignments_of, check_table, yes, no, refused, says}
use Rattle.checker.specs.declared.Finding.{Finding}

-- the fibre records that `plan` or an addition wrote: as many as it counts, at the start of its fibre list
abbrev pub written_fibres : Counts → Areas → List ℕ
written_fibres counts after = take (8 * counts.fibres) after.fibres

-- the assignment records that `plan` or an addition wrote: as many bytes as the circuit bytes s, at the start of its assignment list
abbrev pub written_assignments : List ℕ → Areas → List ℕ
written_assignments s after = take (length s) after.assigns

module _ (line : Line) (s fibres assigns : List ℕ) where
  -- the table of refusals for this input
  abbrev pub tests : List Row
  tests = check_table line s (length fibres) (length assigns)

  -- the plan that the two lists hold, as for `plan`
  abbrev pub held : Plan
  held = plan_in (length fibres / 8) (length assigns / 8) fibres assigns

  -- no rule is broken
  abbrev pub AllKept : Type 0
  AllKept = Sound line (circuits_of s) (fibres_of fibres) (assignments_of assigns)

  -- a breach is the first
  abbrev pub First : Breach → Type 0
  First = FirstBreach line (circuits_of s) (fibres_of fibres) (assignments_of assigns)

  -- what a yes says
  pub record SaidYes (long its_floor : ℕ) : Type 0 where
    pub not_refused : NoneApplies tests
    pub all_kept : AllKept
    pub valid : Valid line.wavelengths (circuits_of s) held
    pub the_length : long ≡ total held.fibres
    pub the_floor : its_floor ≡ floor line.links line.wavelengths (circuits_of s)

  -- what a no says
  pub record SaidNo (b : Breach) : Type 0 where
    pub not_refused : NoneApplies tests
    pub first : First b

  -- one call of `check_plan`: refused exactly as tabled, yes exactly if no rule is broken, no exactly with the first breach
  pub record Seen (answer : Result Finding Refusal) : Type 0 where
    pub as_tabled : (r : Refusal) → says answer ≡ refused r → Given tests r
    pub whenever_tabled : (r : Refusal) → Given tests r → says answer ≡ refused r
    pub end_told : (r : Refusal) → says answer ≡ refused r → TellsEnd line.links (length s / 8) s r
    pub yes_says : (long its_floor : ℕ) → says answer ≡ yes long its_floor → SaidYes long its_floor
    pub yes_whenever : NoneApplies tests → AllKept → says answer ≡ yes (total held.fibres) (floor line.links line.wavelengths (circuits_of s))
    pub no_says : (b : Breach) → says answer ≡ no b → SaidNo b
    pub no_whenever : (b : Breach) → NoneApplies tests → First b → says answer ≡ no b
