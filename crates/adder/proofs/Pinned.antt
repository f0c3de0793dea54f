-- Two answers that meet the contract of `add` are equal, with every byte of the three lent areas. Assumes nothing.
use Prim.Native.Nat.{ℕ}
use mathlib.Core.List.{List}
use mathlib.Core.Path.{◌∙◌, ◌≡◌, sym}
use Rattle.records.specs.declared.Line.{Line}
use Rattle.register.specs.Areas.{Areas}
use Rattle.planner.specs.Outcome.{Answer}
use Rattle.planner.proofs.Pinned.{same_areas}
use Rattle.adder.specs.Outcome.{Outcome}
use Rattle.adder.specs.declared.Named.{Named}

-- for every input
pub outcome_pins : (line : Line) (old new : List ℕ) (named : Named) (before after after' : Areas) (one two : Answer) → Outcome line old new named before after one
    → Outcome line old new named before after' two → (one ≡ two) × (after ≡ after')
outcome_pins line old new named before after after' one two x y =
    (x.answered ∙ sym y.answered, same_areas after after' (x.listed ∙ sym y.listed) (x.assigned ∙ sym y.assigned) (x.cleared ∙ sym y.cleared))
