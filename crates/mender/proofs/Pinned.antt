-- Two answers that meet the contract of `mend` are equal, with every byte of the four lent areas. Assumes nothing.
use Prim.Native.Nat.{ℕ}
use mathlib.Core.List.{List}
use mathlib.Core.Path.{◌∙◌, ◌≡◌, sym}
use Rattle.records.specs.declared.Line.{Line}
use Rattle.mender.specs.Report.{Lent}
use Rattle.mender.specs.Outcome.{Outcome, Answer}

-- areas that hold the same bytes
same_areas : (x y : Lent) → x.fibres ≡ y.fibres → x.assigns ≡ y.assigns → x.report ≡ y.report → x.work ≡ y.work → x ≡ y
same_areas x y a b c d = λ i. record { fibres = a i; assigns = b i; report = c i; work = d i }

-- for every input
pub outcome_pins : (line : Line) (s : List ℕ) (many : ℕ) (before after after' : Lent) (one two : Answer) → Outcome line s many before after one → Outcome line s many before after' two
    → (one ≡ two) × (after ≡ after')
outcome_pins line s many before after after' one two x y = (
  x.answered ∙ sym y.answered,
  same_areas after after' (x.listed ∙ sym y.listed) (x.assigned ∙ sym y.assigned) (x.reported ∙ sym y.reported) (x.cleared ∙ sym y.cleared),
)
