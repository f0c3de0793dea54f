-- Two answers that meet the contract of `plan` are equal, with every byte of the three lent areas. Assumes nothing.
use Prim.Native.Nat.{ℕ}
use mathlib.Core.List.{List}
use mathlib.Core.Path.{◌∙◌, ◌≡◌, sym}
use Rattle.records.specs.declared.Line.{Line}
use Rattle.register.specs.Areas.{Areas}
use Rattle.register.specs.declared.Counts.{Counts}
use Rattle.planner.specs.Outcome.{Answer, Outcome}
use Rattle.planner.specs.Settled.{Settled}

-- areas that hold the same bytes
pub same_areas : (x y : Areas) → x.fibres ≡ y.fibres → x.assigns ≡ y.assigns → x.work ≡ y.work → x ≡ y
same_areas x y a b c = λ i. record { fibres = a i; assigns = b i; work = c i }

-- for every input
pub outcome_pins : (line : Line) (s : List ℕ) (before after after' : Areas) (one two : Answer) → Outcome line s before after one → Outcome line s before after' two
    → (one ≡ two) × (after ≡ after')
outcome_pins line s before after after' one two x y =
    (x.answered ∙ sym y.answered, same_areas after after' (x.listed ∙ sym y.listed) (x.assigned ∙ sym y.assigned) (x.cleared ∙ sym y.cleared))

-- the same for circuits that passed the tests
pub settled_pins : (n w m from : ℕ) (s : List ℕ) (before after after' : Areas) (one two : Counts) → Settled n w m from s before after one → Settled n w m from s before after' two
    → (one ≡ two) × (after ≡ after')
settled_pins n w m from s before after after' one two x y =
    let p = x.registered in
    let q = y.registered in
    (p.counted ∙ sym q.counted, same_areas after after' (p.listed ∙ sym q.listed) (p.assigned ∙ sym q.assigned) (x.cleared ∙ sym y.cleared))
