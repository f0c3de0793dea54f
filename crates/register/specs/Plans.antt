-- The plan that the two lists hold, as a reader of their records sees it. What a reader must believe.
-- Assumes nothing.
use Rattle.std.specs.Prelude.{ℕ, suc, ◌<◌, ◌≡◌, List}
use Rattle.basics.specs.Tools.{each}
use Rattle.records.specs.Records.{record_at, number_in, fibre_of, assignment_of}
use Rattle.records.specs.declared.FibreRecord.{FibreRecord}
use Rattle.records.specs.declared.AssignmentRecord.{AssignmentRecord}
use Rattle.method.specs.Line.{Fibre, Assignment, Plan}

-- a fibre record without its number
abbrev pub span_of : FibreRecord → Fibre
span_of f = record { first = f.first; last = f.last; layer = f.layer }

-- an assignment record without its circuit
abbrev pub place_of : AssignmentRecord → Assignment
place_of a = record { fibre = a.fibre; wavelength = a.wavelength }

-- the plan that the two lists hold: k fibre records and m assignment records
unfoldable pub plan_in : ℕ → ℕ → List ℕ → List ℕ → Plan
plan_in k m fibres assigns =
    record {
      fibres = each (λ i. span_of (fibre_of (record_at fibres i))) 0 k;
      assignments = each (λ j. place_of (assignment_of (record_at assigns j))) 0 m;
    }

-- the first k fibre records are numbered 1, 2, ..
abbrev pub Numbered : ℕ → List ℕ → Type 0
Numbered k fibres = (i : ℕ) → i < k → (fibre_of (record_at fibres i)).number ≡ suc i

-- the first m assignment records are those of the circuits of file s, in its order
abbrev pub InFileOrder : ℕ → List ℕ → List ℕ → Type 0
InFileOrder m s assigns = (j : ℕ) → j < m → (assignment_of (record_at assigns j)).circuit ≡ number_in s j
