-- The records of the two lists, read from bytes. Assumes nothing.
use Prim.Native.Nat.{ℕ, zero, suc, ◌<◌}
use mathlib.Core.Path.{◌≡◌, refl, ap, ap₂, ◌∙◌}
use mathlib.Core.List.{List, ◌∷◌, map}
use native.Mathlib.Nat.{zero-add}
use lib.ListN.{length, get_or}
use Rattle.basics.specs.Tools.{each}
use Rattle.basics.proofs.Tables.{length_each, get_d_each}
use Rattle.records.specs.Records.{record_at, fibre_of, assignment_of}
use Rattle.records.specs.declared.FibreRecord.{FibreRecord}
use Rattle.records.specs.declared.AssignmentRecord.{AssignmentRecord}
use Rattle.method.specs.Line.{Fibre, Assignment, Plan}
use Rattle.register.specs.Plans.{span_of, place_of, plan_in}
use Rattle.checker.specs.Rules.{plan_held}
use Rattle.checker.specs.Checked.{fibres_in, assignments_in}

-- a table that is changed is the table of what its entries are changed to
pub map_each : {A B : Type 0} (f : A → B) (g : ℕ → A) (i k : ℕ) → map f (each g i k) ≡ each (λ x. f (g x)) i k
unfolding each
map_each f g i zero = refl
map_each f g i (suc k) = ap (λ xs. f (g i) ∷ xs) (map_each f g (suc i) k)

-- the first k fibre records are k
pub length_fibres_in : (k : ℕ) (bytes : List ℕ) → length (fibres_in k bytes) ≡ k
unfolding fibres_in
length_fibres_in k bytes = length_each (λ i. fibre_of (record_at bytes i)) 0 k

-- fibre record i is what record i holds
pub fibres_in_at : (k : ℕ) (bytes : List ℕ) (i : ℕ) (d : FibreRecord) → i < k → get_or (fibres_in k bytes) i d ≡ fibre_of (record_at bytes i)
unfolding fibres_in
fibres_in_at k bytes i d h =
    get_d_each (λ i. fibre_of (record_at bytes i)) 0 k i d h ∙ ap (λ (x : ℕ). fibre_of (record_at bytes x)) (zero-add i)

-- the first m assignment records are m
pub length_assignments_in : (m : ℕ) (bytes : List ℕ) → length (assignments_in m bytes) ≡ m
unfolding assignments_in
length_assignments_in m bytes = length_each (λ j. assignment_of (record_at bytes j)) 0 m

-- assignment record j is what record j holds
pub assignments_in_at : (m : ℕ) (bytes : List ℕ) (j : ℕ) (d : AssignmentRecord) → j < m → get_or (assignments_in m bytes) j d ≡ assignment_of (record_at bytes j)
unfolding assignments_in
assignments_in_at m bytes j d h =
    get_d_each (λ j. assignment_of (record_at bytes j)) 0 m j d h ∙ ap (λ (x : ℕ). assignment_of (record_at bytes x)) (zero-add j)

-- the plan that the records hold is the plan that the bytes hold
pub held_is : (k m : ℕ) (fibres assigns : List ℕ) → plan_held (fibres_in k fibres) (assignments_in m assigns) ≡ plan_in k m fibres assigns
unfolding fibres_in assignments_in plan_in
held_is k m fibres assigns =
    ap₂ (λ (x : List Fibre) (y : List Assignment). let p : Plan = record { fibres = x; assignments = y } in p)
    (map_each span_of (λ i. fibre_of (record_at fibres i)) 0 k)
    (map_each place_of (λ j. assignment_of (record_at assigns j)) 0 m)
