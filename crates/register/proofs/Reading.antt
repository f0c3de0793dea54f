-- Reading the two lists back: the plan that their records hold. Assumes nothing.
use Prim.Native.Nat.{◌*◌, ◌+◌, ◌-◌, ◌<◌, ◌≤◌, suc, zero, ℕ}
use lib.ListN.{drop, get_or, length, take}
use lib.Seq.{drop-drop}
use mathlib.Core.List.{List, [], ◌++◌, ◌∷◌}
use mathlib.Core.Path.{◌∙◌, ◌≡◌, ap, ap₂, refl, sym}
use native.Mathlib.Nat.{zero-add}
use native.Mathlib.Omega.{arith}
use Rattle.basics.specs.Tools.{each}
use Rattle.basics.proofs.Tables.{get_d_each, length_each, table_is}
use Rattle.records.specs.Records.{assignment_of, fibre_of, record_at}
use Rattle.records.specs.declared.Circuit.{Circuit}
use Rattle.records.proofs.Inverse.{assignment_read_written, fibre_read_written}
use Rattle.method.specs.Line.{Assignment, Fibre, Plan, assigned, fibre_under, no_fibre, nobody, unassigned}
use Rattle.register.specs.Lists.{assignment_list, assignment_record, assignment_records, fibre_list, fibre_record, fibre_records}
use Rattle.register.specs.Plans.{place_of, plan_in, span_of}

-- the records of a list of fibres have 8 bytes each
pub length_fibre_records : (from : ℕ) (fs : List Fibre) → length (fibre_records from fs) ≡ 8 * length fs
unfolding fibre_records fibre_record
length_fibre_records from [] = refl
length_fibre_records from (f ∷ fs) = let h = length_fibre_records (from + 1) fs in omega arith

-- record i is fibre i under its number
pub fibre_record_lem : (from : ℕ) (fs : List Fibre) (rest : List ℕ) (i : ℕ) → i < length fs
    → record_at (fibre_records from fs ++ rest) i ≡ fibre_record (from + suc i) (get_or fs i no_fibre)
unfolding fibre_records fibre_record
fibre_record_lem from [] rest i h = absurd (omega arith)
fibre_record_lem from (f ∷ fs) rest zero h = refl
fibre_record_lem from (f ∷ fs) rest (suc i) h =
    let k : 8 * suc i ≡ 8 + 8 * i = omega arith in
    let e : from + 1 + suc i ≡ from + suc (suc i) = omega arith in
    ap (λ (x : ℕ). take 8 (drop x (fibre_record (from + 1) f ++ fibre_records (from + 1) fs ++ rest))) k
    ∙ ap (take 8) (sym (drop-drop (8 * i) 8 (fibre_record (from + 1) f ++ fibre_records (from + 1) fs ++ rest)))
    ∙ fibre_record_lem (from + 1) fs rest i (omega arith)
    ∙ ap (λ (x : ℕ). fibre_record x (get_or fs i no_fibre)) e

-- the records of what circuits are given have 8 bytes each
pub length_assignment_records : (from : ℕ) (cs : List Circuit) (gs : List Assignment) → length gs ≡ length cs → length (assignment_records from cs gs) ≡ 8 * length cs
unfolding assignment_records assignment_record
length_assignment_records from [] gs e = refl
length_assignment_records from (c ∷ cs) [] e = absurd (omega arith)
length_assignment_records from (c ∷ cs) (g ∷ gs) e = let h = length_assignment_records from cs gs (omega arith) in omega arith

-- record j is what circuit j is given
pub assignment_record_lem : (from : ℕ) (cs : List Circuit) (gs : List Assignment) (rest : List ℕ) (j : ℕ) → length gs ≡ length cs → j < length cs
    → record_at (assignment_records from cs gs ++ rest) j ≡ assignment_record from (get_or cs j nobody) (get_or gs j unassigned)
unfolding assignment_records assignment_record
assignment_record_lem from [] gs rest j e h = absurd (omega arith)
assignment_record_lem from (c ∷ cs) [] rest j e h = absurd (omega arith)
assignment_record_lem from (c ∷ cs) (g ∷ gs) rest zero e h = refl
assignment_record_lem from (c ∷ cs) (g ∷ gs) rest (suc j) e h =
    let k : 8 * suc j ≡ 8 + 8 * j = omega arith in
    ap (λ (x : ℕ). take 8 (drop x (assignment_record from c g ++ assignment_records from cs gs ++ rest))) k
    ∙ ap (take 8) (sym (drop-drop (8 * j) 8 (assignment_record from c g ++ assignment_records from cs gs ++ rest)))
    ∙ assignment_record_lem from cs gs rest j (omega arith) (omega arith)

-- what is read of a fibre's record is the fibre, under its number
pub fibre_read : (number : ℕ) (f : Fibre) (r : List ℕ) → r ≡ fibre_record number f → ((fibre_of r).number ≡ number) × (span_of (fibre_of r) ≡ f)
unfolding fibre_record
fibre_read number f r e =
    let z = ap fibre_of e ∙ fibre_read_written (record { number = number; first = f.first; last = f.last; layer = f.layer }) in
    (ap (λ x. x.number) z, ap span_of z)

-- what is read of an assignment's record is what the circuit is given, and which circuit it is
pub assignment_read : (c : Circuit) (g : Assignment) (r : List ℕ) → r ≡ assignment_record 0 c g → ((assignment_of r).circuit ≡ c.number) × (place_of (assignment_of r) ≡ g)
unfolding assignment_record
assignment_read c g r e =
    let z = ap assignment_of e ∙ assignment_read_written (record { circuit = c.number; fibre = 0 + g.fibre; wavelength = g.wavelength }) in
    let y : 0 + g.fibre ≡ g.fibre = omega arith in
    (ap (λ x. x.circuit) z, ap place_of z ∙ ap (λ (q : ℕ). let t : Assignment = record { fibre = q; wavelength = g.wavelength } in t) y)

-- the lists that a plan is written to hold that plan
pub plan_read : (p : Plan) (cs : List Circuit) (fibres₀ assigns₀ : List ℕ) → length p.assignments ≡ length cs
    → plan_in (length p.fibres) (length cs) (fibre_list 0 p.fibres fibres₀) (assignment_list 0 cs p.assignments assigns₀) ≡ p
unfolding plan_in fibre_list assignment_list
plan_read p cs fibres₀ assigns₀ many =
    let fs = p.fibres in
    let gs = p.assignments in
    ap₂ (λ (x : List Fibre) (y : List Assignment). let p : Plan = record { fibres = x; assignments = y } in p)
    (table_is no_fibre _ fs (λ i h. (fibre_read (0 + suc i) (get_or fs i no_fibre) _ (fibre_record_lem 0 fs _ i h)).1))
    (ap (λ (m : ℕ). each (λ j. place_of (assignment_of (record_at (assignment_records 0 cs gs ++ drop (8 * length cs) assigns₀) j))) 0 m) (sym many)
    ∙ table_is unassigned _ gs (λ j h. (assignment_read (get_or cs j nobody) (get_or gs j unassigned) _ (assignment_record_lem 0 cs gs _ j many (omega arith))).1))

-- what the plan of two lists gives to circuit j is in its assignment record
pub assigned_in : (k m : ℕ) (fibres assigns : List ℕ) (j : ℕ) → j < m → assigned (plan_in k m fibres assigns) j ≡ place_of (assignment_of (record_at assigns j))
unfolding assigned plan_in
assigned_in k m fibres assigns j h =
    get_d_each (λ j. place_of (assignment_of (record_at assigns j))) 0 m j unassigned h ∙ ap (λ (i : ℕ). place_of (assignment_of (record_at assigns i))) (zero-add j)

-- and its fibre is in the record that this one names
pub fibre_in_lem : (k m : ℕ) (fibres assigns : List ℕ) (j : ℕ) → j < m
    → (1 ≤ (assigned (plan_in k m fibres assigns) j).fibre) × ((assigned (plan_in k m fibres assigns) j).fibre ≤ length (plan_in k m fibres assigns).fibres)
    → fibre_under (plan_in k m fibres assigns) j ≡ span_of (fibre_of (record_at fibres ((assignment_of (record_at assigns j)).fibre - 1)))
unfolding fibre_under plan_in
fibre_in_lem k m fibres assigns j h within =
    let q = (assigned (plan_in k m fibres assigns) j).fibre in
    get_d_each (λ i. span_of (fibre_of (record_at fibres i))) 0 k (q - 1) no_fibre (omega (arith, within.0, within.1, length_each (λ i. span_of (fibre_of (record_at fibres i))) 0 k))
    ∙ ap (λ (i : ℕ). span_of (fibre_of (record_at fibres i))) (zero-add (q - 1) ∙ ap (λ (g : Assignment). g.fibre - 1) (assigned_in k m fibres assigns j h))
