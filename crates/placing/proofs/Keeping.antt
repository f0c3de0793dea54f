-- Those of a file that are kept, and one more of them. Assumes nothing.
use Prim.Native.Nat.{◌*◌, ◌<◌, ◌≤◌, ℕ}
use borrow.Author.Tests.{eq-eqb, ne_eqb}
use lib.Dec.{eqb}
use lib.ListN.{get_or, length, length-set, replicate, set}
use lib.Seq.{ext_get_or, get_or-set_other, get_or-set_same}
use mathlib.Core.Bool.{cond}
use mathlib.Core.List.{List}
use mathlib.Core.Logic.{◌≢◌}
use mathlib.Core.Path.{◌∙◌, ◌≡◌, ap, refl, subst, sym}
use native.Mathlib.Nat.{zero-add}
use native.Mathlib.Omega.{arith}
use Rattle.basics.proofs.Bools.{by_eq}
use Rattle.basics.proofs.Tables.{get_d_each, length_each}
use Rattle.records.specs.Records.{assignment_of, circuit_of, circuits_in, record_at}
use Rattle.records.specs.declared.AssignmentRecord.{AssignmentRecord}
use Rattle.records.specs.declared.Circuit.{Circuit}
use Rattle.records.proofs.Files.{length_circuits_in}
use Rattle.method.specs.Line.{Assignment, circuit, unassigned}
use Rattle.method.proofs.Circuits.{circuit_in_lem}
use Rattle.register.specs.Plans.{place_of}
use Rattle.places.specs.Places.{Rider, given_to, rider, riders, riding}
use Rattle.places.proofs.RiderLaws.{length_riders, rider_is, riders_set}
use Rattle.placing.specs.Riding.{Given, Riding, kept_at, kept_in}
use Rattle.placing.specs.inner.Rides.{Ridden}
use Rattle.placing.proofs.RideAll.{none_riding}
use Rattle.placing.proofs.RideLaws.{rides}

-- one assignment for each record, kept or not
pub length_kept_in : (m : ℕ) (s K : List ℕ) → length (kept_in m s K) ≡ m
unfolding kept_in
length_kept_in m s K = length_each (kept_at s K) 0 m

-- what record j gives
kept_is : (m : ℕ) (s K : List ℕ) (j : ℕ) → j < m → given_to (kept_in m s K) j ≡ kept_at s K j
unfolding given_to kept_in
kept_is m s K j l = get_d_each (kept_at s K) 0 m j unassigned l ∙ ap (kept_at s K) (zero-add j)

-- with flag 0: none
pub kept_not : (m : ℕ) (s K : List ℕ) (j : ℕ) → j < m → get_or K j 0 ≡ 0 → given_to (kept_in m s K) j ≡ unassigned
unfolding kept_at
kept_not m s K j l e = kept_is m s K j l ∙ ap (λ b. cond b unassigned (place_of (assignment_of (record_at s j)))) (eq-eqb (get_or K j 0) 0 e)

-- with another: what its record says
pub kept_yes : (m : ℕ) (s K : List ℕ) (j : ℕ) → j < m → get_or K j 0 ≢ 0 → given_to (kept_in m s K) j ≡ place_of (assignment_of (record_at s j))
unfolding kept_at
kept_yes m s K j l e = kept_is m s K j l ∙ ap (λ b. cond b unassigned (place_of (assignment_of (record_at s j)))) (ne_eqb (get_or K j 0) 0 e)

-- one flag more is set: one assignment more
pub kept_more : (m : ℕ) (s K : List ℕ) (j : ℕ) → j < m → j < length K → kept_in m s (set K j 1) ≡ set (kept_in m s K) j (place_of (assignment_of (record_at s j)))
unfolding given_to kept_at
kept_more m s K j l room =
    let g : Assignment = place_of (assignment_of (record_at s j)) in
    let n = length_kept_in m s K in
    let n' = length_kept_in m s (set K j 1) in
    let e₁ = get_or-set_same K j 1 0 room in
    ext_get_or unassigned (kept_in m s (set K j 1)) (set (kept_in m s K) j g) (n' ∙ sym (length-set (kept_in m s K) j g ∙ n))
    (λ i b.
    by_eq i j
    (λ e.
    ap (λ x. get_or (kept_in m s (set K j 1)) x unassigned) e ∙ kept_yes m s (set K j 1) j l (λ z. absurd (omega (arith, e₁, z)))
    ∙ sym (ap (λ x. get_or (set (kept_in m s K) j g) x unassigned) e ∙ get_or-set_same (kept_in m s K) j g unassigned (omega arith)))
    (λ e.
    kept_is m s (set K j 1) i (omega arith) ∙ ap (λ x. cond (eqb x 0) unassigned (place_of (assignment_of (record_at s i)))) (get_or-set_other K j i 1 0 e)
    ∙ sym (get_or-set_other (kept_in m s K) j i g unassigned e ∙ kept_is m s K i (omega arith))))

-- nobody is kept yet
pub none_kept : (many m : ℕ) (s ends assigns K heads next : List ℕ) → ((j : ℕ) → j < m → get_or K j 0 ≡ 0) → m ≤ 2048 → 4 * m ≤ length ends → 8 * m ≤ length assigns → heads ≡ replicate 2048 0
    → Riding many (riders (circuits_in m s) (kept_in m assigns K)) ends assigns heads next
none_kept many m s ends assigns K heads next none few e a z =
    let cs = circuits_in m s in
    let k = length_circuits_in m s in
    let n = length_riders cs (kept_in m assigns K) in
    none_riding many (riders cs (kept_in m assigns K)) ends assigns heads next 2048
    (λ d l. ap (λ (r : Rider). r.fibre) (rider_is cs (kept_in m assigns K) d (omega arith)) ∙ ap (λ (g : Assignment). g.fibre) (kept_not m assigns K d (omega arith) (none d (omega arith)))) (omega arith) (omega arith) (omega arith) z

-- circuit j is kept, and rides
pub keeps_riding : (many m j : ℕ) (s ends assigns K heads next ends' heads' next' : List ℕ) (c : Circuit) (a : AssignmentRecord) (q : ℕ) → j < m → j < length K → many ≤ length heads → m ≤ length next → get_or K j 0 ≡ 0
    → Given many assigns j → c ≡ circuit_of (record_at s j) → a ≡ assignment_of (record_at assigns j) → q ≡ a.fibre → Ridden c j q ends heads next ends' heads' next'
    → Riding many (riders (circuits_in m s) (kept_in m assigns K)) ends assigns heads next → Riding many (riders (circuits_in m s) (kept_in m assigns (set K j 1))) ends' assigns heads' next'
keeps_riding many m j s ends assigns K heads next ends' heads' next' c a q l room wide deep none given ec ea eq r h =
    let cs = circuits_in m s in
    let gs = kept_in m assigns K in
    let k = length_circuits_in m s in
    let n = length_riders cs gs in
    let g₀ = given.0 in
    let g₁ = given.1 in
    let f : q ≡ (assignment_of (record_at assigns j)).fibre = eq ∙ ap (λ (x : AssignmentRecord). x.fibre) ea in
    let who : Rider = record { who = c; fibre = q; wavelength = (assignment_of (record_at assigns j)).wavelength } in
    let is : riding (circuit cs j) (place_of (assignment_of (record_at assigns j))) ≡ who =
    ap (λ (x : Circuit). riding x (place_of (assignment_of (record_at assigns j)))) (circuit_in_lem m s j l ∙ sym ec)
    ∙ ap (λ (x : ℕ). let t : Rider = record { who = c; fibre = x; wavelength = (assignment_of (record_at assigns j)).wavelength } in t) (sym f) in
    let step : riders cs (kept_in m assigns (set K j 1)) ≡ set (riders cs gs) j who =
    ap (riders cs) (kept_more m assigns K j l room) ∙ riders_set cs gs j (place_of (assignment_of (record_at assigns j))) (length_kept_in m assigns K ∙ sym k) ∙ ap (set (riders cs gs) j) is in
    let none_yet : (rider (riders cs gs) j).fibre ≡ 0 =
    ap (λ (x : Rider). x.fibre) (rider_is cs gs j (omega arith)) ∙ ap (λ (x : Assignment). x.fibre) (kept_not m assigns K j l none) in
    subst (λ rs. Riding many rs ends' assigns heads' next') (sym step)
    (rides many (riders cs gs) j c q (assignment_of (record_at assigns j)).wavelength ends assigns ends' assigns heads heads' next next' (omega arith) none_yet (omega arith) (omega arith) wide (omega arith) given.2 refl (λ d b i. refl) refl
    r.0 r.1 r.2 h)
