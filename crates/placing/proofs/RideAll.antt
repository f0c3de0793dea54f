-- All circuits of a file ride, one after the other. Assumes nothing.
use Prim.Native.Nat.{◌+◌, ◌*◌, ◌-◌, ◌<◌, ◌≤◌, suc, ℕ}
use borrow.Author.Tests.{ne_eqb}
use lib.Dec.{eqb}
use lib.ListN.{get_or-eq_default, get_or, length, length-append, length-set, length-take, replicate, set, take}
use lib.Seq.{ext_get_or, get_or-take, set-append_left, take_all}
use mathlib.Core.List.{List, [], ◌++◌}
use mathlib.Core.Path.{◌∙◌, ◌≡◌, ap, refl, subst, sym}
use native.Mathlib.Nat.{zero-add}
use native.Mathlib.Omega.{arith}
use Rattle.basics.proofs.Bools.{by_eq, by_le}
use Rattle.basics.proofs.Counts.{count_none}
use Rattle.basics.proofs.Tables.{get_d_each, length_each, zeros_at}
use Rattle.records.specs.Records.{assignment_of, circuit_of, circuits_in, record_at}
use Rattle.records.specs.declared.AssignmentRecord.{AssignmentRecord}
use Rattle.records.specs.declared.Circuit.{Circuit}
use Rattle.records.proofs.Files.{length_circuits_in}
use Rattle.method.specs.Line.{Assignment, Valid, assigned, circuit, unassigned}
use Rattle.register.specs.Plans.{place_of, plan_in}
use Rattle.method.proofs.Circuits.{circuit_in_lem}
use Rattle.places.specs.Places.{Rider, given_to, no_rider, rider, riders, riding}
use Rattle.places.proofs.RiderLaws.{length_riders, rider_is, rider_new, rider_old, rider_other, rider_same}
use Rattle.placing.specs.Riding.{GivenAll, NoneRides, Riding, places_of, spans_of}
use Rattle.placing.specs.inner.Rides.{RidingTo, noted}
use Rattle.placing.proofs.RideLaws.{none_rides, rides}
use Rattle.placing.proofs.SpotLaws.{length_spans_of}

-- one assignment for each record
pub length_places_of : (m : ℕ) (s : List ℕ) → length (places_of m s) ≡ m
unfolding places_of
length_places_of m s = length_each (λ i. place_of (assignment_of (record_at s i))) 0 m

-- assignment j is what its record says
pub assignment_in : (m : ℕ) (s : List ℕ) (j : ℕ) → j < m → given_to (places_of m s) j ≡ place_of (assignment_of (record_at s j))
unfolding given_to places_of
assignment_in m s j l = get_d_each (λ i. place_of (assignment_of (record_at s i))) 0 m j unassigned l ∙ ap (λ i. place_of (assignment_of (record_at s i))) (zero-add j)

-- riders without a place stand in empty chains
pub none_riding : (many : ℕ) (rs : List Rider) (ends assigns heads next : List ℕ) (n : ℕ) → NoneRides rs → length rs ≤ 2048 → 4 * length rs ≤ length ends → 8 * length rs ≤ length assigns → heads ≡ replicate n 0
    → Riding many rs ends assigns heads next
none_riding many rs ends assigns heads next n none few e a z =
    record {
      numbered = λ d l. omega (arith, none d l);
      chained = λ q one top.
          record {
            few = few;
            room_ends = e;
            room_assigns = a;
            places = [];
            linked = ap (λ l. get_or l (q - 1) 0) z ∙ zeros_at n (q - 1);
            mine = λ d x. absurd x;
            all = λ d l f. absurd (let y = none d l in omega arith);
            once = sym (count_none (λ d. eqb (rider rs d).fibre q) (length rs) (λ d l. ne_eqb (rider rs d).fibre q (λ f. absurd (let y = none d l in omega arith))));
            first_is = λ d l f. absurd (let y = none d l in omega arith);
            last_is = λ d l f. absurd (let y = none d l in omega arith);
            wave_is = λ d l f. absurd (let y = none d l in omega arith);
            wave_fits = λ d l f. absurd (let y = none d l in omega arith);
          };
    }

-- the first j are given what gs says
at_first : (gs : List Assignment) (j i : ℕ) → i < j → given_to (take j gs) i ≡ given_to gs i
unfolding given_to
at_first gs j i l = get_or-take j gs i unassigned l

-- the others have none
at_later : (gs : List Assignment) (j i : ℕ) → j ≤ i → given_to (take j gs) i ≡ unassigned
unfolding given_to
at_later gs j i l = get_or-eq_default (take j gs) unassigned (let n = length-take j gs in omega arith)

-- one more
riders_more : (cs : List Circuit) (gs : List Assignment) (j : ℕ) → j < length cs → riders cs (take (j + 1) gs) ≡ set (riders cs (take j gs)) j (riding (circuit cs j) (given_to gs j))
unfolding rider
riders_more cs gs j l =
    let n = length_riders cs (take j gs) in
    let n' = length_riders cs (take (j + 1) gs) in
    ext_get_or no_rider (riders cs (take (j + 1) gs)) (set (riders cs (take j gs)) j (riding (circuit cs j) (given_to gs j))) (n' ∙ sym (length-set (riders cs (take j gs)) j (riding (circuit cs j) (given_to gs j)) ∙ n))
    (λ i b.
    let k : i < length cs = omega arith in
    by_eq i j
    (λ e.
    rider_is cs (take (j + 1) gs) i k ∙ ap (riding (circuit cs i)) (at_first gs (j + 1) i (omega arith)) ∙ ap (λ x. riding (circuit cs x) (given_to gs x)) e
    ∙ sym (ap (rider (set (riders cs (take j gs)) j (riding (circuit cs j) (given_to gs j)))) e ∙ rider_same (riders cs (take j gs)) j (riding (circuit cs j) (given_to gs j)) (omega arith)))
    (λ e.
    rider_is cs (take (j + 1) gs) i k
    ∙ ap (riding (circuit cs i)) (by_le i j (λ x. at_first gs (j + 1) i (omega arith) ∙ sym (at_first gs j i (omega arith))) (λ x. at_later gs (j + 1) i (omega arith) ∙ sym (at_later gs j i (omega arith))))
    ∙ sym (rider_other (riders cs (take j gs)) j i (riding (circuit cs j) (given_to gs j)) e ∙ rider_is cs (take j gs) i k)))

-- THE LOOP. Nobody of the file rides yet
pub ride_start : (many m : ℕ) (s : List ℕ) (gs : List Assignment) (ends assigns heads next : List ℕ) → heads ≡ replicate 2048 0 → RidingTo many m s gs (length ends) ends assigns heads next 0
ride_start many m s gs ends assigns heads next z xs none a b c =
    let n = length_riders (circuits_in m s) [] in
    let k = length_circuits_in m s in
    let w = length-append (riders (circuits_in m s) []) xs in
    none_riding many (riders (circuits_in m s) [] ++ xs) ends assigns heads next 2048
    (λ d l.
    by_le (suc d) (length (riders (circuits_in m s) []))
    (λ x. ap (λ (r : Rider). r.fibre) (rider_old (riders (circuits_in m s) []) xs d x ∙ rider_is (circuits_in m s) [] d (omega arith)) ∙ ap (λ (g : Assignment). g.fibre) (at_later [] 0 d (omega arith)))
    (λ x.
    let e : d ≡ length (riders (circuits_in m s) []) + (d - length (riders (circuits_in m s) [])) = omega arith in
    ap (λ i. (rider (riders (circuits_in m s) [] ++ xs) i).fibre) e ∙ ap (λ (r : Rider). r.fibre) (rider_new (riders (circuits_in m s) []) xs (d - length (riders (circuits_in m s) []))) ∙ none (d - length (riders (circuits_in m s) [])) (omega arith)))
    (omega arith) (omega arith) (omega arith) z

-- circuit j has no place yet, of those of the file
none_at_turn : (m : ℕ) (s : List ℕ) (gs : List Assignment) (xs : List Rider) (j : ℕ) → j < m → (rider (riders (circuits_in m s) (take j gs) ++ xs) j).fibre ≡ 0
none_at_turn m s gs xs j l =
    let k = length_circuits_in m s in
    let n = length_riders (circuits_in m s) (take j gs) in
    ap (λ (r : Rider). r.fibre) (rider_old (riders (circuits_in m s) (take j gs)) xs j (omega arith) ∙ rider_is (circuits_in m s) (take j gs) j (omega arith)) ∙ ap (λ (g : Assignment). g.fibre) (at_later gs j j (omega arith))

-- it rides
pub ride_turn : (many m j : ℕ) (s : List ℕ) (gs : List Assignment) (room : ℕ) (ends assigns heads next ends' heads' next' : List ℕ) (c : Circuit) (a : AssignmentRecord) (q : ℕ) → j < m → many ≤ length heads → length next ≡ 2048
    → given_to gs j ≡ place_of (assignment_of (record_at assigns j)) → 1 ≤ q → q ≤ many → (assignment_of (record_at assigns j)).wavelength < 96
    → c ≡ circuit_of (record_at s j) → a ≡ assignment_of (record_at assigns j) → q ≡ a.fibre
    → ends' ≡ noted c j ends → heads' ≡ set heads (q - 1) (j + 1) → next' ≡ set next j (get_or heads (q - 1) 0)
    → RidingTo many m s gs room ends assigns heads next j → RidingTo many m s gs room ends' assigns heads' next' (j + 1)
ride_turn many m j s gs room ends assigns heads next ends' heads' next' c a q l wide deep g one top fits ec ea eq e₁ e₂ e₃ h xs none x y z =
    let cs = circuits_in m s in
    let k = length_circuits_in m s in
    let n = length_riders cs (take j gs) in
    let w = length-append (riders cs (take j gs)) xs in
    let f : q ≡ (assignment_of (record_at assigns j)).fibre = eq ∙ ap (λ (r : AssignmentRecord). r.fibre) ea in
    let r : Rider = record { who = c; fibre = q; wavelength = (assignment_of (record_at assigns j)).wavelength } in
    let is : riding (circuit cs j) (given_to gs j) ≡ r =
    ap (riding (circuit cs j)) g ∙ ap (λ (x : Circuit). riding x (place_of (assignment_of (record_at assigns j)))) (circuit_in_lem m s j l ∙ sym ec)
    ∙ ap (λ (x : ℕ). let t : Rider = record { who = c; fibre = x; wavelength = (assignment_of (record_at assigns j)).wavelength } in t) (sym f) in
    let step : riders cs (take (j + 1) gs) ++ xs ≡ set (riders cs (take j gs) ++ xs) j r =
    ap (λ l. l ++ xs) (riders_more cs gs j (omega arith) ∙ ap (set (riders cs (take j gs)) j) is) ∙ sym (set-append_left (riders cs (take j gs)) xs j r (omega arith)) in
    subst (λ rs. Riding many rs ends' assigns heads' next') (sym step)
    (rides many (riders cs (take j gs) ++ xs) j c q (assignment_of (record_at assigns j)).wavelength ends assigns ends' assigns heads heads' next next' (omega arith) (none_at_turn m s gs xs j l) one top wide (omega arith) fits refl
    (λ d b i. refl) refl e₁ e₂ e₃ (h xs none x y z))

-- it does not
pub ride_skip : (many m j : ℕ) (s : List ℕ) (gs : List Assignment) (room : ℕ) (ends assigns heads next : List ℕ) → j < m → given_to gs j ≡ unassigned → RidingTo many m s gs room ends assigns heads next j → RidingTo many m s gs room ends assigns heads next (j + 1)
ride_skip many m j s gs room ends assigns heads next l g h xs none x y z =
    let cs = circuits_in m s in
    let k = length_circuits_in m s in
    let n = length_riders cs (take j gs) in
    let w = length-append (riders cs (take j gs)) xs in
    let r : Rider = riding (circuit cs j) (given_to gs j) in
    let step : riders cs (take (j + 1) gs) ++ xs ≡ set (riders cs (take j gs) ++ xs) j r = ap (λ l. l ++ xs) (riders_more cs gs j (omega arith)) ∙ sym (set-append_left (riders cs (take j gs)) xs j r (omega arith)) in
    subst (λ rs. Riding many rs ends assigns heads next) (sym step)
    (none_rides many (riders cs (take j gs) ++ xs) j r ends assigns assigns heads next (omega arith) (none_at_turn m s gs xs j l) (ap (λ (y : Assignment). y.fibre) g) refl (λ d b i. refl) (h xs none x y z))

-- all ride
pub ride_end : (many m j : ℕ) (s : List ℕ) (gs : List Assignment) (room : ℕ) (ends assigns heads next : List ℕ) → length gs ≤ j → RidingTo many m s gs room ends assigns heads next j
    → (xs : List Rider) → NoneRides xs → m + length xs ≤ 2048 → 4 * (m + length xs) ≤ room → 8 * (m + length xs) ≤ length assigns → Riding many (riders (circuits_in m s) gs ++ xs) ends assigns heads next
ride_end many m j s gs room ends assigns heads next l h xs none x y z = subst (λ g. Riding many (riders (circuits_in m s) g ++ xs) ends assigns heads next) (take_all j gs l) (h xs none x y z)

-- the records of a valid plan: what `ride_all` asks
pub valid_given : (many m w : ℕ) (fibres assigns : List ℕ) (cs : List Circuit) → length cs ≡ m → w < 96 → Valid w cs (plan_in many m fibres assigns) → GivenAll many m assigns
unfolding assigned given_to places_of spans_of plan_in
valid_given many m w fibres assigns cs n few v j l =
    let e = assignment_in m assigns j l in
    let f = ap (λ (g : Assignment). g.fibre) e in
    let g = ap (λ (g : Assignment). g.wavelength) e in
    let x = v.numbered j (omega arith) in
    let x₀ = x.0 in
    let x₁ = x.1 in
    let y = v.wavelength_in j (omega arith) in
    let y₁ = y.1 in
    let k = length_spans_of many fibres in
    (omega arith, omega arith, omega arith)
