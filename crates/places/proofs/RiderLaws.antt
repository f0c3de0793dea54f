-- The riders of a file, one by one. Assumes nothing.
use Prim.Native.Nat.{◌+◌, ◌-◌, ◌<◌, ◌≤◌, suc, ℕ}
use lib.ListN.{get_or-append, get_or-eq_default, length, length-append, length-set, set}
use lib.Seq.{ext_get_or, get_or-append-add, get_or-set_other, get_or-set_same}
use mathlib.Core.List.{List, [], ◌++◌, ◌∷◌}
use mathlib.Core.Logic.{◌≢◌}
use mathlib.Core.Path.{◌∙◌, ◌≡◌, ap, sym}
use native.Mathlib.Nat.{suc-add, zero-add}
use native.Mathlib.Omega.{arith}
use Rattle.basics.proofs.Bools.{by_eq, by_le}
use Rattle.basics.proofs.Tables.{get_d_each, length_each}
use Rattle.records.specs.declared.Circuit.{Circuit}
use Rattle.method.specs.Demands.{Rearranged}
use Rattle.method.specs.Line.{Assignment, circuit, unassigned}
use Rattle.places.specs.Places.{Rider, SameRiders, given_to, no_rider, rider, riders, riding}

-- there is one for each circuit
pub length_riders : (cs : List Circuit) (gs : List Assignment) → length (riders cs gs) ≡ length cs
unfolding riders
length_riders cs gs = length_each (λ j. riding (circuit cs j) (given_to gs j)) 0 (length cs)

-- which is that circuit, with what it is given
pub rider_is : (cs : List Circuit) (gs : List Assignment) (j : ℕ) → j < length cs → rider (riders cs gs) j ≡ riding (circuit cs j) (given_to gs j)
unfolding rider riders
rider_is cs gs j l = get_d_each (λ j. riding (circuit cs j) (given_to gs j)) 0 (length cs) j no_rider l ∙ ap (λ k. riding (circuit cs k) (given_to gs k)) (zero-add j)

-- past the end stands nobody
pub rider_out : (rs : List Rider) (j : ℕ) → length rs ≤ j → rider rs j ≡ no_rider
unfolding rider
rider_out rs j l = get_or-eq_default rs no_rider l

-- the riders of one list, and then those of another
pub rider_old : (rs ss : List Rider) (j : ℕ) → j < length rs → rider (rs ++ ss) j ≡ rider rs j
unfolding rider
rider_old rs ss j l = get_or-append rs ss no_rider j l

-- the other's
pub rider_new : (rs ss : List Rider) (k : ℕ) → rider (rs ++ ss) (length rs + k) ≡ rider ss k
unfolding rider
rider_new rs ss k = get_or-append-add rs ss k no_rider

-- a place that is set
pub given_same : (gs : List Assignment) (j : ℕ) (g : Assignment) → j < length gs → given_to (set gs j g) j ≡ g
unfolding given_to
given_same gs j g l = get_or-set_same gs j g unassigned l

-- the others' places stay
pub given_other : (gs : List Assignment) (j i : ℕ) (g : Assignment) → i ≢ j → given_to (set gs j g) i ≡ given_to gs i
unfolding given_to
given_other gs j i g h = get_or-set_other gs j i g unassigned h

-- a rider that is set
pub rider_same : (rs : List Rider) (j : ℕ) (r : Rider) → j < length rs → rider (set rs j r) j ≡ r
unfolding rider
rider_same rs j r l = get_or-set_same rs j r no_rider l

-- the others stay
pub rider_other : (rs : List Rider) (j i : ℕ) (r : Rider) → i ≢ j → rider (set rs j r) i ≡ rider rs i
unfolding rider
rider_other rs j i r h = get_or-set_other rs j i r no_rider h

-- a circuit that is given a place is a rider that is set
pub riders_set : (cs : List Circuit) (gs : List Assignment) (j : ℕ) (g : Assignment) → length gs ≡ length cs → riders cs (set gs j g) ≡ set (riders cs gs) j (riding (circuit cs j) g)
unfolding rider
riders_set cs gs j g s =
    ext_get_or no_rider (riders cs (set gs j g)) (set (riders cs gs) j (riding (circuit cs j) g))
    (length_riders cs (set gs j g) ∙ sym (length-set (riders cs gs) j (riding (circuit cs j) g) ∙ length_riders cs gs))
    (λ i b.
    let l : i < length cs = omega (arith, length_riders cs (set gs j g)) in
    let is = rider_is cs (set gs j g) i l in
    by_eq i j
    (λ e.
    is ∙ ap (λ k. riding (circuit cs k) (given_to (set gs j g) k)) e ∙ ap (riding (circuit cs j)) (given_same gs j g (omega arith))
    ∙ sym (ap (rider (set (riders cs gs) j (riding (circuit cs j) g))) e ∙ rider_same (riders cs gs) j (riding (circuit cs j) g) (omega (arith, length_riders cs gs))))
    (λ e. is ∙ ap (riding (circuit cs i)) (given_other gs j i g e) ∙ sym (rider_other (riders cs gs) j i (riding (circuit cs j) g) e ∙ rider_is cs gs i l)))

-- to set one in the second of two lists
pub append_set : (rs ss : List Rider) (j : ℕ) (r : Rider) → rs ++ set ss j r ≡ set (rs ++ ss) (length rs + j) r
append_set [] ss j r = ap (λ i. set ss i r) (sym (zero-add j))
append_set (x ∷ rs) ss j r = ap (λ l. x ∷ l) (append_set rs ss j r) ∙ sym (ap (λ i. set (x ∷ rs ++ ss) i r) (suc-add (length rs) j))

-- two lists with the same riders, each after two such lists
pub same_append : (rs rs' ss ss' : List Rider) → SameRiders rs rs' → SameRiders ss ss' → SameRiders (rs ++ ss) (rs' ++ ss')
same_append rs rs' ss ss' a b = record { to = one rs rs' ss ss' a.to b.to; fro = one rs' rs ss' ss a.fro b.fro }
  where
    one : (rs rs' ss ss' : List Rider)
        → ((d : ℕ) → d < length rs → (e : ℕ) × (e < length rs') × (rider rs d ≡ rider rs' e))
        → ((d : ℕ) → d < length ss → (e : ℕ) × (e < length ss') × (rider ss d ≡ rider ss' e))
        → (d : ℕ) → d < length (rs ++ ss) → (e : ℕ) × (e < length (rs' ++ ss')) × (rider (rs ++ ss) d ≡ rider (rs' ++ ss') e)
    one rs rs' ss ss' a b d l =
        by_le (suc d) (length rs)
        (λ h.
        let x = a d h in
        let x₁ = x.1 in
        (x.0, omega (arith, length-append rs' ss'), rider_old rs ss d h ∙ x.2 ∙ sym (rider_old rs' ss' x.0 x.1)))
        (λ h.
        let k = d - length rs in
        let z : d ≡ length rs + k = omega arith in
        let x = b k (omega (arith, length-append rs ss)) in
        let x₁ = x.1 in
        (length rs' + x.0, omega (arith, length-append rs' ss'), ap (rider (rs ++ ss)) z ∙ rider_new rs ss k ∙ x.2 ∙ sym (rider_new rs' ss' x.0)))

-- the same records in another order, each given the same, are the same riders
pub same_riders : (cs ds : List Circuit) (gs hs : List Assignment) (r : Rearranged cs ds) → ((i : ℕ) → i < length cs → given_to gs i ≡ given_to hs (r.there i)) → SameRiders (riders cs gs) (riders ds hs)
same_riders cs ds gs hs r same =
    let one : (i : ℕ) → i < length cs → rider (riders cs gs) i ≡ rider (riders ds hs) (r.there i) =
    λ i l.
    let t = r.to i l in
    rider_is cs gs i l ∙ ap (λ c. riding c (given_to gs i)) t.2 ∙ ap (riding (circuit ds (r.there i))) (same i l) ∙ sym (rider_is ds hs (r.there i) t.0) in
    record {
      to = λ i b. let l : i < length cs = omega (arith, length_riders cs gs) in let t = r.to i l in let t₀ = t.0 in (r.there i, omega (arith, length_riders ds hs), one i l);
      fro = λ j b.
          let l : j < length ds = omega (arith, length_riders ds hs) in
          let t = r.fro j l in
          let t₀ = t.0 in
          (r.back j, omega (arith, length_riders cs gs), sym (one (r.back j) t.0 ∙ ap (rider (riders ds hs)) t.1));
    }
