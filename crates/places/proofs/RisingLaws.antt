-- By rising number: who comes, and in which order. Assumes nothing.
use Prim.Native.Nat.{◌+◌, ◌<◌, ◌≤◌, suc, zero, ℕ}
use borrow.Author.Tests.{le-ltb, lt-ltb, ltb-true}
use lib.Dec.{ltb}
use lib.ListN.{drop, get_or, length, length-drop, length-take, take}
use lib.Seq.{get_or-drop, get_or-take}
use mathlib.Core.Bool.{Bool, ◌&&◌, true}
use mathlib.Core.List.{List, [], ◌∷◌}
use mathlib.Core.Logic.{◌≢◌}
use mathlib.Core.Option.{Option, none, some}
use mathlib.Core.Path.{◌∙◌, ◌≡◌, ap, ap₂, refl, subst, sym}
use native.Mathlib.Omega.{arith}
use Rattle.basics.specs.Tools.{count}
use Rattle.basics.proofs.Bools.{and_l, and_of, and_r, by_eq, clash}
use Rattle.basics.proofs.Counts.{count_below, count_lt, count_some}
use Rattle.basics.proofs.Searches.{IsLowest, SameLowest, both_found, lowest_both, lowest_none, lowest_some, none_found}
use Rattle.records.specs.declared.Circuit.{Circuit}
use Rattle.method.specs.Demands.{Rearranged}
use Rattle.method.specs.Line.{Distinct, circuit}
use Rattle.places.specs.Turns.{by_number, next, number, onto, rising}

-- what holds of each of a list
abbrev pub Each : (ℕ → Type 0) → List ℕ → Type 0
Each P [] = Unit {0}
Each P (j ∷ js) = P j × Each P js

-- what follows from it holds of each
pub each_imp : {P Q : ℕ → Type 0} → ((j : ℕ) → P j → Q j) → (js : List ℕ) → Each P js → Each Q js
each_imp h [] a = tt
each_imp h (j ∷ js) a = (h j a.0, each_imp h js a.1)

-- it holds of the one at place t
pub each_at : (P : ℕ → Type 0) (js : List ℕ) → Each P js → (t : ℕ) → t < length js → P (get_or js t 0)
each_at P [] a t l = absurd (omega arith)
each_at P (j ∷ js) a zero l = a.0
each_at P (j ∷ js) a (suc t) l = each_at P js a.1 t (omega arith)

-- what holds of the one at each place holds of each
pub each_of : (P : ℕ → Type 0) (js : List ℕ) → ((t : ℕ) → t < length js → P (get_or js t 0)) → Each P js
each_of P [] h = tt
each_of P (j ∷ js) h = (h 0 (omega arith), each_of P js (λ t l. h (suc t) (omega arith)))

-- the numbers rise, from above z
abbrev pub Rise : List Circuit → ℕ → List ℕ → Type 0
Rise cs z [] = Unit {0}
Rise cs z (j ∷ js) = (z < number cs j) × Rise cs (number cs j) js

-- then all are above z
pub rise_above : (cs : List Circuit) (z y : ℕ) (js : List ℕ) → z ≤ y → Rise cs y js → Each (λ j. z < number cs j) js
rise_above cs z y [] h r = tt
rise_above cs z y (j ∷ js) h r = let r₀ = r.0 in (omega arith, rise_above cs z (number cs j) js (omega arith) r.1)

-- and the later has the higher number
pub rise_at : (cs : List Circuit) (z : ℕ) (js : List ℕ) → Rise cs z js → (s t : ℕ) → s < t → t < length js → number cs (get_or js s 0) < number cs (get_or js t 0)
rise_at cs z [] r s t a b = absurd (omega arith)
rise_at cs z (j ∷ js) r s zero a b = absurd (omega arith)
rise_at cs z (j ∷ js) r zero (suc t) a b = each_at (λ d. number cs j < number cs d) js (rise_above cs (number cs j) (number cs j) js (omega arith) r.1) t (omega arith)
rise_at cs z (j ∷ js) r (suc s) (suc t) a b = rise_at cs (number cs j) js r.1 s t (omega arith) (omega arith)

-- those before turn t have lower numbers
pub before_turn : (cs : List Circuit) (z : ℕ) (js : List ℕ) → Rise cs z js → (t : ℕ) → t < length js → Each (λ d. number cs d < number cs (get_or js t 0)) (take t js)
before_turn cs z js r t l =
    each_of (λ d. number cs d < number cs (get_or js t 0)) (take t js)
    (λ s b.
    let h : s < t = omega (arith, length-take t js) in
    subst (λ d. number cs d < number cs (get_or js t 0)) (sym (get_or-take t js s 0 h)) (rise_at cs z js r s t h l))

-- and those from turn t on do not
pub from_turn : (cs : List Circuit) (z : ℕ) (js : List ℕ) → Rise cs z js → (t : ℕ) → t < length js → Each (λ d. number cs (get_or js t 0) ≤ number cs d) (drop t js)
from_turn cs z js r t l =
    each_of (λ d. number cs (get_or js t 0) ≤ number cs d) (drop t js)
    (λ s b.
    subst (λ d. number cs (get_or js t 0) ≤ number cs d) (sym (get_or-drop t js s 0))
    (by_eq s 0 (λ e. omega (arith, ap (λ x. number cs (get_or js (t + x) 0)) e, ap (λ x. number cs (get_or js x 0)) (let z : t + 0 ≡ t = omega arith in z)))
    (λ e. omega (arith, rise_at cs z js r t (t + s) (omega arith) (omega (arith, length-drop t js))))))

module _ (who : ℕ → Bool) (cs : List Circuit) where
  -- it passes, and its number is above z
  abbrev above : ℕ → ℕ → Bool
  above z j = who j && ltb z (number cs j)

  -- above y is above z if z is no more than y
  above_less : (z y i : ℕ) → z ≤ y → above y i ≡ true → above z i ≡ true
  above_less z y i h u =
      let b : y < number cs i = ltb-true y (number cs i) (and_r (who i) (ltb y (number cs i)) u) in
      and_of (who i) (ltb z (number cs i)) (and_l (who i) (ltb y (number cs i)) u) (lt-ltb z (number cs i) (omega arith))

  -- the next is the lowest above z
  next_is : (z j : ℕ) → next who cs z ≡ some j → IsLowest (above z) (number cs) (length cs) j
  unfolding next
  next_is z j e = lowest_some (above z) (number cs) (length cs) j e

  -- each of them is in the file and passes
  pub rising_are : (k z : ℕ) → Each (λ j. (j < length cs) × (who j ≡ true)) (rising who cs k z)
  unfolding rising onto
  rising_are zero z = tt
  rising_are (suc k) z = go (next who cs z) refl (λ y. rising_are k y)
    where
      go : (o : Option ℕ) → next who cs z ≡ o → ((y : ℕ) → Each (λ j. (j < length cs) × (who j ≡ true)) (rising who cs k y)) → Each (λ j. (j < length cs) × (who j ≡ true)) (onto o (λ j. rising who cs k (number cs j)))
      go none e ih = tt
      go (some j) e ih = let y = next_is z j e in ((y.below, and_l _ _ y.passes), ih (number cs j))

  -- their numbers rise
  pub rising_rise : (k z : ℕ) → Rise cs z (rising who cs k z)
  unfolding rising onto
  rising_rise zero z = tt
  rising_rise (suc k) z = go (next who cs z) refl (λ y. rising_rise k y)
    where
      go : (o : Option ℕ) → next who cs z ≡ o → ((y : ℕ) → Rise cs y (rising who cs k y)) → Rise cs z (onto o (λ j. rising who cs k (number cs j)))
      go none e ih = tt
      go (some j) e ih = let y = next_is z j e in (ltb-true z (number cs j) (and_r (who j) _ y.passes), ih (number cs j))

  -- each that passes comes, if no number stands twice
  module _ (once : Distinct cs) where
    rising_all : (k z : ℕ) → count (above z) (length cs) ≤ k → (j : ℕ) → j < length cs → who j ≡ true → z < number cs j
        → (t : ℕ) × (t < length (rising who cs k z)) × (get_or (rising who cs k z) t 0 ≡ j)
    unfolding rising onto
    rising_all zero z h j l e a = absurd (omega (arith, count_some (above z) (length cs) j l (and_of _ _ e (lt-ltb z (number cs j) a))))
    rising_all (suc k) z h j l e a = go (next who cs z) refl (λ y b c. rising_all k y b j l e c)
      where
        go : (o : Option ℕ) → next who cs z ≡ o
            → ((y : ℕ) → count (above y) (length cs) ≤ k → y < number cs j → (t : ℕ) × (t < length (rising who cs k y)) × (get_or (rising who cs k y) t 0 ≡ j))
            → (t : ℕ) × (t < length (onto o (λ j. rising who cs k (number cs j)))) × (get_or (onto o (λ j. rising who cs k (number cs j))) t 0 ≡ j)
        go none q ih = clash (above z j) (and_of _ _ e (lt-ltb z (number cs j) a)) (lowest_none (above z) (number cs) (length cs) (unfold next in q) j l)
        go (some d) q ih =
            let y = next_is z d q in
            let yd : who d ≡ true = and_l _ _ y.passes in
            by_eq j d (λ v. (0, omega arith, sym v))
            (λ v.
            let b : number cs d ≤ number cs j = y.least j l (and_of _ _ e (lt-ltb z (number cs j) a)) in
            let c : number cs d ≢ number cs j = λ u. v (sym (once d j y.below l u)) in
            let zd : z < number cs d = ltb-true z (number cs d) (and_r (who d) _ y.passes) in
            let less = count_lt (above (number cs d)) (above z) (length cs)
            (λ i li ui. above_less z (number cs d) i (omega arith) ui)
            d y.below (rw (yd, le-ltb (number cs d) (number cs d) (omega arith))) y.passes in
            let r = ih (number cs d) (omega arith) (omega arith) in
            let r₁ = r.1 in
            (suc r.0, omega arith, r.2))

    -- each that passes has its turn, if its number is not 0
    pub turn_of_lem : (j : ℕ) → j < length cs → who j ≡ true → 1 ≤ number cs j → (t : ℕ) × (t < length (by_number who cs)) × (get_or (by_number who cs) t 0 ≡ j)
    turn_of_lem j l e a = rising_all (length cs) 0 (count_below (above 0) (length cs)) j l e a

-- TWO FILES with the same records
module _ (cs ds : List Circuit) (once : Distinct cs) (h : Rearranged cs ds) where
  -- the same circuit, at place i of one file and j of the other
  pub record Twin (i j : ℕ) : Type 0 where
    pub in_cs : i < length cs
    pub in_ds : j < length ds
    pub is : j ≡ h.there i

  -- each circuit of one file is in the other
  pub twin_to : (i : ℕ) → i < length cs → Twin i (h.there i)
  twin_to i l = record { in_cs = l; in_ds = (h.to i l).0; is = refl }

  -- and the other way
  pub twin_fro : (j : ℕ) → j < length ds → Twin (h.back j) j
  twin_fro j l = record { in_cs = (h.fro j l).0; in_ds = l; is = sym (h.fro j l).1 }

  -- it is the same
  pub twin_same : (i j : ℕ) → Twin i j → circuit cs i ≡ circuit ds j
  twin_same i j t = (h.to i t.in_cs).2 ∙ ap (circuit ds) (sym t.is)

  -- the same number makes the same circuit
  pub twin_of : (i j : ℕ) → i < length cs → j < length ds → number cs i ≡ number ds j → Twin i j
  twin_of i j a b e =
      let x = h.fro j b in
      let z : i ≡ h.back j = once i (h.back j) a x.0 (e ∙ ap (λ c. c.number) x.2) in
      record { in_cs = a; in_ds = b; is = sym x.1 ∙ ap h.there (sym z) }

  -- THE TURNS: the same circuits in the same order
  abbrev pub Twins : List ℕ → List ℕ → Type 0
  Twins [] [] = Unit {0}
  Twins [] (j ∷ js) = ⊥
  Twins (i ∷ is) [] = ⊥
  Twins (i ∷ is) (j ∷ js) = Twin i j × Twins is js

  module _ (who who' : ℕ → Bool) (alike : (i j : ℕ) → Twin i j → who i ≡ who' j) where
    -- the same circuit may come next, or may not
    ok_same : (z i j : ℕ) → Twin i j → above who cs z i ≡ above who' ds z j
    ok_same z i j t = ap₂ (λ (b : Bool) (c : Circuit). b && ltb z c.number) (alike i j t) (twin_same i j t)

    -- so the same comes next, and so on
    pub rising_same : (k z : ℕ) → Twins (rising who cs k z) (rising who' ds k z)
    unfolding rising onto next
    rising_same zero z = tt
    rising_same (suc k) z =
        go (λ y. rising_same k y)
        (lowest_both (above who cs z) (above who' ds z) (number cs) (number ds) (length cs) (length ds)
        (λ i l e. let t = twin_to i l in (h.there i, t.in_ds, sym (ok_same z i (h.there i) t) ∙ e, sym (ap (λ c. c.number) (twin_same i (h.there i) t))))
        (λ j l e. let t = twin_fro j l in (h.back j, t.in_cs, ok_same z (h.back j) j t ∙ e, ap (λ c. c.number) (twin_same (h.back j) j t))))
      where
        go : ((y : ℕ) → Twins (rising who cs k y) (rising who' ds k y)) → SameLowest (above who cs z) (above who' ds z) (number cs) (number ds) (length cs) (length ds)
            → Twins (onto (next who cs z) (λ j. rising who cs k (number cs j))) (onto (next who' ds z) (λ j. rising who' ds k (number ds j)))
        go ih (none_found a b) = rw (a, b) tt
        go ih (both_found i j x y m a b) = rw (a, b) (twin_of i j x.below y.below m, subst (λ n. Twins (rising who cs k (number cs i)) (rising who' ds k n)) m (ih (number cs i)))
