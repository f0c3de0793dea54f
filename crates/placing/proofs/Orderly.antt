-- The order of the turns: what `order` makes is the order of `by_number`. Assumes nothing.
use Prim.Native.Nat.{◌<◌, ◌≤◌, suc, zero, ℕ}
use lib.ListN.{get_or, length, replicate}
use mathlib.Core.Bool.{Bool, true}
use mathlib.Core.List.{List, [], ◌∷◌}
use mathlib.Core.Logic.{◌≢◌, inl, inr, ⊎_elim}
use mathlib.Core.Path.{◌∙◌, ◌≡◌, ap, ap₂, refl, subst, sym}
use native.Mathlib.Omega.{arith}
use Rattle.records.specs.declared.Circuit.{Circuit}
use Rattle.method.specs.Line.{Assignment, Distinct, Plan, unassigned}
use Rattle.order.specs.Order.{Ordered}
use Rattle.places.specs.Places.{given_to, riders}
use Rattle.places.specs.Turns.{by_number, number}
use Rattle.places.proofs.RisingLaws.{Rise, each_at, rising_are, rising_rise, turn_of_lem}
use Rattle.additions.specs.Adding.{give, places_found}
use Rattle.placing.specs.Riding.{Among}
use Rattle.placing.specs.Turns.{InTurn}

-- what stands at a place of a list is among it
pub among_at : (js : List ℕ) (t : ℕ) → t < length js → Among (get_or js t 0) js
among_at [] t l = absurd (omega arith)
among_at (j ∷ js) zero l = inl refl
among_at (j ∷ js) (suc t) l = inr (among_at js t (omega arith))

-- and has a place there
pub among_place : (js : List ℕ) (j : ℕ) → Among j js → (t : ℕ) × (t < length js) × (get_or js t 0 ≡ j)
among_place [] j a = absurd a
among_place (i ∷ js) j a =
    ⊎_elim {C = (t : ℕ) × (t < length (i ∷ js)) × (get_or (i ∷ js) t 0 ≡ j)}
    (λ e. (0, omega arith, sym e))
    (λ b. let y = among_place js j b in let y₁ = y.1 in (suc y.0, omega arith, y.2))
    a

-- numbers rise from above z: all are above z
among_above : (cs : List Circuit) (z : ℕ) (js : List ℕ) (j : ℕ) → Rise cs z js → Among j js → z < number cs j
among_above cs z [] j r a = absurd a
among_above cs z (i ∷ js) j r a =
    ⊎_elim {C = z < number cs j}
    (λ e. let y = ap (number cs) e in omega (arith, r.0))
    (λ b. let y = among_above cs (number cs i) js j r.1 b in omega (arith, r.0))
    a

-- two lists with the same places, whose numbers rise, are the same
rise_one : (cs : List Circuit) → Distinct cs → (z : ℕ) (is js : List ℕ) → Rise cs z is → Rise cs z js → ((j : ℕ) → Among j is → j < length cs) → ((j : ℕ) → Among j js → j < length cs)
    → ((j : ℕ) → Among j is → Among j js) → ((j : ℕ) → Among j js → Among j is) → is ≡ js
rise_one cs once z [] [] r s a b to fro = refl
rise_one cs once z [] (j ∷ js) r s a b to fro = absurd (fro j (inl refl))
rise_one cs once z (i ∷ is) [] r s a b to fro = absurd (to i (inl refl))
rise_one cs once z (i ∷ is) (j ∷ js) r s a b to fro =
    let p : number cs j ≤ number cs i = ⊎_elim {C = number cs j ≤ number cs i} (λ e. let y = ap (number cs) e in omega arith) (λ x. let y = among_above cs (number cs j) js i s.1 x in omega arith) (to i (inl refl)) in
    let q : number cs i ≤ number cs j = ⊎_elim {C = number cs i ≤ number cs j} (λ e. let y = ap (number cs) e in omega arith) (λ x. let y = among_above cs (number cs i) is j r.1 x in omega arith) (fro j (inl refl)) in
    let e : i ≡ j = once i j (a i (inl refl)) (b j (inl refl)) (omega arith) in
    ap₂ (λ (x : ℕ) (l : List ℕ). x ∷ l) e
    (rise_one cs once (number cs i) is js r.1 (subst (λ x. Rise cs (number cs x) js) (sym e) s.1) (λ d x. a d (inr x)) (λ d x. b d (inr x))
    (λ d x. ⊎_elim {C = Among d js} (λ f. absurd (let y = among_above cs (number cs i) is d r.1 x in let u = ap (number cs) (f ∙ sym e) in omega arith)) (λ y. y) (to d (inr x)))
    (λ d x. ⊎_elim {C = Among d is} (λ f. absurd (let y = among_above cs (number cs j) js d s.1 x in let u = ap (number cs) (f ∙ e) in omega arith)) (λ y. y) (fro d (inr x))))

-- a list rises if each number is above z, and below the next ones
rise_of : (cs : List Circuit) (z : ℕ) (js : List ℕ) → ((t : ℕ) → t < length js → z < number cs (get_or js t 0)) → ((s t : ℕ) → s < t → t < length js → number cs (get_or js s 0) < number cs (get_or js t 0)) → Rise cs z js
rise_of cs z [] h k = tt
rise_of cs z (j ∷ js) h k = (h 0 (omega arith), rise_of cs (number cs j) js (λ t l. k 0 (suc t) (omega arith) (omega arith)) (λ s t a l. k (suc s) (suc t) (omega arith) (omega arith)))

-- THE TURNS OF THOSE THAT PASS: a list of all their places in which the numbers rise is `by_number`
pub turns_are : (who : ℕ → Bool) (cs : List Circuit) (P : List ℕ) → Distinct cs → ((j : ℕ) → j < length cs → 1 ≤ number cs j) → ((t : ℕ) → t < length P → get_or P t 0 < length cs)
    → ((t : ℕ) → t < length P → who (get_or P t 0) ≡ true) → ((j : ℕ) → j < length cs → who j ≡ true → Among j P)
    → ((s t : ℕ) → s < t → t < length P → number cs (get_or P s 0) < number cs (get_or P t 0)) → by_number who cs ≡ P
turns_are who cs P once pos there pass all strict =
    let B = by_number who cs in
    let are = rising_are who cs (length cs) 0 in
    let in_b : (j : ℕ) → Among j B → (j < length cs) × (who j ≡ true) = λ j a. let y = among_place B j a in subst (λ x. (x < length cs) × (who x ≡ true)) y.2 (each_at (λ j. (j < length cs) × (who j ≡ true)) B are y.0 y.1) in
    let in_p : (j : ℕ) → Among j P → (j < length cs) × (who j ≡ true) = λ j a. let y = among_place P j a in subst (λ x. (x < length cs) × (who x ≡ true)) y.2 (there y.0 y.1, pass y.0 y.1) in
    rise_one cs once 0 B P (rising_rise who cs (length cs) 0) (rise_of cs 0 P (λ t l. let z = pos (get_or P t 0) (there t l) in omega arith) strict) (λ j a. (in_b j a).0) (λ j a. (in_p j a).0)
    (λ j a. let b = in_b j a in all j b.0 b.1)
    (λ j a. let b = in_p j a in let y = turn_of_lem who cs once j b.0 b.1 (pos j b.0) in subst (λ x. Among x B) y.2 (among_at B y.0 y.1))

-- THE ORDER THAT `order` MAKES is that of `by_number`
pub ordered_turns : (m : ℕ) (cs : List Circuit) (P : List ℕ) → length P ≡ m → length cs ≡ m → Distinct cs → ((j : ℕ) → j < m → 1 ≤ number cs j) → Ordered m cs P → by_number (λ j. true) cs ≡ P
ordered_turns m cs P n k once pos o =
    turns_are (λ j. true) cs P once (λ j l. pos j (omega arith)) (λ t l. let y = o.there.places t (omega arith) in omega arith) (λ t l. refl)
    (λ j l e. let y = o.there.all j (omega arith) in let y₁ = y.1 in subst (λ x. Among x P) y.2 (among_at P y.0 (omega arith)))
    (λ s t a l.
    let y = o.rising s t (omega arith) (omega arith) in
    let x : number cs (get_or P s 0) ≢ number cs (get_or P t 0) =
    λ e. absurd (let u = o.there.once s t (omega arith) (omega arith) (once (get_or P s 0) (get_or P t 0) (omega (arith, o.there.places s (omega arith))) (omega (arith, o.there.places t (omega arith))) e) in omega arith) in
    omega arith)

-- nobody has a fibre yet
pub none_at : (m j : ℕ) → given_to (replicate m unassigned) j ≡ unassigned
unfolding given_to
none_at zero j = refl
none_at (suc m) zero = refl
none_at (suc m) (suc j) = none_at m j

-- and each has its turn, once
pub ordered_in_turn : (m : ℕ) (cs : List Circuit) (P : List ℕ) → length P ≡ m → Ordered m cs P → InTurn m (replicate m unassigned) P
ordered_in_turn m cs P n o =
    record {
      there = λ t l. o.there.places t (omega arith);
      waiting = λ t l. ap (λ (g : Assignment). g.fibre) (none_at m (get_or P t 0));
      once = λ s t a b e. o.there.once s t (omega arith) (omega arith) e;
    }

-- WHAT EACH NEW CIRCUIT IS GIVEN among the old fibres, by the definition of R-2
pub given_are_found : (w m : ℕ) (cs : List Circuit) (p : Plan) (ds : List Circuit) (P : List ℕ) → length P ≡ m → length ds ≡ m → Distinct ds → ((j : ℕ) → j < m → 1 ≤ number ds j) → Ordered m ds P
    → give p.fibres w (riders cs p.assignments) ds P (replicate m unassigned) ≡ places_found w cs p ds
unfolding places_found
given_are_found w m cs p ds P n k once pos o =
    ap₂ (λ (l : List ℕ) (i : ℕ). give p.fibres w (riders cs p.assignments) ds l (replicate i unassigned)) (sym (ordered_turns m ds P n k once pos o)) (sym k)
