-- The method opens at most one pair of fibres for each circuit. Assumes nothing.
use Prim.Native.Nat.{◌*◌, ◌+◌, ◌-◌, ◌/◌, ◌<◌, ◌≤◌, min, suc, zero, ℕ}
use borrow.Author.Tests.{eq-eqb, eqb-false, leb-false, leb-true, lt-leb, ne_eqb}
use lib.Dec.{eqb}
use lib.ListN.{length}
use mathlib.Core.Bool.{Bool, ◌&&◌, cond, false, not, true}
use mathlib.Core.List.{List, [], ◌∷◌}
use mathlib.Core.Logic.{◌≢◌}
use mathlib.Core.Path.{◌∙◌, ◌≡◌, ap, refl, sym}
use native.Mathlib.Nat.{div-eq_of_lt, div-lt_iff_lt-mul, le-mul_of_pos_right, lt-div-mul-add}
use native.Mathlib.Omega.{arith}
use Rattle.basics.specs.Tools.{count, sum}
use Rattle.basics.proofs.Bools.{by_eq, on}
use Rattle.basics.proofs.Counts.{count_none, count_or, le_top}
use Rattle.basics.proofs.Sums.{sum_add, sum_has, sum_le, sum_one, sum_zero}
use Rattle.records.specs.declared.Circuit.{Circuit}
use Rattle.method.specs.Fibres.{in_layer, join, layer, layers, pairs, runs}
use Rattle.method.specs.Line.{Fibre, circuit, tally, uses}
use Rattle.method.specs.Sheet.{load, most, need}
use Rattle.method.proofs.FibreLists.{All, all_imp, tally_append, tally_none}
use Rattle.method.proofs.Lengths.{OnLine, layers_on}
use Rattle.method.proofs.Links.{LiesIfThere, on_line, uses_first, uses_last, uses_of}
use Rattle.method.proofs.Runs.{Maximal, Starts, runs_maximal, runs_start}

-- whether a fibre ends at link l
ends : ℕ → Fibre → Bool
ends l f = eqb f.last l

-- how many runs end at l: at most one, and only if l passes and l + 1 does not
runs_last : (h : ℕ) (p : ℕ → Bool) (i k l : ℕ) → p (i + k) ≡ false → i ≤ l → tally (ends l) (runs h p i k) ≤ cond (p l && not (p (suc l))) 1 0
unfolding runs join tally ends
runs_last h p i zero l e b = omega arith
runs_last h p i (suc k) l e b =
    by_eq l i
    (λ q.
    on (p i) (λ t. rw t (here q t (runs h p (suc i) k) refl (later q)))
    (λ t. rw t (omega (arith, later q))))
    (λ q.
    let ih : tally (ends l) (runs h p (suc i) k) ≤ cond (p l && not (p (suc l))) 1 0 = runs_last h p (suc i) k l e' (omega arith) in
    on (p i) (λ t. rw t (past q (runs h p (suc i) k) ih)) (λ t. rw t ih))
  where
    -- the link past the last one
    e' : p (suc i + k) ≡ false
    e' = ap p (omega arith) ∙ e

    -- the runs further right do not end at i
    later : l ≡ i → tally (ends l) (runs h p (suc i) k) ≡ 0
    later q = tally_none (ends l) (runs h p (suc i) k) (all_imp {P = Maximal h p (suc i) k} {Q = λ f. ends l f ≡ false} (λ f m. ne_eqb f.last l (omega (arith, m.from, m.some))) (runs h p (suc i) k) (runs_maximal h p (suc i) k))

    -- no run starts next to link i, so the next link does not pass
    stops : (Starts (suc i) (runs h p (suc i) k) → ⊥) → p (suc i) ≡ false
    stops no_start =
        by_eq k 0 (λ z. ap p (omega arith) ∙ e)
        (λ z. on (p (suc i)) (λ t. absurd (no_start (runs_start h p (suc i) k (omega arith) t))) (λ t. t))

    -- link i joins, and l is i
    here : l ≡ i → p i ≡ true → (fs : List Fibre) → runs h p (suc i) k ≡ fs → tally (ends l) (runs h p (suc i) k) ≡ 0 → tally (ends l) (join h i fs) ≤ cond (p l && not (p (suc l))) 1 0
    here q t [] r z =
        let a : p l ≡ true = ap p q ∙ t in
        let b' : p (suc l) ≡ false = ap (λ x. p (suc x)) q ∙ stops (λ u. rw r at u) in
        rw (a, b', eq-eqb i l (sym q)) (omega arith)
    here q t (f ∷ fs) r z =
        let z' : cond (eqb f.last l) 1 0 + tally (ends l) fs ≡ 0 = rw r at z in
        on (eqb f.first (suc i)) (λ u. rw u (omega arith))
        (λ u.
        let a : p l ≡ true = ap p q ∙ t in
        let b' : p (suc l) ≡ false = ap (λ x. p (suc x)) q ∙ stops (λ v. eqb-false _ _ u (rw r at v)) in
        rw (u, a, b', eq-eqb i l (sym q)) (omega arith))

    -- link i joins, and l lies further right
    past : l ≢ i → (fs : List Fibre) → tally (ends l) fs ≤ cond (p l && not (p (suc l))) 1 0 → tally (ends l) (join h i fs) ≤ cond (p l && not (p (suc l))) 1 0
    past q [] ih = rw (ne_eqb i l (λ u. q (sym u))) (omega arith)
    past q (f ∷ fs) ih = on (eqb f.first (suc i)) (λ u. rw u ih) (λ u. rw (u, ne_eqb i l (λ u. q (sym u))) (omega arith))

-- a list's length, counted by the last links
by_ends : (fs : List Fibre) (n : ℕ) → All (OnLine n) fs → length fs ≤ sum (λ l. tally (ends l) fs) n
unfolding tally ends
by_ends [] n a = omega arith
by_ends (f ∷ fs) n a =
    let b = a.0 in
    let x : f.last ≤ n = b.2 in
    let y : 1 ≤ f.last = omega arith in
    omega (arith, sum_add (λ l. cond (eqb f.last l) 1 0) (λ l. tally (λ g. eqb g.last l) fs) n, sum_has f.last n y x, by_ends fs n a.1)

-- the circuits that end at link l
ending : List Circuit → ℕ → ℕ
ending cs l = count (λ j. eqb (circuit cs j).last l) (length cs)

-- each circuit ends once
ending_all : (cs : List Circuit) (n : ℕ) → sum (ending cs) n ≤ length cs
unfolding ending count
ending_all cs n = go (length cs)
  where
    go : (m : ℕ) → sum (λ l. count (λ j. eqb (circuit cs j).last l) m) n ≤ m
    go zero = omega (arith, sum_zero n)
    go (suc m) =
        omega (arith, sum_add (λ l. cond (eqb (circuit cs m).last l) 1 0) (λ l. count (λ j. eqb (circuit cs j).last l) m) n, sum_one (circuit cs m).last n, go m)

-- the arithmetic of a layer: a link in layer h + 1
up_to : (M h x : ℕ) → suc h ≤ M → suc M - suc h ≤ x → M - x ≤ h
up_to M h x a b = omega arith

-- a link not in it
beyond : (M h x : ℕ) → suc h ≤ M → x < suc M - suc h → suc h ≤ M - x
beyond M h x a b = omega arith

-- a layer in which a run ends
one_more : (h A B T R : ℕ) → T ≤ min h B - A → R ≤ 1 → A ≤ h → suc h ≤ B → T + R ≤ min (suc h) B - A
one_more h A B T R a b c d = omega arith

-- a layer in which none does
no_more : (h A B T R : ℕ) → T ≤ min h B - A → R ≤ 0 → T + R ≤ min (suc h) B - A
no_more h A B T R a b = omega arith

-- all layers together
at_most : (M c c' e T : ℕ) → T ≤ min M (M - c') - (M - c) → c ≤ c' + e → c ≤ M → T ≤ e
at_most M c c' e T a b d = omega arith

module _ (n w : ℕ) (cs : List Circuit) (lies : LiesIfThere n cs) (pos : 1 ≤ w) where
  -- a circuit on link l goes on to l + 1 or ends
  load_step : (l : ℕ) → load cs l ≤ load cs (suc l) + ending cs l
  unfolding load ending
  load_step l =
      count_or _ _ _ (length cs)
      (λ j b u e. let d : (circuit cs j).last ≢ l = eqb-false _ _ e in uses_of (circuit cs j) (suc l) (omega (arith, uses_first (circuit cs j) l u)) (omega (arith, uses_last (circuit cs j) l u)))

  -- c falls from link l to the next by at most the circuits that end at l
  need_step : (l : ℕ) → need w cs l ≤ need w cs (suc l) + ending cs l
  unfolding need
  need_step l =
      let q = (load cs (suc l) + (w - 1)) / w in
      let a : load cs (suc l) + (w - 1) < q * w + w = lt-div-mul-add {a = load cs (suc l) + (w - 1)} {b = w} pos in
      let s = ending cs l in
      let b : s ≤ s * w = le-mul_of_pos_right s pos in
      let z : (load cs l + (w - 1)) / w < suc (q + s) = (div-lt_iff_lt-mul {k = w} {x = load cs l + (w - 1)} {y = suc (q + s)} pos).1 (omega (arith, load_step l)) in
      omega arith

  -- nobody is past the line
  need_past : need w cs (suc n) ≡ 0
  unfolding need load
  need_past =
      rw (count_none (λ j. uses (circuit cs j) (suc n)) (length cs) (λ j b. on (uses (circuit cs j) (suc n)) (λ u. absurd (omega (arith, on_line n cs lies j (suc n) u))) (λ u. u)))
      (div-eq_of_lt (omega arith))

  -- so many runs of layers 1 to h end at link l
  layers_end : (l : ℕ) → 1 ≤ l → l ≤ n → (h : ℕ) → h ≤ most n w cs → tally (ends l) (layers n w cs h) ≤ min h (most n w cs - need w cs (suc l)) - (most n w cs - need w cs l)
  unfolding layers layer in_layer tally
  layers_end l a b zero c = omega arith
  layers_end l a b (suc h) c =
      let p : ℕ → Bool = in_layer n w cs (suc h) in
      let ih = layers_end l a b h (omega arith) in
      let last : p (1 + n) ≡ false = ap p (let z : 1 + n ≡ suc n = omega arith in z) ∙ lt-leb (suc (most n w cs) - suc h) (need w cs (suc n)) (omega (arith, need_past)) in
      let r = runs_last (suc h) p 1 n l last a in
      rw (tally_append (ends l) (layers n w cs h) (runs (suc h) p 1 n))
      (on (p l)
      (λ t.
      on (p (suc l)) (λ u. no_more h _ _ _ _ ih (rw (t, u) at r))
      (λ u.
      one_more h _ _ _ _ ih (rw (t, u) at r) (up_to (most n w cs) h (need w cs l) c (leb-true (suc (most n w cs) - suc h) (need w cs l) t))
      (beyond (most n w cs) h (need w cs (suc l)) c (leb-false (suc (most n w cs) - suc h) (need w cs (suc l)) u))))
      (λ t. no_more h _ _ _ _ ih (rw t at r)))

  -- no more pairs than circuits
  pub few_pairs : length (pairs n w cs) ≤ length cs
  unfolding pairs most
  few_pairs =
      let m = most n w cs in
      omega (
        arith,
        by_ends (layers n w cs m) n (layers_on n w cs m),
        sum_le (λ l. tally (ends l) (layers n w cs m)) (ending cs) n
            (λ l a b. at_most m (need w cs l) (need w cs (suc l)) (ending cs l) _ (layers_end l a b m (omega arith)) (need_step l) (le_top (need w cs) n l a b)),
        ending_all cs n,
      )
