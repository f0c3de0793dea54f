-- The runs of a layer. Assumes nothing.
use Prim.Native.Nat.{◌≤◌, suc, zero, ℕ}
use borrow.Author.Tests.{eq-eqb, le-leb, lt-leb, ne_eqb}
use lib.Dec.{eqb, leb}
use mathlib.Core.Bool.{Bool, ◌&&◌, cond, false, true}
use mathlib.Core.List.{List}
use mathlib.Core.Path.{◌∙◌, ◌≡◌, ap, subst, sym}
use native.Mathlib.Omega.{arith}
use Rattle.basics.proofs.Bools.{and_of, and_r, by_eq, by_le, on}
use Rattle.records.specs.declared.Circuit.{Circuit}
use Rattle.method.specs.Fibres.{in_layer, layer, layers, pairs, runs}
use Rattle.method.specs.Line.{Fibre, over, tally}
use Rattle.method.specs.Sheet.{most}
use Rattle.method.proofs.FibreLists.{All, all_append, all_imp, tally_append, tally_le, tally_none}
use Rattle.method.proofs.Runs.{Maximal, runs_in, runs_maximal}

module _ (n w : ℕ) (cs : List Circuit) where
  -- the fibres of all layers are maximal runs
  pub layers_maximal : (h : ℕ) → All (λ f. Maximal f.layer (in_layer n w cs f.layer) 1 n f) (layers n w cs h)
  unfolding layers layer in_layer
  layers_maximal zero = tt
  layers_maximal (suc h) =
      all_append (λ f. Maximal f.layer (in_layer n w cs f.layer) 1 n f) (layers n w cs h) (layer n w cs (suc h)) (layers_maximal h)
      (all_imp {P = Maximal (suc h) (in_layer n w cs (suc h)) 1 n} {Q = λ f. Maximal f.layer (in_layer n w cs f.layer) 1 n f}
      (λ f m. subst (λ x. Maximal x (in_layer n w cs x) 1 n f) (sym m.here) m) (layer n w cs (suc h)) (runs_maximal (suc h) (in_layer n w cs (suc h)) 1 n))

  -- link x of layer h is under a fibre of that layer
  pub layer_has : (h x : ℕ) → 1 ≤ x → x ≤ n → in_layer n w cs h x ≡ true → 1 ≤ tally (λ f. eqb f.layer h && over f x) (layer n w cs h)
  unfolding layer in_layer
  layer_has h x a b e =
      let p : ℕ → Bool = in_layer n w cs h in
      let one : tally (λ f. over f x) (runs h p 1 n) ≡ 1 = runs_in h p 1 n x a (omega arith) ∙ rw e in
      omega (
        arith,
        tally_le (λ f. over f x) (λ f. eqb f.layer h && over f x) (runs h p 1 n)
            (all_imp {P = Maximal h p 1 n} {Q = λ f. over f x ≡ true → eqb f.layer h && over f x ≡ true} (λ f m t. and_of _ _ (eq-eqb _ _ m.here) t) (runs h p 1 n) (runs_maximal h p 1 n)),
      )

  -- what a layer has, all layers have
  pub layers_have : (p : Fibre → Bool) (h H : ℕ) → 1 ≤ h → h ≤ H → tally p (layer n w cs h) ≤ tally p (layers n w cs H)
  unfolding layers
  layers_have p h zero a b = absurd (omega arith)
  layers_have p h (suc H) a b =
      rw (tally_append p (layers n w cs H) (layer n w cs (suc H)))
      (by_eq h (suc H) (λ e. omega (arith, ap (λ z. tally p (layer n w cs z)) e)) (λ e. omega (arith, layers_have p h H a (omega arith))))

  -- at most one fibre of layer h passes over x
  one_in : (h k x : ℕ) → 1 ≤ x → x ≤ n → tally (λ f. eqb f.layer h && over f x) (layer n w cs k) ≤ cond (eqb k h) 1 0
  unfolding layer in_layer
  one_in h k x a b =
      let p : ℕ → Bool = in_layer n w cs k in
      by_eq k h
      (λ e.
      rw (eq-eqb k h e)
      (let m = tally_le (λ f. eqb f.layer h && over f x) (λ f. over f x) (runs k p 1 n) (all_imp {P = Maximal k p 1 n} {Q = λ f. eqb f.layer h && over f x ≡ true → over f x ≡ true} (λ f m t. and_r (eqb f.layer h) _ t) (runs k p 1 n) (runs_maximal k p 1 n)) in
      let r = runs_in k p 1 n x a (omega arith) in
      on (p x) (λ t. let r' = rw t at r in omega arith) (λ t. let r' = rw t at r in omega arith)))
      (λ e.
      rw (ne_eqb k h e)
      (let z = tally_none (λ f. eqb f.layer h && over f x) (runs k p 1 n) (all_imp {P = Maximal k p 1 n} {Q = λ f. eqb f.layer h && over f x ≡ false} (λ f m. rw (ne_eqb f.layer h (omega (arith, m.here)))) (runs k p 1 n) (runs_maximal k p 1 n)) in
      omega arith))

  -- and at most one of layers 1 to k
  one_to : (h x : ℕ) → 1 ≤ x → x ≤ n → (k : ℕ) → tally (λ f. eqb f.layer h && over f x) (layers n w cs k) ≤ cond (leb h k) 1 0
  unfolding layers tally
  one_to h x a b zero = omega arith
  one_to h x a b (suc k) =
      rw (tally_append (λ f. eqb f.layer h && over f x) (layers n w cs k) (layer n w cs (suc k)))
      (let i = one_in h (suc k) x a b in
      let r = one_to h x a b k in
      by_eq (suc k) h
      (λ e. let i' = rw (eq-eqb (suc k) h e) at i in let r' = rw (lt-leb h k (omega arith)) at r in rw (le-leb h (suc k) (omega arith)) (omega arith))
      (λ e.
      let i' = rw (ne_eqb (suc k) h e) at i in
      by_le h k (λ l. let r' = rw (le-leb h k l) at r in rw (le-leb h (suc k) (omega arith)) (omega arith))
      (λ l. let r' = rw (lt-leb h k l) at r in rw (lt-leb h (suc k) (omega arith)) (omega arith))))

  -- so at most one pair of layer h passes over x
  pub one_over : (h x : ℕ) → 1 ≤ x → x ≤ n → tally (λ f. eqb f.layer h && over f x) (pairs n w cs) ≤ 1
  unfolding pairs
  one_over h x a b = let r = one_to h x a b (most n w cs) in on (leb h (most n w cs)) (λ t. let r' = rw t at r in omega arith) (λ t. let r' = rw t at r in omega arith)
