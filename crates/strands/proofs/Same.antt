-- The layers by c(i) are those of the method. Assumes nothing.
use Prim.Native.Nat.{ℕ, zero, suc, ◌+◌, ◌-◌, ◌≤◌, ◌<◌}
use mathlib.Core.Bool.{Bool}
use mathlib.Core.Path.{◌≡◌, refl, sym, ap, ap₂, ◌∙◌}
use mathlib.Core.List.{List, ◌++◌}
use native.Mathlib.Omega.{arith}
use lib.ListN.{get_or, take}
use lib.Seq.{get_or-take}
use lib.Dec.{leb}
use Rattle.basics.specs.Tools.{each, sum}
use Rattle.basics.proofs.Sums.{sum_eq}
use Rattle.basics.proofs.Tables.{get_d_each}
use Rattle.records.specs.declared.Circuit.{Circuit}
use Rattle.method.specs.Fibres.{floor, in_layer, layer, layers, runs}
use Rattle.method.specs.Line.{Fibre}
use Rattle.method.specs.Sheet.{at, most, need}
use Rattle.strands.specs.inner.Layers.{reaches, layer_by, layers_by}

-- runs of the same links are the same
runs_same : (h : ℕ) (p q : ℕ → Bool) (i k : ℕ) → ((x : ℕ) → i ≤ x → x < i + k → p x ≡ q x) → runs h p i k ≡ runs h q i k
unfolding runs
runs_same h p q i zero e = refl
runs_same h p q i (suc k) e =
    rw (e i (omega arith) (omega arith), runs_same h p q (suc i) k (λ x a b. e x (omega arith) (omega arith)))

module _ (f : ℕ → ℕ) (n w : ℕ) (cs : List Circuit) (same : (i : ℕ) → 1 ≤ i → i ≤ n → f i ≡ need w cs i) where
  -- one layer
  layer_same : (h : ℕ) → layer_by f n (most n w cs) h ≡ layer n w cs h
  unfolding layer_by layer in_layer reaches
  layer_same h =
      let e : most n w cs + 1 - h ≡ suc (most n w cs) - h = omega arith in
      runs_same h (reaches f (most n w cs + 1 - h)) (in_layer n w cs h) 1 n (λ x a b. ap₂ leb e (same x a (omega arith)))

  -- the layers to h
  pub layers_same : (h : ℕ) → layers_by f n (most n w cs) h ≡ layers n w cs h
  unfolding layers_by layers
  layers_same zero = refl
  layers_same (suc h) = ap₂ (λ (a b : List Fibre). a ++ b) (layers_same h) (layer_same (suc h))

  -- the floor
  pub floor_same : sum f n ≡ floor n w cs
  unfolding floor
  floor_same = sum_eq f (need w cs) n same

-- links whose c(i) agree make the same layer
pub layer_agrees : (f g : ℕ → ℕ) (n top h : ℕ) → ((i : ℕ) → 1 ≤ i → i ≤ n → f i ≡ g i) → layer_by f n top h ≡ layer_by g n top h
unfolding layer_by reaches
layer_agrees f g n top h same = runs_same h (reaches f (top + 1 - h)) (reaches g (top + 1 - h)) 1 n (λ x a b. ap (leb (top + 1 - h)) (same x a (omega arith)))

-- the first n cells are a table over the links
pub needs_at : (C : List ℕ) (g : ℕ → ℕ) (n : ℕ) → take n C ≡ each g 1 n → (i : ℕ) → 1 ≤ i → i ≤ n → at C i ≡ g i
unfolding at
needs_at C g n e zero a b = absurd (omega arith)
needs_at C g n e (suc i) a b =
    sym (get_or-take n C i 0 (omega arith)) ∙ ap (λ l. get_or l i 0) e ∙ get_d_each g 1 n i 0 (omega arith) ∙ ap g (let z : 1 + i ≡ suc i = omega arith in z)

-- cells that are kept are kept at each link
pub at_kept : (C C' : List ℕ) (n k : ℕ) → n ≤ k → take k C' ≡ take k C → (i : ℕ) → 1 ≤ i → i ≤ n → at C' i ≡ at C i
unfolding at
at_kept C C' n k h e zero a b = absurd (omega arith)
at_kept C C' n k h e (suc i) a b = sym (get_or-take k C' i 0 (omega arith)) ∙ ap (λ l. get_or l i 0) e ∙ get_or-take k C i 0 (omega arith)
