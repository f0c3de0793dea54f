-- How many fibres pass over a link, and how long they are together. Assumes nothing.
use Prim.Native.Nat.{◌*◌, ◌+◌, ◌-◌, ◌≤◌, max, min, suc, zero, ℕ}
use borrow.Author.Tests.{leb-false, leb-true}
use lib.ListN.{get_or}
use mathlib.Core.Bool.{Bool, cond}
use mathlib.Core.List.{List, [], ◌∷◌}
use mathlib.Core.Logic.{◌≢◌}
use mathlib.Core.Path.{◌∙◌, ◌≡◌, ap, refl, sym}
use native.Mathlib.Omega.{arith}
use Rattle.basics.specs.Tools.{sum, top}
use Rattle.basics.proofs.Bools.{by_le, on}
use Rattle.basics.proofs.Counts.{le_top}
use Rattle.basics.proofs.Sums.{sum_add, sum_eq, sum_twice, sum_zero}
use Rattle.records.specs.declared.Circuit.{Circuit}
use Rattle.method.specs.Fibres.{fibres, floor, in_layer, layer, layers, pairs, runs}
use Rattle.method.specs.Line.{Fibre, fibres_over, no_fibre, over, span_length, tally, total}
use Rattle.method.specs.Sheet.{most, need}
use Rattle.method.proofs.FibreLists.{All, all_append, all_imp, tally_append, twice_all, twice_tally}
use Rattle.method.proofs.Runs.{Maximal, over_left, over_of, over_right, runs_in, runs_maximal}

-- the links that a fibre passes over, counted one by one
sum_over : (f : Fibre) (n : ℕ) → sum (λ i. cond (over f i) 1 0) n ≡ suc (min n f.last) - max 1 f.first
unfolding sum
sum_over f zero = omega arith
sum_over f (suc n) =
    let ih = sum_over f n in
    by_le f.first (suc n)
    (λ a.
    by_le (suc n) f.last (λ b. rw (over_of f (suc n) a b) (omega arith)) (λ b. rw (over_right f (suc n) b) (omega arith)))
    (λ a. rw (over_left f (suc n) a) (omega arith))

-- the links that fibres pass over, counted by link, are at most their length
pub sum_total_le : (fs : List Fibre) (n : ℕ) → sum (fibres_over fs) n ≤ total fs
unfolding fibres_over tally total span_length
sum_total_le [] n = omega (arith, sum_zero n)
sum_total_le (f ∷ fs) n =
    omega (arith, sum_add (λ i. cond (over f i) 1 0) (λ i. tally (λ g. over g i) fs) n, sum_over f n, sum_total_le fs n)

-- no fibre of a list is longer than the list
one_total : (fs : List Fibre) (q : ℕ) → span_length (get_or fs q no_fibre) ≤ total fs
unfolding total span_length
one_total [] q = omega arith
one_total (f ∷ fs) zero = omega arith
one_total (f ∷ fs) (suc q) = omega (arith, one_total fs q)

-- nor are two fibres at different places together
pub two_total : (fs : List Fibre) (q r : ℕ) → q ≢ r → span_length (get_or fs q no_fibre) + span_length (get_or fs r no_fibre) ≤ total fs
unfolding total span_length
two_total [] q r d = omega arith
two_total (f ∷ fs) zero zero d = absurd (d refl)
two_total (f ∷ fs) zero (suc r) d = omega (arith, one_total fs r)
two_total (f ∷ fs) (suc q) zero d = omega (arith, one_total fs q)
two_total (f ∷ fs) (suc q) (suc r) d = omega (arith, two_total fs q r (λ e. d (ap suc e)))

-- a fibre lies on the line
abbrev pub OnLine : ℕ → Fibre → Type 0
OnLine n f = (1 ≤ f.first) × (f.first ≤ f.last) × (f.last ≤ n)

-- and no fewer if the fibres lie on the line
pub sum_total : (fs : List Fibre) (n : ℕ) → All (OnLine n) fs → sum (fibres_over fs) n ≡ total fs
unfolding fibres_over tally total span_length
sum_total [] n a = omega (arith, sum_zero n)
sum_total (f ∷ fs) n a =
    let a₀ = a.0 in
    omega (arith, sum_add (λ i. cond (over f i) 1 0) (λ i. tally (λ g. over g i) fs) n, sum_over f n, sum_total fs n a.1)

module _ (n w : ℕ) (cs : List Circuit) where
  -- over link x, layers 1 to h have one run for each that it is in
  pub layers_over : (x : ℕ) → 1 ≤ x → x ≤ n → (h : ℕ) → h ≤ most n w cs → fibres_over (layers n w cs h) x ≡ h - (most n w cs - need w cs x)
  unfolding layers layer in_layer fibres_over tally
  layers_over x a b zero l = omega arith
  layers_over x a b (suc h) l =
      let ih = layers_over x a b h (omega arith) in
      let p : ℕ → Bool = in_layer n w cs (suc h) in
      let e = runs_in (suc h) p 1 n x a (omega arith) in
      rw (tally_append (λ f. over f x) (layers n w cs h) (runs (suc h) p 1 n), e)
      (on (p x) (λ t. rw t (omega (arith, leb-true (suc (most n w cs) - suc h) (need w cs x) t)))
      (λ t. rw t (omega (arith, leb-false (suc (most n w cs) - suc h) (need w cs x) t))))

  -- the plan has exactly 2 c(i) fibres over link i
  pub plan_over : (x : ℕ) → 1 ≤ x → x ≤ n → fibres_over (fibres n w cs) x ≡ 2 * need w cs x
  unfolding fibres pairs fibres_over most
  plan_over x a b =
      omega (arith, twice_tally (λ f. over f x) (layers n w cs (top (need w cs) n)), layers_over x a b (most n w cs) (omega arith), le_top (need w cs) n x a b)

  -- the runs of all layers lie on the line
  pub layers_on : (h : ℕ) → All (OnLine n) (layers n w cs h)
  unfolding layers layer
  layers_on zero = tt
  layers_on (suc h) =
      all_append (OnLine n) (layers n w cs h) (layer n w cs (suc h)) (layers_on h)
      (all_imp {P = Maximal (suc h) (in_layer n w cs (suc h)) 1 n} {Q = OnLine n} (λ f m. (m.from, m.some, omega (arith, m.to))) (layer n w cs (suc h)) (runs_maximal (suc h) (in_layer n w cs (suc h)) 1 n))

  -- so do the fibres
  pub fibres_on : All (OnLine n) (fibres n w cs)
  unfolding fibres pairs
  fibres_on = twice_all (OnLine n) (layers n w cs (most n w cs)) (layers_on (most n w cs))

  -- the length of the plan is twice the floor
  pub plan_total : total (fibres n w cs) ≡ 2 * floor n w cs
  unfolding floor
  plan_total =
      sym (sum_total (fibres n w cs) n fibres_on)
      ∙ sum_eq _ _ n plan_over
      ∙ sum_twice (need w cs) n
