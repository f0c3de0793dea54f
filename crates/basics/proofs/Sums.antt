-- Adding up. Assumes nothing.
use Prim.Native.Nat.{◌*◌, ◌+◌, ◌<◌, ◌≤◌, suc, zero, ℕ}
use borrow.Author.Tests.{eq-eqb, ne_eqb}
use lib.Dec.{eqb}
use mathlib.Core.Bool.{cond}
use mathlib.Core.Path.{◌≡◌, refl}
use native.Mathlib.Omega.{arith}
use Rattle.basics.specs.Tools.{sum}
use Rattle.basics.proofs.Bools.{by_eq}

-- term by term at most
pub sum_le : (f g : ℕ → ℕ) (n : ℕ) → ((i : ℕ) → 1 ≤ i → i ≤ n → f i ≤ g i) → sum f n ≤ sum g n
unfolding sum
sum_le f g zero h = omega arith
sum_le f g (suc n) h = omega (arith, h (suc n) (omega arith) (omega arith), sum_le f g n (λ i a b. h i a (omega arith)))

-- term by term equal
pub sum_eq : (f g : ℕ → ℕ) (n : ℕ) → ((i : ℕ) → 1 ≤ i → i ≤ n → f i ≡ g i) → sum f n ≡ sum g n
unfolding sum
sum_eq f g zero h = refl
sum_eq f g (suc n) h = omega (arith, h (suc n) (omega arith) (omega arith), sum_eq f g n (λ i a b. h i a (omega arith)))

-- the sum of sums
pub sum_add : (f g : ℕ → ℕ) (n : ℕ) → sum (λ i. f i + g i) n ≡ sum f n + sum g n
unfolding sum
sum_add f g zero = refl
sum_add f g (suc n) = omega (arith, sum_add f g n)

-- nothing adds up to nothing
pub sum_zero : (n : ℕ) → sum (λ i. 0) n ≡ 0
unfolding sum
sum_zero zero = refl
sum_zero (suc n) = omega (arith, sum_zero n)

-- twice each term is twice the sum
pub sum_twice : (f : ℕ → ℕ) (n : ℕ) → sum (λ i. 2 * f i) n ≡ 2 * sum f n
unfolding sum
sum_twice f zero = refl
sum_twice f (suc n) = omega (arith, sum_twice f n)

-- at most one l is x
pub sum_one : (x n : ℕ) → sum (λ l. cond (eqb x l) 1 0) n ≤ 1
unfolding sum
sum_one x zero = omega arith
sum_one x (suc n) = by_eq x (suc n) (λ e. rw (eq-eqb x (suc n) e) (omega (arith, sum_none n (omega arith)))) (λ e. rw (ne_eqb x (suc n) e) (omega (arith, sum_one x n)))
  where
    -- none below x is x
    sum_none : (m : ℕ) → m < x → sum (λ l. cond (eqb x l) 1 0) m ≡ 0
    sum_none zero h = refl
    sum_none (suc m) h = rw (ne_eqb x (suc m) (omega arith)) (omega (arith, sum_none m (omega arith)))

-- and one is, if x is among them
pub sum_has : (x n : ℕ) → 1 ≤ x → x ≤ n → 1 ≤ sum (λ l. cond (eqb x l) 1 0) n
unfolding sum
sum_has x zero a b = absurd (omega arith)
sum_has x (suc n) a b = by_eq x (suc n) (λ e. rw (eq-eqb x (suc n) e) (omega arith)) (λ e. omega (arith, sum_has x n a (omega arith)))
