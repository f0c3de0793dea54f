-- Sums over links, and the search for the next link that reaches a number, or does not. Assumes nothing.
use Prim.Native.Nat.{ℕ, suc, ◌+◌, ◌-◌, ◌<◌, ◌≤◌}
use mathlib.Core.Bool.{not, ◌&&◌}
use mathlib.Core.Path.{◌≡◌, ap, ◌∙◌}
use mathlib.Core.List.{List}
use native.Mathlib.Omega.{arith}
use native.Mathlib.Numerals.{add-one}
use lib.Dec.{leb}
use borrow.Author.Tests.{le-leb, lt-leb}
use Rattle.std.specs.Bool.{then_some}
use Rattle.std.specs.Prelude.{Option, None, Some}
use Rattle.basics.specs.Tools.{seek, sum}
use Rattle.basics.proofs.Bools.{by_le}
use Rattle.method.specs.Sheet.{at}
use Rattle.scans.specs.Scans.{within, cell_within}
use Rattle.rows.proofs.ShownLaws.{links_sought}
use Rattle.strands.specs.inner.Layers.{link_or_end, on_line, reaches}

-- one more link of a sum
pub sum_more : (f : ℕ → ℕ) (i : ℕ) → sum f (i + 1) ≡ f (i + 1) + sum f i
unfolding sum
sum_more f i = rw add-one

-- a number of two bytes is in the bounds from t on if it is t or more
reach_within : (t v : ℕ) → v < 65536 → leb t v && leb v 65535 ≡ leb t v
reach_within t v h = by_le t v (λ l. rw (le-leb t v l, le-leb v 65535 (omega arith))) (λ l. rw (lt-leb t v l))

-- a number is in those below t if it is less than t
short_within : (t v : ℕ) → 1 ≤ t → leb 0 v && leb v (t - 1) ≡ not (leb t v)
short_within t v p =
    by_le t v (λ l. rw (le-leb 0 v (omega arith), lt-leb v (t - 1) (omega arith), le-leb t v l))
    (λ l. rw (le-leb 0 v (omega arith), le-leb v (t - 1) (omega arith), lt-leb t v l))

module _ (C : List ℕ) (n t i r : ℕ) (pos : 1 ≤ i) (end : i ≤ n + 1) where
  -- the first link from i on that reaches t
  pub next_is : ((x : ℕ) → at C x < 65536) → r ≡ seek (cell_within (record { low = t; high = 65535 }) C) (i - 1) (n - (i - 1)) → r + 1 ≡ seek (reaches (at C) t) i (suc n - i)
  unfolding within reaches
  next_is fit e =
      links_sought (record { low = t; high = 65535 }) (reaches (at C) t) n i r C pos end (λ x a b. reach_within t (at C x) (fit x)) e
      ∙ ap (λ (k : ℕ). seek (reaches (at C) t) i (k - i)) (add-one n)

  -- the first link from i on that does not
  pub end_is : 1 ≤ t → r ≡ seek (cell_within (record { low = 0; high = t - 1 }) C) (i - 1) (n - (i - 1)) → r + 1 ≡ seek (λ x. not (reaches (at C) t x)) i (suc n - i)
  unfolding within reaches
  end_is p e =
      links_sought (record { low = 0; high = t - 1 }) (λ x. not (reaches (at C) t x)) n i r C pos end (λ x a b. short_within t (at C x) p) e
      ∙ ap (λ (k : ℕ). seek (λ x. not (reaches (at C) t x)) i (k - i)) (add-one n)

-- a link up to the one past the line is told
pub told_link : (n l : ℕ) (at : Option ℕ) → l ≤ n + 1 → at ≡ on_line n l → link_or_end n at ≡ l
told_link n l at b e =
    by_le l n
    (λ u. ap (link_or_end n) (e ∙ ap (λ t. then_some t l) (le-leb l n u)))
    (λ u. ap (link_or_end n) (e ∙ ap (λ t. then_some t l) (lt-leb l n u)) ∙ omega arith)

-- what is told is on the line
pub told_low : (n x l : ℕ) → Some l ≡ on_line n x → l ≤ n
told_low n x l e =
    by_le x n
    (λ u. let z : l ≡ x = ap (link_or_end n) (e ∙ ap (λ t. then_some t x) (le-leb x n u)) in omega arith)
    (λ u. let z : Some l ≡ None = e ∙ ap (λ t. then_some t x) (lt-leb x n u) in cc)
