-- What the loop that paints leaves. Assumes nothing.
use Rattle.std.proofs.Common.{◌≡◌, ℕ, ◌≤◌, max, cond, List, length, ◌∙◌, arith, le-ltb, lt-ltb, le-leb}
use borrow.Author.Tests.{lt-leb}
use Rattle.basics.proofs.Bools.{by_le}
use Rattle.method.specs.Sheet.{at, paint}
use Rattle.rows.specs.inner.Colours.{between, painted}
use Rattle.rows.specs.inner.Loops.{Written, one_row}
use Rattle.rows.proofs.Written.{links_are}

-- the loop has painted the links from `start` to before `past`
pub paint_done : (n start past v i : ℕ) (C₀ C : List ℕ) → length C₀ ≡ n → past ≤ i → i ≤ max start past → Written (one_row v) start i C₀ C → C ≡ painted n start past v C₀
unfolding paint between
paint_done n start past v i C₀ C l e e' y =
    links_are n C (λ x. cond (between start past x) v (at C₀ x)) (y.long ∙ l)
    (λ x p q.
    by_le start x
    (λ g. by_le past x (λ h. rw (le-leb start x g, le-ltb x past h) (y.late x (omega arith))) (λ h. rw (le-leb start x g, lt-ltb x past h) (y.done x g (omega arith))))
    (λ g. rw (lt-leb start x g) (y.early x g)))
