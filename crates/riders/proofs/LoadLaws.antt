-- Loads of two files together, and the sum of all loads. Assumes nothing.
use Prim.Native.Nat.{ℕ, zero, suc, ◌+◌, ◌-◌, ◌*◌, ◌<◌, ◌≤◌, min, max}
use mathlib.Core.Path.{◌≡◌, refl, ap, ap₂, ◌∙◌, sym}
use mathlib.Core.Bool.{Bool, cond}
use mathlib.Core.List.{List, ◌++◌}
use native.Mathlib.Omega.{arith}
use lib.ListN.{length, length-append, get_or-append}
use lib.Seq.{get_or-append-add}
use borrow.Author.Tests.{le-leb, lt-leb}
use Rattle.basics.specs.Tools.{count, sum}
use Rattle.basics.proofs.Bools.{by_le}
use Rattle.basics.proofs.Counts.{count_split, count_below}
use Rattle.basics.proofs.Sums.{sum_add, sum_eq, sum_zero}
use Rattle.records.specs.declared.Circuit.{Circuit}
use Rattle.method.specs.Line.{circuit, nobody, uses}
use Rattle.method.specs.Sheet.{load}

-- two tests that agree count the same
pub count_same : (p q : ℕ → Bool) (m : ℕ) → ((j : ℕ) → j < m → p j ≡ q j) → count p m ≡ count q m
unfolding count
count_same p q zero h = refl
count_same p q (suc m) h = ap₂ (λ (b : Bool) (x : ℕ). cond b 1 0 + x) (h m (omega arith)) (count_same p q m (λ j l. h j (omega arith)))

module _ (cs ds : List Circuit) where
  -- a circuit of the first file
  pub circuit_left : (j : ℕ) → j < length cs → circuit (cs ++ ds) j ≡ circuit cs j
  unfolding circuit
  circuit_left j h = get_or-append cs ds nobody j h

  -- a circuit of the second
  pub circuit_right : (j : ℕ) → circuit (cs ++ ds) (length cs + j) ≡ circuit ds j
  unfolding circuit
  circuit_right j = get_or-append-add cs ds j nobody

  -- the load of a link is that of both files
  pub load_both : (i : ℕ) → load (cs ++ ds) i ≡ load cs i + load ds i
  unfolding load
  load_both i =
      ap (count (λ j. uses (circuit (cs ++ ds) j) i)) (length-append cs ds)
      ∙ count_split (λ j. uses (circuit (cs ++ ds) j) i) (length cs) (length ds)
      ∙ ap₂ ◌+◌
      (count_same (λ j. uses (circuit (cs ++ ds) j) i) (λ j. uses (circuit cs j) i) (length cs) (λ j h. ap (λ (c : Circuit). uses c i) (circuit_left j h)))
      (count_same (λ j. uses (circuit (cs ++ ds) (length cs + j)) i) (λ j. uses (circuit ds j) i) (length ds) (λ j h. ap (λ (c : Circuit). uses c i) (circuit_right j)))

  -- and so is the sum
  pub sum_both : (n : ℕ) → sum (load (cs ++ ds)) n ≡ sum (load cs) n + sum (load ds) n
  sum_both n = sum_eq (load (cs ++ ds)) (λ i. load cs i + load ds i) n (λ i a b. load_both i) ∙ sum_add (load cs) (load ds) n

-- the links that a circuit uses, counted one by one
sum_uses : (c : Circuit) (n : ℕ) → sum (λ i. cond (uses c i) 1 0) n ≡ suc (min n c.last) - max 1 c.first
unfolding sum uses
sum_uses c zero = omega arith
sum_uses c (suc n) =
    let ih = sum_uses c n in
    by_le c.first (suc n)
    (λ a.
    by_le (suc n) c.last (λ b. rw (le-leb c.first (suc n) a, le-leb (suc n) c.last b) (omega arith)) (λ b. rw (le-leb c.first (suc n) a, lt-leb (suc n) c.last b) (omega arith)))
    (λ a. rw (lt-leb c.first (suc n) a) (omega arith))

-- the sum of the loads of the first j circuits
pub sum_to : List Circuit → ℕ → ℕ → ℕ
sum_to cs n j = sum (λ i. count (λ d. uses (circuit cs d) i) j) n

-- of none
pub sum_to_none : (cs : List Circuit) (n : ℕ) → sum_to cs n 0 ≡ 0
unfolding sum_to count
sum_to_none cs n = sum_zero n

-- of one circuit more
pub sum_to_more : (cs : List Circuit) (n j : ℕ) (c : Circuit) → c ≡ circuit cs j → 1 ≤ c.first → c.first ≤ c.last → c.last ≤ n
    → sum_to cs n (suc j) ≡ sum_to cs n j + (c.last - c.first + 1)
unfolding sum_to count
sum_to_more cs n j c e a b h =
    let s = sum_add (λ i. cond (uses (circuit cs j) i) 1 0) (λ i. count (λ d. uses (circuit cs d) i) j) n in
    let u : sum (λ i. cond (uses (circuit cs j) i) 1 0) n ≡ suc (min n c.last) - max 1 c.first = ap (λ (x : Circuit). sum (λ i. cond (uses x i) 1 0) n) (sym e) ∙ sum_uses c n in
    omega arith

-- of all
pub sum_to_all : (cs : List Circuit) (n j : ℕ) → j ≡ length cs → sum_to cs n j ≡ sum (load cs) n
unfolding sum_to load
sum_to_all cs n j e = ap (sum_to cs n) e

-- at most v for each link
pub sum_most : (f : ℕ → ℕ) (v n : ℕ) → ((i : ℕ) → f i ≤ v) → sum f n ≤ v * n
unfolding sum
sum_most f v zero h = omega arith
sum_most f v (suc n) h = omega (arith, h (suc n), sum_most f v n h)

-- a load is at most the number of circuits
pub load_few : (cs : List Circuit) (i : ℕ) → load cs i ≤ length cs
unfolding load
load_few cs i = count_below (λ j. uses (circuit cs j) i) (length cs)
