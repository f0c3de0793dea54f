-- A row begins, from the row above it in the lent sheet. Assumes nothing.
use Prim.Native.Nat.{ℕ, zero, suc, ◌+◌, ◌-◌, ◌*◌, ◌≤◌, ◌<◌}
use mathlib.Core.List.{List, ◌++◌}
use mathlib.Core.Path.{◌≡◌, refl, ap, ap₂, ◌∙◌, sym, subst}
use native.Mathlib.Nat.{mul-suc, mul-zero}
use native.Mathlib.Omega.{arith}
use lib.ListN.{length, get_or, take, drop, length-append, length-replicate, set}
use lib.Seq.{get_or-append-add, get_or-take}
use borrow.Author.Tests.{le-ltb, lt-ltb}
use borrow.Rule.Slice.PartMut.{mid_of, mid_len}
use Rattle.basics.specs.Tools.{each}
use Rattle.basics.proofs.Bools.{by_le}
use Rattle.basics.proofs.Tables.{drop_same, get_d_part, length_each, take_same}
use Rattle.records.specs.declared.Circuit.{Circuit}
use Rattle.method.specs.Sheet.{State, act, at, begun, fresh, most, need, paint, red, red_to, row, sheet}
use Rattle.method.proofs.Colours.{at_each}
use Rattle.method.proofs.Placed.{all_red}
use Rattle.method.proofs.Steps.{steps_keep}
use Rattle.rows.proofs.Written.{at_front, at_get, links_are, written_turn}
use Rattle.rows.specs.inner.Loops.{Written}
use Rattle.whole_sheet.specs.Cells.{cells_to}
use Rattle.whole_sheet.specs.inner.Tables.{above_at, start_as, start_at}

-- row k has the n places behind the rows before it
pub times_turn : (n k : ℕ) → 1 ≤ k → n * k ≡ n * (k - 1) + n
times_turn n zero h = absurd (omega arith)
times_turn n (suc k) h = mul-suc n k ∙ ap (λ x. n * x + n) (let e : k ≡ suc k - 1 = omega arith in e)

-- what is read above a row that is being written is what stood there
above_same : (n a i : ℕ) (S₀ S : List ℕ) → i ≤ n → ((x : ℕ) → x < a + 1 → at S x ≡ at S₀ x) → above_at n a S i ≡ above_at n a S₀ i
unfolding above_at
above_same n a i S₀ S h e = by_le n a (λ g. rw (le-ltb a n g) (e (a + i - n) (omega arith))) (λ g. rw (lt-ltb a n g) refl)

-- the colour that is written at link i of row k
start_is : (n w top k i v c was : ℕ) (C S : List ℕ) → v ≡ start_as k ((top - c) * w) was → c ≡ at C i → was ≡ above_at n (n * (k - 1)) S i
    → v ≡ start_at n w top k C S (n * (k - 1) + i)
unfolding start_at
start_is n w top k i v c was C S e p q =
    let z : i ≡ n * (k - 1) + i - n * (k - 1) = omega arith in
    e ∙ ap₂ (λ x y. start_as k ((top - x) * w) y) p q ∙ ap (λ x. start_as k ((top - at C x) * w) (above_at n (n * (k - 1)) S x)) z

-- one link more of row k
pub start_turn : (n w top k i v c was : ℕ) (C S₀ S : List ℕ) → 1 ≤ i → i ≤ n → n * (k - 1) + n ≤ length S₀
    → Written (start_at n w top k C S₀) (n * (k - 1) + 1) (n * (k - 1) + i) S₀ S → v ≡ start_as k ((top - c) * w) was → c ≡ at C i → was ≡ above_at n (n * (k - 1)) S i
    → Written (start_at n w top k C S₀) (n * (k - 1) + 1) (n * (k - 1) + (i + 1)) S₀ (set S (n * (k - 1) + i - 1) v)
start_turn n w top k i v c was C S₀ S a b r y e p q =
    let d = n * (k - 1) in
    let z : d + i + 1 ≡ d + (i + 1) = omega arith in
    let u = start_is n w top k i v c was C S₀ e p (q ∙ above_same n d i S₀ S b (λ x h. y.early x h)) in
    subst (λ x. Written (start_at n w top k C S₀) (d + 1) x S₀ (set S (d + i - 1) v)) z
    (written_turn (start_at n w top k C S₀) (d + 1) (d + i) v S₀ S (set S (d + i - 1) v) y refl u (omega arith) (omega arith))

module _ (n w : ℕ) (cs : List Circuit) where
  -- A ROW HAS n CELLS, as it begins
  begun_long : (k : ℕ) (s : State) → length (begun n w cs k s).colours ≡ n
  unfolding begun fresh
  begun_long k s = length_each _ 1 n

  -- and as it ends
  pub row_long : (k : ℕ) → length (sheet n w cs k).colours ≡ n
  unfolding sheet row act paint
  row_long zero = length-replicate n red
  row_long (suc k) =
      steps_keep n cs (suc k) (λ s. length s.colours ≡ n) (λ s y l h. length_each _ 1 n) (λ s j y l b m h. length_each _ 1 n) n
      (begun n w cs (suc k) (sheet n w cs k)) (begun_long (suc k) (sheet n w cs k))

  -- so k rows have n × k
  pub cells_long : (k : ℕ) → length (cells_to n w cs k) ≡ n * k
  unfolding cells_to
  cells_long zero = sym (mul-zero n)
  cells_long (suc k) = length-append (cells_to n w cs k) (sheet n w cs (suc k)).colours ∙ ap₂ ◌+◌ (cells_long k) (row_long (suc k)) ∙ sym (mul-suc n k)

  -- row k follows from row k − 1
  pub sheet_turn : (k : ℕ) → 1 ≤ k → sheet n w cs k ≡ row n w cs k (sheet n w cs (k - 1))
  unfolding sheet
  sheet_turn zero h = absurd (omega arith)
  sheet_turn (suc k) h = ap (λ x. row n w cs (suc k) (sheet n w cs x)) (let e : k ≡ suc k - 1 = omega arith in e)

  -- and stands behind those before it
  pub cells_turn : (k : ℕ) → 1 ≤ k → cells_to n w cs k ≡ cells_to n w cs (k - 1) ++ (sheet n w cs k).colours
  unfolding cells_to
  cells_turn zero h = absurd (omega arith)
  cells_turn (suc k) h = ap (λ x. cells_to n w cs x ++ (sheet n w cs (suc k)).colours) (let e : k ≡ suc k - 1 = omega arith in e)

  -- what stands above row k + 1 is row k as it ended; above the first row no link is blue
  above_is : (k : ℕ) (S : List ℕ) → take (n * k) S ≡ cells_to n w cs k → (x : ℕ) → 1 ≤ x → x ≤ n → above_at n (n * k) S x ≡ at (sheet n w cs k).colours x
  unfolding above_at cells_to
  above_is zero S e x a b = rw (lt-ltb (n * zero) n (omega (arith, mul-zero n))) (sym (all_red n w cs x a b))
  above_is (suc k) S e x a b =
      let t = mul-suc n k in
      let A : List ℕ = cells_to n w cs k in
      let r : List ℕ = (sheet n w cs (suc k)).colours in
      let p : n * suc k + x - n ≡ n * k + x = omega arith in
      let q : n * k + x - 1 ≡ length A + (x - 1) = omega (arith, cells_long k) in
      rw (le-ltb (n * suc k) n (omega arith))
      (ap (at S) p ∙ sym (at_get S (n * k + x) (omega arith)) ∙ sym (get_or-take (n * suc k) S (n * k + x - 1) 0 (omega arith)) ∙ ap (λ (l : List ℕ). get_or l (n * k + x - 1) 0) e
      ∙ ap (λ z. get_or (A ++ r) z 0) q ∙ get_or-append-add A r (x - 1) 0 ∙ at_get r x a)

  -- THE ROW AS IT BEGINS
  module _ (k : ℕ) (pos : 1 ≤ k) (top : ℕ) (C S₀ S₁ : List ℕ) (drawn : take (n * (k - 1)) S₀ ≡ cells_to n w cs (k - 1)) (top_is : top ≡ most n w cs)
      (needs : take n C ≡ each (need w cs) 1 n) (room : n * k ≤ length S₀)
      (y : Written (start_at n w top k C S₀) (n * (k - 1) + 1) (n * (k - 1) + (n + 1)) S₀ S₁) where
    -- the colour of link x
    start_at_lem : (x : ℕ) → 1 ≤ x → x ≤ n → start_at n w top k C S₀ (n * (k - 1) + x) ≡ at (begun n w cs k (sheet n w cs (k - 1))).colours x
    unfolding start_at start_as begun fresh red_to
    start_at_lem x a b =
        let z : n * (k - 1) + x - n * (k - 1) ≡ x = omega arith in
        let c : at C x ≡ need w cs x = at_front n C x a b ∙ ap (λ (l : List ℕ). at l x) needs ∙ at_each (need w cs) n x a b in
        ap (λ i. start_as k ((top - at C i) * w) (above_at n (n * (k - 1)) S₀ i)) z
        ∙ ap₂ (λ (r : ℕ) (o : ℕ). start_as k (r * w) o) (ap₂ ◌-◌ top_is c) (above_is (k - 1) S₀ drawn x a b)
        ∙ sym (at_each _ n x a b)

    -- the lent part
    pub begun_part : mid_of (n * (k - 1)) (n * k - n * (k - 1)) S₁ ≡ (begun n w cs k (sheet n w cs (k - 1))).colours
    unfolding begun fresh
    begun_part =
        let t = times_turn n k pos in
        let L : n * k - n * (k - 1) ≡ n = omega arith in
        let long = y.long in
        let m : length (mid_of (n * (k - 1)) (n * k - n * (k - 1)) S₁) ≡ n = mid_len (n * (k - 1)) (n * k) S₁ (omega arith) ∙ L in
        links_are n (mid_of (n * (k - 1)) (n * k - n * (k - 1)) S₁) _ m
        (λ x a b.
        sym (at_get (mid_of (n * (k - 1)) (n * k - n * (k - 1)) S₁) x a) ∙ get_d_part (n * (k - 1)) (n * k - n * (k - 1)) S₁ (x - 1) 0 (omega arith)
        ∙ ap (λ z. get_or S₁ z 0) (let z : n * (k - 1) + (x - 1) ≡ n * (k - 1) + x - 1 = omega arith in z) ∙ at_get S₁ (n * (k - 1) + x) (omega arith)
        ∙ y.done (n * (k - 1) + x) (omega arith) (omega arith) ∙ start_at_lem x a b ∙ at_each _ n x a b)

    -- the rows before it stay
    pub front_kept : take (n * (k - 1)) S₁ ≡ take (n * (k - 1)) S₀
    unfolding at
    front_kept = take_same 0 (n * (k - 1)) S₁ S₀ y.long (λ i h. y.early (suc i) (omega arith))

    -- and what is behind it
    pub rest_stays : drop (n * k) S₁ ≡ drop (n * k) S₀
    unfolding at
    rest_stays = let t = times_turn n k pos in drop_same 0 (n * k) S₁ S₀ y.long (λ i h. y.late (suc i) (omega arith))
