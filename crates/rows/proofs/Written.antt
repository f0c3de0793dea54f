-- Cells of links: link i of a list is its element i - 1. What a loop that writes links has done. Assumes nothing.
use Rattle.std.proofs.Common.{◌≡◌, ℕ, zero, suc, ◌+◌, ◌-◌, ◌*◌, ◌<◌, ◌≤◌, ◌≢◌, List, length, get_or, take, set, sym, refl, ap, ◌∙◌, arith, length-set, get_or-set_other, get_or-take, get_or-set_same}
use lib.ListN.{get_or-eq_default}
use Rattle.basics.specs.Tools.{each}
use Rattle.basics.proofs.Bools.{by_eq}
use Rattle.basics.proofs.Tables.{is_each}
use Rattle.method.specs.Sheet.{at}
use Rattle.records.specs.Bytes.{cell, cells_of}
use Rattle.records.proofs.CellLaws.{cell_is}
use Rattle.rows.specs.inner.Loops.{Written}

-- a link's cell, by its place in the list
pub at_get : (C : List ℕ) (i : ℕ) → 1 ≤ i → get_or C (i - 1) 0 ≡ at C i
unfolding at
at_get C zero h = absurd (omega arith)
at_get C (suc i) h = let e : suc i - 1 ≡ i = omega arith in rw e

-- a link past the end counts as red
pub at_past : (C : List ℕ) (i : ℕ) → length C < i → at C i ≡ 0
unfolding at
at_past C zero h = refl
at_past C (suc i) h = get_or-eq_default C 0 (omega arith)

-- a link's cell among the first n cells
pub at_front : (n : ℕ) (C : List ℕ) (x : ℕ) → 1 ≤ x → x ≤ n → at C x ≡ at (take n C) x
at_front n C x a b = sym (at_get C x a) ∙ sym (get_or-take n C (x - 1) 0 (omega arith)) ∙ at_get (take n C) x a

-- a store to link i is found there
pub at_set_same : (C : List ℕ) (i v : ℕ) → 1 ≤ i → i ≤ length C → at (set C (i - 1) v) i ≡ v
at_set_same C i v l h = sym (at_get (set C (i - 1) v) i l) ∙ get_or-set_same C (i - 1) v 0 (omega arith)

-- and changes no other link
pub at_set_other : (C : List ℕ) (i x v : ℕ) → 1 ≤ i → x ≢ i → at (set C (i - 1) v) x ≡ at C x
unfolding at
at_set_other C i zero v l h = refl
at_set_other C i (suc x) v l h = get_or-set_other C (i - 1) x v 0 (omega arith)

-- a list of n links that is f at each
pub links_are : (n : ℕ) (C : List ℕ) (f : ℕ → ℕ) → length C ≡ n → ((x : ℕ) → 1 ≤ x → x ≤ n → at C x ≡ f x) → C ≡ each f 1 n
unfolding at
links_are n C f l h = is_each f 1 n 0 C l (λ i b. h (suc i) (omega arith) (omega arith) ∙ ap f (omega arith))

-- before the first link
pub written_start : (f : ℕ → ℕ) (start : ℕ) (C : List ℕ) → Written f start start C C
written_start f start C =
    record { since = omega arith; long = refl; done = λ x a b. absurd (omega arith); early = λ x a. refl; late = λ x a. refl }

-- one link more
pub written_turn : (f : ℕ → ℕ) (start i v : ℕ) (C₀ C C' : List ℕ) → Written f start i C₀ C → C' ≡ set C (i - 1) v → v ≡ f i → 1 ≤ start → i ≤ length C₀ → Written f start (i + 1) C₀ C'
written_turn f start i v C₀ C C' y e q pos h =
    let s = y.since in
    let l = y.long in
    rw e
    (record {
      since = omega arith;
      long = length-set C (i - 1) v ∙ y.long;
      done = λ x a b.
          by_eq x i
          (λ z. ap (at (set C (i - 1) v)) z ∙ at_set_same C i v (omega arith) (omega arith) ∙ q ∙ ap f (sym z))
          (λ z. at_set_other C i x v (omega arith) z ∙ y.done x a (omega arith));
      early = λ x a. at_set_other C i x v (omega arith) (omega arith) ∙ y.early x a;
      late = λ x a. at_set_other C i x v (omega arith) (omega arith) ∙ y.late x (omega arith);
    })

-- one link more, by its place
pub written_next : (f : ℕ → ℕ) (i v : ℕ) (C₀ C C' : List ℕ) → Written f 1 (i + 1) C₀ C → C' ≡ set C i v → v ≡ f (i + 1) → i < length C₀ → Written f 1 (i + 1 + 1) C₀ C'
written_next f i v C₀ C C' y e q h =
    let k : i ≡ i + 1 - 1 = omega arith in
    written_turn f 1 (i + 1) v C₀ C C' y (e ∙ ap (λ (j : ℕ). set C j v) k) q (omega arith) (omega arith)

-- all links are written
pub written_all : (f : ℕ → ℕ) (n i : ℕ) (C₀ C : List ℕ) → Written f 1 i C₀ C → length C₀ ≡ n → n < i → C ≡ each f 1 n
written_all f n i C₀ C y l h = links_are n C f (y.long ∙ l) (λ x a b. y.done x a (omega arith))

-- what is read as cell i - 1 is the cell of link i
pub read : (b : List ℕ) (i v : ℕ) → 1 ≤ i → 2 * (i - 1) + 1 < length b → v ≡ cell b (i - 1) → v ≡ at (cells_of b) i
read b i v l h e = e ∙ cell_is b (i - 1) h ∙ at_get (cells_of b) i l

-- what is read as cell i, which is that of link i + 1, and was not yet written
pub read_next : (f : ℕ → ℕ) (b : List ℕ) (i v : ℕ) (C₀ : List ℕ) → Written f 1 (i + 1) C₀ (cells_of b) → 2 * i + 1 < length b → v ≡ cell b i → v ≡ at C₀ (i + 1)
read_next f b i v C₀ y l e =
    let k : i ≡ i + 1 - 1 = omega arith in
    read b (i + 1) v (omega arith) (omega arith) (e ∙ ap (cell b) k) ∙ y.late (i + 1) (omega arith)
