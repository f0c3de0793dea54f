-- Laws of the columns, and of the loops that pick rows of them. Assumes nothing.
use Prim.Native.Nat.{ℕ, zero, suc, ◌+◌, ◌%◌, ◌≤◌, ◌<◌}
use mathlib.Core.Path.{◌≡◌, refl, ap, ◌∙◌, sym, subst}
use mathlib.Core.Logic.{◌≢◌}
use mathlib.Core.Bool.{Bool, true, false, cond}
use mathlib.Core.List.{List}
use native.Mathlib.Omega.{arith}
use native.Mathlib.Nat.{zero-add, add-zero}
use lib.Dec.{leb}
use lib.ListN.{length, get_or, set, length-set}
use lib.Seq.{get_or-set_same, get_or-set_other}
use borrow.Author.Tests.{le-leb, leb-true}
use Rattle.basics.specs.Tools.{count}
use Rattle.basics.proofs.Bools.{on, by_eq, by_le, and_l, and_r, and_of, clash}
use Rattle.basics.proofs.Counts.{count_below, count_turn, count_rank, count_nth}
use Rattle.basics.proofs.Tables.{length_each, get_d_each}
use Rattle.records.specs.declared.Circuit.{Circuit}
use Rattle.method.specs.Line.{circuit, nobody}
use Rattle.riders.specs.declared.columns.Columns.{Columns}
use Rattle.riders.specs.declared.stretches.Shortlist.{Shortlist}
use Rattle.riders.specs.inner.Picks.{row, rows, meets, Picked, listed, number_in, Near, near_to, Stretched}

-- ROWS. There are as many rows as are used
pub length_rows : (C : Columns) → length (rows C) ≡ C.many
unfolding rows
length_rows C = length_each (row C) 0 C.many

-- row p of the list
pub rows_at : (C : Columns) (p : ℕ) → p < C.many → circuit (rows C) p ≡ row C p
unfolding rows circuit
rows_at C p h = get_d_each (row C) 0 C.many p nobody h ∙ ap (row C) (zero-add p)

-- one row more is as asked
pub rows_turn : (goal : ℕ → Circuit) (C C' : Columns) (p : ℕ) (c : Circuit) → p < length C.numbers → p < length C.firsts → p < length C.lasts
    → C'.numbers ≡ set C.numbers p c.number → C'.firsts ≡ set C.firsts p c.first → C'.lasts ≡ set C.lasts p c.last → c ≡ goal p → ((x : ℕ) → x < p → row C x ≡ goal x)
    → (x : ℕ) → x < p + 1 → row C' x ≡ goal x
unfolding row
rows_turn goal C C' p c h i j u v w e f x l =
    by_eq x p
    (λ z.
    let a = ap (λ (y : ℕ). get_or C'.numbers y 0) z ∙ ap (λ (s : List ℕ). get_or s p 0) u ∙ get_or-set_same C.numbers p c.number 0 h in
    let b = ap (λ (y : ℕ). get_or C'.firsts y 0) z ∙ ap (λ (s : List ℕ). get_or s p 0) v ∙ get_or-set_same C.firsts p c.first 0 i in
    let d = ap (λ (y : ℕ). get_or C'.lasts y 0) z ∙ ap (λ (s : List ℕ). get_or s p 0) w ∙ get_or-set_same C.lasts p c.last 0 j in
    let same : row C' x ≡ c = λ t. record { number = a t; first = b t; last = d t } in
    same ∙ e ∙ ap goal (sym z))
    (λ n.
    let a = ap (λ (s : List ℕ). get_or s x 0) u ∙ get_or-set_other C.numbers p x c.number 0 n in
    let b = ap (λ (s : List ℕ). get_or s x 0) v ∙ get_or-set_other C.firsts p x c.first 0 n in
    let d = ap (λ (s : List ℕ). get_or s x 0) w ∙ get_or-set_other C.lasts p x c.last 0 n in
    let same : row C' x ≡ row C x = λ t. record { number = a t; first = b t; last = d t } in
    same ∙ f x (omega arith))

-- PICKING. Before the first place
pub picked_none : (test : ℕ → Bool) (near : List ℕ) → Picked test 0 0 near
unfolding count
picked_none test near = record { many = refl; picked = λ p h. absurd (omega arith) }

-- one place more: it is put behind those that were picked, and stays there if it passes
pub picked_turn : (test : ℕ → Bool) (p k x v : ℕ) (near near' : List ℕ) → Picked test p k near → k < length near → v ≡ p → near' ≡ set near k v → x ≡ cond (test p) 1 0
    → Picked test (p + 1) (k + x) near'
picked_turn test p k x v near near' s l w u e =
    let at : (y : ℕ) → get_or near' y 0 ≡ get_or (set near k v) y 0 = λ y. ap (λ (z : List ℕ). get_or z y 0) u in
    record {
      many = count_turn test p k x (test p) s.many e refl;
      picked = λ q h t. by_eq q p
          (λ z. at (count test q) ∙ ap (λ (y : ℕ). get_or (set near k v) (count test y) 0) z ∙ ap (λ (y : ℕ). get_or (set near k v) y 0) (sym s.many) ∙ get_or-set_same near k v 0 l ∙ w ∙ sym z)
          (λ n. at (count test q) ∙ get_or-set_other near k (count test q) v 0 (λ z. omega (arith, s.many, count_rank test q p (omega arith) t)) ∙ s.picked q (omega arith) t);
    }

-- STRETCHES. Before the first
pub stretched_none : (test : ℕ → Bool) (number : ℕ → ℕ) (at : ℕ) (cells : List ℕ) → Stretched test number 0 at cells at cells
unfolding count
stretched_none test number at cells = record { long = refl; next = sym (add-zero at); put = λ p h. absurd (omega arith); below = λ x h. refl; above = λ x h. refl }

module _ (test : ℕ → Bool) (number : ℕ → ℕ) (p at : ℕ) (before : List ℕ) (end : ℕ) (cells : List ℕ) (s : Stretched test number p at before end cells) where
  -- one that does not pass
  pub stretched_skip : test p ≡ false → (end' : ℕ) (cells' : List ℕ) → end' ≡ end → cells' ≡ cells → Stretched test number (p + 1) at before end' cells'
  stretched_skip e end' cells' w u =
      let c = count_turn test p (count test p) 0 false refl refl (sym e) in
      let same : (x : ℕ) → get_or cells' x 0 ≡ get_or cells x 0 = λ x. ap (λ (z : List ℕ). get_or z x 0) u in
      record {
        long = ap length u ∙ s.long;
        next = omega (arith, s.next);
        put = λ q h t. by_eq q p (λ z. clash (test p) (subst (λ (v : ℕ). test v ≡ true) z t) e) (λ n. same (at + count test q) ∙ s.put q (omega arith) t);
        below = λ x l. same x ∙ s.below x l;
        above = λ x l. same x ∙ s.above x (omega arith);
      }

  -- one that passes
  pub stretched_more : test p ≡ true → end < length cells → (v end' : ℕ) (cells' : List ℕ) → v ≡ number p → end' ≡ end + 1 → cells' ≡ set cells end v → Stretched test number (p + 1) at before end' cells'
  stretched_more e h v end' cells' w d u =
      let c = count_turn test p (count test p) 1 true refl refl (sym e) in
      let next = s.next in
      let other : (x : ℕ) → x ≢ end → get_or cells' x 0 ≡ get_or cells x 0 = λ x n. ap (λ (z : List ℕ). get_or z x 0) u ∙ get_or-set_other cells end x v 0 n in
      record {
        long = ap length u ∙ length-set cells end v ∙ s.long;
        next = omega arith;
        put = λ q l t. by_eq q p
            (λ z. ap (λ (y : ℕ). get_or cells' (at + count test y) 0) z ∙ ap (λ (y : ℕ). get_or cells' y 0) (sym next) ∙ ap (λ (y : List ℕ). get_or y end 0) u ∙ get_or-set_same cells end v 0 h ∙ w
            ∙ ap number (sym z))
            (λ n. let r = count_rank test q p (omega arith) t in other (at + count test q) (λ z. omega arith) ∙ s.put q (omega arith) t);
        below = λ x l. other x (λ z. omega arith) ∙ s.below x l;
        above = λ x l. other x (λ z. omega arith) ∙ s.above x (omega arith);
      }

  -- there is room for one that passes
  pub stretched_room : (k room : ℕ) → at + count test k ≤ room → p < k → test p ≡ true → end < room
  stretched_room k room h l t = omega (arith, s.next, count_rank test p k l t)

-- there is room for a row of a shortlist that uses the link
pub row_room : (C : Columns) (S : Shortlist) (i q at : ℕ) (before : List ℕ) (end : ℕ) (cells : List ℕ) → Stretched (listed i C S) (number_in C S) q at before end cells
    → at + count (listed i C S) S.many ≤ length before → q < S.many → (p : ℕ) → p ≡ get_or S.places q 0 → meets i i C p ≡ true → end < length cells
unfolding listed
row_room C S i q at before end cells s h l p e t =
    stretched_room (listed i C S) (number_in C S) q at before end cells s S.many (length cells) (omega (arith, s.long)) l (ap (meets i i C) (sym e) ∙ t)

-- SHORTLISTS. A row that uses one of some links uses one of more links
pub meets_more : (a e a' e' : ℕ) (C : Columns) (p : ℕ) → a ≤ a' → e' ≤ e → meets a' e' C p ≡ true → meets a e C p ≡ true
unfolding meets
meets_more a e a' e' C p h k t =
    let x = leb-true (get_or C.firsts p 0) e' (and_l _ _ t) in
    let y = leb-true a' (get_or C.lasts p 0) (and_r (leb (get_or C.firsts p 0) e') _ t) in
    and_of _ _ (le-leb (get_or C.firsts p 0) e (omega arith)) (le-leb a (get_or C.lasts p 0) (omega arith))

-- a shortlist of no place, for no link
pub near_none : (C : Columns) (S : Shortlist) → S.many ≡ 0 → ((p : ℕ) → p < C.many → 1 ≤ get_or C.firsts p 0) → Near C 1 (near_to 1) S
unfolding near_to meets
near_none C S z f =
    record {
      few = omega arith;
      rising = λ q r h l. absurd (omega arith);
      only = λ q h. absurd (omega arith);
      all = λ p h t. absurd (omega (arith, f p h, leb-true (get_or C.firsts p 0) 0 (and_l _ _ t)));
      loads = λ i h l. absurd (omega arith);
    }

-- the next link of a block
pub near_on : (C : Columns) (a e : ℕ) (S : Shortlist) → Near C a e S → Near C (a + 1) e S
near_on C a e S s =
    record {
      few = s.few;
      rising = s.rising;
      only = s.only;
      all = λ p h t. s.all p h (meets_more a e (a + 1) e C p (omega arith) (omega arith) t);
      loads = λ i h l. s.loads i (omega arith) l;
    }

-- a link that begins no block has the shortlist of the link before it
near_stays : (i : ℕ) → i % 16 ≢ 1 → near_to i ≡ near_to (i + 1)
unfolding near_to
near_stays i n = omega arith

-- one that begins a block has 15 after it
near_begins : (i : ℕ) → i % 16 ≡ 1 → i + 15 ≡ near_to (i + 1)
unfolding near_to
near_begins i e = omega arith

-- and is of the block that begins with it, or before it
pub near_reaches : (i : ℕ) → 1 ≤ i → i ≤ near_to (i + 1)
unfolding near_to
near_reaches i h = omega arith

module _ (C : Columns) (a e : ℕ) (S : Shortlist) (s : Picked (meets a e C) C.many S.many S.places) where
  -- of the picked rows as many use a link as of all
  loads_to : (i : ℕ) → a ≤ i → i ≤ e → (p : ℕ) → p ≤ C.many → count (listed i C S) (count (meets a e C) p) ≡ count (meets i i C) p
  unfolding count listed
  loads_to i h l zero b = refl
  loads_to i h l (suc p) b =
      let ih = loads_to i h l p (omega arith) in
      on (meets a e C p)
      (λ t.
      let same : meets i i C (get_or S.places (count (meets a e C) p) 0) ≡ meets i i C p = ap (meets i i C) (s.picked p (omega arith) t) in
      rw t (rw (one_more (count (meets a e C) p)) (ap (λ (x : Bool). cond x 1 0 + count (listed i C S) (count (meets a e C) p)) same ∙ ap (λ (x : ℕ). cond (meets i i C p) 1 0 + x) ih)))
      (λ f.
      let none : meets i i C p ≡ false = on (meets i i C p) (λ t. clash (meets a e C p) (meets_more a e i i C p h l t) f) (λ g. g) in
      rw f (rw none (ap (count (listed i C S)) (zero-add (count (meets a e C) p)) ∙ ih ∙ sym (zero-add (count (meets i i C) p)))))
    where
      one_more : (x : ℕ) → 1 + x ≡ suc x
      one_more x = omega arith

  -- the picked places are a shortlist
  near_picked : Near C a e S
  near_picked =
      let test = meets a e C in
      let many = s.many in
      record {
        few = omega (arith, count_below test C.many);
        rising = λ q r h l.
            let x = count_nth test C.many q (omega arith) in
            let y = count_nth test C.many r (omega arith) in
            let x₃ = x.3 in
            let y₃ = y.3 in
            let below : x.0 < y.0 =
            by_le y.0 x.0
            (λ g. by_eq y.0 x.0 (λ z. absurd (omega (arith, ap (count test) z))) (λ n. absurd (omega (arith, count_rank test y.0 x.0 (omega arith) y.2))))
            (λ g. g) in
            let u : get_or S.places q 0 ≡ x.0 = ap (λ (v : ℕ). get_or S.places v 0) (sym x₃) ∙ s.picked x.0 x.1 x.2 in
            let w : get_or S.places r 0 ≡ y.0 = ap (λ (v : ℕ). get_or S.places v 0) (sym y₃) ∙ s.picked y.0 y.1 y.2 in
            omega arith;
        only = λ q h.
            let x = count_nth test C.many q (omega arith) in
            let x₁ = x.1 in
            let u : get_or S.places q 0 ≡ x.0 = ap (λ (v : ℕ). get_or S.places v 0) (sym x.3) ∙ s.picked x.0 x.1 x.2 in
            omega arith;
        all = λ p h t. (count test p, omega (arith, count_rank test p C.many h t), s.picked p h t);
        loads = λ i h l. ap (count (listed i C S)) many ∙ loads_to i h l C.many (omega arith);
      }

-- a link that begins no block
pub near_same : (C : Columns) (i : ℕ) (S : Shortlist) → i % 16 ≢ 1 → Near C i (near_to i) S → Near C i (near_to (i + 1)) S
near_same C i S n s = subst (λ (e : ℕ). Near C i e S) (near_stays i n) s

-- one that does
pub near_anew : (C : Columns) (i : ℕ) (S : Shortlist) → i % 16 ≡ 1 → Picked (meets i (i + 15) C) C.many S.many S.places → Near C i (near_to (i + 1)) S
near_anew C i S e s = subst (λ (z : ℕ). Near C i z S) (near_begins i e) (near_picked C i (i + 15) S s)
