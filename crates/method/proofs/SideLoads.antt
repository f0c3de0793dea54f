-- One side of an idle link (R-9): its loads, and how much shorter its sheet is. Assumes nothing.
use Prim.Native.Nat.{◌*◌, ◌+◌, ◌-◌, ◌/◌, ◌<◌, ◌≤◌, ℕ}
use lib.ListN.{length}
use mathlib.Core.Bool.{Bool, false, true}
use mathlib.Core.List.{List}
use mathlib.Core.Logic.{◌⊎◌}
use mathlib.Core.Path.{◌∙◌, ◌≡◌, ap, refl, sym}
use native.Mathlib.Nat.{add-mul, div-eq_of_lt}
use native.Mathlib.Omega.{arith}
use Rattle.basics.proofs.Bools.{clash, on}
use Rattle.basics.proofs.Counts.{count_all, count_none, le_top, pigeonhole, top_le}
use Rattle.records.specs.declared.Circuit.{Circuit}
use Rattle.method.specs.Line.{Distinct, Lies, circuit, uses}
use Rattle.method.specs.Sheet.{load, most, need, red_to}

-- ds holds the circuits of cs on one side, the links that pass `side`, of link z, which no circuit uses
pub record Half (n w z : ℕ) (side : ℕ → Bool) (cs ds : List Circuit) : Type 0 where
  pub lies : Lies n cs
  pub lies' : Lies n ds
  pub pos : 1 ≤ w
  pub on_low : 1 ≤ z
  pub on_high : z ≤ n
  pub once : Distinct cs
  pub once' : Distinct ds
  pub idle : (j : ℕ) → j < length cs → uses (circuit cs j) z ≡ false
  -- z stands between a link of the side and one that is not
  pub between : (x y : ℕ) → side x ≡ true → side y ≡ false → ((x ≤ z) × (z ≤ y)) ⊎ ((z ≤ x) × (y ≤ z))
  pub there : ℕ → ℕ
  pub back : ℕ → ℕ
  pub to : (i : ℕ) → i < length ds → (there i < length cs) × (circuit ds i ≡ circuit cs (there i))
  pub fro : (j x : ℕ) → j < length cs → uses (circuit cs j) x ≡ true → side x ≡ true → (back j < length ds) × (circuit ds (back j) ≡ circuit cs j)
  pub inside : (i x : ℕ) → i < length ds → uses (circuit ds i) x ≡ true → side x ≡ true

module _ (n w z : ℕ) (side : ℕ → Bool) (cs ds : List Circuit) (h : Half n w z side cs ds) where
  -- the same circuit has one place in each file
  pub one_place : (i i' j j' : ℕ) → j < length cs → j' < length cs → circuit ds i ≡ circuit cs j → circuit ds i' ≡ circuit cs j' → i ≡ i' → j ≡ j'
  one_place i i' j j' l l' c c' e = h.once j j' l l' (ap (λ c. c.number) (sym c ∙ ap (circuit ds) e ∙ c'))

  -- and the other way round
  pub one_place' : (i i' j j' : ℕ) → i < length ds → i' < length ds → circuit ds i ≡ circuit cs j → circuit ds i' ≡ circuit cs j' → j ≡ j' → i ≡ i'
  one_place' i i' j j' l l' c c' e = h.once' i i' l l' (ap (λ c. c.number) (c ∙ ap (circuit cs) e ∙ sym c'))

  -- the side has no more circuits than the whole
  pub length_less : length ds ≤ length cs
  length_less =
      let one : ℕ → Bool = λ i. true in
      let e = pigeonhole one (length ds) one (length cs) h.there (λ i l u. ((h.to i l).0, refl))
      (λ i j a b u v e. one_place' i j (h.there i) (h.there j) a b (h.to i a).1 (h.to j b).1 e) in
      omega (arith, count_all one true (length ds) (λ x l. refl), count_all one true (length cs) (λ x l. refl))

  -- THE LOADS: the same on the side, none elsewhere
  load_less : (x : ℕ) → load ds x ≤ load cs x
  unfolding load
  load_less x =
      pigeonhole (λ i. uses (circuit ds i) x) (length ds) (λ j. uses (circuit cs j) x) (length cs) h.there
      (λ i l e. let p = h.to i l in (p.0, sym (ap (λ c. uses c x) p.1) ∙ e))
      (λ i j a b u v e. one_place' i j (h.there i) (h.there j) a b (h.to i a).1 (h.to j b).1 e)

  -- on the side no circuit is lost
  load_more : (x : ℕ) → side x ≡ true → load cs x ≤ load ds x
  unfolding load
  load_more x s =
      pigeonhole (λ j. uses (circuit cs j) x) (length cs) (λ i. uses (circuit ds i) x) (length ds) h.back
      (λ j l e. let p = h.fro j x l e s in (p.0, ap (λ c. uses c x) p.1 ∙ e))
      (λ i j a b u v e. one_place (h.back i) (h.back j) i j a b (h.fro i x a u s).1 (h.fro j x b v s).1 e)

  -- off the side there is none
  load_out : (x : ℕ) → side x ≡ false → load ds x ≡ 0
  unfolding load
  load_out x s = count_none (λ i. uses (circuit ds i) x) (length ds) (λ i l. on (uses (circuit ds i) x) (λ u. clash (side x) (h.inside i x l u) s) (λ u. u))

  -- nor on the idle link
  load_idle : load cs z ≡ 0
  unfolding load
  load_idle = count_none (λ j. uses (circuit cs j) z) (length cs) h.idle

  -- a link with load 0 needs no fibre
  none_needed : (ls : List Circuit) (x : ℕ) → load ls x ≡ 0 → need w ls x ≡ 0
  unfolding need
  none_needed ls x e = ap (λ l. (l + (w - 1)) / w) e ∙ div-eq_of_lt (let p = h.pos in omega arith)

  -- c(i) is the same on the side
  pub need_in : (x : ℕ) → side x ≡ true → need w ds x ≡ need w cs x
  unfolding need
  need_in x s = ap (λ l. (l + (w - 1)) / w) (let a = load_less x in let b = load_more x s in let e : load ds x ≡ load cs x = omega arith in e)

  -- and 0 off the side
  pub need_out : (x : ℕ) → side x ≡ false → need w ds x ≡ 0
  need_out x s = none_needed ds x (load_out x s)

  -- and 0 on the idle link
  pub need_idle : need w cs z ≡ 0
  need_idle = none_needed cs z load_idle

  -- so it is nowhere larger
  need_less : (x : ℕ) → need w ds x ≤ need w cs x
  need_less x = on (side x) (λ s. omega (arith, need_in x s)) (λ s. omega (arith, need_out x s))

  -- nor is M
  pub most_less : most n w ds ≤ most n w cs
  unfolding most
  most_less = top_le (need w ds) (need w cs) n need_less

  -- HOW MANY ROWS SHORTER THE SHEET IS: a multiple of w
  unfoldable pub layers_more : ℕ
  layers_more = most n w cs - most n w ds

  -- that many rows
  unfoldable pub more : ℕ
  more = layers_more * w

  -- the rows of the whole sheet
  pub rows_more : most n w cs * w ≡ most n w ds * w + more
  unfolding more layers_more
  rows_more =
      let e : most n w cs ≡ most n w ds + (most n w cs - most n w ds) = (let l = most_less in omega arith) in
      ap (λ x. x * w) e ∙ add-mul (most n w ds) (most n w cs - most n w ds) w

  -- the rows in which a link is red: later by as many on the side, all elsewhere
  pub red_to_in : (x : ℕ) → 1 ≤ x → x ≤ n → side x ≡ true → red_to n w cs x ≡ red_to n w ds x + more
  unfolding red_to more layers_more most
  red_to_in x a b s =
      let c : need w ds x ≤ most n w ds = le_top (need w ds) n x a b in
      let e : most n w cs - need w cs x ≡ (most n w ds - need w ds x) + (most n w cs - most n w ds) = (let l = most_less in let q = need_in x s in omega arith) in
      ap (λ x. x * w) e ∙ add-mul (most n w ds - need w ds x) (most n w cs - most n w ds) w

  -- off the side a link is red in every row
  pub red_to_out : (x : ℕ) → side x ≡ false → red_to n w ds x ≡ most n w ds * w
  unfolding red_to
  red_to_out x s = ap (λ c. c * w) (let q = need_out x s in let e : most n w ds - need w ds x ≡ most n w ds = omega arith in e)

  -- and so is the idle link in the whole sheet
  pub red_to_idle : red_to n w cs z ≡ most n w cs * w
  unfolding red_to
  red_to_idle = ap (λ c. c * w) (let q = need_idle in let e : most n w cs - need w cs z ≡ most n w cs = omega arith in e)
