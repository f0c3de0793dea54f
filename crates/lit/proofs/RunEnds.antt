-- The runs of links 1 to x as x grows: nothing, a new run at the end, or a longer last run. Assumes nothing.
use Prim.Native.Nat.{ℕ, zero, suc, ◌+◌, ◌-◌, ◌≤◌, ◌<◌}
use mathlib.Core.Bool.{Bool, cond, true, false}
use mathlib.Core.Path.{◌≡◌, refl, sym, ap, ◌∙◌}
use mathlib.Core.List.{List, [], ◌∷◌, ◌++◌}
use native.Mathlib.Omega.{arith}
use lib.ListN.{length}
use lib.Dec.{eqb}
use borrow.Author.Tests.{eq-eqb, ne_eqb}
use Rattle.basics.specs.Tools.{sum}
use Rattle.basics.proofs.Bools.{by_eq, on}
use Rattle.method.specs.Fibres.{join, runs}
use Rattle.method.specs.Line.{Fibre, fibres_over, over, tally, total}
use Rattle.method.proofs.FibreLists.{all_imp}
use Rattle.method.proofs.Lengths.{OnLine, sum_total}
use Rattle.method.proofs.Runs.{Maximal, runs_in, runs_maximal}
use Rattle.basics.proofs.Sums.{sum_eq}

-- the last fibre of a list ends at link e instead
unfoldable pub longer : ℕ → List Fibre → List Fibre
longer e [] = []
longer e (f ∷ []) = record { first = f.first; last = e; layer = f.layer } ∷ []
longer e (f ∷ g ∷ fs) = f ∷ longer e (g ∷ fs)

-- its length is as it was
pub longer_length : (e : ℕ) (fs : List Fibre) → length (longer e fs) ≡ length fs
unfolding longer
longer_length e [] = refl
longer_length e (f ∷ []) = refl
longer_length e (f ∷ g ∷ fs) = ap suc (longer_length e (g ∷ fs))

-- twice longer
longer_twice : (d e : ℕ) (fs : List Fibre) → longer e (longer d fs) ≡ longer e fs
unfolding longer
longer_twice d e [] = refl
longer_twice d e (f ∷ []) = refl
longer_twice d e (f ∷ g ∷ []) = refl
longer_twice d e (f ∷ g ∷ h ∷ fs) = ap (λ (l : List Fibre). f ∷ l) (longer_twice d e (g ∷ h ∷ fs))

-- behind other fibres
longer_after : (e : ℕ) (fs : List Fibre) (g : Fibre) (gs : List Fibre) → longer e (fs ++ (g ∷ gs)) ≡ fs ++ longer e (g ∷ gs)
unfolding longer
longer_after e [] g gs = refl
longer_after e (f ∷ []) g gs = refl
longer_after e (f ∷ h ∷ fs) g gs = ap (λ (l : List Fibre). f ∷ l) (longer_after e (h ∷ fs) g gs)

-- behind other fibres, where there is one
pub longer_behind : (e : ℕ) (fs gs : List Fibre) → 1 ≤ length gs → longer e (fs ++ gs) ≡ fs ++ longer e gs
longer_behind e fs [] l = absurd (omega arith)
longer_behind e fs (g ∷ gs) l = longer_after e fs g gs

-- a link of its own joins in front of the others as it does where one more stands behind
join_more : (h i : ℕ) (fs : List Fibre) (g : Fibre) → suc i < g.first → join h i (fs ++ (g ∷ [])) ≡ join h i fs ++ (g ∷ [])
unfolding join
join_more h i [] g l = rw (ne_eqb g.first (suc i) (omega arith))
join_more h i (f ∷ fs) g l = on (eqb f.first (suc i)) (λ t. rw t refl) (λ t. rw t refl)

-- or where the last one is longer
join_longer : (h i e : ℕ) (fs : List Fibre) → 1 ≤ length fs → join h i (longer e fs) ≡ longer e (join h i fs)
unfolding join longer
join_longer h i e [] l = absurd (omega arith)
join_longer h i e (f ∷ []) l = on (eqb f.first (suc i)) (λ t. rw t refl) (λ t. rw t refl)
join_longer h i e (f ∷ g ∷ fs) l = on (eqb f.first (suc i)) (λ t. rw t refl) (λ t. rw t refl)

-- where one passes, there is one
in_some : (t : Fibre → Bool) (fs : List Fibre) → tally t fs ≡ 1 → 1 ≤ length fs
unfolding tally
in_some t [] q = absurd (omega arith)
in_some t (f ∷ fs) q = omega arith

module _ (h : ℕ) (p : ℕ → Bool) where
  -- LINKS FROM i ON. One more that does not pass
  dark_more : (i k : ℕ) → p (i + k) ≡ false → runs h p i (suc k) ≡ runs h p i k
  unfolding runs
  dark_more i zero d = let z : i + 0 ≡ i = omega arith in let d' : p i ≡ false = ap p (sym z) ∙ d in rw d'
  dark_more i (suc k) d =
      let z : suc i + k ≡ i + suc k = omega arith in
      let ih = dark_more (suc i) k (ap p z ∙ d) in
      ap (λ (l : List Fibre). cond (p i) (join h i l) l) ih

  -- one more that passes, after one that does not
  open_more : (i k : ℕ) → p (i + k) ≡ false → p (suc (i + k)) ≡ true → runs h p i (suc (suc k)) ≡ runs h p i (suc k) ++ (record { first = suc (i + k); last = suc (i + k); layer = h } ∷ [])
  unfolding runs
  open_more i zero d t =
      let z : i + 0 ≡ i = omega arith in
      let d' : p i ≡ false = ap p (sym z) ∙ d in
      let t' : p (suc i) ≡ true = ap (λ (x : ℕ). p (suc x)) (sym z) ∙ t in
      rw (z, d', t') (unfold join in refl)
  open_more i (suc k) d t =
      let z : suc i + k ≡ i + suc k = omega arith in
      let ih = open_more (suc i) k (ap p z ∙ d) (ap (λ (x : ℕ). p (suc x)) z ∙ t) in
      let g : Fibre = record { first = suc (suc i + k); last = suc (suc i + k); layer = h } in
      let e : g ≡ record { first = suc (i + suc k); last = suc (i + suc k); layer = h } = (λ j. record { first = suc (z j); last = suc (z j); layer = h }) in
      ap (λ (l : List Fibre). cond (p i) (join h i l) l) ih
      ∙ on (p i) (λ u. rw u (join_more h i (cond (p (suc i)) (join h (suc i) (runs h p (suc (suc i)) k)) (runs h p (suc (suc i)) k)) g (omega arith))) (λ u. rw u refl)
      ∙ ap (λ (f : Fibre). runs h p i (suc (suc k)) ++ (f ∷ [])) e

  -- a link that passes is in a run
  pub full : (i k x : ℕ) → i ≤ x → x < i + k → p x ≡ true → 1 ≤ length (runs h p i k)
  full i k x a b c = in_some (λ f. over f x) (runs h p i k) (runs_in h p i k x a b ∙ rw c)

  -- one more that passes, after one that does
  grow_more : (i k : ℕ) → p (i + k) ≡ true → p (suc (i + k)) ≡ true → runs h p i (suc (suc k)) ≡ longer (suc (i + k)) (runs h p i (suc k))
  unfolding runs
  grow_more i zero d t =
      let z : i + 0 ≡ i = omega arith in
      let d' : p i ≡ true = ap p (sym z) ∙ d in
      let t' : p (suc i) ≡ true = ap (λ (x : ℕ). p (suc x)) (sym z) ∙ t in
      rw (z, d', t') (unfold join longer in rw (eq-eqb (suc i) (suc i) refl) refl)
  grow_more i (suc k) d t =
      let z : suc i + k ≡ i + suc k = omega arith in
      let ih = grow_more (suc i) k (ap p z ∙ d) (ap (λ (x : ℕ). p (suc x)) z ∙ t) in
      let R : List Fibre = runs h p (suc i) (suc k) in
      let some : 1 ≤ length R = full (suc i) (suc k) (suc i + k) (omega arith) (omega arith) (ap p z ∙ d) in
      ap (λ (l : List Fibre). cond (p i) (join h i l) l) ih
      ∙ on (p i) (λ u. rw u (join_longer h i (suc (suc i + k)) R some)) (λ u. rw u refl)
      ∙ ap (λ (x : ℕ). longer (suc x) (runs h p i (suc (suc k)))) z

  -- LINKS 1 TO x. One more that does not pass
  up_dark : (x : ℕ) → p (suc x) ≡ false → runs h p 1 (suc x) ≡ runs h p 1 x
  up_dark x d = let z : suc x ≡ 1 + x = omega arith in dark_more 1 x (ap p (sym z) ∙ d)

  -- one more that passes, after one that does not
  up_open : (x : ℕ) → p x ≡ false → p (suc x) ≡ true → runs h p 1 (suc x) ≡ runs h p 1 x ++ (record { first = suc x; last = suc x; layer = h } ∷ [])
  up_open zero d t = unfold runs in rw t (unfold join in refl)
  up_open (suc k) d t =
      let z : 1 + k ≡ suc k = omega arith in
      open_more 1 k (ap p z ∙ d) (ap (λ (x : ℕ). p (suc x)) z ∙ t)
      ∙ (λ i. runs h p 1 (suc k) ++ (record { first = suc (z i); last = suc (z i); layer = h } ∷ []))

  -- one more that passes, after one that does
  up_grow : (x : ℕ) → 1 ≤ x → p x ≡ true → p (suc x) ≡ true → runs h p 1 (suc x) ≡ longer (suc x) (runs h p 1 x)
  up_grow zero l d t = absurd (omega arith)
  up_grow (suc k) l d t =
      let z : 1 + k ≡ suc k = omega arith in
      grow_more 1 k (ap p z ∙ d) (ap (λ (x : ℕ). p (suc x)) z ∙ t) ∙ ap (λ (x : ℕ). longer (suc x) (runs h p 1 (suc k))) z

  -- some that do not pass
  pub up_darks : (a b : ℕ) → a ≤ b → ((y : ℕ) → a < y → y ≤ b → p y ≡ false) → runs h p 1 b ≡ runs h p 1 a
  up_darks a zero l d = let z : 0 ≡ a = omega arith in ap (runs h p 1) z
  up_darks a (suc b) l d =
      by_eq a (suc b) (λ z. ap (runs h p 1) (sym z))
      (λ z. up_dark b (d (suc b) (omega arith) (omega arith)) ∙ up_darks a b (omega arith) (λ y u v. d y u (omega arith)))

  -- some that pass, after one that does
  pub up_grows : (a b : ℕ) → 1 ≤ a → a < b → ((y : ℕ) → a ≤ y → y ≤ b → p y ≡ true) → runs h p 1 b ≡ longer b (runs h p 1 a)
  up_grows a zero l k t = absurd (omega arith)
  up_grows a (suc b) l k t =
      by_eq a b
      (λ z. up_grow b (omega arith) (t b (omega arith) (omega arith)) (t (suc b) (omega arith) (omega arith)) ∙ ap (λ (x : ℕ). longer (suc b) (runs h p 1 x)) (sym z))
      (λ z.
      up_grow b (omega arith) (t b (omega arith) (omega arith)) (t (suc b) (omega arith) (omega arith))
      ∙ ap (longer (suc b)) (up_grows a b l (omega arith) (λ y u v. t y u (omega arith)))
      ∙ longer_twice b (suc b) (runs h p 1 a))

  -- some that do not pass, and then some that do
  pub up_new : (a x b : ℕ) → a < x → x ≤ b → p (x - 1) ≡ false → ((y : ℕ) → a < y → y < x → p y ≡ false) → ((y : ℕ) → x ≤ y → y ≤ b → p y ≡ true)
      → runs h p 1 b ≡ runs h p 1 a ++ (record { first = x; last = b; layer = h } ∷ [])
  up_new a zero b l k e d t = absurd (omega arith)
  up_new a (suc x) b l k e d t =
      let s : runs h p 1 (suc x) ≡ runs h p 1 a ++ (record { first = suc x; last = suc x; layer = h } ∷ []) =
      up_open x (let z : suc x - 1 ≡ x = omega arith in ap p (sym z) ∙ e) (t (suc x) (omega arith) k)
      ∙ ap (λ (l : List Fibre). l ++ (record { first = suc x; last = suc x; layer = h } ∷ [])) (up_darks a x (omega arith) (λ y u v. d y u (omega arith))) in
      by_eq (suc x) b
      (λ z. ap (runs h p 1) (sym z) ∙ s ∙ (λ i. runs h p 1 a ++ (record { first = suc x; last = z i; layer = h } ∷ [])))
      (λ z.
      up_grows (suc x) b (omega arith) (omega arith) t ∙ ap (longer b) s
      ∙ longer_after b (runs h p 1 a) (record { first = suc x; last = suc x; layer = h }) [] ∙ unfold longer in refl)

  -- LENGTHS. The runs are as long as links pass
  up_total : (x : ℕ) → total (runs h p 1 x) ≡ sum (λ i. cond (p i) 1 0) x
  unfolding fibres_over
  up_total x =
      sym (sum_total (runs h p 1 x) x (all_imp {P = Maximal h p 1 x} {Q = OnLine x} (λ f m. (m.from, m.some, omega (arith, m.to))) (runs h p 1 x) (runs_maximal h p 1 x)))
      ∙ sum_eq (fibres_over (runs h p 1 x)) (λ i. cond (p i) 1 0) x (λ i a b. runs_in h p 1 x i a (omega arith))

  -- some that do not pass add nothing
  sum_darks : (a b : ℕ) → a ≤ b → ((y : ℕ) → a < y → y ≤ b → p y ≡ false) → sum (λ i. cond (p i) 1 0) b ≡ sum (λ i. cond (p i) 1 0) a
  unfolding sum
  sum_darks a zero l d = let z : 0 ≡ a = omega arith in ap (sum (λ i. cond (p i) 1 0)) z
  sum_darks a (suc b) l d =
      by_eq a (suc b) (λ z. ap (sum (λ i. cond (p i) 1 0)) (sym z))
      (λ z. let e = d (suc b) (omega arith) (omega arith) in rw e (omega (arith, sum_darks a b (omega arith) (λ y u v. d y u (omega arith)))))

  -- some that pass add their number
  sum_lits : (a b : ℕ) → a ≤ b → ((y : ℕ) → a < y → y ≤ b → p y ≡ true) → sum (λ i. cond (p i) 1 0) b ≡ sum (λ i. cond (p i) 1 0) a + (b - a)
  unfolding sum
  sum_lits a zero l d = let z : a ≡ 0 = omega arith in omega (arith, ap (sum (λ i. cond (p i) 1 0)) z)
  sum_lits a (suc b) l d =
      by_eq a (suc b) (λ z. rw z (omega arith))
      (λ z. let e = d (suc b) (omega arith) (omega arith) in rw e (omega (arith, sum_lits a b (omega arith) (λ y u v. d y u (omega arith)))))

  -- at most all
  sum_few : (x : ℕ) → sum (λ i. cond (p i) 1 0) x ≤ x
  unfolding sum
  sum_few zero = omega arith
  sum_few (suc x) = on (p (suc x)) (λ t. rw t (omega (arith, sum_few x))) (λ t. rw t (omega (arith, sum_few x)))

  -- so the runs of links 1 to x are at most x long
  pub total_few : (x : ℕ) → total (runs h p 1 x) ≤ x
  total_few x = omega (arith, up_total x, sum_few x)

  -- a new run adds its length
  pub total_new : (a x b : ℕ) → a < x → x ≤ b → ((y : ℕ) → a < y → y < x → p y ≡ false) → ((y : ℕ) → x ≤ y → y ≤ b → p y ≡ true) → total (runs h p 1 b) ≡ total (runs h p 1 a) + (b + 1 - x)
  total_new a x b l k d t =
      omega (arith, up_total b, up_total a, sum_darks a (x - 1) (omega arith) (λ y u v. d y u (omega arith)), sum_lits (x - 1) b (omega arith) (λ y u v. t y (omega arith) v))

  -- and a longer one what it is longer
  pub total_on : (a b : ℕ) → a ≤ b → ((y : ℕ) → a < y → y ≤ b → p y ≡ true) → total (runs h p 1 b) ≡ total (runs h p 1 a) + (b - a)
  total_on a b l t = omega (arith, up_total b, up_total a, sum_lits a b l t)

-- behind other fibres
pub total_append : (fs gs : List Fibre) → total (fs ++ gs) ≡ total fs + total gs
unfolding total
total_append [] gs = omega arith
total_append (f ∷ fs) gs = omega (arith, total_append fs gs)
