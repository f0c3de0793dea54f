-- Counting. Assumes nothing.
use Prim.Native.Nat.{◌*◌, ◌+◌, ◌-◌, ◌/◌, ◌<◌, ◌≤◌, max, suc, zero, ℕ}
use borrow.Author.Tests.{eq-eqb, ne_eqb}
use lib.Dec.{eqb}
use mathlib.Core.Bool.{Bool, ◌&&◌, cond, false, not, true}
use mathlib.Core.Logic.{◌≢◌}
use mathlib.Core.Path.{◌∙◌, ◌≡◌, ap, ap₂, refl}
use native.Mathlib.Nat.{add-suc, add-zero, div-eq_of_lt, mul-add-div_right, suc-mul, zero-mul}
use native.Mathlib.Numerals.{add-one}
use native.Mathlib.Omega.{arith}
use Rattle.basics.specs.Tools.{count, top}
use Rattle.basics.proofs.Bools.{and_l, and_of, by_eq, by_le, on}

-- if all that pass p pass q, no more pass p than q
pub count_le : (p q : ℕ → Bool) (m : ℕ) → ((j : ℕ) → j < m → p j ≡ true → q j ≡ true) → count p m ≤ count q m
unfolding count
count_le p q zero h = omega arith
count_le p q (suc m) h =
    let ih : count p m ≤ count q m = count_le p q m (λ j l e. h j (omega arith) e) in
    on (p m) (λ e. rw (e, h m (omega arith) e) (omega arith)) (λ e. rw e (omega arith))

-- and fewer, if one passes q and not p
pub count_lt : (p q : ℕ → Bool) (m : ℕ) → ((j : ℕ) → j < m → p j ≡ true → q j ≡ true) → (a : ℕ) → a < m → p a ≡ false → q a ≡ true → count p m < count q m
unfolding count
count_lt p q zero h a l e f = absurd (omega arith)
count_lt p q (suc m) h a l e f =
    by_eq a m
    (λ v.
    let e' : p m ≡ false = rw v at e in
    let f' : q m ≡ true = rw v at f in
    rw (e', f') (omega (arith, count_le p q m (λ j i u. h j (omega arith) u))))
    (λ v.
    let ih : count p m < count q m = count_lt p q m (λ j i u. h j (omega arith) u) a (omega arith) e f in
    on (p m) (λ u. rw (u, h m (omega arith) u) (omega arith)) (λ u. rw u (omega arith)))

-- none passes
pub count_none : (p : ℕ → Bool) (m : ℕ) → ((j : ℕ) → j < m → p j ≡ false) → count p m ≡ 0
unfolding count
count_none p zero h = refl
count_none p (suc m) h = rw (h m (omega arith), count_none p m (λ j l. h j (omega arith)))

-- one passes
pub count_some : (p : ℕ → Bool) (m a : ℕ) → a < m → p a ≡ true → 1 ≤ count p m
unfolding count
count_some p zero a l e = absurd (omega arith)
count_some p (suc m) a l e =
    by_eq a m (λ v. let e' : p m ≡ true = rw v at e in rw e' (omega arith)) (λ v. omega (arith, count_some p m a (omega arith) e))

-- place m is counted too: h is the count before it, t whether it passes, x its share
pub count_turn : (p : ℕ → Bool) (m h x : ℕ) (t : Bool) → h ≡ count p m → x ≡ cond t 1 0 → t ≡ p m → h + x ≡ count p (m + 1)
unfolding count
count_turn p m h x t a b e = rw (add-one m, ← e) (omega arith)

-- at most all pass
pub count_below : (p : ℕ → Bool) (m : ℕ) → count p m ≤ m
unfolding count
count_below p zero = omega arith
count_below p (suc m) = on (p m) (λ e. rw e (omega (arith, count_below p m))) (λ e. rw e (omega (arith, count_below p m)))

-- each is at most the largest
pub le_top : (f : ℕ → ℕ) (n i : ℕ) → 1 ≤ i → i ≤ n → f i ≤ top f n
unfolding top
le_top f zero i l h = absurd (omega arith)
le_top f (suc n) i l h = by_eq i (suc n) (λ e. omega (arith, ap f e)) (λ e. omega (arith, le_top f n i l (omega arith)))

-- the pigeonhole: if g takes the j that pass p to different x that pass q, then no more pass p than q
pub pigeonhole : (p : ℕ → Bool) (m : ℕ) (q : ℕ → Bool) (N : ℕ) (g : ℕ → ℕ)
    → ((j : ℕ) → j < m → p j ≡ true → (g j < N) × (q (g j) ≡ true))
    → ((i j : ℕ) → i < m → j < m → p i ≡ true → p j ≡ true → g i ≡ g j → i ≡ j)
    → count p m ≤ count q N
unfolding count
pigeonhole p zero q N g to inj = omega arith
pigeonhole p (suc m) q N g to inj =
    on (p m)
    (λ e.
    let a = to m (omega arith) e in
    let q' : ℕ → Bool = λ x. q x && not (eqb x (g m)) in
    let ih : count p m ≤ count q' N =
    pigeonhole p m q' N g
    (λ j l f.
    let b = to j (omega arith) f in
    (b.0, and_of _ _ b.1 (rw (ne_eqb (g j) (g m) (λ t. let z : j ≡ m = inj j m (omega arith) (omega arith) f e t in omega arith)))))
    (λ i j a b. inj i j (omega arith) (omega arith)) in
    let less : count q' N < count q N =
    count_lt q' q N (λ j l f. and_l _ _ f) (g m) a.0 (rw (eq-eqb (g m) (g m) refl) (on (q (g m)) (λ t. rw t) (λ t. rw t))) a.1 in
    rw e (omega arith))
    (λ e. rw e (omega (arith, pigeonhole p m q N g (λ j l. to j (omega arith)) (λ i j a b. inj i j (omega arith) (omega arith)))))

-- the first a, and then b more
pub count_split : (p : ℕ → Bool) (a b : ℕ) → count p (a + b) ≡ count p a + count (λ x. p (a + x)) b
unfolding count
count_split p a zero = rw (add-zero a) (omega arith)
count_split p a (suc b) = rw (add-suc a b) (omega (arith, count_split p a b))

-- all pass, or none does
pub count_all : (p : ℕ → Bool) (r : Bool) (b : ℕ) → ((x : ℕ) → x < b → p x ≡ r) → count p b ≡ cond r b 0
unfolding count
count_all p r zero h = on r (λ e. rw e) (λ e. rw e)
count_all p r (suc b) h =
    rw (h b (omega arith), count_all p r b (λ x l. h x (omega arith))) (on r (λ e. rw e (omega arith)) (λ e. rw e (omega arith)))

-- place x of block a is in block a
pub block : (a w x : ℕ) → x < w → (a * w + x) / w ≡ a
block a w x h = mul-add-div_right {m = w} (omega arith) a x ∙ (let z = div-eq_of_lt h in omega arith)

-- counting by blocks of w: a block passes or fails as a whole
pub blocks : (r : ℕ → Bool) (w F : ℕ) → count (λ x. r (x / w)) (F * w) ≡ count r F * w
unfolding count
blocks r w zero = rw (zero-mul w)
blocks r w (suc F) =
    rw (suc-mul F w, count_split (λ x. r (x / w)) (F * w) w, count_all (λ x. r ((F * w + x) / w)) (r F) w (λ x h. ap r (block F w x h)), blocks r w F)
    (on (r F) (λ e. rw e (omega arith)) (λ e. rw e (omega arith)))

-- no fewer pass below a later place
count_mono : (p : ℕ → Bool) (a b : ℕ) → a ≤ b → count p a ≤ count p b
count_mono p a b h =
    let e : b ≡ a + (b - a) = omega arith in
    let s : count p b ≡ count p a + count (λ x. p (a + x)) (b - a) = ap (count p) e ∙ count_split p a (b - a) in
    omega arith

-- and more do, if place a passes
pub count_rank : (p : ℕ → Bool) (a b : ℕ) → a < b → p a ≡ true → count p a < count p b
unfolding count
count_rank p a b h t =
    let s : count p (suc a) ≡ 1 + count p a = rw t in
    omega (arith, count_mono p (suc a) b (omega arith))

-- one that passes has q before it
pub count_nth : (p : ℕ → Bool) (m q : ℕ) → q < count p m → (a : ℕ) × (a < m) × (p a ≡ true) × (count p a ≡ q)
unfolding count
count_nth p zero q h = absurd (omega arith)
count_nth p (suc m) q h =
    by_le (suc q) (count p m)
    (λ l. let r = count_nth p m q (omega arith) in let r₁ = r.1 in (r.0, omega arith, r.2, r.3))
    (λ l. on (p m)
    (λ e. let h' : q < 1 + count p m = rw e at h in (m, omega arith, e, omega arith))
    (λ e. let h' : q < 0 + count p m = rw e at h in absurd (omega arith)))

-- the first, and then the others
pub count_shift : (p : ℕ → Bool) (m : ℕ) → count p (suc m) ≡ cond (p 0) 1 0 + count (λ x. p (suc x)) m
unfolding count
count_shift p zero = refl
count_shift p (suc m) = omega (arith, count_shift p m)

-- what passes r passes p or q
pub count_or : (r p q : ℕ → Bool) (m : ℕ) → ((j : ℕ) → j < m → r j ≡ true → q j ≡ false → p j ≡ true) → count r m ≤ count p m + count q m
unfolding count
count_or r p q zero h = omega arith
count_or r p q (suc m) h =
    let ih = count_or r p q m (λ j l. h j (omega arith)) in
    on (r m)
    (λ e. on (q m) (λ f. rw (e, f) (omega arith)) (λ f. rw (e, f, h m (omega arith) e f) (omega arith)))
    (λ e. rw e (omega arith))

-- what passes p or q passes r, and nothing passes both
pub count_apart : (p q r : ℕ → Bool) (m : ℕ) → ((j : ℕ) → j < m → p j ≡ true → r j ≡ true) → ((j : ℕ) → j < m → q j ≡ true → (r j ≡ true) × (p j ≡ false)) → count p m + count q m ≤ count r m
unfolding count
count_apart p q r zero a b = omega arith
count_apart p q r (suc m) a b =
    let ih = count_apart p q r m (λ j l. a j (omega arith)) (λ j l. b j (omega arith)) in
    on (q m)
    (λ e. let z = b m (omega arith) e in rw (e, z.0, z.1) (omega arith))
    (λ e. on (p m) (λ f. rw (e, f, a m (omega arith) f) (omega arith)) (λ f. rw (e, f) (omega arith)))

-- if of each j as many of p and q hold as of r and s, as many pass p and q as pass r and s
pub count_balance : (p q r s : ℕ → Bool) (m : ℕ) → ((j : ℕ) → j < m → cond (p j) 1 0 + cond (q j) 1 0 ≡ cond (r j) 1 0 + cond (s j) 1 0) → count p m + count q m ≡ count r m + count s m
unfolding count
count_balance p q r s zero h = refl
count_balance p q r s (suc m) h = omega (arith, h m (omega arith), count_balance p q r s m (λ j l. h j (omega arith)))

-- at most one passes, if any two that pass are the same
pub count_one : (p : ℕ → Bool) (m : ℕ) → ((a b : ℕ) → a < m → b < m → p a ≡ true → p b ≡ true → a ≡ b) → count p m ≤ 1
unfolding count
count_one p zero h = omega arith
count_one p (suc m) h =
    on (p m)
    (λ e.
    let no_other : count p m ≡ 0 = count_none p m (λ j l. on (p j) (λ t. let z : j ≡ m = h j m (omega arith) (omega arith) t e in absurd (omega arith)) (λ t. t)) in
    rw e (omega arith))
    (λ e. rw e (omega (arith, count_one p m (λ a b la lb. h a b (omega arith) (omega arith)))))

-- at most two pass, if of any three that pass two are the same
pub count_two : (p : ℕ → Bool) (m : ℕ) → ((a b c : ℕ) → a ≢ b → b ≢ c → a ≢ c → p a ≡ true → p b ≡ true → p c ≡ true → ⊥) → count p m ≤ 2
unfolding count
count_two p zero h = omega arith
count_two p (suc m) h =
    on (p m)
    (λ e.
    let one : count p m ≤ 1 = count_one p m (λ a b la lb u v. by_eq a b (λ t. t) (λ t. absurd (h a b m t (omega arith) (omega arith) u v e))) in
    rw e (omega arith))
    (λ e. rw e (omega (arith, count_two p m h)))

-- what bounds w times each bounds w times the largest
pub top_times : (f : ℕ → ℕ) (w B n : ℕ) → ((i : ℕ) → f i * w ≤ B) → top f n * w ≤ B
unfolding top
top_times f w B zero h = omega arith
top_times f w B (suc n) h =
    by_le (f (suc n)) (top f n)
    (λ l. let e : max (f (suc n)) (top f n) ≡ top f n = omega arith in rw e (top_times f w B n h))
    (λ l. let e : max (f (suc n)) (top f n) ≡ f (suc n) = omega arith in rw e (h (suc n)))

-- two functions that agree from 1 to n have the same largest value
pub top_same : (f g : ℕ → ℕ) (n : ℕ) → ((x : ℕ) → 1 ≤ x → x ≤ n → f x ≡ g x) → top f n ≡ top g n
unfolding top
top_same f g zero h = refl
top_same f g (suc n) h = ap₂ max (h (suc n) (omega arith) (omega arith)) (top_same f g n (λ x a b. h x a (omega arith)))

-- the largest of smaller numbers is no larger
pub top_le : (f g : ℕ → ℕ) (n : ℕ) → ((i : ℕ) → f i ≤ g i) → top f n ≤ top g n
unfolding top
top_le f g zero h = omega arith
top_le f g (suc n) h = omega (arith, h (suc n), top_le f g n h)

-- the largest of f 1 .. f i, from the largest before i
pub top_more : (f : ℕ → ℕ) (i : ℕ) → 1 ≤ i → top f (i + 1 - 1) ≡ max (f i) (top f (i - 1))
unfolding top
top_more f zero h = absurd (omega arith)
top_more f (suc i) h =
    let e : suc i + 1 - 1 ≡ suc i = omega arith in
    let g : suc i - 1 ≡ i = omega arith in
    rw (e, g)
