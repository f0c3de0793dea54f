-- Laws of goals, where things go by rising digit: below m, different, onto, and in order. Assumes nothing.
use Prim.Native.Nat.{ℕ, ◌+◌, ◌≤◌, ◌<◌}
use mathlib.Core.Path.{◌≡◌, refl, ap}
use mathlib.Core.Bool.{Bool, true, false, cond, not}
use mathlib.Core.List.{List}
use native.Mathlib.Omega.{arith}
use borrow.Author.Tests.{ltb-true, leb-true, eqb-true, lt-ltb, le-ltb, le-leb, eq-eqb}
use lib.Dec.{eqb, leb, ltb}
use lib.ListN.{get_or}
use Rattle.basics.specs.Tools.{any, count}
use Rattle.basics.proofs.Bools.{on, by_eq, by_le}
use Rattle.basics.proofs.Counts.{count_le, count_lt, count_below, count_rank, count_apart, count_balance, pigeonhole}
use Rattle.basics.proofs.Searches.{any_true, any_false}
use Rattle.order.specs.Order.{AllThere}
use Rattle.order.specs.inner.Sorting.{goal}

-- g takes the numbers below m to different ones below m, so each of those is taken
pub onto : (m : ℕ) (g : ℕ → ℕ) → ((p : ℕ) → p < m → g p < m) → ((p q : ℕ) → p < m → q < m → g p ≡ g q → p ≡ q)
    → (a : ℕ) → a < m → (p : ℕ) × (p < m) × (g p ≡ a)
onto m g low once a h =
    let hit : ℕ → Bool = λ p. eqb (g p) a in
    on (any hit m)
    (λ e. let r = any_true hit m e in (r.0, r.1, eqb-true (g r.0) a r.2))
    (λ e.
    let all : ℕ → Bool = λ p. true in
    let other : ℕ → Bool = λ q. not (eqb q a) in
    let few = pigeonhole all m other m g (λ p l t. (low p l, ap not (any_false hit m e p l))) (λ p q l k t u. once p q l k) in
    let more = count_lt other all m (λ p l t. refl) a h (ap not (eq-eqb a a refl)) refl in
    absurd (omega arith))

-- as many pass in a list that has each place once as among the places
pub count_moved : (m : ℕ) (P : List ℕ) (f : ℕ → Bool) → AllThere m P → count (λ p. f (get_or P p 0)) m ≡ count f m
count_moved m P f t =
    let all : ℕ → Bool = λ p. true in
    let none : ℕ → Bool = λ p. false in
    let a = at_most f in
    let b = at_most (λ j. not (f j)) in
    let x = count_balance (λ p. f (get_or P p 0)) (λ p. not (f (get_or P p 0))) all none m (λ p h. either (f (get_or P p 0))) in
    let y = count_balance f (λ j. not (f j)) all none m (λ j h. either (f j)) in
    omega arith
  where
    either : (b : Bool) → cond b 1 0 + cond (not b) 1 0 ≡ 1 + 0
    either true = refl
    either false = refl

    at_most : (r : ℕ → Bool) → count (λ p. r (get_or P p 0)) m ≤ count r m
    at_most r = pigeonhole (λ p. r (get_or P p 0)) m r m (λ p. get_or P p 0) (λ p h e. (t.places p h, e)) (λ p q h k e f. t.once p q h k)

-- behind a goal stand those of the same digit and of lower ones
goal_under : (x : ℕ → ℕ) (m p : ℕ) → p < m → goal x m (x p) p < count (λ q. leb (x q) (x p)) m
unfolding goal
goal_under x m p h =
    let r = count_rank (λ q. eqb (x q) (x p)) p m h (eq-eqb (x p) (x p) refl) in
    let a = count_apart (λ q. ltb (x q) (x p)) (λ q. eqb (x q) (x p)) (λ q. leb (x q) (x p)) m
    (λ q l e. le-leb (x q) (x p) (omega (arith, ltb-true (x q) (x p) e)))
    (λ q l e. (le-leb (x q) (x p) (omega (arith, eqb-true (x q) (x p) e)), le-ltb (x q) (x p) (omega (arith, eqb-true (x q) (x p) e)))) in
    omega arith

-- a goal is one of m
pub goal_low : (x : ℕ → ℕ) (m p : ℕ) → p < m → goal x m (x p) p < m
goal_low x m p h = omega (arith, goal_under x m p h, count_below (λ q. leb (x q) (x p)) m)

-- a lower digit goes before
goal_digit : (x : ℕ → ℕ) (m p q : ℕ) → p < m → x p < x q → goal x m (x p) p < goal x m (x q) q
unfolding goal
goal_digit x m p q h l =
    let c = count_le (λ d. leb (x d) (x p)) (λ d. ltb (x d) (x q)) m (λ d i e. lt-ltb (x d) (x q) (omega (arith, leb-true (x d) (x p) e))) in
    omega (arith, goal_under x m p h)

-- of one digit, what came before goes before
goal_place : (x : ℕ → ℕ) (m p q : ℕ) → p < q → x p ≡ x q → goal x m (x p) p < goal x m (x q) q
unfolding goal
goal_place x m p q h e =
    rw e (omega (arith, count_rank (λ d. eqb (x d) (x q)) p q h (eq-eqb (x p) (x q) e)))

-- goals in order come from lower digits, or from the same and places in order
pub goal_order : {C : Type 0} (x : ℕ → ℕ) (m p q : ℕ) → p < m → q < m → goal x m (x p) p ≤ goal x m (x q) q → (x p < x q → C) → (x p ≡ x q → p ≤ q → C) → C
goal_order x m p q h k l f g =
    by_eq (x p) (x q)
    (λ e. by_le p q (g e) (λ i. absurd (omega (arith, goal_place x m q p i (omega arith)))))
    (λ n. by_le (x p) (x q) (λ i. f (omega arith)) (λ i. absurd (omega (arith, goal_digit x m q p k i))))

-- different places have different goals
pub goal_once : (x : ℕ → ℕ) (m p q : ℕ) → p < m → q < m → goal x m (x p) p ≡ goal x m (x q) q → p ≡ q
goal_once x m p q h k e =
    goal_order x m p q h k (omega arith)
    (λ l. absurd (omega (arith, goal_digit x m p q h l)))
    (λ f l. by_eq p q (λ z. z) (λ n. absurd (omega (arith, goal_place x m p q (omega arith) f))))
