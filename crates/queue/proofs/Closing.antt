-- Closing up: what holds in the loop, and where each place comes from. Assumes nothing.
use Prim.Native.Nat.{ℕ, ◌+◌, ◌*◌, ◌≤◌, ◌<◌}
use mathlib.Core.Bool.{true, false}
use mathlib.Core.Path.{◌≡◌, refl, ap, ◌∙◌, sym, subst}
use mathlib.Core.Logic.{◌≢◌}
use mathlib.Core.List.{List}
use native.Mathlib.Omega.{arith}
use native.Mathlib.Numerals.{add-one}
use lib.ListN.{length, get_or, set, length-set}
use lib.Seq.{get_or-set_same, get_or-set_other}
use borrow.Author.Tests.{eq-eqb, ne_eqb}
use Rattle.basics.specs.Tools.{count}
use Rattle.basics.proofs.Bools.{by_eq, clash}
use Rattle.basics.proofs.Counts.{count_below, count_nth, count_rank}
use Rattle.queue.specs.inner.ClosedUp.{waits_in, Alike, Closing, ClosedUp}

-- a first link that is not 0 waits
pub waiting : (L : List ℕ) (p : ℕ) → get_or L p 0 ≢ 0 → waits_in L p ≡ true
unfolding waits_in
waiting L p h = rw (ne_eqb (get_or L p 0) 0 h)

-- first link 0 does not
not_waiting : (L : List ℕ) (p : ℕ) → get_or L p 0 ≡ 0 → waits_in L p ≡ false
unfolding waits_in
not_waiting L p h = rw (eq-eqb (get_or L p 0) 0 h)

-- what waits has a first link that is not 0
waits_first : (L : List ℕ) (p : ℕ) → waits_in L p ≡ true → get_or L p 0 ≢ 0
unfolding waits_in
waits_first L p t h = clash (waits_in L p) t (rw (eq-eqb (get_or L p 0) 0 h))

-- at the start
pub closing_start : (m : ℕ) (L : List ℕ) → length L ≡ 4 * m → Closing m L L 0 0
unfolding count
closing_start m L h = record { long = h; rank = refl; moved = λ x l. absurd (omega arith); ahead = λ x a b. (refl, refl, refl) }

-- place p does not wait
pub closing_skip : (m p r : ℕ) (L C : List ℕ) → p < m → get_or C p 0 ≡ 0 → Closing m L C p r → Closing m L C (p + 1) r
unfolding count
closing_skip m p r L C h z c =
    let w : get_or L p 0 ≡ 0 = sym (c.ahead p (omega arith) h).0 ∙ z in
    let n : count (waits_in L) (p + 1) ≡ 0 + count (waits_in L) p = rw (add-one p, not_waiting L p w) in
    let k = c.rank in
    record {
      long = c.long;
      rank = omega arith;
      moved = λ x l u. by_eq x p (λ s. absurd (u (ap (λ (y : ℕ). get_or L y 0) s ∙ w))) (λ s. c.moved x (omega arith) u);
      ahead = λ x a b. c.ahead x (omega arith) b;
    }

-- three cells are set, and cell i is another
kept_three : (C : List ℕ) (x y z a b d i : ℕ) → i ≢ x → i ≢ y → i ≢ z → get_or (set (set (set C x a) y b) z d) i 0 ≡ get_or C i 0
kept_three C x y z a b d i p q r =
    get_or-set_other (set (set C x a) y b) z i d 0 r ∙ get_or-set_other (set C x a) y i b 0 q ∙ get_or-set_other C x i a 0 p

-- place p waits: its cells go to place r
pub closing_turn : (m p r a b d : ℕ) (L C C₁ C₂ C₃ : List ℕ) → p < m → a ≢ 0 → a ≡ get_or C p 0 → b ≡ get_or C (m + p) 0 → d ≡ get_or C (2 * m + p) 0
    → C₁ ≡ set C r a → C₂ ≡ set C₁ (m + r) b → C₃ ≡ set C₂ (2 * m + r) d → Closing m L C p r → Closing m L C₃ (p + 1) (r + 1)
unfolding count
closing_turn m p r a b d L C C₁ C₂ C₃ h nz ea eb ed e₁ e₂ e₃ c =
    let at = c.ahead p (omega arith) h in
    let long = c.long in
    let k = c.rank in
    let w : get_or L p 0 ≢ 0 = λ u. nz (ea ∙ at.0 ∙ u) in
    let n : count (waits_in L) (p + 1) ≡ 1 + count (waits_in L) p = rw (add-one p, waiting L p w) in
    let rp : r ≤ p = omega (arith, count_below (waits_in L) p) in
    let D : List ℕ = set (set (set C r a) (m + r) b) (2 * m + r) d in
    let e : C₃ ≡ D = e₃ ∙ ap (λ (l : List ℕ). set l (2 * m + r) d) (e₂ ∙ ap (λ (l : List ℕ). set l (m + r) b) e₁) in
    let l₁ : length (set C r a) ≡ 4 * m = length-set C r a ∙ long in
    let l₂ : length (set (set C r a) (m + r) b) ≡ 4 * m = length-set (set C r a) (m + r) b ∙ l₁ in
    let away : (x : ℕ) → x < m → x ≢ r → Alike m D x C x =
    λ x xm t. (
      kept_three C r (m + r) (2 * m + r) a b d x t (omega arith) (omega arith),
      kept_three C r (m + r) (2 * m + r) a b d (m + x) (omega arith) (omega arith) (omega arith),
      kept_three C r (m + r) (2 * m + r) a b d (2 * m + x) (omega arith) (omega arith) (omega arith),
    ) in
    let new : Alike m D r L p = (
      get_or-set_other (set (set C r a) (m + r) b) (2 * m + r) r d 0 (omega arith) ∙ get_or-set_other (set C r a) (m + r) r b 0 (omega arith)
          ∙ get_or-set_same C r a 0 (omega arith) ∙ ea ∙ at.0,
      get_or-set_other (set (set C r a) (m + r) b) (2 * m + r) (m + r) d 0 (omega arith) ∙ get_or-set_same (set C r a) (m + r) b 0 (omega arith) ∙ eb ∙ at.1,
      get_or-set_same (set (set C r a) (m + r) b) (2 * m + r) d 0 (omega arith) ∙ ed ∙ at.2,
    ) in
    record {
      long = ap length e ∙ length-set (set (set C r a) (m + r) b) (2 * m + r) d ∙ l₂;
      rank = omega arith;
      moved = λ x l u.
          by_eq x p
          (λ s.
          let t : count (waits_in L) x ≡ r = ap (count (waits_in L)) s ∙ sym k in
          rw (e, t, s) new)
          (λ s.
          let t : count (waits_in L) x < count (waits_in L) p = count_rank (waits_in L) x p (omega arith) (waiting L x u) in
          let g = away (count (waits_in L) x) (omega arith) (omega arith) in
          let o = c.moved x (omega arith) u in
          rw e (g.0 ∙ o.0, g.1 ∙ o.1, g.2 ∙ o.2));
      ahead = λ x i j.
          let g = away x j (omega arith) in
          let o = c.ahead x (omega arith) j in
          rw e (g.0 ∙ o.0, g.1 ∙ o.1, g.2 ∙ o.2);
    }

-- at the end
pub closing_done : (m to p r : ℕ) (L C : List ℕ) → p ≡ to → Closing m L C p r → ClosedUp m to L C r
closing_done m to p r L C e c = record { many = c.rank ∙ ap (count (waits_in L)) e; moved = λ x l u. c.moved x (omega arith) u }

-- where place y of the list closed up comes from
pub from_place : (m to r y : ℕ) (L L' : List ℕ) → ClosedUp m to L L' r → y < r → (p : ℕ) × (p < to) × (waits_in L p ≡ true) × (count (waits_in L) p ≡ y) × Alike m L' y L p
from_place m to r y L L' c h =
    let k = c.many in
    let s = count_nth (waits_in L) to y (omega arith) in
    let g : Alike m L' (count (waits_in L) s.0) L s.0 = c.moved s.0 s.1 (waits_first L s.0 s.2) in
    (s.0, s.1, s.2, s.3, subst (λ (z : ℕ). Alike m L' z L s.0) s.3 g)
