-- What the last rows of the links show: which links are open, which are blue. Assumes nothing.
use Rattle.std.proofs.Common.{◌≡◌, ℕ, zero, suc, ◌+◌, ◌-◌, ◌*◌, ◌<◌, ◌≤◌, Bool, true, not, ◌&&◌, eqb, ltb, leb, ◌≢◌, List, length, get_or, Option, subst, sym, ap, ◌∙◌, ap₂, arith, le-ltb, lt-ltb, eq-eqb, ne_eqb, eqb-true, le-leb}
use borrow.Author.Tests.{eqb-false, lt-leb, not-true, not-false}
use Rattle.std.specs.Bool.{then_some}
use Rattle.basics.specs.Tools.{seek}
use Rattle.basics.proofs.Bools.{by_eq, by_le}
use Rattle.basics.proofs.Searches.{seek_ge, seek_hit, seek_le, seek_miss, seek_shift}
use Rattle.basics.proofs.Tables.{length_each}
use Rattle.method.specs.Sheet.{at, red, blue, open', run_from, run_past}
use Rattle.method.proofs.Colours.{at_each}
use Rattle.records.specs.Bytes.{cell, cells_of}
use Rattle.records.proofs.Encode.{cells_fit}
use Rattle.scans.specs.Scans.{within, cell_within}
use Rattle.scans.specs.declared.Bounds.{Bounds}
use Rattle.rows.specs.inner.Colours.{blue_row, shown_as, shown, LinkTold, BlueTo, Around}
use Rattle.rows.proofs.Written.{at_past, read}

-- the colour of a link, by its last row
pub shown_at : (n k : ℕ) (D : List ℕ) (x : ℕ) → 1 ≤ x → x ≤ n → at (shown n k D) x ≡ shown_as k (at D x)
unfolding shown
shown_at n k D x a b = at_each (λ x. shown_as k (at D x)) n x a b

-- n links have n colours
pub length_shown : (n k : ℕ) (D : List ℕ) → length (shown n k D) ≡ n
unfolding shown
length_shown n k D = length_each (λ x. shown_as k (at D x)) 1 n

-- a link whose last row is over is open
pub shown_open : (k d : ℕ) → d < k → shown_as k d ≡ open'
unfolding shown_as
shown_open k d h = rw (lt-ltb d k h)

-- one with the last row of blue links is blue
pub shown_blue : (k d : ℕ) → k < 65535 → d ≡ blue_row → shown_as k d ≡ blue
unfolding shown_as
shown_blue k d h e = rw (le-ltb d k (omega arith), eq-eqb d blue_row e)

-- any other is red or taken
pub shown_red : (k d : ℕ) → k ≤ d → d ≢ blue_row → shown_as k d ≡ red
unfolding shown_as
shown_red k d h e = rw (le-ltb d k h, ne_eqb d blue_row e)

-- a link whose last row is not over is not open
shown_shut : (k d : ℕ) → k ≤ d → shown_as k d ≢ open'
unfolding shown_as
shown_shut k d h e = by_eq d blue_row (λ z. let t : blue ≡ open' = rw (le-ltb d k h, eq-eqb d blue_row z) at e in omega arith) (λ z. omega (arith, shown_red k d h z))

-- the test for open links
pub shown_opens : (k d : ℕ) → eqb (shown_as k d) open' ≡ ltb d k
shown_opens k d =
    by_le k d (λ h. ne_eqb (shown_as k d) open' (shown_shut k d h) ∙ sym (le-ltb d k h))
    (λ h. eq-eqb (shown_as k d) open' (shown_open k d h) ∙ sym (lt-ltb d k h))

-- the test for blue links
pub shown_blues : (k d : ℕ) → k < 65535 → eqb (shown_as k d) blue ≡ eqb d blue_row
shown_blues k d h =
    by_eq d blue_row (λ e. ap (λ (c : ℕ). eqb c blue) (shown_blue k d h e) ∙ sym (eq-eqb d blue_row e))
    (λ e.
    by_le k d (λ g. ap (λ (c : ℕ). eqb c blue) (shown_red k d g e) ∙ sym (ne_eqb d blue_row e))
    (λ g. ap (λ (c : ℕ). eqb c blue) (shown_open k d g) ∙ sym (ne_eqb d blue_row e)))

-- A SEARCH IN CELLS is one in links: link x has cell x - 1
pub links_sought : (b : Bounds) (q : ℕ → Bool) (n start r : ℕ) (C : List ℕ) → 1 ≤ start → start ≤ n + 1 → ((x : ℕ) → 1 ≤ x → x ≤ n → within b (at C x) ≡ q x)
    → r ≡ seek (cell_within b C) (start - 1) (n - (start - 1)) → r + 1 ≡ seek q start (n + 1 - start)
unfolding cell_within at
links_sought b q n zero r C pos le h e = absurd (omega arith)
links_sought b q n (suc i) r C pos le h e =
    let z : suc i - 1 ≡ i = omega arith in
    let f : n + 1 - suc i ≡ n - i = omega arith in
    let g : r + 1 ≡ suc r = omega arith in
    g ∙ ap suc (e ∙ ap (λ (j : ℕ). seek (cell_within b C) j (n - j)) z)
    ∙ seek_shift (cell_within b C) q i (n - i) (λ x l u. h (suc x) (omega arith) (omega arith)) ∙ sym (ap (seek q (suc i)) f)

-- what is found is on the line, or the first cell past it
pub sought_in : (p : ℕ → Bool) (n start r : ℕ) → 1 ≤ start → start ≤ n + 1 → r ≡ seek p (start - 1) (n - (start - 1)) → r ≤ n
sought_in p n start r l u e = omega (arith, seek_le p (start - 1) (n - (start - 1)))

-- the first open link
pub open_sought : (n k start r : ℕ) (C : List ℕ) → 1 ≤ k → 1 ≤ start → start ≤ n + 1 → r ≡ seek (cell_within (record { low = 0; high = k - 1 }) C) (start - 1) (n - (start - 1))
    → r + 1 ≡ seek (λ x. eqb (at (shown n k C) x) open') start (n + 1 - start)
unfolding within
open_sought n k start r C pos l u e =
    links_sought (record { low = 0; high = k - 1 }) (λ x. eqb (at (shown n k C) x) open') n start r C l u
    (λ x a b.
    ap (λ (t : Bool). t && leb (at C x) (k - 1)) (le-leb 0 (at C x) (omega arith))
    ∙ by_le k (at C x) (λ h. lt-leb (at C x) (k - 1) (omega arith) ∙ sym (le-ltb (at C x) k h)) (λ h. le-leb (at C x) (k - 1) (omega arith) ∙ sym (lt-ltb (at C x) k h))
    ∙ sym (ap (λ (c : ℕ). eqb c open') (shown_at n k C x a b) ∙ shown_opens k (at C x)))
    e

-- and what is told of it
pub open_told : (n k start r : ℕ) (C : List ℕ) (told : Option ℕ) → 1 ≤ k → 1 ≤ start → start ≤ n + 1
    → r ≡ seek (cell_within (record { low = 0; high = k - 1 }) C) (start - 1) (n - (start - 1)) → told ≡ then_some (ltb r n) (r + 1)
    → LinkTold n (seek (λ x. eqb (at (shown n k C) x) open') start (n + 1 - start)) told
open_told n k start r C told pos l u e t =
    let y = open_sought n k start r C pos l u e in
    by_le n r
    (λ h. subst (LinkTold n _) (sym (t ∙ ap (λ (b : Bool). then_some b (r + 1)) (le-ltb r n h))) (omega arith))
    (λ h. subst (LinkTold n _) (sym (t ∙ ap (λ (b : Bool). then_some b (r + 1)) (lt-ltb r n h))) (y, omega arith))

-- whether link x has another colour
abbrev is_not : List ℕ → ℕ → ℕ → Bool
is_not K colour x = not (eqb (at K x) colour)

-- the first link that is not open
pub shut_sought : (n k start r : ℕ) (C : List ℕ) → ((x : ℕ) → at C x < 65536) → 1 ≤ start → start ≤ n + 1
    → r ≡ seek (cell_within (record { low = k; high = 65535 }) C) (start - 1) (n - (start - 1)) → r + 1 ≡ seek (is_not (shown n k C) open') start (n + 1 - start)
unfolding within
shut_sought n k start r C few l u e =
    links_sought (record { low = k; high = 65535 }) (is_not (shown n k C) open') n start r C l u
    (λ x a b.
    by_le k (at C x)
    (λ h. ap₂ ◌&&◌ (le-leb k (at C x) h) (le-leb (at C x) 65535 (omega (arith, few x))) ∙ sym (ap (λ (c : ℕ). not (eqb c open')) (shown_at n k C x a b) ∙ ap not (shown_opens k (at C x) ∙ le-ltb (at C x) k h)))
    (λ h. ap (λ (t : Bool). t && leb (at C x) 65535) (lt-leb k (at C x) h) ∙ sym (ap (λ (c : ℕ). not (eqb c open')) (shown_at n k C x a b) ∙ ap not (shown_opens k (at C x) ∙ lt-ltb (at C x) k h))))
    e

-- the first link that is not blue
pub unblue_sought : (n k start r : ℕ) (C : List ℕ) → k < 65535 → ((x : ℕ) → at C x < 65536) → 1 ≤ start → start ≤ n + 1
    → r ≡ seek (cell_within (record { low = 0; high = 65534 }) C) (start - 1) (n - (start - 1)) → r + 1 ≡ seek (is_not (shown n k C) blue) start (n + 1 - start)
unfolding within
unblue_sought n k start r C low few l u e =
    links_sought (record { low = 0; high = 65534 }) (is_not (shown n k C) blue) n start r C l u
    (λ x a b.
    ap (λ (t : Bool). t && leb (at C x) 65534) (le-leb 0 (at C x) (omega arith))
    ∙ by_eq (at C x) blue_row (λ h. lt-leb (at C x) 65534 (omega arith) ∙ sym (ap not (eq-eqb (at C x) blue_row h)))
    (λ h. le-leb (at C x) 65534 (omega (arith, few x)) ∙ sym (ap not (ne_eqb (at C x) blue_row h)))
    ∙ sym (ap not (ap (λ (c : ℕ). eqb c blue) (shown_at n k C x a b) ∙ shown_blues k (at C x) low)))
    e

-- the cells of links fit two bytes
pub links_low : (b : List ℕ) → ((i : ℕ) → get_or b i 0 < 256) → (x : ℕ) → at (cells_of b) x < 65536
unfolding at
links_low b h zero = omega arith
links_low b h (suc x) = cells_fit b h x

-- THE RUN AND ITS REACH. The end of the run lies on the line
pub past_in : (n l past : ℕ) (K : List ℕ) → l ≤ n → past ≡ seek (is_not K open') l (n + 1 - l) → (l ≤ past) × (past ≤ n + 1)
past_in n l past K h e = (omega (arith, seek_ge (is_not K open') l (n + 1 - l)), omega (arith, seek_le (is_not K open') l (n + 1 - l)))

-- it is the method's
past_is : (n l past : ℕ) (K : List ℕ) → l ≤ n → l ≡ run_from n K → past ≡ seek (is_not K open') l (n + 1 - l) → past ≡ run_past n K
unfolding run_past
past_is n l past K h e q =
    let k : n + 1 - l ≡ suc n - run_from n K = omega arith in
    q ∙ ap₂ (seek (is_not K open')) e k

-- the run is found with its reach
pub around : (n l past low high : ℕ) (K : List ℕ) → length K ≡ n → l ≤ n → l ≡ run_from n K → past ≡ seek (is_not K open') l (n + 1 - l) → BlueTo K l low
    → high ≡ seek (is_not K blue) past (n + 1 - past) → Around n K (record { from = l; past = past; low = low; high = high })
around n l past low high K len h e q b r =
    let z = past_in n l past K h q in
    let z₁ : past ≤ n + 1 = z.1 in
    let p : ℕ → Bool = is_not K blue in
    let k : ℕ = n + 1 - past in
    let le : high ≤ n + 1 = omega (arith, seek_le p past k) in
    record {
      starts = e;
      ends = past_is n l past K h e q;
      to_left = b;
      past_high = omega (arith, seek_ge p past k);
      on_line = le;
      blues = λ x f g. eqb-true (at K x) blue (not-false (eqb (at K x) blue) (seek_miss p past k x f (omega arith)));
      stop = by_le high n
          (λ g. let t : p high ≡ true = ap p r ∙ seek_hit p past k (omega arith) in eqb-false (at K high) blue (not-true (eqb (at K high) blue) t))
          (λ g. omega (arith, at_past K high (omega arith)));
    }

-- THE BLUE LINKS ON THE LEFT. What is read as cell i - 1 - 1 is the last row of the link before link i
before : (n i v : ℕ) (b : List ℕ) → 1 < i → i ≤ n → length b ≡ 2 * n → v ≡ cell b (i - 1 - 1) → v ≡ at (cells_of b) (i - 1)
before n i v b h l r e = read b (i - 1) v (omega arith) (omega arith) e

-- it tells that this link is blue
pub before_blue : (n k i v : ℕ) (b : List ℕ) → 1 < i → i ≤ n → length b ≡ 2 * n → k < 65535 → v ≡ cell b (i - 1 - 1) → v ≡ blue_row → at (shown n k (cells_of b)) (i - 1) ≡ blue
before_blue n k i v b h l r low e z =
    shown_at n k (cells_of b) (i - 1) (omega arith) (omega arith) ∙ shown_blue k (at (cells_of b) (i - 1)) low (sym (before n i v b h l r e) ∙ z)

-- or that it is not
pub before_not : (n k i v : ℕ) (b : List ℕ) → 1 < i → i ≤ n → length b ≡ 2 * n → k < 65535 → v ≡ cell b (i - 1 - 1) → v ≢ blue_row → at (shown n k (cells_of b)) (i - 1) ≢ blue
before_not n k i v b h l r low e z q =
    z (before n i v b h l r e
    ∙ eqb-true (at (cells_of b) (i - 1)) blue_row (sym (shown_blues k (at (cells_of b) (i - 1)) low) ∙ eq-eqb (shown_as k (at (cells_of b) (i - 1))) blue (sym (shown_at n k (cells_of b) (i - 1) (omega arith) (omega arith)) ∙ q)))

-- there is no link before link 1
pub at_none : (K : List ℕ) (i : ℕ) → i ≤ 1 → at K (i - 1) ≡ 0
unfolding at
at_none K i h = let e : i - 1 ≡ 0 = omega arith in rw e

-- one blue link more on the left
pub blues_more : (K : List ℕ) (stop i : ℕ) → 1 < i → at K (i - 1) ≡ blue → ((x : ℕ) → i ≤ x → x < stop → at K x ≡ blue) → (x : ℕ) → i - 1 ≤ x → x < stop → at K x ≡ blue
blues_more K stop i h e b x p q = by_eq x (i - 1) (λ z. ap (at K) z ∙ e) (λ z. b x (omega arith) q)
