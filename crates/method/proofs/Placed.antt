-- On the full sheet every circuit is placed. Assumes nothing.
use Prim.Native.Nat.{◌*◌, ◌+◌, ◌-◌, ◌<◌, ◌≤◌, suc, zero, ℕ}
use borrow.Author.Tests.{eq-eqb, eqb-false, eqb-true, leb-false, leb-true, ne_eqb}
use lib.Dec.{eqb, leb}
use lib.ListN.{get_or-eq_default, get_or-replicate, length, length-replicate, replicate}
use mathlib.Core.Bool.{Bool, ◌&&◌, ◌||◌, cond, true}
use mathlib.Core.List.{List}
use mathlib.Core.Logic.{◌≢◌, ◌⊎◌, inl, inr, ⊎_elim}
use mathlib.Core.Option.{none, some}
use mathlib.Core.Path.{◌∙◌, ◌≡◌, ap, refl, sym}
use native.Mathlib.Nat.{div-add-mod', mod-lt}
use native.Mathlib.Omega.{arith}
use Rattle.basics.specs.Tools.{count, every, top}
use Rattle.basics.proofs.Bools.{and_l, and_of, and_r, by_eq, by_le, on, or_cases, or_false_l, or_false_r}
use Rattle.basics.proofs.Counts.{count_below, count_le, count_lt, count_some, le_top, top_times}
use Rattle.basics.proofs.Searches.{every_at, every_false}
use Rattle.records.specs.declared.Circuit.{Circuit}
use Rattle.method.specs.Line.{circuit, uses}
use Rattle.method.specs.Sheet.{State, act, at, begun, blue, fresh, in_run, load, most, need, open', red, red_to, row, row_of, sheet, steps, taken}
use Rattle.method.proofs.Closed.{row_closed}
use Rattle.method.proofs.Colours.{at_each, fits_each, fits_of, run_open}
use Rattle.method.proofs.Links.{LiesIfThere, on_line, proper, uses_first, uses_last, uses_of}
use Rattle.method.proofs.OwnLinks.{Own, Owned, row_own}
use Rattle.method.proofs.Steps.{Kept_painted, Kept_placed, new_row, old_row, painted_cell, placed_cell, some_length, steps_keep, unblued}

module _ (cs : List Circuit) where
  -- how many waiting circuits use link i
  pub waiting_on : State → ℕ → ℕ
  waiting_on s i = count (λ j. eqb (row_of s j) 0 && uses (circuit cs j) i) (length cs)

  -- at most the load
  waiting_load : (s : State) (i : ℕ) → waiting_on s i ≤ load cs i
  unfolding waiting_on load
  waiting_load s i = count_le _ _ (length cs) (λ j b e. and_r (eqb (row_of s j) 0) _ e)

module _ (n : ℕ) (cs : List Circuit) where
  -- painting keeps them waiting
  waiting_none : (k : ℕ) (s : State) (i : ℕ) → waiting_on cs (act n cs k s none) i ≡ waiting_on cs s i
  unfolding waiting_on act
  waiting_none k s i = refl

  -- placing a circuit leaves no more
  waiting_le : (k : ℕ) (s : State) (j i : ℕ) → 1 ≤ k → j < length s.rows → waiting_on cs (act n cs k s (some j)) i ≤ waiting_on cs s i
  unfolding waiting_on
  waiting_le k s j i pos b =
      count_le _ _ (length cs)
      (λ d q e.
      by_eq d j
      (λ t.
      let z : row_of (act n cs k s (some j)) d ≡ 0 = eqb-true _ _ (and_l _ _ e) in
      absurd (omega (arith, ap (row_of (act n cs k s (some j))) t, new_row n cs k s j b)))
      (λ t. rw (old_row n cs k s j d t) at e))

  -- and fewer on a link that it uses
  waiting_lt : (k : ℕ) (s : State) (j i : ℕ) → 1 ≤ k → j < length s.rows → j < length cs → row_of s j ≡ 0 → uses (circuit cs j) i ≡ true → waiting_on cs (act n cs k s (some j)) i < waiting_on cs s i
  unfolding waiting_on
  waiting_lt k s j i pos b b' m u =
      count_lt _ _ (length cs)
      (λ d q e.
      by_eq d j
      (λ t.
      let z : row_of (act n cs k s (some j)) d ≡ 0 = eqb-true _ _ (and_l _ _ e) in
      absurd (omega (arith, ap (row_of (act n cs k s (some j))) t, new_row n cs k s j b)))
      (λ t. rw (old_row n cs k s j d t) at e))
      j b' (rw (ne_eqb (row_of (act n cs k s (some j)) j) 0 (omega (arith, new_row n cs k s j b)))) (and_of _ _ (eq-eqb _ _ m) u)

module _ (n w : ℕ) (cs : List Circuit) where
  -- what holds within row k, which began at s₀
  pub record Going (k : ℕ) (s₀ s : State) : Type 0 where
    pub sized : length s.rows ≡ length cs
    pub colour_known : (i : ℕ) → 1 ≤ i → i ≤ n → at s.colours i ≤ 3
    pub reds : (i : ℕ) → 1 ≤ i → i ≤ n → at s.colours i ≡ red → k ≤ red_to n w cs i
    pub reddened : (i : ℕ) → 1 ≤ i → i ≤ n → k ≤ red_to n w cs i → at s.colours i ≡ red
    pub blues : (i : ℕ) → 1 ≤ i → i ≤ n → at s₀.colours i ≡ blue → at s.colours i ≡ blue
    pub not_all_blue : (j : ℕ) → j < length cs → 1 ≤ (circuit cs j).last → row_of s j ≡ 0 → (i : ℕ) × (uses (circuit cs j) i ≡ true) × (at s.colours i ≢ blue)
    pub fewer : (i : ℕ) → 1 ≤ i → i ≤ n → waiting_on cs s i ≤ waiting_on cs s₀ i
    pub gone : (i : ℕ) → 1 ≤ i → i ≤ n → at s.colours i ≡ taken → waiting_on cs s i < waiting_on cs s₀ i
    pub marked : (j : ℕ) → row_of s j ≤ k
    pub clear : (j i : ℕ) → row_of s j ≢ 0 → uses (circuit cs j) i ≡ true → red_to n w cs i < row_of s j

  module _ (lies : LiesIfThere n cs) (k : ℕ) (pos : 1 ≤ k) (s₀ : State) where
    -- painting the run keeps it
    painted_going : Kept_painted n cs k (Going k s₀)
    unfolding act
    painted_going s y l nobody-fits =
        record {
          sized = y.sized;
          colour_known = λ i a b. ⊎_elim (λ t. omega (arith, t.1)) (λ t. omega (arith, y.colour_known i a b)) (painted_cell n cs k s i a b);
          reds = λ i a b e. ⊎_elim (λ t. absurd (omega (arith, t.1))) (λ t. y.reds i a b (sym t ∙ e)) (painted_cell n cs k s i a b);
          reddened = λ i a b e. ⊎_elim (λ t. absurd (omega (arith, t.0, y.reddened i a b e))) (λ t. t ∙ y.reddened i a b e) (painted_cell n cs k s i a b);
          blues = λ i a b e. ⊎_elim (λ t. t.1) (λ t. t ∙ y.blues i a b e) (painted_cell n cs k s i a b);
          not_all_blue = λ j b r m. not_all_blue' j b m (y.not_all_blue j b r m);
          fewer = λ i a b. omega (arith, waiting_none n cs k s i, y.fewer i a b);
          gone = λ i a b e. ⊎_elim (λ t. absurd (omega (arith, t.1))) (λ t. omega (arith, waiting_none n cs k s i, y.gone i a b (sym t ∙ e))) (painted_cell n cs k s i a b);
          marked = y.marked;
          clear = y.clear;
        }
      where
        -- if all links of a waiting circuit turned blue, it would have fitted
        not_all_blue' : (j : ℕ) → j < length cs → row_of s j ≡ 0 → (i : ℕ) × (uses (circuit cs j) i ≡ true) × (at s.colours i ≢ blue) → (i : ℕ) × (uses (circuit cs j) i ≡ true) × (at (act n cs k s none).colours i ≢ blue)
        not_all_blue' j b m o =
            let c : Circuit = circuit cs j in
            let p : ℕ → Bool = λ x. in_run n s.colours x || eqb (at s.colours x) blue in
            let either : (x : ℕ) → p x ≡ true → (in_run n s.colours x ≡ true) ⊎ (at s.colours x ≡ blue) = λ x e. ⊎_elim (λ t. inl t) (λ t. inr (eqb-true _ _ t)) (or_cases (in_run n s.colours x) _ e) in
            on (every p c.first (suc c.last - c.first))
            (λ e.
            let inside : (x : ℕ) → uses c x ≡ true → p x ≡ true = λ x u. every_at p c.first (suc c.last - c.first) e x (uses_first c x u) (omega (arith, uses_first c x u, uses_last c x u)) in
            let r : in_run n s.colours o.0 ≡ true = ⊎_elim (λ t. t) (λ t. absurd (o.2 t)) (either o.0 (inside o.0 o.1)) in
            absurd (nobody-fits j b m (fits_of n s.colours c o.0 o.1 r (λ x u. either x (inside x u)))))
            (λ e.
            let x = every_false p c.first (suc c.last - c.first) e in
            let x₁ = x.1 in
            let x₂ = x.2 in
            let u : uses c x.0 ≡ true = uses_of c x.0 x₁ (omega arith) in
            let a = on_line n cs lies j x.0 u in
            let z : at s.colours x.0 ≢ blue = eqb-false _ _ (or_false_r (in_run n s.colours x.0) _ x.3) in
            (x.0, u, omega (arith, unblued n cs k s x.0 a.0 a.1 (or_false_l _ _ x.3))))

    -- placing a circuit keeps it
    placed_going : Kept_placed n cs k (Going k s₀)
    placed_going s j₀ y l below wait fit =
        record {
          sized = some_length n cs k s j₀ ∙ y.sized;
          colour_known = λ i a b. ⊎_elim (λ t. omega (arith, t.1)) (λ t. omega (arith, y.colour_known i a b)) (placed_cell n cs k s i a b j₀);
          reds = λ i a b e. ⊎_elim (λ t. absurd (omega (arith, t.1))) (λ t. y.reds i a b (sym t ∙ e)) (placed_cell n cs k s i a b j₀);
          reddened = λ i a b e. ⊎_elim (λ t. absurd (omega (arith, t.0, y.reddened i a b e))) (λ t. t ∙ y.reddened i a b e) (placed_cell n cs k s i a b j₀);
          blues = λ i a b e. ⊎_elim (λ t. absurd (omega (arith, t.0, y.blues i a b e))) (λ t. t ∙ y.blues i a b e) (placed_cell n cs k s i a b j₀);
          not_all_blue = λ j b r m.
              by_eq j j₀ (λ t. absurd (omega (arith, ap (row_of s') t, new)))
              (λ t.
              let o = y.not_all_blue j b r (sym (old_row n cs k s j₀ j t) ∙ m) in
              let a = on_line n cs lies j o.0 o.1 in
              let o₂ = o.2 in
              (o.0, o.1, ⊎_elim (λ u. omega (arith, u.1)) (λ u. omega arith) (placed_cell n cs k s o.0 a.0 a.1 j₀)));
          fewer = λ i a b. omega (arith, waiting_le n cs k s j₀ i pos sizes, y.fewer i a b);
          gone = λ i a b e.
              ⊎_elim (λ t. omega (arith, waiting_lt n cs k s j₀ i pos sizes below wait t.2, y.fewer i a b))
              (λ t. omega (arith, waiting_le n cs k s j₀ i pos sizes, y.gone i a b (sym t ∙ e))) (placed_cell n cs k s i a b j₀);
          marked = λ j. by_eq j j₀ (λ t. omega (arith, ap (row_of s') t, new)) (λ t. omega (arith, old_row n cs k s j₀ j t, y.marked j));
          clear = λ j i h u.
              by_eq j j₀ (λ t. omega (arith, ap (row_of s') t, new, bright i (rw t at u)))
              (λ t. omega (arith, old_row n cs k s j₀ j t, y.clear j i (omega (arith, old_row n cs k s j₀ j t)) u));
        }
      where
        -- the state after placing j₀
        s' : State
        s' = act n cs k s (some j₀)

        -- the circuit has its place among the rows
        sizes : j₀ < length s.rows
        sizes = omega (arith, y.sized)

        -- it is of row k
        new : row_of s' j₀ ≡ k
        new = new_row n cs k s j₀ sizes

        -- a link that the new circuit uses is not red
        bright : (i : ℕ) → uses (circuit cs j₀) i ≡ true → red_to n w cs i < k
        bright i u =
            let a = on_line n cs lies j₀ i u in
            by_le k (red_to n w cs i)
            (λ h.
            let z : at s.colours i ≡ red = y.reddened i a.0 a.1 h in
            ⊎_elim (λ r. absurd (omega (arith, run_open n s.colours i r))) (λ r. absurd (omega arith)) (fits_each n s.colours (circuit cs j₀) fit i u))
            (λ h. h)

    -- so it holds after any number of steps
    row_going : (f : ℕ) (s : State) → Going k s₀ s → Going k s₀ (steps n cs f k s)
    row_going = steps_keep n cs k (Going k s₀) painted_going placed_going

  -- THE START OF A ROW: the colour of link i
  pub fresh_at : (k : ℕ) (colours : List ℕ) (i : ℕ) → 1 ≤ i → i ≤ n → at (fresh n w cs k colours) i ≡ cond (leb k (red_to n w cs i)) red (cond (eqb (at colours i) blue) blue open')
  unfolding fresh
  fresh_at k colours i l h = at_each (λ i. cond (leb k (red_to n w cs i)) red (cond (eqb (at colours i) blue) blue open')) n i l h

  -- it is red, blue or open
  begun_cases : {C : Type 0} (k : ℕ) (s : State) (i : ℕ) → 1 ≤ i → i ≤ n
      → (k ≤ red_to n w cs i → at (begun n w cs k s).colours i ≡ red → C)
      → (red_to n w cs i < k → at s.colours i ≡ blue → at (begun n w cs k s).colours i ≡ blue → C)
      → (red_to n w cs i < k → at s.colours i ≢ blue → at (begun n w cs k s).colours i ≡ open' → C)
      → C
  unfolding begun
  begun_cases {C} k s i l h f g o =
      let e = fresh_at k s.colours i l h in
      on (leb k (red_to n w cs i))
      (λ a. f (leb-true _ _ a) (rw a at e))
      (λ a. on (eqb (at s.colours i) blue)
      (λ b. g (leb-false _ _ a) (eqb-true _ _ b) (rw (a, b) at e))
      (λ b. o (leb-false _ _ a) (eqb-false _ _ b) (rw (a, b) at e)))

  -- WHAT HOLDS AFTER k ROWS
  pub record After (k : ℕ) (s : State) : Type 0 where
    pub sized : length s.rows ≡ length cs
    pub not_all_blue : (j : ℕ) → j < length cs → 1 ≤ (circuit cs j).last → row_of s j ≡ 0 → (i : ℕ) × (uses (circuit cs j) i ≡ true) × (at s.colours i ≢ blue)
    pub room : (i : ℕ) → 1 ≤ i → i ≤ n → at s.colours i ≢ blue → waiting_on cs s i + (k - red_to n w cs i) ≤ load cs i
    pub reddened : (i : ℕ) → 1 ≤ i → i ≤ n → k ≤ red_to n w cs i → at s.colours i ≡ red
    pub marked : (j : ℕ) → row_of s j ≤ k
    pub clear : (j i : ℕ) → row_of s j ≢ 0 → uses (circuit cs j) i ≡ true → red_to n w cs i < row_of s j
    pub own : (j : ℕ) → row_of s j ≢ 0 → (i : ℕ) × Own cs s j i

  module _ (lies : LiesIfThere n cs) (k : ℕ) (s : State) (y : After k s) where
    -- the next row begins
    begin_going : Going (suc k) (begun n w cs (suc k) s) (begun n w cs (suc k) s)
    unfolding begun
    begin_going =
        record {
          sized = y.sized;
          colour_known = λ i a b. begun_cases (suc k) s i a b (λ p q. omega arith) (λ p q r. omega arith) (λ p q r. omega arith);
          reds = λ i a b e. begun_cases (suc k) s i a b (λ p q. p) (λ p q r. absurd (omega arith)) (λ p q r. absurd (omega arith));
          reddened = λ i a b e. begun_cases (suc k) s i a b (λ p q. q) (λ p q r. absurd (omega arith)) (λ p q r. absurd (omega arith));
          blues = λ i a b e. e;
          not_all_blue = λ j b r m.
              let o = y.not_all_blue j b r m in
              let a = on_line n cs lies j o.0 o.1 in
              let o₂ = o.2 in
              (o.0, o.1, begun_cases (suc k) s o.0 a.0 a.1 (λ p q. omega arith) (λ p q r. absurd (o₂ q)) (λ p q r. omega arith));
          fewer = λ i a b. omega arith;
          gone = λ i a b e. begun_cases (suc k) s i a b (λ p q. absurd (omega arith)) (λ p q r. absurd (omega arith)) (λ p q r. absurd (omega arith));
          marked = λ j. omega (arith, y.marked j);
          clear = y.clear;
        }

    -- with nobody in it
    pub begin_own : Owned cs (suc k) (begun n w cs (suc k) s)
    unfolding begun
    begin_own =
        record {
          sized = y.sized;
          own = λ j h. let o = y.own j h in (o.0, record { used = o.1.used; alone = o.1.alone }, λ e. absurd (omega (arith, y.marked j)));
          dull = λ j h. absurd (omega (arith, y.marked j));
        }

    -- and the same circuits waiting
    waiting_begun : (i : ℕ) → waiting_on cs (begun n w cs (suc k) s) i ≡ waiting_on cs s i
    unfolding waiting_on begun
    waiting_begun i = refl

    -- the row ends
    row_after : After (suc k) (row n w cs (suc k) s)
    unfolding row begun
    row_after =
        record {
          sized = g.sized;
          not_all_blue = g.not_all_blue;
          room = λ i a b e. begun_cases (suc k) s i a b
              (λ p q. omega (arith, waiting_load cs end i))
              (λ p q r. absurd (e (g.blues i a b r)))
              (λ p q r.
              let t : at end.colours i ≡ taken =
              by_eq (at end.colours i) red (λ u. absurd (omega (arith, g.reds i a b u))) (λ u. omega (arith, g.colour_known i a b, row_closed n cs lies (suc k) (begun n w cs (suc k) s) i a b)) in
              omega (arith, g.gone i a b t, y.room i a b q, waiting_begun i));
          reddened = g.reddened;
          marked = g.marked;
          clear = g.clear;
          own = λ j h. let o = r.own j h in (o.0, o.1);
        }
      where
        -- the state at the end of the row
        end : State
        end = steps n cs n (suc k) (begun n w cs (suc k) s)

        -- what holds then
        g : Going (suc k) (begun n w cs (suc k) s) end
        g = row_going lies (suc k) (omega arith) (begun n w cs (suc k) s) n (begun n w cs (suc k) s) begin_going

        -- and of own links
        r : Owned cs (suc k) end
        r = row_own n cs lies (suc k) (omega arith) n (begun n w cs (suc k) s) begin_own

  -- at first every circuit waits
  pub all_waiting : (j : ℕ) → row_of (sheet n w cs 0) j ≡ 0
  unfolding sheet
  all_waiting j =
      by_le (suc j) (length cs) (λ h. get_or-replicate (length cs) j 0 0 h)
      (λ h. get_or-eq_default (replicate (length cs) 0) 0 (omega (arith, length-replicate {A = ℕ} (length cs) 0)))

  -- and no link is blue
  pub all_red : (i : ℕ) → 1 ≤ i → i ≤ n → at (sheet n w cs 0).colours i ≡ red
  unfolding sheet at
  all_red zero l h = absurd (omega arith)
  all_red (suc i) l h = get_or-replicate n i red red (omega arith)

  module _ (lies : LiesIfThere n cs) where
    -- so it holds at first
    after_none : After 0 (sheet n w cs 0)
    unfolding sheet
    after_none =
        record {
          sized = length-replicate (length cs) 0;
          not_all_blue = λ j b r m.
              let u : uses (circuit cs j) (circuit cs j).first ≡ true = uses_of (circuit cs j) _ (omega arith) (proper n cs lies j b r) in
              let a = on_line n cs lies j _ u in
              (_, u, omega (arith, all_red _ a.0 a.1));
          room = λ i a b e. omega (arith, waiting_load cs (sheet n w cs 0) i);
          reddened = λ i a b e. all_red i a b;
          marked = λ j. omega (arith, all_waiting j);
          clear = λ j i h u. absurd (h (all_waiting j));
          own = λ j h. absurd (h (all_waiting j));
        }

    -- and after any number of rows
    pub after : (k : ℕ) → After k (sheet n w cs k)
    unfolding sheet
    after zero = after_none
    after (suc k) = row_after lies k (sheet n w cs k) (after k)

    module _ (pos : 1 ≤ w) where
      -- c(i) × w is enough for the load
      pub load_need : (i : ℕ) → load cs i ≤ need w cs i * w
      unfolding need
      load_need i =
          omega (arith, div-add-mod' (load cs i + (w - 1)) w, mod-lt (load cs i + (w - 1)) pos)

      -- the rows in which link i is not red
      rows_left : (i : ℕ) → 1 ≤ i → i ≤ n → red_to n w cs i + need w cs i * w ≡ most n w cs * w
      unfolding red_to most
      rows_left i l h =
          let c = need w cs i in
          let m = top (need w cs) n in
          let z : c ≤ m = le_top (need w cs) n i l h in
          let e : (m - c) + c ≡ m = omega arith in
          omega (arith, ap (λ x. x * w) e)

      -- on the full sheet every circuit that is there is placed
      pub all_placed : (j : ℕ) → j < length cs → 1 ≤ (circuit cs j).last → row_of (sheet n w cs (most n w cs * w)) j ≢ 0
      unfolding waiting_on
      all_placed j b r m =
          let y = after (most n w cs * w) in
          let o = y.not_all_blue j b r m in
          let a = on_line n cs lies j o.0 o.1 in
          omega (arith, y.room o.0 a.0 a.1 o.2, rows_left o.0 a.0 a.1, load_need o.0, count_some (λ d. eqb (row_of (sheet n w cs (most n w cs * w)) d) 0 && uses (circuit cs d) o.0) (length cs) j b (and_of _ _ (eq-eqb _ _ m) o.1))

  -- c(i) × w is at most circuits + w − 1
  need_rows : 1 ≤ w → (i : ℕ) → need w cs i * w ≤ length cs + (w - 1)
  unfolding need load
  need_rows pos i = omega (arith, div-add-mod' (count (λ j. uses (circuit cs j) i) (length cs) + (w - 1)) w, count_below (λ j. uses (circuit cs j) i) (length cs))

  -- and so is M × w
  pub few_rows : 1 ≤ w → most n w cs * w ≤ length cs + (w - 1)
  unfolding most
  few_rows pos = top_times (need w cs) w (length cs + (w - 1)) n (need_rows pos)
