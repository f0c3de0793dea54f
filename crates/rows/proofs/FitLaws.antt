-- Who fits: the test of four comparisons, and the circuit that the queue finds by it. Assumes nothing.
use Rattle.std.proofs.Common.{◌≡◌, ℕ, ◌+◌, ◌-◌, ◌<◌, ◌≤◌, max, Bool, true, false, ◌&&◌, eqb, ltb, leb, ◌≢◌, ◌⊎◌, List, length, get_or, ap, ◌∙◌, inl, inr, ⊎_elim, arith, ltb-true, le-ltb, lt-ltb, le-leb, leb-true}
use mathlib.Core.Option.{none, some}
use borrow.Author.Tests.{lt-leb}
use Rattle.basics.specs.Tools.{part, seek, lowest}
use Rattle.basics.proofs.Bools.{by_le, and_l, and_r, never}
use Rattle.basics.proofs.Searches.{lowest_same, seek_same}
use Rattle.method.specs.Line.{circuit, nobody, uses, Lies, Distinct}
use Rattle.method.specs.Sheet.{at, blue, run_from, run_past, in_run, fits, chosen}
use Rattle.method.proofs.Links.{uses_first, uses_last, uses_of}
use Rattle.method.proofs.Colours.{from_past, in_run_of, fits_meets, fits_each, fits_of}
use Rattle.queue.specs.declared.Queue.{Queue}
use Rattle.queue.specs.Queued.{Queued, place_in, first_place}
use Rattle.queue.proofs.QueueLaws.{fit_is, chosen_is, chosen_none, chosen_waits}
use Rattle.records.specs.declared.Circuit.{Circuit}
use Rattle.scans.specs.declared.Bounds.{Bounds}
use Rattle.scans.specs.Scans.{within, both_within}
use Rattle.records.specs.Area.{lasts_in, rows_in}
use Rattle.rows.specs.inner.Area.{state_in}
use Rattle.rows.specs.inner.Colours.{shown, Around}
use Rattle.rows.specs.inner.Choice.{fits_run, fits_at}
use Rattle.rows.specs.declared.colours.Run.{Run}
use Rattle.method.proofs.Circuits.{OnLine}

-- a link of the run is not before its start
in_from : (n : ℕ) (K : List ℕ) (x : ℕ) → in_run n K x ≡ true → run_from n K ≤ x
unfolding in_run
in_from n K x e = leb-true _ _ (and_l _ _ e)

-- and before its end
in_past : (n : ℕ) (K : List ℕ) (x : ℕ) → in_run n K x ≡ true → x < run_past n K
unfolding in_run
in_past n K x e = ltb-true _ _ (and_r (leb (run_from n K) x) _ e)

module _ (n : ℕ) (K : List ℕ) (run : Run) (c : Circuit) (y : Around n K run) (line : run.from ≤ n) (o : OnLine n c.first c.last) where
  -- where a circuit that fits meets the run
  meets : fits n K c ≡ true → (x : ℕ) × (c.first ≤ x) × (x ≤ c.last) × (run.from ≤ x) × (x < run.past)
  meets e =
      let q = y.starts in
      let p = y.ends in
      let m = fits_meets n K c (omega arith) o.order e in
      let x = m.0 in
      let a = in_from n K x m.2 in
      let b = in_past n K x m.2 in
      (x, uses_first c x m.1, uses_last c x m.1, omega arith, omega arith)

  -- it uses no link that is neither of the run nor blue
  barred : fits n K c ≡ true → (x : ℕ) → c.first ≤ x → x ≤ c.last → at K x ≢ blue → (x < run.from) ⊎ (run.past ≤ x) → ⊥
  barred e x f g z side =
      let q = y.starts in
      let p = y.ends in
      ⊎_elim
      (λ r. let a = in_from n K x r in let b = in_past n K x r in ⊎_elim (λ s. omega arith) (λ s. omega arith) side)
      (λ r. z r)
      (fits_each n K c e x (uses_of c x f g))

  -- each link of a circuit whose ends lie right is in the run or blue
  right : run.low ≤ c.first → c.last < run.high → (x : ℕ) → uses c x ≡ true → (in_run n K x ≡ true) ⊎ (at K x ≡ blue)
  right a b x u =
      let f = uses_first c x u in
      let g = uses_last c x u in
      let q = y.starts in
      let p = y.ends in
      by_le run.from x
      (λ s. by_le run.past x (λ t. inr (y.blues x t (omega arith))) (λ t. inl (in_run_of n K x (omega arith) (omega arith))))
      (λ s. inr (y.to_left.blues x (omega arith) s))

  -- the test of four comparisons is `fits`
  fits_is : fits n K c ≡ fits_run run c.first c.last
  unfolding fits_run
  fits_is =
      let lw = y.to_left.below in
      let lp = y.to_left.pos in
      let ph = y.past_high in
      by_le run.low c.first
      (λ a.
      by_le run.past c.first
      (λ b. rw (le-leb run.low c.first a, le-ltb c.first run.past b) (never _ (λ e. let m = meets e in let m₁ = m.1 in let m₄ = m.4 in omega arith)))
      (λ b.
      by_le run.from c.last
      (λ d.
      by_le run.high c.last
      (λ f. rw (le-leb run.low c.first a, lt-ltb c.first run.past b, le-leb run.from c.last d, le-ltb c.last run.high f)
      (never _ (λ e. barred e run.high (omega arith) f y.stop (inr ph))))
      (λ f. rw (le-leb run.low c.first a, lt-ltb c.first run.past b, le-leb run.from c.last d, lt-ltb c.last run.high f)
      (let q = y.starts in let p = y.ends in let x : ℕ = max c.first run.from in
      fits_of n K c x (uses_of c x (omega arith) (omega (arith, o.order))) (in_run_of n K x (omega arith) (omega (arith, run_some))) (right a f))))
      (λ d. rw (le-leb run.low c.first a, lt-ltb c.first run.past b, lt-leb run.from c.last d) (never _ (λ e. let m = meets e in let m₂ = m.2 in let m₃ = m.3 in omega arith)))))
      (λ a. rw (lt-leb run.low c.first a) (never _ (λ e. let m = meets e in let m₂ = m.2 in let m₃ = m.3 in barred e (run.low - 1) (omega arith) (omega arith) y.to_left.stop (inl (omega arith)))))
    where
      -- the run is not empty
      run_some : run.from < run.past
      run_some = let q = y.starts in let p = y.ends in omega (arith, from_past n K (omega arith))

-- no circuit that is out of the queue fits
out_not : (run : Run) (b : ℕ) → 1 ≤ run.low → fits_run run 0 b ≡ false
unfolding fits_run
out_not run b h = rw (lt-leb run.low 0 (omega arith))

-- both columns within their bounds: the four comparisons
within_is : (run : Run) (a b : Bounds) (x y : ℕ) → a.low ≡ run.low → a.high ≡ run.past - 1 → b.low ≡ run.from → b.high ≡ run.high - 1 → 1 ≤ run.past → 1 ≤ run.high
    → within a x && within b y ≡ fits_run run x y
unfolding within fits_run
within_is run a b x y p q r s f g =
    rw (p, q, r, s, below x run.past f, below y run.high g)
  where
    -- at most the number before e is before e
    below : (z e : ℕ) → 1 ≤ e → leb z (e - 1) ≡ ltb z e
    below z e h = by_le e z (λ l. rw (lt-leb z (e - 1) (omega arith), le-ltb z e l)) (λ l. rw (le-leb z (e - 1) (omega arith), lt-ltb z e l))

-- the queue's search is one by the four comparisons
pub first_is : (m r : ℕ) (L : List ℕ) (q : Queue) (run : Run) (a b : Bounds) → q.from ≤ q.to → q.to ≤ m → a.low ≡ run.low → a.high ≡ run.past - 1 → b.low ≡ run.from → b.high ≡ run.high - 1
    → 1 ≤ run.past → 1 ≤ run.high → r ≡ seek (both_within a b (part 0 m L) (part m m L)) q.from (q.to - q.from)
    → r ≡ first_place q (fits_at m run L)
first_is m r L q run a b h l p₁ p₂ p₃ p₄ f g e =
    e ∙ fit_is m q.from q.to a b L h l
    ∙ seek_same (λ x. within a (get_or L x 0) && within b (get_or L (m + x) 0)) (fits_at m run L) q.from (q.to - q.from)
    (λ x c d. within_is run a b (get_or L x 0) (get_or L (m + x) 0) p₁ p₂ p₃ p₄ f g)

-- WHO IS CHOSEN, where the queue's search ends at place p
module _ (n m k : ℕ) (cs : List Circuit) (C L : List ℕ) (q : Queue) (run : Run) (p : ℕ) (lies : Lies n cs) (distinct : Distinct cs) (long : length cs ≡ m)
    (around : Around n (shown n k (lasts_in n C)) run) (line : run.from ≤ n) (queued : Queued m cs (rows_in n m C) L q)
    (found : p ≡ first_place q (fits_at m run L)) where
  -- the method's choice, by the four comparisons
  by_run : chosen n cs (state_in n m k C)
      ≡ lowest (λ j. eqb (get_or (rows_in n m C) j 0) 0 && fits_run run (circuit cs j).first (circuit cs j).last) (λ j. (circuit cs j).number) m
  unfolding chosen circuit
  by_run =
      lowest_same (λ j. eqb (get_or (rows_in n m C) j 0) 0 && fits n (shown n k (lasts_in n C)) (get_or cs j nobody))
      (λ j. eqb (get_or (rows_in n m C) j 0) 0 && fits_run run (get_or cs j nobody).first (get_or cs j nobody).last) (λ j. (get_or cs j nobody).number) (length cs)
      (λ j b.
      let l = lies j b in
      ap (λ (t : Bool). eqb (get_or (rows_in n m C) j 0) 0 && t)
      (fits_is n (shown n k (lasts_in n C)) run (get_or cs j nobody) around line (record { pos = l.0; order = l.1; high = l.2 })))
      ∙ ap (lowest (λ j. eqb (get_or (rows_in n m C) j 0) 0 && fits_run run (get_or cs j nobody).first (get_or cs j nobody).last) (λ j. (get_or cs j nobody).number)) long

  -- no circuit that is out of the queue fits
  out : (b : ℕ) → fits_run run 0 b ≡ false
  out b = out_not run b around.to_left.pos

  -- a place of the queue: the circuit there
  pub chosen_there : p < q.to → chosen n cs (state_in n m k C) ≡ some (place_in m L p)
  chosen_there h = by_run ∙ chosen_is m cs (rows_in n m C) L q (fits_run run) p long distinct queued out found h

  -- which is one of the file, and waits
  pub waits_there : p < q.to → (place_in m L p < m) × (get_or (rows_in n m C) (place_in m L p) 0 ≡ 0)
  waits_there h = chosen_waits m cs (rows_in n m C) L q (fits_run run) p queued out found h

  -- the queue's end: nobody
  pub chosen_nobody : q.to ≤ p → chosen n cs (state_in n m k C) ≡ none
  chosen_nobody h = by_run ∙ chosen_none m cs (rows_in n m C) L q (fits_run run) p queued found h
