-- The loop of a row against the method's steps. Assumes nothing.
use Rattle.std.proofs.Common.{◌≡◌, ℕ, ◌+◌, ◌-◌, ◌*◌, ◌<◌, ◌≤◌, List, length, take, replicate, sym, refl, ap, ◌∙◌, subst, arith}
use Rattle.basics.proofs.Tables.{length_each}
use Rattle.method.specs.Line.{circuit, Lies}
use Rattle.method.specs.Sheet.{State, run_from, most, step, steps, sheet}
use Rattle.method.proofs.Closed.{opens}
use Rattle.queue.specs.declared.Queue.{Queue}
use Rattle.queue.specs.Queued.{Queued}
use Rattle.records.specs.declared.Circuit.{Circuit}
use Rattle.records.specs.Area.{lasts_in, rows_in}
use Rattle.rows.specs.inner.Area.{state_in, Shows}
use Rattle.rows.specs.inner.Colours.{shown, plain, LastsMoved}
use Rattle.rows.specs.inner.Sheeted.{Sheeted}
use Rattle.rows.proofs.PlainLaws.{plain_from, plain_step, shown_plain, plain_opens, step_long, moved_refl, moved_then, sheet_turn}
use Rattle.rows.proofs.RowLoop.{InLoop, loop_start, loop_turn, loop_end, loop_less}

-- at the head of the loop of row k: the work area shows a state of the row, and what is left of the row leads from it to where all of it leads from what C₀ shows
pub record RowShows (n m k : ℕ) (cs : List Circuit) (C₀ C : List ℕ) : Type 0 where
  pub reached : State
  pub long : length reached.colours ≡ n
  pub seen : plain n reached ≡ state_in n m k C
  pub left : InLoop n cs k (steps n cs n k (state_in n m k C₀)) reached
  pub needs : take n C ≡ take n C₀
  pub moved : LastsMoved n k (lasts_in n C₀) (lasts_in n C)

-- before the first step
pub row_start : (n m k : ℕ) (cs : List Circuit) (C : List ℕ) → RowShows n m k cs C C
unfolding shown
row_start n m k cs C =
    record {
      reached = state_in n m k C;
      long = length_each _ 1 n;
      seen = shown_plain n m k C;
      left = loop_start n cs k (state_in n m k C);
      needs = refl;
      moved = moved_refl n k (lasts_in n C);
    }

-- the run that is seen is the run of the state
run_seen : (n m k : ℕ) (C : List ℕ) (s : State) → length s.colours ≡ n → plain n s ≡ state_in n m k C → run_from n (shown n k (lasts_in n C)) ≡ run_from n s.colours
run_seen n m k C s l e = sym (ap (λ (t : State). run_from n t.colours) e) ∙ plain_from n s l

-- a step of what is seen is a step of the state
step_seen : (n m k : ℕ) (cs : List Circuit) (C C' : List ℕ) (s : State) → Lies n cs → length s.colours ≡ n → plain n s ≡ state_in n m k C
    → Shows n m k (plain n (step n cs k (state_in n m k C))) C C' → plain n (step n cs k s) ≡ state_in n m k C'
step_seen n m k cs C C' s lies l e h = sym (plain_step n k cs s lies l) ∙ ap (λ (t : State). plain n (step n cs k t)) e ∙ sym h.state

-- one step more
pub row_turn : (n m k : ℕ) (cs : List Circuit) (C₀ C C' : List ℕ) → Lies n cs → run_from n (shown n k (lasts_in n C)) ≤ n → RowShows n m k cs C₀ C
    → Shows n m k (plain n (step n cs k (state_in n m k C))) C C' → RowShows n m k cs C₀ C'
row_turn n m k cs C₀ C C' lies l y h =
    let s = y.reached in
    let f = run_seen n m k C s y.long y.seen in
    record {
      reached = step n cs k s;
      long = step_long n k cs s y.long;
      seen = step_seen n m k cs C C' s lies y.long y.seen h;
      left = loop_turn n cs lies k (steps n cs n k (state_in n m k C₀)) s (step n cs k s) y.left (omega arith) refl;
      needs = h.needs ∙ y.needs;
      moved = moved_then n k (lasts_in n C₀) (lasts_in n C) (lasts_in n C') y.moved h.moved;
    }

-- no link is open
pub row_end : (n m k : ℕ) (cs : List Circuit) (C₀ C : List ℕ) → n < run_from n (shown n k (lasts_in n C)) → RowShows n m k cs C₀ C
    → Shows n m k (plain n (steps n cs n k (state_in n m k C₀))) C₀ C
row_end n m k cs C₀ C l y =
    let s = y.reached in
    let f = run_seen n m k C s y.long y.seen in
    record {
      needs = y.needs;
      state = sym y.seen ∙ ap (plain n) (loop_end n cs k (steps n cs n k (state_in n m k C₀)) s y.left (omega arith));
      moved = y.moved;
    }

-- a step takes at least one link from the open ones
pub row_less : (n m k : ℕ) (cs : List Circuit) (C₀ C C' : List ℕ) → Lies n cs → run_from n (shown n k (lasts_in n C)) ≤ n → RowShows n m k cs C₀ C
    → Shows n m k (plain n (step n cs k (state_in n m k C))) C C' → opens n (state_in n m k C') < opens n (state_in n m k C)
row_less n m k cs C₀ C C' lies l y h =
    let s = y.reached in
    let f = run_seen n m k C s y.long y.seen in
    let a : opens n (state_in n m k C') ≡ opens n (step n cs k s) =
    sym (ap (opens n) (step_seen n m k cs C C' s lies y.long y.seen h)) ∙ plain_opens n (step n cs k s) (step_long n k cs s y.long) in
    let b : opens n (state_in n m k C) ≡ opens n s = sym (ap (opens n) y.seen) ∙ plain_opens n s y.long in
    omega (arith, loop_less n cs lies k s (omega arith))

-- THE QUEUE before the first row: every circuit waits
pub first_queued : (n m w : ℕ) (cs : List Circuit) (C L : List ℕ) (q : Queue) → length cs ≡ m → Sheeted n m w 0 cs C → Queued m cs (replicate m 0) L q → Queued m cs (rows_in n m C) L q
unfolding sheet
first_queued n m w cs C L q e y = subst (λ (R : List ℕ). Queued m cs R L q) (sym (y.rows ∙ ap (λ (k : ℕ). replicate {A = ℕ} k 0) e))

-- a circuit on the line has a first link
pub first_there : (n m : ℕ) (cs : List Circuit) → length cs ≡ m → Lies n cs → (j : ℕ) → j < m → 1 ≤ (circuit cs j).first
unfolding circuit
first_there n m cs e lies j h = (lies j (omega arith)).0

-- THE ROWS. One row more
pub sheet_more : (n m w top k : ℕ) (cs : List Circuit) (C C' : List ℕ) → Lies n cs → length cs ≡ m → 1 ≤ k → k < 65535 → top ≡ most n w cs → top * w ≤ 65533 → Sheeted n m w (k - 1) cs C
    → Shows n m k (plain n (steps n cs n k (state_in n m k C))) C C' → Sheeted n m w (k + 1 - 1) cs C'
sheet_more n m w top k cs C C' lies l a b e h y g =
    let z : k ≡ k + 1 - 1 = omega arith in
    subst (λ (i : ℕ). Sheeted n m w i cs C') z (sheet_turn n m w k cs C C' lies l a b (subst (λ (t : ℕ). t * w ≤ 65533) e h) y g)
