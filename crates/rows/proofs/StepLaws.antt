-- What is done with a run is a step of the method, taken links counted as red. Assumes nothing.
use Rattle.std.proofs.Common.{◌≡◌, ℕ, ◌+◌, ◌-◌, ◌*◌, ◌<◌, ◌≤◌, min, max, Bool, true, cond, ◌&&◌, eqb, ltb, leb, ◌≢◌, List, length, get_or, take, drop, set, sym, refl, ap, ◌∙◌, subst, ap₂, arith, length-drop, length-take-le, le-ltb, lt-ltb, le-leb}
use mathlib.Core.Option.{Option, none, some}
use borrow.Author.Tests.{lt-leb}
use Rattle.basics.proofs.Bools.{by_le, and_l, and_false}
use Rattle.basics.proofs.Tables.{each_same}
use Rattle.method.specs.Line.{circuit, uses}
use Rattle.method.specs.Sheet.{at, red, blue, taken, run_from, in_run, paint, chosen, act, step}
use Rattle.method.proofs.Colours.{run_open}
use Rattle.method.proofs.Circuits.{circuit_in_lem}
use Rattle.queue.specs.declared.Queue.{Queue}
use Rattle.queue.specs.Queued.{Queued, place_in}
use Rattle.queue.proofs.QueueLaws.{taken_out}
use Rattle.records.specs.Bytes.{cell, set_cell, cells_of}
use Rattle.records.specs.Records.{record_at, circuit_of, circuits_in}
use Rattle.records.specs.declared.Circuit.{Circuit}
use Rattle.records.proofs.CellLaws.{cell_is, stored}
use Rattle.records.specs.Area.{lasts_in, rows_in}
use Rattle.rows.specs.inner.Area.{state_in, Shows, Placed}
use Rattle.rows.specs.inner.Colours.{blue_row, shown_as, shown, plain, LastsMoved, Around, between, painted}
use Rattle.rows.specs.declared.colours.Run.{Run}
use Rattle.rows.proofs.AreaLaws.{enter_row}
use Rattle.rows.proofs.LastLaws.{shown_paint, paint_moved, open_over}
use Rattle.rows.proofs.ShownLaws.{shown_red, shown_blue}

-- two tests that agree paint the same links
paint_same : (n colour : ℕ) (p q : ℕ → Bool) (K : List ℕ) → ((x : ℕ) → p x ≡ q x) → paint n p colour K ≡ paint n q colour K
unfolding paint
paint_same n colour p q K h = each_same (λ x. cond (p x) colour (at K x)) (λ x. cond (q x) colour (at K x)) 1 n (λ x a b. ap (λ (t : Bool). cond t colour (at K x)) (h x))

-- the links of the run
run_is : (n : ℕ) (K : List ℕ) (run : Run) → Around n K run → (x : ℕ) → between run.from run.past x ≡ in_run n K x
unfolding between in_run
run_is n K run y x = ap₂ (λ (f p : ℕ). leb f x && ltb x p) y.starts y.ends

-- the links of the run that a circuit uses are those between two ends
both : (f g l p x : ℕ) → between (max f l) (min (g + 1) p) x ≡ (between l p x && (leb f x && leb x g))
unfolding between
both f g l p x =
    by_le l x
    (λ a.
    by_le p x
    (λ b. rw (le-leb l x a, le-ltb x p b, le-ltb x (min (g + 1) p) (omega arith)) (and_false (leb (max f l) x)))
    (λ b.
    by_le f x
    (λ d.
    by_le x g
    (λ e. rw (le-leb l x a, lt-ltb x p b, le-leb f x d, le-leb x g e, le-leb (max f l) x (omega arith), lt-ltb x (min (g + 1) p) (omega arith)))
    (λ e. rw (le-leb l x a, lt-ltb x p b, le-leb f x d, lt-leb x g e, le-ltb x (min (g + 1) p) (omega arith)) (and_false (leb (max f l) x))))
    (λ d. rw (le-leb l x a, lt-ltb x p b, lt-leb f x d, lt-leb (max f l) x (omega arith)))))
    (λ a. rw (lt-leb l x a, lt-leb (max f l) x (omega arith)))

-- what was chosen is done: last rows D' are D, painted with v where p passes, and the colours are painted so too
acted : (n m k v colour : ℕ) (cs : List Circuit) (C C' R : List ℕ) (o : Option ℕ) (p q : ℕ → Bool) → run_from n (shown n k (lasts_in n C)) ≤ n
    → chosen n cs (state_in n m k C) ≡ o → act n cs k (state_in n m k C) o ≡ record { colours = paint n q colour (shown n k (lasts_in n C)); rows = R }
    → ((x : ℕ) → p x ≡ q x) → ((x : ℕ) → q x ≡ true → in_run n (shown n k (lasts_in n C)) x ≡ true)
    → shown_as k v ≡ cond (eqb colour taken) red colour → (v ≢ blue_row → v ≤ k)
    → take n C' ≡ take n C → lasts_in n C' ≡ paint n p v (lasts_in n C) → rows_in n m C' ≡ R
    → Shows n m k (plain n (step n cs k (state_in n m k C))) C C'
unfolding step
acted n m k v colour cs C C' R o p q line e z same inside shows small needs lasts rows =
    let D = lasts_in n C in
    let K : List ℕ = shown n k D in
    let d : lasts_in n C' ≡ paint n q v D = lasts ∙ paint_same n v p q D same in
    let s : step n cs k (state_in n m k C) ≡ record { colours = paint n q colour K; rows = R } = rw (le-leb (run_from n K) n line, e) z in
    record {
      needs = needs;
      state = ap₂ (λ (x y : List ℕ). record { colours = x; rows = y }) (ap (shown n k) d ∙ shown_paint n k v colour q D shows) rows ∙ sym (ap (plain n) s);
      moved = subst (LastsMoved n k D) (sym d) (paint_moved n k v q D small (λ x a b t. open_over n k D x a b (run_open n K x (inside x t))));
    }

-- nobody fits: the run turns blue
pub blue_step : (n m k : ℕ) (cs : List Circuit) (C C' : List ℕ) (run : Run) → k < 65535 → run.from ≤ n → Around n (shown n k (lasts_in n C)) run → chosen n cs (state_in n m k C) ≡ none
    → take n C' ≡ take n C → lasts_in n C' ≡ painted n run.from run.past blue_row (lasts_in n C) → rows_in n m C' ≡ rows_in n m C
    → Shows n m k (plain n (step n cs k (state_in n m k C))) C C'
unfolding act
blue_step n m k cs C C' run h line y e needs lasts rows =
    let K : List ℕ = shown n k (lasts_in n C) in
    acted n m k blue_row blue cs C C' (rows_in n m C) none (between run.from run.past) (in_run n K) (omega (arith, y.starts)) e refl (run_is n K run y) (λ x t. t)
    (shown_blue k blue_row h refl) (λ g. absurd (g refl)) needs lasts rows

-- a circuit is placed
pub place_step : (n m k p : ℕ) (cs : List Circuit) (C C' L L' : List ℕ) (run : Run) → k < 65535 → run.from ≤ n → Around n (shown n k (lasts_in n C)) run
    → chosen n cs (state_in n m k C) ≡ some (place_in m L p) → Placed n m k p run cs C C' L L' → Shows n m k (plain n (step n cs k (state_in n m k C))) C C'
unfolding act
place_step n m k p cs C C' L L' run h line y e g =
    let K : List ℕ = shown n k (lasts_in n C) in
    let c : Circuit = circuit cs (place_in m L p) in
    acted n m k k taken cs C C' (set (rows_in n m C) (place_in m L p) k) (some (place_in m L p)) (λ x. between run.from run.past x && uses c x) (λ x. in_run n K x && uses c x)
    (omega (arith, y.starts)) e refl (λ x. ap (λ (t : Bool). t && uses c x) (run_is n K run y x)) (λ x t. and_l (in_run n K x) (uses c x) t)
    (shown_red k k (omega arith) (omega arith)) (λ q. omega arith) g.needs g.lasts g.rows

-- what is read as the place of a circuit
pub place_read : (m p v j : ℕ) (l : List ℕ) → p < m → length l ≡ 8 * m → v ≡ cell l (2 * m + p) → j ≡ v → j ≡ place_in m (cells_of l) p
unfolding place_in
place_read m p v j l h len e i = i ∙ e ∙ cell_is l (2 * m + p) (omega arith)

-- what is done to place circuit j: it is taken out of the list, its row is stored, then its links are painted
pub placed : (n m k p j start past : ℕ) (s l l' b b' C'' : List ℕ) (c : Circuit) (run : Run) → place_in m (cells_of l) p < m
    → j ≡ place_in m (cells_of l) p → c ≡ circuit_of (record_at s j) → start ≡ max c.first run.from → past ≡ min (c.last + 1) run.past
    → l' ≡ set_cell l p 0 → b' ≡ set_cell b (2 * n + j) k
    → take n C'' ≡ take n (cells_of b') → lasts_in n C'' ≡ painted n start past k (lasts_in n (cells_of b')) → rows_in n m C'' ≡ rows_in n m (cells_of b')
    → Placed n m k p run (circuits_in m s) (cells_of b) C'' (cells_of l) (cells_of l')
unfolding uses
placed n m k p j start past s l l' b b' C'' c run below q r f g u w needs lasts rows =
    let J : ℕ = place_in m (cells_of l) p in
    let d : c ≡ circuit (circuits_in m s) J = r ∙ ap (λ (z : ℕ). circuit_of (record_at s z)) q ∙ sym (circuit_in_lem m s J below) in
    let t = enter_row n m J k (cells_of b) (cells_of b') below (stored b b' (2 * n + j) k w ∙ ap (λ (z : ℕ). set (cells_of b) (2 * n + z) k) q) in
    record {
      needs = needs ∙ t.0;
      lasts = lasts ∙ ap (painted n start past k) t.1
          ∙ paint_same n k (between start past) (λ x. between run.from run.past x && uses (circuit (circuits_in m s) J) x) (lasts_in n (cells_of b))
          (λ x. ap₂ (λ (a z : ℕ). between a z x) f g ∙ both c.first c.last run.from run.past x ∙ ap (λ (o : Circuit). between run.from run.past x && uses o x) d);
      rows = rows ∙ t.2;
      out = stored l l' p 0 u;
    }

-- and the queue without it
pub placed_queued : (n m k p : ℕ) (cs : List Circuit) (C C' L L' : List ℕ) (q : Queue) (run : Run) → 2 * n + m ≤ length C → 3 * m ≤ length L → 1 ≤ k → p < q.to
    → get_or (rows_in n m C) (place_in m L p) 0 ≡ 0 → Queued m cs (rows_in n m C) L q → Placed n m k p run cs C C' L L'
    → (1 ≤ q.many) × Queued m cs (rows_in n m C') L' (record { from = q.from; to = q.to; many = q.many - 1 })
placed_queued n m k p cs C C' L L' q run a b h l e y g =
    let r : length (rows_in n m C) ≡ m = length-take-le m (drop (2 * n) C) (omega (arith, length-drop (2 * n) C)) in
    let t = taken_out m k p cs (rows_in n m C) L q r b h l e y in
    let z : Queue = record { from = q.from; to = q.to; many = q.many - 1 } in (
      t.0,
      subst (λ (R : List ℕ). Queued m cs R L' z) (sym g.rows) (subst (λ (X : List ℕ). Queued m cs (set (rows_in n m C) (place_in m L p) k) X z) (sym g.out) t.1),
    )
