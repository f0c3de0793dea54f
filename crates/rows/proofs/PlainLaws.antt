-- Taken links may count as red: the steps of a row go alike. So last rows are enough to fill a row. Assumes nothing.
use Rattle.std.proofs.Common.{◌≡◌, ℕ, zero, suc, ◌-◌, ◌*◌, ◌<◌, ◌≤◌, Bool, true, false, cond, ◌&&◌, eqb, ltb, leb, List, length, set, sym, refl, ap, ◌∙◌, subst, ap₂, arith, eq-eqb, ne_eqb, le-leb}
use mathlib.Core.Path.{fun_ext}
use mathlib.Core.Option.{Option, none, some}
use borrow.Author.Tests.{lt-leb}
use Rattle.basics.specs.Tools.{lowest}
use Rattle.basics.proofs.Bools.{on, by_eq, by_le}
use Rattle.basics.proofs.Tables.{each_same, length_each}
use Rattle.method.specs.Line.{Lies, circuit, uses}
use Rattle.method.specs.Sheet.{State, at, red, blue, taken, open', row_of, most, need, run_from, in_run, fits, paint, chosen, act, step, steps, red_to, fresh, begun, row, sheet}
use Rattle.method.proofs.Closed.{opens, opens_same}
use Rattle.method.proofs.Colours.{at_each, at_paint, from_same, in_run_same, fits_same}
use Rattle.method.proofs.Placed.{fresh_at}
use Rattle.method.proofs.Steps.{step_keeps}
use Rattle.records.specs.declared.Circuit.{Circuit}
use Rattle.records.specs.Area.{lasts_in, rows_in}
use Rattle.rows.specs.inner.Area.{state_in, Shows}
use Rattle.rows.specs.inner.Colours.{blue_row, shown_as, shown, alike, plain, LastsMoved}
use Rattle.rows.specs.inner.Sheeted.{Resting, Sheeted}
use Rattle.rows.proofs.Written.{at_past}
use Rattle.rows.proofs.RedLaws.{red_low}
use Rattle.rows.proofs.ShownLaws.{shown_at, shown_open, shown_blue, shown_red, shown_blues}

-- a colour, with red for taken
abbrev tone : ℕ → ℕ
tone c = cond (eqb c taken) red c

-- once is as good as twice
tone_tone : (c : ℕ) → tone (tone c) ≡ tone c
tone_tone c = on (eqb c taken) (λ e. rw e) (λ e. rw (e, e))

-- after a change of one colour too
tone_cond : (b : Bool) (v c : ℕ) → tone (cond b v (tone c)) ≡ tone (cond b v c)
tone_cond true v c = refl
tone_cond false v c = tone_tone c

-- who is open stays open
tone_open : (c : ℕ) → eqb (tone c) open' ≡ eqb c open'
tone_open c = by_eq c taken (λ e. rw e) (λ e. rw (ne_eqb c taken e))

-- and who is blue stays blue
tone_blue : (c : ℕ) → eqb (tone c) blue ≡ eqb c blue
tone_blue c = by_eq c taken (λ e. rw e) (λ e. rw (ne_eqb c taken e))

-- a link of the line has its tone
alike_in : (n : ℕ) (K : List ℕ) (x : ℕ) → 1 ≤ x → x ≤ n → at (alike n K) x ≡ tone (at K x)
unfolding alike
alike_in n K x a b = at_each (λ x. tone (at K x)) n x a b

-- and so has any other
alike_at : (n : ℕ) (K : List ℕ) → length K ≡ n → (x : ℕ) → at (alike n K) x ≡ tone (at K x)
unfolding alike at
alike_at n K l zero = refl
alike_at n K l (suc x) =
    by_le (suc x) n (λ h. alike_in n K (suc x) (omega arith) h)
    (λ h. at_past (alike n K) (suc x) (omega (arith, length_each (λ x. tone (at K x)) 1 n)) ∙ sym (ap tone (at_past K (suc x) (omega arith))))

-- so the same links are open
alike_open : (n : ℕ) (K : List ℕ) → length K ≡ n → (x : ℕ) → eqb (at (alike n K) x) open' ≡ eqb (at K x) open'
alike_open n K l x = ap (λ (c : ℕ). eqb c open') (alike_at n K l x) ∙ tone_open (at K x)

-- and the same links are blue
alike_blue : (n : ℕ) (K : List ℕ) → length K ≡ n → (x : ℕ) → eqb (at (alike n K) x) blue ≡ eqb (at K x) blue
alike_blue n K l x = ap (λ (c : ℕ). eqb c blue) (alike_at n K l x) ∙ tone_blue (at K x)

-- the run starts at the same link
pub plain_from : (n : ℕ) (s : State) → length s.colours ≡ n → run_from n (plain n s).colours ≡ run_from n s.colours
plain_from n s l = from_same n (alike n s.colours) s.colours (alike_open n s.colours l)

-- as many links are open
pub plain_opens : (n : ℕ) (s : State) → length s.colours ≡ n → opens n (plain n s) ≡ opens n s
plain_opens n s l = opens_same n (plain n s) s (alike_open n s.colours l)

-- the same circuit is chosen
plain_chosen : (n : ℕ) (cs : List Circuit) (s : State) → length s.colours ≡ n → chosen n cs (plain n s) ≡ chosen n cs s
unfolding chosen
plain_chosen n cs s l =
    let p : ℕ → Bool = λ j. eqb (row_of s j) 0 && fits n (alike n s.colours) (circuit cs j) in
    let q : ℕ → Bool = λ j. eqb (row_of s j) 0 && fits n s.colours (circuit cs j) in
    let e : p ≡ q = fun_ext (λ j. ap (λ (t : Bool). eqb (row_of s j) 0 && t)
    (fits_same n (alike n s.colours) s.colours (alike_open n s.colours l) (alike_blue n s.colours l) (circuit cs j))) in
    ap (λ (t : ℕ → Bool). lowest t (λ j. (circuit cs j).number) (length cs)) e

-- two lists with equal tones
alike_same : (n : ℕ) (K K' : List ℕ) → ((x : ℕ) → 1 ≤ x → x ≤ n → tone (at K x) ≡ tone (at K' x)) → alike n K ≡ alike n K'
unfolding alike
alike_same n K K' h = each_same (λ x. tone (at K x)) (λ x. tone (at K' x)) 1 n (λ x a b. h x a (omega arith))

-- a state is as plain as it gets
plain_plain : (n : ℕ) (s : State) → plain n (plain n s) ≡ plain n s
plain_plain n s =
    ap (λ (K : List ℕ). record { colours = K; rows = s.rows })
    (alike_same n (alike n s.colours) s.colours (λ x a b. ap tone (alike_in n s.colours x a b) ∙ tone_tone (at s.colours x)))

-- painting the same links
plain_paint : (n v : ℕ) (p q : ℕ → Bool) (K : List ℕ) → ((x : ℕ) → p x ≡ q x) → alike n (paint n p v (alike n K)) ≡ alike n (paint n q v K)
plain_paint n v p q K h =
    alike_same n (paint n p v (alike n K)) (paint n q v K)
    (λ x a b.
    ap tone (at_paint n p v (alike n K) x a b ∙ ap₂ (λ (t : Bool) (c : ℕ). cond t v c) (h x) (alike_in n K x a b)) ∙ tone_cond (q x) v (at K x)
    ∙ sym (ap tone (at_paint n q v K x a b)))

-- the same is done with the run
plain_act : (n k : ℕ) (cs : List Circuit) (s : State) (o : Option ℕ) → length s.colours ≡ n → plain n (act n cs k (plain n s) o) ≡ plain n (act n cs k s o)
unfolding act
plain_act n k cs s none l =
    ap (λ (K : List ℕ). record { colours = K; rows = s.rows })
    (plain_paint n blue (in_run n (alike n s.colours)) (in_run n s.colours) s.colours (in_run_same n (alike n s.colours) s.colours (alike_open n s.colours l)))
plain_act n k cs s (some j) l =
    ap (λ (K : List ℕ). record { colours = K; rows = set s.rows j k })
    (plain_paint n taken (λ x. in_run n (alike n s.colours) x && uses (circuit cs j) x) (λ x. in_run n s.colours x && uses (circuit cs j) x) s.colours
    (λ x. ap (λ (t : Bool). t && uses (circuit cs j) x) (in_run_same n (alike n s.colours) s.colours (alike_open n s.colours l) x)))

-- a step from a plain state
pub plain_step : (n k : ℕ) (cs : List Circuit) (s : State) → Lies n cs → length s.colours ≡ n → plain n (step n cs k (plain n s)) ≡ plain n (step n cs k s)
unfolding step
plain_step n k cs s lies l =
    on (leb (run_from n s.colours) n)
    (λ e. rw (plain_from n s l, e, plain_chosen n cs s l) (plain_act n k cs s (chosen n cs s) l))
    (λ e. rw (plain_from n s l, e) (plain_plain n s))

-- a step keeps the number of links
pub step_long : (n k : ℕ) (cs : List Circuit) (s : State) → length s.colours ≡ n → length (step n cs k s).colours ≡ n
unfolding act paint
step_long n k cs s l = step_keeps n cs k (λ s. length s.colours ≡ n) (λ s h a f. length_each _ 1 n) (λ s j h a b m f. length_each _ 1 n) s l

-- plain colours are as many
plain_long : (n : ℕ) (s : State) → length (plain n s).colours ≡ n
unfolding alike
plain_long n s = length_each (λ x. tone (at s.colours x)) 1 n

-- steps from a plain state
plain_steps : (n f k : ℕ) (cs : List Circuit) (s : State) → Lies n cs → length s.colours ≡ n → plain n (steps n cs f k (plain n s)) ≡ plain n (steps n cs f k s)
unfolding steps
plain_steps n zero k cs s lies l = plain_plain n s
plain_steps n (suc f) k cs s lies l =
    sym (plain_steps n f k cs (step n cs k (plain n s)) lies (step_long n k cs (plain n s) (plain_long n s)))
    ∙ ap (λ (t : State). plain n (steps n cs f k t)) (plain_step n k cs s lies l)
    ∙ plain_steps n f k cs (step n cs k s) lies (step_long n k cs s l)

-- the colour that a last row shows is open, blue or red
pub shown_tone : (k d : ℕ) → tone (shown_as k d) ≡ shown_as k d
unfolding shown_as
shown_tone k d = on (ltb d k) (λ e. rw e) (λ e. on (eqb d blue_row) (λ f. rw (e, f)) (λ f. rw (e, f)))

-- two lists that show equal colours
pub shown_is : (n k : ℕ) (D K : List ℕ) → ((x : ℕ) → 1 ≤ x → x ≤ n → shown_as k (at D x) ≡ tone (at K x)) → shown n k D ≡ alike n K
unfolding shown alike
shown_is n k D K h = each_same (λ x. shown_as k (at D x)) (λ x. tone (at K x)) 1 n (λ x a b. h x a (omega arith))

-- what last rows show is plain
pub shown_plain : (n m k : ℕ) (C : List ℕ) → plain n (state_in n m k C) ≡ state_in n m k C
shown_plain n m k C =
    ap (λ (K : List ℕ). record { colours = K; rows = rows_in n m C })
    (sym (shown_is n k (lasts_in n C) (shown n k (lasts_in n C)) (λ x a b. sym (ap tone (shown_at n k (lasts_in n C) x a b) ∙ shown_tone k (at (lasts_in n C) x)))))

-- nothing moved
pub moved_refl : (n k : ℕ) (D : List ℕ) → LastsMoved n k D D
moved_refl n k D = record { stays = λ x a b h. refl; low = λ x a b h e. omega arith }

-- one move after another
pub moved_then : (n k : ℕ) (D D' D'' : List ℕ) → LastsMoved n k D D' → LastsMoved n k D' D'' → LastsMoved n k D D''
moved_then n k D D' D'' p q =
    record {
      stays = λ x a b h. let e = p.stays x a b h in q.stays x a b (omega arith) ∙ e;
      low = λ x a b h e.
          by_le k (at D' x)
          (λ g. let t = q.stays x a b g in omega (arith, p.low x a b h (λ z. e (t ∙ z))))
          (λ g. q.low x a b g e);
    }

-- THE NEXT ROW
-- the last red row is one of the sheet's
red_to_low : (n w : ℕ) (cs : List Circuit) (x : ℕ) → red_to n w cs x ≤ most n w cs * w
unfolding red_to
red_to_low n w cs x = red_low (most n w cs) w (need w cs x) (most n w cs * w) (omega arith)

-- the colours as row k begins are what the last rows show
begun_is : (n w k : ℕ) (cs : List Circuit) (K D : List ℕ) → k < 65534 → most n w cs * w ≤ 65533 → Resting n w k cs K D → shown n (suc k) D ≡ alike n (fresh n w cs (suc k) K)
begun_is n w k cs K D low few y =
    shown_is n (suc k) D (fresh n w cs (suc k) K)
    (λ x a b.
    let r = red_to n w cs x in
    let q = red_to_low n w cs x in
    let e = fresh_at n w cs (suc k) K x a b in
    by_le (suc k) r
    (λ h. let z = y.reds x a b h in
    shown_red (suc k) (at D x) (omega arith) (omega arith) ∙ sym (ap tone (e ∙ ap (λ (t : Bool). cond t red (cond (eqb (at K x) blue) blue open')) (le-leb (suc k) r h))))
    (λ h.
    let f : cond (leb (suc k) r) red (cond (eqb (at K x) blue) blue open') ≡ cond (eqb (at D x) blue_row) blue open' =
    ap₂ (λ (t u : Bool). cond t red (cond u blue open')) (lt-leb (suc k) r h) (sym (y.blues x a b)) in
    by_eq (at D x) blue_row
    (λ g. shown_blue (suc k) (at D x) (omega arith) g ∙ sym (ap tone (e ∙ f ∙ ap (λ (t : Bool). cond t blue open') (eq-eqb (at D x) blue_row g))))
    (λ g. shown_open (suc k) (at D x) (omega (arith, y.over x a b (omega arith) g)) ∙ sym (ap tone (e ∙ f ∙ ap (λ (t : Bool). cond t blue open') (ne_eqb (at D x) blue_row g))))))

-- a row more
pub sheet_turn : (n m w k : ℕ) (cs : List Circuit) (C C' : List ℕ) → Lies n cs → length cs ≡ m → 1 ≤ k → k < 65535 → most n w cs * w ≤ 65533 → Sheeted n m w (k - 1) cs C
    → Shows n m k (plain n (steps n cs n k (state_in n m k C))) C C' → Sheeted n m w k cs C'
unfolding sheet row begun fresh
sheet_turn n m w zero cs C C' lies len pos low few h g = absurd (omega arith)
sheet_turn n m w (suc k) cs C C' lies len pos low few h g =
    let z : suc k - 1 ≡ k = omega arith in
    let y : Sheeted n m w k cs C = subst (λ (j : ℕ). Sheeted n m w j cs C) z h in
    let D : List ℕ = lasts_in n C in
    let D' : List ℕ = lasts_in n C' in
    let b : State = begun n w cs (suc k) (sheet n w cs k) in
    let K' : List ℕ = (steps n cs n (suc k) b).colours in
    let q : state_in n m (suc k) C ≡ plain n b =
    ap₂ (λ (X Y : List ℕ). record { colours = X; rows = Y }) (begun_is n w k cs (sheet n w cs k).colours D (omega arith) few y.resting) y.rows in
    let e : state_in n m (suc k) C' ≡ plain n (steps n cs n (suc k) b) =
    g.state ∙ ap (λ (t : State). plain n (steps n cs n (suc k) t)) q ∙ plain_steps n n (suc k) cs b lies (length_each _ 1 n) in
    record {
      needs = g.needs ∙ y.needs;
      rows = ap (λ (t : State). t.rows) e;
      resting = record {
        blues = λ x l u.
            sym (shown_blues (suc k) (at D' x) low)
            ∙ ap (λ (c : ℕ). eqb c blue) (sym (shown_at n (suc k) D' x l u) ∙ ap (λ (t : State). at t.colours x) e ∙ alike_in n K' x l u) ∙ tone_blue (at K' x);
        reds = λ x l u f.
            let d = y.resting.reds x l u (omega arith) in
            g.moved.stays x l u (omega arith) ∙ d;
        over = λ x l u f t.
            by_eq (red_to n w cs x) (suc k)
            (λ r.
            let d = y.resting.reds x l u (omega arith) in
            let d' = g.moved.stays x l u (omega arith) in
            omega arith)
            (λ r.
            by_eq (at D x) blue_row
            (λ v. absurd (t (g.moved.stays x l u (omega arith) ∙ v)))
            (λ v. let d = y.resting.over x l u (omega arith) v in g.moved.low x l u (omega arith) t));
      };
    }
