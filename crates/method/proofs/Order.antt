-- The same circuits in another file order, with or without gaps, have the same plan. Assumes nothing.
use Prim.Native.Nat.{◌*◌, ◌+◌, ◌-◌, ◌/◌, ◌<◌, ◌≤◌, suc, zero, ℕ}
use borrow.Author.Tests.{ne_eqb}
use lib.Dec.{eqb, leb}
use lib.ListN.{get_or, length, length-replicate}
use mathlib.Core.Bool.{Bool, ◌&&◌, cond, false, not, true}
use mathlib.Core.List.{List, ◌++◌}
use mathlib.Core.Option.{none, some}
use mathlib.Core.Path.{◌∙◌, ◌≡◌, ap, ap₂, fun_ext, refl, subst, sym}
use native.Mathlib.Omega.{arith}
use Rattle.basics.specs.Tools.{any, each, sum, top}
use Rattle.basics.proofs.Bools.{and_r, by_eq, clash, on}
use Rattle.basics.proofs.Counts.{pigeonhole}
use Rattle.basics.proofs.Searches.{SameLowest, any_both, both_found, lowest_both, none_found}
use Rattle.basics.proofs.Tables.{get_d_each}
use Rattle.records.specs.declared.Circuit.{Circuit}
use Rattle.method.specs.Fibres.{assignments, fibres, find, floor, given, in_layer, layer, layer_of, layers, on_first, on_first_by, pair_of, pairs, plan, runs, together, twice, wavelength_of}
use Rattle.method.specs.Line.{Assignment, assigned, circuit, over, overlap, unassigned, uses}
use Rattle.method.specs.Sheet.{State, act, at, begun, blue, chosen, fits, fresh, in_run, load, most, need, open', paint, red, red_to, row, row_of, rows, run_from, sheet, step, steps, taken}
use Rattle.method.proofs.Colours.{fits_real}
use Rattle.method.proofs.Links.{uses_first, uses_last}
use Rattle.method.proofs.Placed.{all_waiting}
use Rattle.method.proofs.Steps.{new_row, old_row, some_length}

-- the circuit is there: nobody is where the last link is 0
abbrev pub Real : List Circuit → ℕ → Type 0
Real cs i = 1 ≤ (circuit cs i).last

-- cs and ds hold the same circuits, in whatever order and with whatever gaps: there and back are the places in the other file
pub record Match (cs ds : List Circuit) : Type 0 where
  pub once : (i j : ℕ) → i < length cs → j < length cs → Real cs i → Real cs j → (circuit cs i).number ≡ (circuit cs j).number → i ≡ j
  pub once' : (i j : ℕ) → i < length ds → j < length ds → Real ds i → Real ds j → (circuit ds i).number ≡ (circuit ds j).number → i ≡ j
  pub gap : (i : ℕ) → i < length cs → 1 ≤ (circuit cs i).first
  pub gap' : (j : ℕ) → j < length ds → 1 ≤ (circuit ds j).first
  pub there : ℕ → ℕ
  pub back : ℕ → ℕ
  pub to : (i : ℕ) → i < length cs → Real cs i → (there i < length ds) × (circuit cs i ≡ circuit ds (there i))
  pub fro : (j : ℕ) → j < length ds → Real ds j → (back j < length cs) × (circuit ds j ≡ circuit cs (back j))

-- the other way round
pub turn : {cs ds : List Circuit} → Match cs ds → Match ds cs
turn h = record { once = h.once'; once' = h.once; gap = h.gap'; gap' = h.gap; there = h.back; back = h.there; to = h.fro; fro = h.to }

-- who uses a link is there
pub uses_real : (cs : List Circuit) (i x : ℕ) → 1 ≤ (circuit cs i).first → uses (circuit cs i) x ≡ true → Real cs i
uses_real cs i x g u = omega (arith, uses_first (circuit cs i) x u, uses_last (circuit cs i) x u)

-- who has the first fibre is there
first_real : (cs : List Circuit) (rows : List ℕ) (run : ℕ → ℕ) (e i : ℕ) → on_first_by cs rows run e i ≡ true → Real cs i
unfolding on_first_by
first_real cs rows run zero i t = clash false t refl
first_real cs rows run (suc e) i t =
    by_eq (circuit cs i).last (suc e) (λ q. omega arith) (λ q. first_real cs rows run e i (let t' = rw (ne_eqb _ _ q) at t in t'))

-- the loads are the same
load_le : (cs ds : List Circuit) → Match cs ds → (x : ℕ) → load cs x ≤ load ds x
unfolding load
load_le cs ds h x =
    pigeonhole (λ j. uses (circuit cs j) x) (length cs) (λ j. uses (circuit ds j) x) (length ds) h.there
    (λ j l e. let p = h.to j l (uses_real cs j x (h.gap j l) e) in (p.0, sym (ap (λ c. uses c x) p.1) ∙ e))
    (λ i j a b u v e.
    let ri = uses_real cs i x (h.gap i a) u in
    let rj = uses_real cs j x (h.gap j b) v in
    h.once i j a b ri rj (ap (λ c. c.number) ((h.to i a ri).1 ∙ ap (circuit ds) e ∙ sym (h.to j b rj).1)))

module _ (n w : ℕ) (cs ds : List Circuit) (h : Match cs ds) where
  -- c(i) is the same
  need_same : need w cs ≡ need w ds
  unfolding need
  need_same = fun_ext (λ x. ap (λ l. (l + (w - 1)) / w) (let a = load_le cs ds h x in let b = load_le ds cs (turn h) x in let e : load cs x ≡ load ds x = omega arith in e))

  -- M is the same
  pub most_match : most n w cs ≡ most n w ds
  unfolding most
  most_match = ap (λ f. top f n) need_same

  -- the red links are the same
  red_to_same : red_to n w cs ≡ red_to n w ds
  unfolding red_to
  red_to_same = ap₂ (λ (m : ℕ) (f : ℕ → ℕ). λ (i : ℕ). (m - f i) * w) most_match need_same

  -- the layers' runs are the same
  layers_same : (k : ℕ) → layers n w cs k ≡ layers n w ds k
  unfolding layers layer in_layer
  layers_same zero = refl
  layers_same (suc k) = ap₂ ◌++◌ (layers_same k) (ap₂ (λ (m : ℕ) (f : ℕ → ℕ). runs (suc k) (λ i. leb (suc m - suc k) (f i)) 1 n) most_match need_same)

  -- the pairs are the same
  pairs_same : pairs n w cs ≡ pairs n w ds
  unfolding pairs
  pairs_same = layers_same (most n w cs) ∙ ap (layers n w ds) most_match

  -- the fibres are the same
  pub fibres_match : fibres n w cs ≡ fibres n w ds
  unfolding fibres
  fibres_match = ap twice pairs_same

  -- the floor is the same
  pub floor_match : floor n w cs ≡ floor n w ds
  unfolding floor
  floor_match = ap (λ f. sum f n) need_same

  -- the same circuit, at place i of one file and j of the other
  pub record Twin (i j : ℕ) : Type 0 where
    pub in_cs : i < length cs
    pub in_ds : j < length ds
    pub real : Real cs i
    pub same : circuit cs i ≡ circuit ds j

  -- it is there in the other file too
  real' : (i j : ℕ) → Twin i j → Real ds j
  real' i j t = omega (arith, ap (λ c. c.last) t.same, t.real)

  -- each circuit of one file is in the other
  twin_to : (i : ℕ) → i < length cs → Real cs i → Twin i (h.there i)
  twin_to i l r = let b = h.to i l r in record { in_cs = l; in_ds = b.0; real = r; same = b.1 }

  -- and the other way
  twin_fro : (j : ℕ) → j < length ds → Real ds j → Twin (h.back j) j
  twin_fro j l r = let b = h.fro j l r in record { in_cs = b.0; in_ds = l; real = omega (arith, ap (λ c. c.last) b.1); same = sym b.1 }

  -- it has one place in the one
  twin_l : (i i' j : ℕ) → Twin i j → Twin i' j → i ≡ i'
  twin_l i i' j a b = h.once i i' a.in_cs b.in_cs a.real b.real (ap (λ c. c.number) (a.same ∙ sym b.same))

  -- and one in the other
  twin_r : (i j j' : ℕ) → Twin i j → Twin i j' → j ≡ j'
  twin_r i j j' a b = h.once' j j' a.in_ds b.in_ds (real' i j a) (real' i j' b) (ap (λ c. c.number) (sym a.same ∙ b.same))

  -- THE SHEETS: the same colours, and the same row for the same circuit
  pub record Alike (s t : State) : Type 0 where
    pub colours : s.colours ≡ t.colours
    pub sized : length s.rows ≡ length cs
    pub sized' : length t.rows ≡ length ds
    pub marked : (i j : ℕ) → Twin i j → row_of s i ≡ row_of t j

  -- nobody fits in both sheets, or the same circuit is chosen
  data Choices (s t : State) : Type 0 where
    -- nobody fits
    neither : chosen n cs s ≡ none → chosen n ds t ≡ none → Choices s t
    -- the same circuit is chosen
    both : (i j : ℕ) → Twin i j → chosen n cs s ≡ some i → chosen n ds t ≡ some j → Choices s t

  -- that is so in sheets that are alike
  choices : (s t : State) → Alike s t → Choices s t
  unfolding chosen
  choices s t a =
      pick
      (lowest_both ok ok' (λ i. (circuit cs i).number) (λ j. (circuit ds j).number) (length cs) (length ds)
      (λ i l u. let b = twin_to i l (ok_real i u) in (h.there i, b.in_ds, sym (same i (h.there i) b) ∙ u, sym (ap (λ c. c.number) b.same)))
      (λ j l u. let b = twin_fro j l (ok_real' j u) in (h.back j, b.in_cs, same (h.back j) j b ∙ u, ap (λ c. c.number) b.same)))
    where
      -- who may be chosen in the one sheet
      ok : ℕ → Bool
      ok i = eqb (row_of s i) 0 && fits n s.colours (circuit cs i)

      -- and in the other
      ok' : ℕ → Bool
      ok' j = eqb (row_of t j) 0 && fits n t.colours (circuit ds j)

      -- who may be chosen is there
      ok_real : (i : ℕ) → ok i ≡ true → Real cs i
      ok_real i e = fits_real n s.colours (circuit cs i) (and_r (eqb (row_of s i) 0) _ e)

      -- in the other too
      ok_real' : (j : ℕ) → ok' j ≡ true → Real ds j
      ok_real' j e = fits_real n t.colours (circuit ds j) (and_r (eqb (row_of t j) 0) _ e)

      -- the same circuit may be chosen in both
      same : (i j : ℕ) → Twin i j → ok i ≡ ok' j
      same i j c = ap₂ ◌&&◌ (ap (λ m. eqb m 0) (a.marked i j c)) (ap₂ (fits n) a.colours c.same)

      -- one circuit has the lowest number in both
      pick : SameLowest ok ok' (λ i. (circuit cs i).number) (λ j. (circuit ds j).number) (length cs) (length ds) → Choices s t
      pick (none_found e f) = neither e f
      pick (both_found i j y z q e f) =
          let c = twin_fro j z.below (ok_real' j z.passes) in
          let r : i ≡ h.back j = h.once i (h.back j) y.below c.in_cs (ok_real i y.passes) c.real (q ∙ sym (ap (λ c. c.number) c.same)) in
          both i j (subst (λ i. Twin i j) (sym r) c) e f

  -- the run turns blue in both
  quiet : (k : ℕ) (s t : State) → Alike s t → Alike (act n cs k s none) (act n ds k t none)
  unfolding act
  quiet k s t a = record { colours = ap (λ x. paint n (in_run n x) blue x) a.colours; sized = a.sized; sized' = a.sized'; marked = a.marked }

  -- the same links are taken
  colours_loud : (k : ℕ) (s t : State) (i j : ℕ) → s.colours ≡ t.colours → circuit cs i ≡ circuit ds j → (act n cs k s (some i)).colours ≡ (act n ds k t (some j)).colours
  unfolding act
  colours_loud k s t i j e c = ap₂ (λ (x : List ℕ) (d : Circuit). paint n (λ i. in_run n x i && uses d i) taken x) e c

  -- the same circuit is placed in both
  loud : (k : ℕ) (s t : State) (i j : ℕ) → Twin i j → Alike s t → Alike (act n cs k s (some i)) (act n ds k t (some j))
  loud k s t i j c a =
      record {
        colours = colours_loud k s t i j a.colours c.same;
        sized = some_length n cs k s i ∙ a.sized;
        sized' = some_length n ds k t j ∙ a.sized';
        marked = λ x y d.
            by_eq x i
            (λ q.
            let r : y ≡ j = twin_r i y j (subst (λ z. Twin z y) q d) c in
            ap (row_of (act n cs k s (some i))) q ∙ new_row n cs k s i (omega (arith, a.sized, c.in_cs)) ∙ sym (ap (row_of (act n ds k t (some j))) r ∙ new_row n ds k t j (omega (arith, a.sized', c.in_ds))))
            (λ q.
            old_row n cs k s i x q ∙ a.marked x y d ∙ sym (old_row n ds k t j y (λ r. q (twin_l x i j (subst (λ z. Twin x z) r d) c))));
      }

  -- so the sheets stay alike
  act_alike : (k : ℕ) (s t : State) → Alike s t → Choices s t → Alike (act n cs k s (chosen n cs s)) (act n ds k t (chosen n ds t))
  act_alike k s t a (neither e f) = rw (e, f) (quiet k s t a)
  act_alike k s t a (both i j c e f) = rw (e, f) (loud k s t i j c a)

  -- after a step
  pub step_alike : (k : ℕ) (s t : State) → Alike s t → Alike (step n cs k s) (step n ds k t)
  unfolding step
  step_alike k s t a =
      let e : leb (run_from n s.colours) n ≡ leb (run_from n t.colours) n = ap (λ x. leb (run_from n x) n) a.colours in
      on (leb (run_from n t.colours) n)
      (λ q. let q' = e ∙ q in rw (q', q) (act_alike k s t a (choices s t a)))
      (λ q. let q' = e ∙ q in rw (q', q) a)

  -- after some steps
  steps_alike : (f k : ℕ) (s t : State) → Alike s t → Alike (steps n cs f k s) (steps n ds f k t)
  unfolding steps
  steps_alike zero k s t a = a
  steps_alike (suc f) k s t a = steps_alike f k (step n cs k s) (step n ds k t) (step_alike k s t a)

  -- after a row
  row_alike : (k : ℕ) (s t : State) → Alike s t → Alike (row n w cs k s) (row n w ds k t)
  unfolding row begun fresh
  row_alike k s t a =
      steps_alike n k (begun n w cs k s) (begun n w ds k t)
      (record {
        colours = ap₂ (λ (r : ℕ → ℕ) (x : List ℕ). each (λ i. cond (leb k (r i)) red (cond (eqb (at x i) blue) blue open')) 1 n) red_to_same a.colours;
        sized = a.sized;
        sized' = a.sized';
        marked = a.marked;
      })

  -- after k rows
  pub sheet_alike : (k : ℕ) → Alike (sheet n w cs k) (sheet n w ds k)
  unfolding sheet
  sheet_alike zero =
      record { colours = refl; sized = length-replicate (length cs) 0; sized' = length-replicate (length ds) 0; marked = λ i j c. all_waiting n w cs i ∙ sym (all_waiting n w ds j) }
  sheet_alike (suc k) = row_alike (suc k) (sheet n w cs k) (sheet n w ds k) (sheet_alike k)

  -- the same row for the same circuit
  pub rows_match : (i j : ℕ) → Twin i j → get_or (rows n w cs) i 0 ≡ get_or (rows n w ds) j 0
  unfolding rows
  rows_match i j c = (sheet_alike (most n w cs * w)).marked i j c ∙ ap (λ m. row_of (sheet n w ds (m * w)) j) most_match

  -- some circuit of the one file passes if and only if one of the other does
  pub any_match : (p q : ℕ → Bool) → ((i : ℕ) → i < length cs → p i ≡ true → Real cs i) → ((j : ℕ) → j < length ds → q j ≡ true → Real ds j) → ((i j : ℕ) → Twin i j → p i ≡ q j) → any p (length cs) ≡ any q (length ds)
  any_match p q rp rq e =
      any_both p q (length cs) (length ds)
      (λ i l u. let b = twin_to i l (rp i l u) in (h.there i, b.in_ds, sym (e i (h.there i) b) ∙ u))
      (λ j l u. let b = twin_fro j l (rq j l u) in (h.back j, b.in_cs, e (h.back j) j b ∙ u))

  -- the same pair
  pair_same : (i j : ℕ) → Twin i j → pair_of n w cs (rows n w cs) i ≡ pair_of n w ds (rows n w ds) j
  unfolding pair_of
  pair_same i j c =
      ap₂ (λ (r : ℕ) (d : Circuit). find (λ f. eqb f.layer (layer_of w r) && over f d.first) (pairs n w cs)) (rows_match i j c) c.same
      ∙ ap (find (λ f. eqb f.layer (layer_of w (get_or (rows n w ds) j 0)) && over f (circuit ds j).first)) pairs_same

  -- first or second, in the sweep of the one file
  abbrev first_cs : ℕ → ℕ → Bool
  first_cs = on_first_by cs (rows n w cs) (pair_of n w cs (rows n w cs))

  -- and of the other
  abbrev first_ds : ℕ → ℕ → Bool
  first_ds = on_first_by ds (rows n w ds) (pair_of n w ds (rows n w ds))

  -- two pairs of twins are together in both files or in neither
  together_same : (x y i j : ℕ) → Twin x y → Twin i j
      → together cs (rows n w cs) (pair_of n w cs (rows n w cs)) x i ≡ together ds (rows n w ds) (pair_of n w ds (rows n w ds)) y j
  unfolding together
  together_same x y i j d c = ap₂ ◌&&◌ (ap₂ eqb (rows_match x y d) (rows_match i j c)) (ap₂ eqb (pair_same x y d) (pair_same i j c))

  -- the sweep finds the same
  swept_same : (e i j : ℕ) → Twin i j → first_cs e i ≡ first_ds e j
  unfolding on_first_by
  swept_same zero i j c = refl
  swept_same (suc e) i j c =
      let p : ℕ → Bool = λ d. together cs (rows n w cs) (pair_of n w cs (rows n w cs)) d i && leb (circuit cs d).last e && overlap (circuit cs d) (circuit cs i) && first_cs e d in
      let q : ℕ → Bool = λ d. together ds (rows n w ds) (pair_of n w ds (rows n w ds)) d j && leb (circuit ds d).last e && overlap (circuit ds d) (circuit ds j) && first_ds e d in
      let inner : (x y : ℕ) → Twin x y → p x ≡ q y =
      λ x y d. ap₂ ◌&&◌ (ap₂ ◌&&◌ (ap₂ ◌&&◌ (together_same x y i j d c) (ap (λ z. leb z.last e) d.same)) (ap₂ overlap d.same c.same)) (swept_same e x y d) in
      let a : any p (length cs) ≡ any q (length ds) =
      any_match p q
      (λ d l u. first_real cs (rows n w cs) (pair_of n w cs (rows n w cs)) e d (and_r (together cs (rows n w cs) (pair_of n w cs (rows n w cs)) d i && leb (circuit cs d).last e && overlap (circuit cs d) (circuit cs i)) _ u))
      (λ d l u. first_real ds (rows n w ds) (pair_of n w ds (rows n w ds)) e d (and_r (together ds (rows n w ds) (pair_of n w ds (rows n w ds)) d j && leb (circuit ds d).last e && overlap (circuit ds d) (circuit ds j)) _ u))
      inner in
      three (eqb (circuit cs i).last (suc e)) (eqb (circuit ds j).last (suc e)) (ap (λ d. eqb d.last (suc e)) c.same) a (swept_same e i j c)
    where
      -- a test and its two answers
      three : (x x' : Bool) {y y' z z' : Bool} → x ≡ x' → y ≡ y' → z ≡ z' → cond x (not y) z ≡ cond x' (not y') z'
      three x x' e f g = cc

  -- first or second alike
  first_same : (i j : ℕ) → Twin i j → on_first cs (rows n w cs) (pair_of n w cs (rows n w cs)) i ≡ on_first ds (rows n w ds) (pair_of n w ds (rows n w ds)) j
  unfolding on_first
  first_same i j c = swept_same (circuit cs i).last i j c ∙ ap (λ d. first_ds d.last j) c.same

  -- the same fibre and wavelength
  given_same : (i j : ℕ) → Twin i j → given n w cs (rows n w cs) i ≡ given n w ds (rows n w ds) j
  unfolding given
  given_same i j c =
      ap₂ (λ (f v : ℕ). let r : Assignment = record { fibre = f; wavelength = v } in r)
      (ap₂ (λ (q : ℕ) (b : Bool). 2 * q + cond b 1 2) (pair_same i j c) (first_same i j c))
      (ap (wavelength_of w) (rows_match i j c))

  -- so the plan gives the same to the same circuit
  pub plan_match : (i j : ℕ) → Twin i j → assigned (plan n w cs) i ≡ assigned (plan n w ds) j
  unfolding assigned plan assignments
  plan_match i j c =
      get_d_each (given n w cs (rows n w cs)) 0 (length cs) i unassigned c.in_cs
      ∙ (let a : 0 + i ≡ i = omega arith in let b : 0 + j ≡ j = omega arith in ap (given n w cs (rows n w cs)) a ∙ given_same i j c ∙ sym (ap (given n w ds (rows n w ds)) b))
      ∙ sym (get_d_each (given n w ds (rows n w ds)) 0 (length ds) j unassigned c.in_ds)
