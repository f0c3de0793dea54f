-- One side of an idle link (R-9): row k of the side alone is row k + more of the whole sheet, so the wavelengths agree. Assumes nothing.
use Prim.Native.Nat.{◌*◌, ◌+◌, ◌-◌, ◌/◌, ◌<◌, ◌≤◌, suc, zero, ℕ}
use borrow.Author.Tests.{le-leb, lt-leb}
use lib.Dec.{eqb, leb}
use lib.ListN.{get_or, length}
use mathlib.Core.Bool.{Bool, cond, true}
use mathlib.Core.List.{List}
use mathlib.Core.Logic.{◌≢◌, inl, ⊎_elim}
use mathlib.Core.Path.{◌∙◌, ◌≡◌, ap, refl, subst, sym}
use native.Mathlib.Nat.{add-mul, add-mul-div_right}
use native.Mathlib.Omega.{arith}
use Rattle.basics.proofs.Bools.{by_eq, by_le, on}
use Rattle.records.specs.declared.Circuit.{Circuit}
use Rattle.method.specs.Fibres.{layer_of, wavelength_of}
use Rattle.method.specs.Line.{circuit, uses}
use Rattle.method.specs.Sheet.{State, at, begun, blue, most, open', red, red_to, row, row_of, rows, run_from, sheet, step, steps}
use Rattle.method.proofs.Closed.{row_closed, step_idle, steps_idle}
use Rattle.method.proofs.Colours.{from_open, from_pos}
use Rattle.method.proofs.Links.{lies_proper, lies_there, uses_of}
use Rattle.method.proofs.Placed.{after, all_red, all_waiting, fresh_at}
use Rattle.method.proofs.SideLoads.{Half, layers_more, more, red_to_idle, red_to_in, red_to_out, rows_more}
use Rattle.method.proofs.SideSteps.{Beside, step_both, step_off}
use Rattle.method.proofs.ValidPlan.{final, is_placed}

-- steps after steps
steps_add : (n : ℕ) (ds : List Circuit) (k a b : ℕ) (s : State) → steps n ds (a + b) k s ≡ steps n ds b k (steps n ds a k s)
unfolding steps
steps_add n ds k zero b s = ap (λ f. steps n ds f k s) (let e : 0 + b ≡ b = omega arith in e)
steps_add n ds k (suc a) b s = ap (λ f. steps n ds f k s) (let e : suc a + b ≡ suc (a + b) = omega arith in e) ∙ steps_add n ds k a b (step n ds k s)

module _ (n w z : ℕ) (side : ℕ → Bool) (cs ds : List Circuit) (h : Half n w z side cs ds) where
  -- how many rows later the side's rows come in the whole sheet
  abbrev add : ℕ
  add = more n w z side cs ds h

  -- a state of the whole sheet and one of the side's sheet
  abbrev Twin : State → State → Type 0
  Twin = Beside n w z side cs ds h

  -- the steps of a row of the whole sheet are those of the side, with others between
  in_step : (k : ℕ) → 1 ≤ k → (f : ℕ) (s t : State) → Twin s t → (g : ℕ) × (g ≤ f) × Twin (steps n cs f (k + add) s) (steps n ds g k t)
  unfolding steps
  in_step k pos zero s t y = (0, omega arith, y)
  in_step k pos (suc f) s t y =
      by_le (run_from n s.colours) n
      (λ l.
      on (side (run_from n s.colours))
      (λ e. let r = in_step k pos f (step n cs (k + add) s) (step n ds k t) (step_both n w z side cs ds h s t y l e k pos) in let r₁ = r.1 in (suc r.0, omega arith, r.2))
      (λ e. let r = in_step k pos f (step n cs (k + add) s) t (step_off n w z side cs ds h s t y l e (k + add)) in let r₁ = r.1 in (r.0, omega arith, r.2)))
      (λ l.
      let r = in_step k pos f (step n cs (k + add) s) t (subst (λ s'. Twin s' t) (sym (step_idle n cs (k + add) s l)) y) in
      let r₁ = r.1 in
      (r.0, omega arith, r.2))

  -- and both end with no open link
  steps_both : (k : ℕ) → 1 ≤ k → (s t : State) → Twin s t → Twin (steps n cs n (k + add) s) (steps n ds n k t)
  steps_both k pos s t y =
      let r = in_step k pos n s t y in
      let g = r.0 in
      let r₁ = r.1 in
      let t' = steps n ds g k t in
      let shut : n < run_from n t'.colours =
      by_le (run_from n t'.colours) n
      (λ l.
      let x = run_from n t'.colours in
      let p = from_pos n t'.colours in
      let o = from_open n t'.colours l in
      on (side x) (λ e. absurd (row_closed n cs (lies_there n cs h.lies) (k + add) s x p l (sym (r.2.colours x p l e) ∙ o)))
      (λ e. absurd (omega (arith, r.2.rest x p l e))))
      (λ l. l) in
      let e : steps n ds n k t ≡ t' =
      ap (λ f. steps n ds f k t) (let e : n ≡ g + (n - g) = omega arith in e) ∙ steps_add n ds k g (n - g) t ∙ steps_idle n ds (n - g) k t' shut in
      subst (λ u. Twin (steps n cs n (k + add) s) u) (sym e) r.2

  -- as a row begins
  begin_both : (k : ℕ) → k ≤ most n w ds * w → (s t : State) → Twin s t
      → Twin (begun n w cs (k + add) s) (begun n w ds k t)
  unfolding begun
  begin_both k l s t y =
      record {
        colours = λ x a b e. fresh_at n w ds k t.colours x a b ∙ alike x a b e ∙ sym (fresh_at n w cs (k + add) s.colours x a b);
        rest = λ x a b e. fresh_at n w ds k t.colours x a b ∙ rw (le-leb k (red_to n w ds x) (let q = red_to_out n w z side cs ds h x e in omega arith));
        idle = fresh_at n w cs (k + add) s.colours z h.on_low h.on_high ∙ rw (le-leb (k + add) (red_to n w cs z) (let q = red_to_idle n w z side cs ds h in let m = rows_more n w z side cs ds h in omega arith));
        sized = y.sized;
        sized' = y.sized';
        marked = y.marked;
      }
    where
      -- as a row begins a link of the side has the same colour in both
      alike : (x : ℕ) → 1 ≤ x → x ≤ n → side x ≡ true
          → cond (leb k (red_to n w ds x)) red (cond (eqb (at t.colours x) blue) blue open') ≡ cond (leb (k + add) (red_to n w cs x)) red (cond (eqb (at s.colours x) blue) blue open')
      alike x a b e =
          let q = red_to_in n w z side cs ds h x a b e in
          by_le k (red_to n w ds x)
          (λ c. rw (le-leb k (red_to n w ds x) c, le-leb (k + add) (red_to n w cs x) (omega arith)))
          (λ c. rw (lt-leb k (red_to n w ds x) c, lt-leb (k + add) (red_to n w cs x) (omega arith), y.colours x a b e))

  -- a row of both
  row_both : (k : ℕ) → suc k ≤ most n w ds * w → (s t : State) → Twin s t → Twin (row n w cs (suc k + add) s) (row n w ds (suc k) t)
  unfolding row
  row_both k l s t y = steps_both (suc k) (omega arith) _ _ (begin_both (suc k) l s t y)

  -- before the side's rows begin, its links are red and its circuits wait
  start_both : Twin (sheet n w cs add) (sheet n w ds 0)
  start_both =
      record {
        colours = λ x a b e. all_red n w ds x a b ∙ sym ((after n w cs (lies_there n cs h.lies) add).reddened x a b (let q = red_to_in n w z side cs ds h x a b e in omega arith));
        rest = λ x a b e. all_red n w ds x a b;
        idle = (after n w cs (lies_there n cs h.lies) add).reddened z h.on_low h.on_high (let q = red_to_idle n w z side cs ds h in let m = rows_more n w z side cs ds h in omega arith);
        sized = (after n w cs (lies_there n cs h.lies) add).sized;
        sized' = (after n w ds (lies_there n ds h.lies') 0).sized;
        marked = λ i j a b c. inl (all_waiting n w ds i, waits i j a b c);
      }
    where
      -- a circuit of the side waits
      waits : (i j : ℕ) → i < length ds → j < length cs → circuit ds i ≡ circuit cs j → row_of (sheet n w cs add) j ≡ 0
      waits i j a b c =
          by_eq (row_of (sheet n w cs add) j) 0 (λ e. e)
          (λ e.
          let x = (circuit cs j).first in
          let u : uses (circuit cs j) x ≡ true = uses_of (circuit cs j) x (omega arith) (lies_proper n cs h.lies j b) in
          let s : side x ≡ true = h.inside i x a (ap (λ d. uses d x) c ∙ u) in
          let o = on_it j b in
          let q = red_to_in n w z side cs ds h x o.0 o.1 s in
          let f = (after n w cs (lies_there n cs h.lies) add).clear j x e u in
          let g = (after n w cs (lies_there n cs h.lies) add).marked j in
          absurd (omega arith))
        where
          -- its first link is on the line
          on_it : (j : ℕ) → j < length cs → (1 ≤ (circuit cs j).first) × ((circuit cs j).first ≤ n)
          on_it j b = unfold circuit in (let q = h.lies j b in (omega arith, omega arith))

  -- after k rows of the side's sheet
  sheet_both : (k : ℕ) → k ≤ most n w ds * w → Twin (sheet n w cs (k + add)) (sheet n w ds k)
  sheet_both zero l = subst (λ K. Twin (sheet n w cs K) (sheet n w ds 0)) (let e : add ≡ 0 + add = omega arith in e) start_both
  sheet_both (suc k) l =
      let e : suc k + add ≡ suc (k + add) = omega arith in
      let f : row n w cs (suc k + add) (sheet n w cs (k + add)) ≡ sheet n w cs (suc k + add) =
      ap (λ K. row n w cs K (sheet n w cs (k + add))) e ∙ next cs (k + add) ∙ ap (sheet n w cs) (sym e) in
      subst (λ s. Twin s (sheet n w ds (suc k))) f
      (subst (λ t. Twin (row n w cs (suc k + add) (sheet n w cs (k + add))) t) (next ds k) (row_both k l (sheet n w cs (k + add)) (sheet n w ds k) (sheet_both k (omega arith))))
    where
      -- one row more
      next : (ls : List Circuit) (k : ℕ) → row n w ls (suc k) (sheet n w ls k) ≡ sheet n w ls (suc k)
      next ls k = unfold sheet in refl

  -- every circuit of the side has a row
  pub row_some : (i : ℕ) → i < length ds → get_or (rows n w ds) i 0 ≢ 0
  unfolding rows final
  row_some i a = is_placed n w ds h.lies' h.pos i a

  -- THE ROWS of the side alone and of the whole sheet differ by a multiple of w
  pub rows_both : (i j : ℕ) → i < length ds → j < length cs → circuit ds i ≡ circuit cs j → get_or (rows n w cs) j 0 ≡ get_or (rows n w ds) i 0 + add
  unfolding rows
  rows_both i j a b c =
      let y : Twin (sheet n w cs (most n w cs * w)) (sheet n w ds (most n w ds * w)) =
      subst (λ K. Twin (sheet n w cs K) (sheet n w ds (most n w ds * w))) (sym (rows_more n w z side cs ds h)) (sheet_both (most n w ds * w) (omega arith)) in
      ⊎_elim (λ u. absurd (row_some i a u.0)) (λ u. u.1) (y.marked i j a b c)

  -- layers differ by a constant, and wavelengths not at all
  pub layer_both : (r : ℕ) → r ≢ 0 → layer_of w (r + add) ≡ layer_of w r + layers_more n w z side cs ds h
  unfolding layer_of more
  layer_both r p =
      let L = layers_more n w z side cs ds h in
      let e : r + L * w - 1 ≡ (r - 1) + L * w = omega arith in
      let d : (r - 1 + L * w) / w ≡ (r - 1) / w + L = add-mul-div_right (r - 1) L h.pos in
      ap (λ x. suc (x / w)) e ∙ ap suc d ∙ (let f : suc ((r - 1) / w + L) ≡ suc ((r - 1) / w) + L = omega arith in f)

  -- the rows differ by whole layers, so the wavelength is the same
  pub wavelength_both : (r : ℕ) → r ≢ 0 → wavelength_of w (r + add) ≡ wavelength_of w r
  unfolding wavelength_of
  wavelength_both r p =
      let L = layers_more n w z side cs ds h in
      let e = layer_both r p in
      let q : layer_of w r ≢ 0 = (unfold layer_of in omega arith) in
      let f : layer_of w (r + add) - 1 ≡ (layer_of w r - 1) + L = omega arith in
      let g : (layer_of w (r + add) - 1) * w ≡ (layer_of w r - 1) * w + L * w = ap (λ x. x * w) f ∙ add-mul (layer_of w r - 1) L w in
      let m : add ≡ L * w = (unfold more in refl) in
      omega arith
