-- One side of an idle link (R-9): the same halves of the pairs and the same wavelengths as in the full plan, and circuits share a fibre in both plans or in neither. Assumes nothing.
use Prim.Native.Nat.{◌*◌, ◌+◌, ◌-◌, ◌<◌, suc, zero, ℕ}
use borrow.Author.Tests.{eq-eqb, lt-leb, ne_eqb}
use lib.Dec.{eqb, leb}
use lib.ListN.{get_or, length}
use mathlib.Core.Bool.{Bool, ◌&&◌, cond, not, true}
use mathlib.Core.List.{List}
use mathlib.Core.Path.{◌∙◌, ◌≡◌, ap, ap₂, refl, subst, sym}
use native.Mathlib.Omega.{arith}
use Rattle.basics.specs.Tools.{any}
use Rattle.basics.proofs.Bools.{and_l, and_of, and_r, by_eq}
use Rattle.basics.proofs.Searches.{any_both}
use Rattle.records.specs.declared.Circuit.{Circuit}
use Rattle.method.specs.Fibres.{in_layer, layer_of, layers, on_first, on_first_by, pairs, plan, together, wavelength_of}
use Rattle.method.specs.Line.{Fibre, Lies, assigned, circuit, no_fibre, over, overlap, uses}
use Rattle.method.specs.Sheet.{most, need, row_of, rows}
use Rattle.method.proofs.FibreLists.{all_get_d, at_most_one}
use Rattle.method.proofs.Layers.{one_over}
use Rattle.method.proofs.Links.{lies_proper, lies_there, on_line, overlap_shares, uses_of}
use Rattle.method.proofs.RunStarts.{Begins}
use Rattle.method.proofs.Runs.{over_first, over_last, over_of}
use Rattle.method.proofs.SideLoads.{Half, layers_more, most_less, need_idle, need_in, need_out}
use Rattle.method.proofs.SideRows.{layer_both, row_some, rows_both, wavelength_both}
use Rattle.method.proofs.SideSpans.{Matched, layers_begin, same_span}
use Rattle.method.proofs.ValidPlan.{fibre_is, final, first_any_run, found, its, its_layer, its_maximal, its_over, layer_in_lem, layer_at, led, pair_at, same_pair, wavelength_is}

module _ (n w z : ℕ) (side : ℕ → Bool) (cs ds : List Circuit) (h : Half n w z side cs ds) where
  -- some circuit of the whole passes exactly if one of the side does, if those that pass are on the side
  pub any_side : (p q : ℕ → Bool) → ((i j : ℕ) → i < length ds → j < length cs → circuit ds i ≡ circuit cs j → q i ≡ p j)
      → ((j : ℕ) → j < length cs → p j ≡ true → (x : ℕ) × (uses (circuit cs j) x ≡ true) × (side x ≡ true))
      → any q (length ds) ≡ any p (length cs)
  any_side p q e s =
      any_both q p (length ds) (length cs)
      (λ i l u. let b = h.to i l in (h.there i, b.0, sym (e i (h.there i) l b.0 b.1) ∙ u))
      (λ j l u. let x = s j l u in let b = h.fro j x.0 l x.1 x.2 in (h.back j, b.0, e (h.back j) j b.0 l b.1 ∙ u))

  -- FIRST OR SECOND, which may be asked without the run
  -- two circuits of the side share a row in both sheets or in neither
  together_both : (i j i' j' : ℕ) → i < length ds → j < length cs → i' < length ds → j' < length cs → circuit ds i ≡ circuit cs j → circuit ds i' ≡ circuit cs j'
      → together ds (rows n w ds) (λ d. 0) i i' ≡ together cs (rows n w cs) (λ d. 0) j j'
  unfolding together
  together_both i j i' j' a b a' b' c c' =
      let e = rows_both n w z side cs ds h i j a b c in
      let e' = rows_both n w z side cs ds h i' j' a' b' c' in
      ap (λ t. t && eqb 0 0)
      (by_eq (get_or (rows n w ds) i 0) (get_or (rows n w ds) i' 0)
      (λ q. eq-eqb _ _ q ∙ sym (eq-eqb (get_or (rows n w cs) j 0) (get_or (rows n w cs) j' 0) (omega arith)))
      (λ q. ne_eqb _ _ q ∙ sym (ne_eqb (get_or (rows n w cs) j 0) (get_or (rows n w cs) j' 0) (omega arith))))

  -- one that overlaps a circuit of the side is on the side
  overlap_side : (i j d : ℕ) → i < length ds → j < length cs → d < length cs → circuit ds i ≡ circuit cs j → overlap (circuit cs d) (circuit cs j) ≡ true
      → (x : ℕ) × (uses (circuit cs d) x ≡ true) × (side x ≡ true)
  overlap_side i j d a b l c o =
      let s = overlap_shares (circuit cs d) (circuit cs j) (lies_proper n cs h.lies d l) (lies_proper n cs h.lies j b) o in
      (s.0, s.1, h.inside i s.0 a (ap (λ k. uses k s.0) c ∙ s.2))

  -- the sweep finds the same
  swept_both : (e i j : ℕ) → i < length ds → j < length cs → circuit ds i ≡ circuit cs j → on_first_by ds (rows n w ds) (λ d. 0) e i ≡ on_first_by cs (rows n w cs) (λ d. 0) e j
  unfolding on_first_by
  swept_both zero i j a b c = refl
  swept_both (suc e) i j a b c =
      let p : ℕ → Bool = λ d. together cs (rows n w cs) (λ d. 0) d j && leb (circuit cs d).last e && overlap (circuit cs d) (circuit cs j) && on_first_by cs (rows n w cs) (λ d. 0) e d in
      let q : ℕ → Bool = λ d. together ds (rows n w ds) (λ d. 0) d i && leb (circuit ds d).last e && overlap (circuit ds d) (circuit ds i) && on_first_by ds (rows n w ds) (λ d. 0) e d in
      let inner : (x y : ℕ) → x < length ds → y < length cs → circuit ds x ≡ circuit cs y → q x ≡ p y =
      λ x y lx ly d. ap₂ ◌&&◌ (ap₂ ◌&&◌ (ap₂ ◌&&◌ (together_both x y i j lx ly a b d c) (ap (λ z. leb z.last e) d)) (ap₂ overlap d c)) (swept_both e x y lx ly d) in
      let f : any q (length ds) ≡ any p (length cs) =
      any_side p q inner (λ d l t. overlap_side i j d a b l c (and_r (together cs (rows n w cs) (λ d. 0) d j && leb (circuit cs d).last e) _ (and_l _ _ t))) in
      three (eqb (circuit ds i).last (suc e)) (eqb (circuit cs j).last (suc e)) (ap (λ d. eqb d.last (suc e)) c) f (swept_both e i j a b c)
    where
      -- a test and its two answers
      three : (x x' : Bool) {y y' z z' : Bool} → x ≡ x' → y ≡ y' → z ≡ z' → cond x (not y) z ≡ cond x' (not y') z'
      three x x' e f g = cc

  -- so a circuit has the same half of its pair
  led_both : (i j : ℕ) → i < length ds → j < length cs → circuit ds i ≡ circuit cs j → led n w ds i ≡ led n w cs j
  led_both i j a b c = led_plain ds h.lies' i a ∙ swept_both (circuit ds i).last i j a b c ∙ ap (λ d. on_first_by cs (rows n w cs) (λ d. 0) d.last j) c ∙ sym (led_plain cs h.lies j b)
    where
      -- the half, without the run
      led_plain : (ls : List Circuit) → Lies n ls → (j : ℕ) → j < length ls → led n w ls j ≡ on_first_by ls (rows n w ls) (λ d. 0) (circuit ls j).last j
      led_plain ls lies j l = unfold led final on_first rows in first_any_run n w ls lies h.pos j l

  -- THE SPANS of the plan of 01
  -- the layer of a circuit
  layers_shift : (i j : ℕ) → i < length ds → j < length cs → circuit ds i ≡ circuit cs j → layer_at n w cs j ≡ layer_at n w ds i + layers_more n w z side cs ds h
  unfolding layer_at final rows
  layers_shift i j a b c = ap (layer_of w) (rows_both n w z side cs ds h i j a b c) ∙ layer_both n w z side cs ds h _ (row_some n w z side cs ds h i a)

  -- the links of its layer agree on the side
  layers_match : (i j : ℕ) → i < length ds → j < length cs → circuit ds i ≡ circuit cs j → Matched n z side h.between (in_layer n w cs (layer_at n w cs j)) (in_layer n w ds (layer_at n w ds i))
  unfolding in_layer layers_more
  layers_match i j a b c =
      let e = layers_shift i j a b c in
      let m = most_less n w z side cs ds h in
      let lc = layer_in_lem n w cs h.lies h.pos j b in
      let ld = layer_in_lem n w ds h.lies' h.pos i a in
      record {
        agree = λ x s. ap₂ leb (let q : suc (most n w ds) - layer_at n w ds i ≡ suc (most n w cs) - layer_at n w cs j = omega arith in q) (need_in n w z side cs ds h x s);
        stops = lt-leb (suc (most n w cs) - layer_at n w cs j) (need w cs z) (let q = need_idle n w z side cs ds h in omega arith);
        off = λ x s. lt-leb (suc (most n w ds) - layer_at n w ds i) (need w ds x) (let q = need_out n w z side cs ds h x s in omega arith);
      }

  -- its pair begins where the layer does
  its_begins : (ls : List Circuit) → Lies n ls → (j : ℕ) → j < length ls → Begins (in_layer n w ls (layer_at n w ls j)) (its n w ls j)
  unfolding its pairs
  its_begins ls lies j b =
      subst (λ x. Begins (in_layer n w ls x) (its n w ls j)) (its_layer n w ls lies h.pos j b)
      (all_get_d (λ f. Begins (in_layer n w ls f.layer) f) (layers n w ls (most n w ls)) (layers_begin n w ls (most n w ls)) (pair_at n w ls j) (found n w ls lies h.pos j b).0)

  -- so its pair has the same span
  spans_both : (i j : ℕ) → i < length ds → j < length cs → circuit ds i ≡ circuit cs j → ((its n w cs j).first ≡ (its n w ds i).first) × ((its n w cs j).last ≡ (its n w ds i).last)
  spans_both i j a b c =
      same_span n z side h.between (in_layer n w cs (layer_at n w cs j)) (in_layer n w ds (layer_at n w ds i)) (layers_match i j a b c) (layer_at n w cs j) (layer_at n w ds i) (its n w cs j) (its n w ds i)
      (its_maximal n w cs h.lies h.pos j b) (its_maximal n w ds h.lies' h.pos i a)
      (its_begins cs h.lies j b) (its_begins ds h.lies' i a)
      (circuit cs j).first (its_over n w cs h.lies h.pos j b) (ap (λ d. over (its n w ds i) d.first) (sym c) ∙ its_over n w ds h.lies' h.pos i a)

  -- WHO SHARES A FIBRE
  -- two circuits of one layer have one pair if the pair of the first passes over the second's first link
  pair_one : (ls : List Circuit) → Lies n ls → (i j : ℕ) → i < length ls → j < length ls
      → layer_at n w ls i ≡ layer_at n w ls j → over (its n w ls i) (circuit ls j).first ≡ true → pair_at n w ls i ≡ pair_at n w ls j
  unfolding its
  pair_one ls lies i j a b e o =
      let x = (circuit ls j).first in
      let on_it = on_line n ls (lies_there n ls lies) j x (uses_of (circuit ls j) x (omega arith) (lies_proper n ls lies j b)) in
      let p : Fibre → Bool = λ f. eqb f.layer (layer_at n w ls i) && over f x in
      at_most_one p (pairs n w ls) (one_over n w ls (layer_at n w ls i) x on_it.0 on_it.1) (pair_at n w ls i) (pair_at n w ls j)
      (found n w ls lies h.pos i a).0 (found n w ls lies h.pos j b).0
      (and_of _ _ (eq-eqb _ _ (its_layer n w ls lies h.pos i a)) o)
      (and_of _ _ (eq-eqb _ _ (its_layer n w ls lies h.pos j b ∙ sym e)) (its_over n w ls lies h.pos j b))

  -- and only then
  one_pair : (ls : List Circuit) → Lies n ls → (i j : ℕ) → i < length ls → j < length ls → pair_at n w ls i ≡ pair_at n w ls j
      → (layer_at n w ls i ≡ layer_at n w ls j) × (over (its n w ls i) (circuit ls j).first ≡ true)
  unfolding its
  one_pair ls lies i j a b e =
      let f : its n w ls i ≡ its n w ls j = ap (λ q. get_or (pairs n w ls) q no_fibre) e in (
        sym (its_layer n w ls lies h.pos i a) ∙ ap (λ f. f.layer) f ∙ its_layer n w ls lies h.pos j b,
        ap (λ f. over f (circuit ls j).first) f ∙ its_over n w ls lies h.pos j b,
      )

  -- two fibres of one span
  over_both : (f g : Fibre) (x : ℕ) → f.first ≡ g.first → f.last ≡ g.last → over f x ≡ true → over g x ≡ true
  over_both f g x e e' o = over_of g x (omega (arith, over_first f x o)) (omega (arith, over_last f x o))

  module _ (i j i' j' : ℕ) (a : i < length ds) (b : j < length cs) (a' : i' < length ds) (b' : j' < length cs) (c : circuit ds i ≡ circuit cs j) (c' : circuit ds i' ≡ circuit cs j') where
    -- two circuits of the side with one pair in the full plan have one in the side's plan
    pair_down : pair_at n w cs j ≡ pair_at n w cs j' → pair_at n w ds i ≡ pair_at n w ds i'
    pair_down e =
        let q = one_pair cs h.lies j j' b b' e in
        let s = spans_both i j a b c in
        let q₀ = q.0 in
        pair_one ds h.lies' i i' a a' (omega (arith, layers_shift i j a b c, layers_shift i' j' a' b' c'))
        (over_both (its n w cs j) (its n w ds i) (circuit ds i').first s.0 s.1 (ap (λ d. over (its n w cs j) d.first) c' ∙ q.1))

    -- and the other way round
    pair_up : pair_at n w ds i ≡ pair_at n w ds i' → pair_at n w cs j ≡ pair_at n w cs j'
    pair_up e =
        let q = one_pair ds h.lies' i i' a a' e in
        let s = spans_both i j a b c in
        let q₀ = q.0 in
        pair_one cs h.lies j j' b b' (omega (arith, layers_shift i j a b c, layers_shift i' j' a' b' c'))
        (over_both (its n w ds i) (its n w cs j) (circuit cs j').first (sym s.0) (sym s.1) (ap (λ d. over (its n w ds i) d.first) (sym c') ∙ q.1))

    -- so they have one fibre in the side's plan exactly if they have one in the full plan
    pub fibre_both : eqb (assigned (plan n w ds) i).fibre (assigned (plan n w ds) i').fibre ≡ eqb (assigned (plan n w cs) j).fibre (assigned (plan n w cs) j').fibre
    fibre_both =
        let l = led_both i j a b c in
        let l' = led_both i' j' a' b' c' in
        by_eq (assigned (plan n w ds) i).fibre (assigned (plan n w ds) i').fibre
        (λ e.
        let s = same_pair n w ds i i' a a' e in
        eq-eqb _ _ e ∙ sym (eq-eqb _ _
        (fibre_is n w cs j b ∙ ap₂ (λ (q : ℕ) (b : Bool). 2 * q + cond b 1 2) (pair_up s.0) (sym l ∙ s.1 ∙ l') ∙ sym (fibre_is n w cs j' b'))))
        (λ e.
        ne_eqb _ _ e ∙ sym (ne_eqb _ _
        (λ f.
        let s = same_pair n w cs j j' b b' f in
        e (fibre_is n w ds i a ∙ ap₂ (λ (q : ℕ) (b : Bool). 2 * q + cond b 1 2) (pair_down s.0) (l ∙ s.1 ∙ sym l') ∙ sym (fibre_is n w ds i' a')))))

  -- the same wavelength
  pub wavelength_same : (i j : ℕ) → i < length ds → j < length cs → circuit ds i ≡ circuit cs j → (assigned (plan n w ds) i).wavelength ≡ (assigned (plan n w cs) j).wavelength
  wavelength_same i j a b c = wavelength_is n w ds i a ∙ by_row ∙ sym (wavelength_is n w cs j b)
    where
      -- by its row
      by_row : wavelength_of w (row_of (final n w ds) i) ≡ wavelength_of w (row_of (final n w cs) j)
      by_row = unfold final rows in (sym (wavelength_both n w z side cs ds h _ (row_some n w z side cs ds h i a)) ∙ ap (wavelength_of w) (sym (rows_both n w z side cs ds h i j a b c)))
