-- Riders of whom some have a place: what is so far right stays right when a circuit gets a place that is free. Assumes nothing.
use Prim.Native.Nat.{◌<◌, ◌≤◌, suc, ℕ}
use lib.ListN.{length, set}
use lib.Seq.{set_out}
use mathlib.Core.Bool.{true}
use mathlib.Core.List.{List}
use mathlib.Core.Logic.{◌≢◌}
use mathlib.Core.Path.{◌∙◌, ◌≡◌, ap, subst, sym}
use native.Mathlib.Omega.{arith}
use Rattle.basics.proofs.Bools.{by_eq, by_le}
use Rattle.records.specs.declared.Circuit.{Circuit}
use Rattle.method.specs.Line.{Fibre, Plan, Valid, assigned, circuit, fibre_under, overlap}
use Rattle.method.proofs.Links.{overlap_sym}
use Rattle.places.specs.Places.{Fits, Rider, fibre_at, given_to, rider, riders, riding, spans}
use Rattle.places.proofs.PlaceLaws.{spans_of_lem}
use Rattle.places.proofs.RiderLaws.{length_riders, rider_is, rider_other, rider_out, rider_same}

-- those that have a fibre have one of the list, which spans them, on the wavelengths lo to hi, and no two that overlap have both in common
pub record Partly (fs : List Fibre) (lo hi : ℕ) (rs : List Rider) : Type 0 where
  pub numbered : (j : ℕ) → (rider rs j).fibre ≢ 0 → (rider rs j).fibre ≤ length fs
  pub within : (j : ℕ) → (rider rs j).fibre ≢ 0 → spans (fibre_at fs (rider rs j).fibre) (rider rs j).who ≡ true
  pub wavelength_in : (j : ℕ) → (rider rs j).fibre ≢ 0 → (lo ≤ (rider rs j).wavelength) × ((rider rs j).wavelength ≤ hi)
  pub apart : (i j : ℕ) → (rider rs i).fibre ≢ 0 → i ≢ j → overlap (rider rs i).who (rider rs j).who ≡ true → (rider rs i).fibre ≡ (rider rs j).fibre → (rider rs i).wavelength ≢ (rider rs j).wavelength

-- who has a fibre is in the list
pub rider_below : (rs : List Rider) (j : ℕ) → (rider rs j).fibre ≢ 0 → j < length rs
rider_below rs j h = by_le (suc j) (length rs) (λ l. l) (λ l. absurd (h (ap (λ r. r.fibre) (rider_out rs j (omega arith)))))

module _ (fs : List Fibre) (lo hi : ℕ) where
  -- a circuit gets a place that fits, or none: what is right stays right
  pub set_partly : (rs : List Rider) (j : ℕ) (r : Rider) → Partly fs lo hi rs → (r.fibre ≢ 0 → Fits fs lo hi rs r.who r.fibre r.wavelength) → Partly fs lo hi (set rs j r)
  set_partly rs j r y f =
      by_le (suc j) (length rs)
      (λ l.
      let ss = set rs j r in
      let at_j : (i : ℕ) → i ≡ j → rider ss i ≡ r = λ i e. ap (rider ss) e ∙ rider_same rs j r l in
      let there : (i : ℕ) → i ≢ j → rider ss i ≡ rider rs i = λ i h. rider_other rs j i r h in
      let same : (i : ℕ) → i ≢ j → (rider ss i).fibre ≢ 0 → (rider rs i).fibre ≢ 0 = λ i e h z. h (ap (λ z. z.fibre) (there i e) ∙ z) in
      let fit : (i : ℕ) → i ≡ j → (rider ss i).fibre ≢ 0 → Fits fs lo hi rs r.who r.fibre r.wavelength = λ i e h. f (λ z. h (ap (λ z. z.fibre) (at_j i e) ∙ z)) in
      record {
        numbered = λ i h. by_eq i j (λ e. subst (λ z. z.fibre ≤ length fs) (sym (at_j i e)) (fit i e h).in_list) (λ e. subst (λ z. z.fibre ≤ length fs) (sym (there i e)) (y.numbered i (same i e h)));
        within = λ i h. by_eq i j (λ e. subst (λ z. spans (fibre_at fs z.fibre) z.who ≡ true) (sym (at_j i e)) (spans_of_lem _ _ (fit i e h).first_within (fit i e h).last_within)) (λ e. subst (λ z. spans (fibre_at fs z.fibre) z.who ≡ true) (sym (there i e)) (y.within i (same i e h)));
        wavelength_in = λ i h. by_eq i j (λ e. subst (λ z. (lo ≤ z.wavelength) × (z.wavelength ≤ hi)) (sym (at_j i e)) ((fit i e h).low, (fit i e h).high)) (λ e. subst (λ z. (lo ≤ z.wavelength) × (z.wavelength ≤ hi)) (sym (there i e)) (y.wavelength_in i (same i e h)));
        apart = λ a b h q o e v.
            by_eq a j
            (λ ea.
            let g = fit a ea h in
            let eb : b ≢ j = omega arith in
            let e' : (rider rs b).fibre ≡ r.fibre = sym (ap (λ z. z.fibre) (there b eb)) ∙ sym e ∙ ap (λ z. z.fibre) (at_j a ea) in
            let v' : (rider rs b).wavelength ≡ r.wavelength = sym (ap (λ z. z.wavelength) (there b eb)) ∙ sym v ∙ ap (λ z. z.wavelength) (at_j a ea) in
            let o' : overlap r.who (rider rs b).who ≡ true = subst (λ z. overlap z.who (rider rs b).who ≡ true) (at_j a ea) (subst (λ z. overlap (rider ss a).who z.who ≡ true) (there b eb) o) in
            let g₁ = g.from_one in
            g.free_there_lem b (rider_below rs b (omega arith)) (overlap_sym _ _ o') e' v')
            (λ ea.
            let h' : (rider rs a).fibre ≢ 0 = same a ea h in
            by_eq b j
            (λ eb.
            let e' : (rider rs a).fibre ≡ r.fibre = sym (ap (λ z. z.fibre) (there a ea)) ∙ e ∙ ap (λ z. z.fibre) (at_j b eb) in
            let v' : (rider rs a).wavelength ≡ r.wavelength = sym (ap (λ z. z.wavelength) (there a ea)) ∙ v ∙ ap (λ z. z.wavelength) (at_j b eb) in
            let o' : overlap (rider rs a).who r.who ≡ true = subst (λ z. overlap z.who r.who ≡ true) (there a ea) (subst (λ z. overlap (rider ss a).who z.who ≡ true) (at_j b eb) o) in
            let g = f (λ z. h' (e' ∙ z)) in
            g.free_there_lem a (rider_below rs a h') o' e' v')
            (λ eb.
            y.apart a b h' q (subst (λ z. overlap z.who (rider rs b).who ≡ true) (there a ea) (subst (λ z. overlap (rider ss a).who z.who ≡ true) (there b eb) o))
            (sym (ap (λ z. z.fibre) (there a ea)) ∙ e ∙ ap (λ z. z.fibre) (there b eb)) (sym (ap (λ z. z.wavelength) (there a ea)) ∙ v ∙ ap (λ z. z.wavelength) (there b eb))));
      })
      (λ l. rw (set_out rs j r (omega arith)) y)

-- THE RIDERS OF A VALID PLAN
module _ (w : ℕ) (cs : List Circuit) (p : Plan) where
  -- circuit j of the plan
  pub plan_rider : (j : ℕ) → j < length cs → rider (riders cs p.assignments) j ≡ riding (circuit cs j) (assigned p j)
  unfolding assigned given_to
  plan_rider j l = rider_is cs p.assignments j l

  -- they are right
  pub valid_partly : Valid w cs p → Partly p.fibres 1 w (riders cs p.assignments)
  unfolding fibre_under
  valid_partly v =
      let rs = riders cs p.assignments in
      let below : (j : ℕ) → (rider rs j).fibre ≢ 0 → j < length cs = λ j h. omega (arith, rider_below rs j h, length_riders cs p.assignments) in
      let is : (j : ℕ) → (rider rs j).fibre ≢ 0 → rider rs j ≡ riding (circuit cs j) (assigned p j) = λ j h. plan_rider j (below j h) in
      record {
        numbered = λ j h. subst (λ r. r.fibre ≤ length p.fibres) (sym (is j h)) (v.numbered j (below j h)).1;
        within = λ j h.
            let a = v.within j (below j h) in
            subst (λ r. spans (fibre_at p.fibres r.fibre) r.who ≡ true) (sym (is j h)) (spans_of_lem _ (circuit cs j) a.0 a.1);
        wavelength_in = λ j h. subst (λ r. (1 ≤ r.wavelength) × (r.wavelength ≤ w)) (sym (is j h)) (v.wavelength_in j (below j h));
        apart = λ i j h q o e u.
            let h' : (rider rs j).fibre ≢ 0 = λ z. h (e ∙ z) in
            v.apart i j (below i h) (below j h') q
            (subst (λ r. overlap (circuit cs i) r.who ≡ true) (is j h') (subst (λ r. overlap r.who (rider rs j).who ≡ true) (is i h) o))
            (sym (ap (λ r. r.fibre) (is i h)) ∙ e ∙ ap (λ r. r.fibre) (is j h')) (sym (ap (λ r. r.wavelength) (is i h)) ∙ u ∙ ap (λ r. r.wavelength) (is j h'));
      }
