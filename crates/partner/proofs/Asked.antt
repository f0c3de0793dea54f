-- A place of the partner's leaves its plan right, and the order of its file does not matter. Assumes nothing.
use Prim.Native.Nat.{◌+◌, ◌<◌, ◌≤◌, ℕ}
use mathlib.Core.Bool.{true}
use mathlib.Core.List.{List, [], ◌++◌, ◌∷◌}
use mathlib.Core.Logic.{◌≢◌}
use mathlib.Core.Path.{◌∙◌, ◌≡◌, ap, refl, subst, sym}
use native.Mathlib.Omega.{arith}
use Rattle.records.specs.declared.Circuit.{Circuit}
use Rattle.method.specs.Line.{Assignment, Fibre, Plan, Valid, assigned, circuit, fibre_under, overlap}
use Rattle.places.specs.Places.{Fits, Rider, given_to, place, riders}
use Rattle.places.proofs.Partial.{plan_rider}
use Rattle.places.proofs.PlaceLaws.{place_any_order, place_lowest}
use Rattle.places.proofs.RiderLaws.{length_riders, same_riders}
use Rattle.places.proofs.TwoFiles.{old_or_new}
use Rattle.additions.specs.AddDemands.{Permuted}
use Rattle.partner.specs.Asking.{PartnerValid, ask, asked, from_partner}
use Rattle.partner.proofs.Joined.{NoClash, both_new, both_old, joined}

-- a circuit alone on a place is a valid plan
alone_valid : (fs : List Fibre) (lo w : ℕ) (rs : List Rider) (c : Circuit) (g : Assignment) → 1 ≤ lo → Fits fs lo w rs c g.fibre g.wavelength
    → Valid w (c ∷ []) (record { fibres = fs; assignments = g ∷ [] })
unfolding assigned circuit fibre_under
alone_valid fs lo w rs c g pos f =
    let only : (j : ℕ) → j < 1 → j ≡ 0 = λ j l. omega arith in
    record {
      all_assigned = refl;
      numbered = λ j l. rw (only j l) (f.from_one, f.in_list);
      within = λ j l. rw (only j l) (f.first_within, f.last_within);
      wavelength_in = λ j l. rw (only j l) (omega (arith, f.low), f.high);
      apart = λ i j a b q. absurd (q (only i a ∙ sym (only j b)));
    }

module _ (w s : ℕ) (ds : List Circuit) (p : Plan) (c : Circuit) where
  -- what is found clashes with none of the partner's circuits
  no_clash : (g : Assignment) → Fits p.fibres (from_partner w s) w (riders ds p.assignments) c g.fibre g.wavelength
      → NoClash w p.fibres ds p.assignments (c ∷ []) (g ∷ [])
  unfolding assigned circuit
  no_clash g f i j a b =
      let only : j ≡ 0 = omega arith in
      let free = f.free_there_lem i (omega (arith, length_riders ds p.assignments)) in
      rw only (subst (λ r. overlap r.who c ≡ true → r.fibre ≡ g.fibre → r.wavelength ≢ g.wavelength) (plan_rider w ds p i a) free)

  -- A PLAN THAT IS RIGHT STAYS RIGHT
  pub stays_right : PartnerValid w s ds p → 1 ≤ (ask w s ds p c).fibre → PartnerValid w s (ds ++ c ∷ []) (asked w s ds p c)
  unfolding ask asked
  stays_right y h =
      let fs = p.fibres in
      let gs = p.assignments in
      let g = place fs (from_partner w s) w (riders ds gs) c in
      let f = (place_lowest fs (from_partner w s) w (riders ds gs) c h).fits in
      let v = alone_valid fs (from_partner w s) w (riders ds gs) c g (omega arith) f in
      let free = no_clash g f in
      let new : (k : ℕ) → k < 1 → w < (assigned (record { fibres = fs; assignments = g ∷ [] }) k).wavelength + s =
      λ k i. unfold assigned in (let only : k ≡ 0 = omega arith in rw only (omega (arith, f.low))) in
      record {
        valid = joined w fs ds gs (c ∷ []) (g ∷ []) y.valid v free;
        top = λ j l.
            old_or_new ds (c ∷ []) j l
            (λ i. rw (both_old w fs ds gs (c ∷ []) (g ∷ []) y.valid v free j i) (y.top j i))
            (λ k i e. rw (both_new w fs ds gs (c ∷ []) (g ∷ []) y.valid v free j k e) (new k i));
      }

  -- THE ORDER OF THE PARTNER'S FILE DOES NOT MATTER
  pub ask_any_order : (ds' : List Circuit) (p' : Plan) → Permuted ds p ds' p' → ask w s ds p c ≡ ask w s ds' p' c
  unfolding ask assigned given_to
  ask_any_order ds' p' r =
      place_any_order p.fibres (from_partner w s) w (riders ds p.assignments) (riders ds' p'.assignments) c
      (same_riders ds ds' p.assignments p'.assignments r.records r.assigned_same)
      ∙ ap (λ fs. place fs (from_partner w s) w (riders ds' p'.assignments) c) r.fibres_same
