-- All that is promised of the partner's question, and of what two operators share, holds. Assumes nothing.
use Prim.Native.Nat.{◌<◌, ◌≤◌, ℕ}
use lib.ListN.{length}
use mathlib.Core.List.{List, [], ◌++◌, ◌∷◌}
use mathlib.Core.Path.{◌≡◌, ap₂, refl}
use native.Mathlib.Omega.{arith}
use Rattle.records.specs.declared.Circuit.{Circuit}
use Rattle.method.specs.Line.{Fibre, Plan, total}
use Rattle.register.specs.declared.Counts.{Counts}
use Rattle.register.specs.Lists.{counts_of}
use Rattle.places.specs.Places.{Fits, Rider, riders}
use Rattle.places.proofs.Parts.{rearranged_self}
use Rattle.places.proofs.PlaceLaws.{none_found, none_if, place_is, place_lowest}
use Rattle.additions.specs.AddDemands.{Permuted}
use Rattle.additions.proofs.Orders.{floor_both}
use Rattle.partner.specs.Asking.{PartnerValid, ask, ask_counts, asked, from_partner}
use Rattle.partner.specs.AskDemands.{AskDemand, PartnerDemand}
use Rattle.partner.proofs.Asked.{ask_any_order, stays_right}
use Rattle.partner.proofs.Lowered.{least_over, least_total}
use Rattle.partner.proofs.Sharing.{never_meet}

-- a place is one for every range that has its wavelength
in_range : (fs : List Fibre) (lo lo' w : ℕ) (rs : List Rider) (c : Circuit) (q v : ℕ) → Fits fs lo w rs c q v → lo' ≤ v → Fits fs lo' w rs c q v
in_range fs lo lo' w rs c q v f h =
    record {
      from_one = f.from_one;
      in_list = f.in_list;
      first_within = f.first_within;
      last_within = f.last_within;
      low = h;
      high = f.high;
      free_there_lem = f.free_there_lem;
    }

-- the three numbers do not depend on the order of the partner's file
counts_any_order : (n w s : ℕ) (ds : List Circuit) (p : Plan) (c : Circuit) (ds' : List Circuit) (p' : Plan) → Permuted ds p ds' p' → ask_counts n w s ds p c ≡ ask_counts n w s ds' p' c
unfolding ask_counts asked counts_of
counts_any_order n w s ds p c ds' p' r =
    ap₂ (λ (fs : List Fibre) (l : ℕ). let k : Counts = record { fibres = length fs; total = total fs; floor = l } in k)
    r.fibres_same (floor_both n _ ds (c ∷ []) ds' (c ∷ []) r.records (rearranged_self (c ∷ [])))

-- ALL THAT IS PROMISED OF A QUESTION
ask_demand : (n w s : ℕ) (ds : List Circuit) (p : Plan) (c : Circuit) → s < w → PartnerValid w s ds p → AskDemand n w s ds p c
unfolding ask asked ask_counts counts_of
ask_demand n w s ds p c below y =
    let fs = p.fibres in
    let rs = riders ds p.assignments in
    let lo : ℕ = from_partner w s in
    record {
      range_if = λ v h. omega arith;
      range_only = λ v h. omega arith;
      lowest = place_lowest fs lo w rs c;
      no_other = place_is fs lo w rs c;
      refused_if = λ no. none_found fs lo w rs c (λ q v f. no q v (in_range fs lo 1 w rs c q v f (omega (arith, f.low))) (omega (arith, f.low)));
      refused_only = λ e q v f h. none_if fs lo w rs c e q v (in_range fs 1 lo w rs c q v f (omega arith));
      none_rented = λ z. none_found fs lo w rs c (λ q v f. omega (arith, f.low, f.high));
      fibres_stay = refl;
      one_more = refl;
      stays_right = stays_right w s ds p c y;
      any_order = ask_any_order w s ds p c;
      counts_any_order = counts_any_order n w s ds p c;
      fibres_are = refl;
      total_is = refl;
      floor_is = refl;
      least_over = λ pos q z. least_over w s (ds ++ c ∷ []) q (omega arith) pos z;
      least_total = λ pos q z. least_total w s (ds ++ c ∷ []) q n (omega arith) pos z;
    }

-- ALL THAT IS PROMISED OF R-10, for every s from 0 to w − 1
pub partner_demand : (w s : ℕ) → s < w → PartnerDemand w s
partner_demand w s below = record { question = λ n ds p c y. ask_demand n w s ds p c below y; sharing = λ h. never_meet w s below h }
