-- All that is promised of the partner's question and of what two operators share (R-10). `proofs/AskDemands.antt` shows that it holds for all that the tests leave.
-- What a reader must believe.
-- Assumes nothing.
use Rattle.std.specs.Prelude.{◌+◌, ◌<◌, ◌≤◌, ℕ, length, List, [], ◌++◌, ◌∷◌, ◌≡◌}
use Rattle.records.specs.declared.Circuit.{Circuit}
use Rattle.method.specs.Fibres.{floor}
use Rattle.method.specs.Line.{Assignment, Plan, fibres_over, total, unassigned}
use Rattle.method.specs.Sheet.{need}
use Rattle.places.specs.Places.{Lowest, riders}
use Rattle.additions.specs.AddDemands.{Permuted}
use Rattle.partner.specs.Asking.{NoPartnerPlace, PartnerValid, ask, ask_counts, asked, from_partner}
use Rattle.partner.specs.Sharing.{Apart, Shared}

-- what is promised of a question
pub record AskDemand (n w s : ℕ) (ds : List Circuit) (p : Plan) (c : Circuit) : Type 0 where
  -- v is one of the partner's wavelengths exactly if w < v + s and v ≤ w
  pub range_if : (v : ℕ) → w < v + s → from_partner w s ≤ v
  pub range_only : (v : ℕ) → from_partner w s ≤ v → w < v + s
  -- what is found is the lowest fibre that spans the circuit and is free there on such a wavelength, and the lowest such wavelength
  pub lowest : 1 ≤ (ask w s ds p c).fibre → Lowest p.fibres (from_partner w s) w (riders ds p.assignments) c (ask w s ds p c)
  -- and no other place is
  pub no_other : (g : Assignment) → Lowest p.fibres (from_partner w s) w (riders ds p.assignments) c g → ask w s ds p c ≡ g
  -- refusal 19, which is fibre 0, exactly if there is no such place
  pub refused_if : NoPartnerPlace w s ds p c → ask w s ds p c ≡ unassigned
  pub refused_only : (ask w s ds p c).fibre ≡ 0 → NoPartnerPlace w s ds p c
  -- with no wavelength rented there is none
  pub none_rented : s ≡ 0 → ask w s ds p c ≡ unassigned
  -- the fibres and the old assignments stay, and the place found follows them
  pub fibres_stay : (asked w s ds p c).fibres ≡ p.fibres
  pub one_more : (asked w s ds p c).assignments ≡ p.assignments ++ ask w s ds p c ∷ []
  -- a plan that is right stays right when a question is granted
  pub stays_right : 1 ≤ (ask w s ds p c).fibre → PartnerValid w s (ds ++ c ∷ []) (asked w s ds p c)
  -- the order of the partner's file, with its assignments, does not matter
  pub any_order : (ds' : List Circuit) (p' : Plan) → Permuted ds p ds' p' → ask w s ds p c ≡ ask w s ds' p' c
  pub counts_any_order : (ds' : List Circuit) (p' : Plan) → Permuted ds p ds' p' → ask_counts n w s ds p c ≡ ask_counts n w s ds' p' c
  -- the three numbers: all our fibres, their length, and the floor of the partner's circuits with s for w
  pub fibres_are : (ask_counts n w s ds p c).fibres ≡ length p.fibres
  pub total_is : (ask_counts n w s ds p c).total ≡ total p.fibres
  pub floor_is : (ask_counts n w s ds p c).floor ≡ floor n s (ds ++ c ∷ [])
  -- whatever fibres carry these circuits on the partner's wavelengths, each link has at least its load / s, rounded up
  pub least_over : 1 ≤ s → (q : Plan) → PartnerValid w s (ds ++ c ∷ []) q → (i : ℕ) → need s (ds ++ c ∷ []) i ≤ fibres_over q.fibres i
  -- and their length is at least the floor
  pub least_total : 1 ≤ s → (q : Plan) → PartnerValid w s (ds ++ c ∷ []) q → (ask_counts n w s ds p c).floor ≤ total q.fibres

-- what is promised for w and s
pub record PartnerDemand (w s : ℕ) : Type 0 where
  -- of every question, where the partner's plan is right
  pub question : (n : ℕ) (ds : List Circuit) (p : Plan) (c : Circuit) → PartnerValid w s ds p → AskDemand n w s ds p c
  -- of every order of our additions and the partner's questions
  pub sharing : {k : ℕ} {cs : List Circuit} {p : Plan} {ds : List Circuit} {gs : List Assignment} → Shared w s k cs p ds gs → Apart w s k cs p ds gs
