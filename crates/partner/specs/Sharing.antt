-- Two operators on the same fibres, for w and s that stay the same. What a reader must believe.
-- Assumes nothing.
use Rattle.std.specs.Prelude.{◌-◌, ◌<◌, ◌≤◌, suc, ℕ, length, true, List, [], ◌++◌, ◌∷◌, ◌≢◌, ◌≡◌}
use Rattle.records.specs.declared.Circuit.{Circuit}
use Rattle.method.specs.Line.{Assignment, Lies, Plan, Valid, assigned, circuit, overlap}
use Rattle.method.specs.Lit.{lit_plan}
use Rattle.additions.specs.Adding.{add}
use Rattle.additions.specs.Grown.{Within}
use Rattle.partner.specs.Asking.{PartnerValid, ask}

-- the partner's plan: its own assignments on the fibres of our plan
abbrev pub on_fibres : Plan → List Assignment → Plan
on_fibres p gs = record { fibres = p.fibres; assignments = gs }

-- Shared w s k cs p ds gs: cs are our circuits and p our plan, after k additions; ds are the partner's circuits and gs its assignments; additions and questions came in any order.
-- Our plan and our additions take w − s for w, each on a line of its own length; a question that is granted adds its circuit and its place.
-- w and s never change, and while the partner holds a circuit we only add, so that no fibre is numbered anew: `Hazard` of Bench shows what happens else
pub data Shared (w s : ℕ) : ℕ → List Circuit → Plan → List Circuit → List Assignment → Type 0 where
  we_plan : (n : ℕ) (cs : List Circuit) → Lies n cs → Shared w s 0 cs (lit_plan n (w - s) cs) [] []
  we_add : {k : ℕ} {cs : List Circuit} {p : Plan} {ds : List Circuit} {gs : List Assignment} → Shared w s k cs p ds gs → (n : ℕ) (es : List Circuit) → Lies n es
      → Shared w s (suc k) (cs ++ es) (add n (w - s) cs p es) ds gs
  they_ask : {k : ℕ} {cs : List Circuit} {p : Plan} {ds : List Circuit} {gs : List Assignment} → Shared w s k cs p ds gs → (c : Circuit) → 1 ≤ (ask w s ds (on_fibres p gs) c).fibre
      → Shared w s k cs p (ds ++ c ∷ []) (gs ++ ask w s ds (on_fibres p gs) c ∷ [])

-- what then holds
pub record Apart (w s k : ℕ) (cs : List Circuit) (p : Plan) (ds : List Circuit) (gs : List Assignment) : Type 0 where
  -- our plan is valid for w − s
  pub ours : Valid (w - s) cs p
  -- the partner's is right
  pub theirs : PartnerValid w s ds (on_fibres p gs)
  -- the two never meet: no overlapping circuits of ours and the partner's share fibre and wavelength
  pub apart : (i j : ℕ) → i < length cs → j < length ds → overlap (circuit cs i) (circuit ds j) ≡ true
      → (assigned p i).fibre ≡ (assigned (on_fibres p gs) j).fibre → (assigned p i).wavelength ≢ (assigned (on_fibres p gs) j).wavelength
  -- so the circuits of both are one valid plan for w
  pub together : Valid w (cs ++ ds) (on_fibres p (p.assignments ++ gs))
  -- our plan is what it is without the partner
  pub alone : Shared w s k cs p [] []
  -- and demand 3 holds of it, with w − s for w
  pub within : Within k (w - s) cs p
