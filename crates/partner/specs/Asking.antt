-- Request R-10, a partner lights our strands: its question, on lists. What a reader must believe.
-- The partner's plan p has our fibres and the partner's own assignments; ds are its own circuits. No circuit and no assignment of ours is asked for here.
-- Assumes nothing.
use Rattle.std.specs.Prelude.{◌+◌, ◌-◌, ◌<◌, ℕ, length, List, [], ◌++◌, ◌∷◌}
use Rattle.records.specs.declared.Circuit.{Circuit}
use Rattle.method.specs.Fibres.{floor}
use Rattle.method.specs.Line.{Assignment, Plan, Valid, assigned}
use Rattle.register.specs.declared.Counts.{Counts}
use Rattle.register.specs.Lists.{counts_of}
use Rattle.places.specs.Places.{Fits, place, riders}

-- the partner rents the top s of the w wavelengths: w − s + 1 to w
abbrev pub from_partner : ℕ → ℕ → ℕ
from_partner w s = w - s + 1

-- THE QUESTION for circuit c: the lowest fibre that spans it and is free there on a partner wavelength, then the lowest such one; fibre 0, refusal 19, if there is none
unfoldable pub ask : ℕ → ℕ → List Circuit → Plan → Circuit → Assignment
ask w s ds p c = place p.fibres (from_partner w s) w (riders ds p.assignments) c

-- the partner's plan when it is granted: the same fibres, and one assignment more
unfoldable pub asked : ℕ → ℕ → List Circuit → Plan → Circuit → Plan
asked w s ds p c = record { fibres = p.fibres; assignments = p.assignments ++ ask w s ds p c ∷ [] }

-- the three numbers: all our fibres, their length, and the partner's floor, which takes s for w and counts c
unfoldable pub ask_counts : ℕ → ℕ → ℕ → List Circuit → Plan → Circuit → Counts
ask_counts n w s ds p c = counts_of (asked w s ds p c) (floor n s (ds ++ c ∷ []))

-- the partner's plan is right: it is valid, and each wavelength is one of the top s of w
pub record PartnerValid (w s : ℕ) (ds : List Circuit) (p : Plan) : Type 0 where
  pub valid : Valid w ds p
  pub top : (j : ℕ) → j < length ds → w < (assigned p j).wavelength + s

-- there is no place for c: on no fibre that spans it is one of the top s of w free there
abbrev pub NoPartnerPlace : ℕ → ℕ → List Circuit → Plan → Circuit → Type 0
NoPartnerPlace w s ds p c = (q v : ℕ) → Fits p.fibres 1 w (riders ds p.assignments) c q v → w < v + s → ⊥
