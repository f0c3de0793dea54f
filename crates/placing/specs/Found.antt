-- The place that is found for one circuit. What a reader must believe.
-- Assumes nothing.
use Rattle.std.specs.Prelude.{ℕ, cond, eqb, List, Option, Some, None, ◌≡◌}
use Rattle.records.specs.declared.Circuit.{Circuit}
use Rattle.method.specs.Line.{Assignment, Fibre, unassigned}
use Rattle.places.specs.Places.{Rider, place}
use Rattle.placing.specs.declared.Spot.{Spot}

-- what a circuit is given that found s: 0 and 0 if it found none
unfoldable pub told : Option Spot → Assignment
told None = unassigned
told (Some s) = record { fibre = s.fibre; wavelength = s.wavelength }

-- the fibre and wavelength that g gives, if it gives a fibre
unfoldable pub spot_of : Assignment → Option Spot
spot_of g = cond (eqb g.fibre 0) None (Some (record { fibre = g.fibre; wavelength = g.wavelength }))

-- s is the place that `place` names, if it names one
abbrev pub Spotted : List Fibre → ℕ → ℕ → List Rider → Circuit → Option Spot → Type 0
Spotted fs lo hi rs c s = s ≡ spot_of (place fs lo hi rs c)
