-- Request R-2, add circuits and move none, on lists. What a reader must believe.
-- Assumes nothing.
use Rattle.std.specs.Prelude.{◌+◌, ℕ, eqb, length, replicate, Bool, cond, true, List, ◌++◌}
use Rattle.basics.specs.Tools.{count, each}
use Rattle.records.specs.declared.Circuit.{Circuit}
use Rattle.method.specs.Fibres.{floor}
use Rattle.method.specs.Line.{Assignment, Fibre, Plan, assigned, circuit, unassigned}
use Rattle.method.specs.Lit.{lit_plan}
use Rattle.register.specs.declared.Counts.{Counts}
use Rattle.register.specs.Lists.{counts_of}
use Rattle.places.specs.Parts.{picked}
use Rattle.places.specs.Places.{Rider, given_to, place, riders}
use Rattle.places.specs.Turns.{by_number, in_turn}

-- TURN BY TURN. `old` ride already, and gs has the places of the circuits ds so far; who has none has fibre 0
module _ (fs : List Fibre) (w : ℕ) (old : List Rider) (ds : List Circuit) where
  -- what circuit j finds: the lowest place on the fibres fs, wavelengths 1 to w, beside all who ride
  unfoldable pub finds : List Assignment → ℕ → Assignment
  finds gs j = place fs 1 w (old ++ riders ds gs) (circuit ds j)

  -- the circuits at places js, each in its turn
  unfoldable pub give : List ℕ → List Assignment → List Assignment
  give = in_turn finds

-- THOSE THAT FIT NOWHERE. Whether circuit j has no place
unfoldable pub unplaced : List Assignment → ℕ → Bool
unplaced gs j = eqb (given_to gs j).fibre 0

-- they are planned together as R-1 plans
unfoldable pub left_plan : ℕ → ℕ → List Circuit → List Assignment → Plan
left_plan n w ds gs = lit_plan n w (picked (unplaced gs) ds)

-- what a circuit is given, with its fibre numbered on from b
abbrev pub onward : ℕ → Assignment → Assignment
onward b g = record { fibre = b + g.fibre; wavelength = g.wavelength }

module _ (n w : ℕ) (fs : List Fibre) (ds : List Circuit) (gs : List Assignment) where
  -- what circuit j is given in the end: its place, or what that plan gives it, numbered on from the old fibres
  unfoldable pub settled : ℕ → Assignment
  settled j = cond (unplaced gs j) (onward (length fs) (assigned (left_plan n w ds gs) (count (unplaced gs) j))) (given_to gs j)

  -- all of them, in the order of the file
  unfoldable pub settled_all : List Assignment
  settled_all = each settled 0 (length ds)

-- AN ADDITION of the circuits ds to the plan p of the circuits cs. The places on the old fibres: the new circuits come by rising number, and the old ones ride already
unfoldable pub places_found : ℕ → List Circuit → Plan → List Circuit → List Assignment
places_found w cs p ds = give p.fibres w (riders cs p.assignments) ds (by_number (λ j. true) ds) (replicate (length ds) unassigned)

-- the new fibres follow the old ones, and the new assignments the old ones, in the order of the new file
unfoldable pub add : ℕ → ℕ → List Circuit → Plan → List Circuit → Plan
add n w cs p ds =
    record {
      fibres = p.fibres ++ (left_plan n w ds (places_found w cs p ds)).fibres;
      assignments = p.assignments ++ settled_all n w p.fibres ds (places_found w cs p ds);
    }

-- the three numbers: those of the whole plan, with the floor of both files
unfoldable pub add_counts : ℕ → ℕ → List Circuit → Plan → List Circuit → Counts
add_counts n w cs p ds = counts_of (add n w cs p ds) (floor n w (cs ++ ds))
