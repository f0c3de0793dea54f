-- What makes a plan the addition of R-2, said of the plan that comes out and of no step on the way. `proofs/Added.antt` shows that `add` keeps it,
-- `proofs/Pinned.antt` that no other plan does. What a reader must believe.
-- Assumes nothing.
use Rattle.std.specs.Prelude.{◌+◌, ◌<◌, ℕ, ltb, length, Bool, cond, false, true, List, ◌++◌, ◌≡◌}
use Rattle.basics.specs.Tools.{each}
use Rattle.records.specs.declared.Circuit.{Circuit}
use Rattle.method.specs.Line.{Assignment, Plan, assigned, circuit, unassigned}
use Rattle.method.specs.Lit.{lit_plan}
use Rattle.places.specs.Parts.{PartOf}
use Rattle.places.specs.Places.{Lowest, NoPlace, Rider, riders}
use Rattle.places.specs.Turns.{number}

-- P is a plan of the circuits cs and then ds, made from the plan p of cs. What P gives to new circuit j
abbrev pub newly : List Circuit → Plan → ℕ → Assignment
newly cs P j = assigned P (length cs + j)

-- whether new circuit j is left for new fibres: its fibre is none of the old
unfoldable pub is_left : List Circuit → Plan → Plan → ℕ → Bool
is_left cs p P j = ltb (length p.fibres) (newly cs P j).fibre

-- who rides at the turn of new circuit j: the old circuits, and the new ones with a lower number, each with what P gives it
unfoldable pub at_turn : List Circuit → Plan → List Circuit → Plan → ℕ → List Rider
at_turn cs p ds P j =
    riders cs p.assignments
    ++ riders ds (each (λ d. cond (ltb (number ds d) (number ds j)) (newly cs P d) unassigned) 0 (length ds))

-- P is the addition
pub record Added (n w : ℕ) (cs : List Circuit) (p : Plan) (ds : List Circuit) (P : Plan) : Type 0 where
  -- no old assignment changes; the new ones follow, one for each new circuit
  pub news : List Assignment
  pub assignments_after : P.assignments ≡ p.assignments ++ news
  pub one_each : length news ≡ length ds
  -- who is not left has the lowest-numbered old fibre that spans it and has a free wavelength there at its turn, and the lowest such wavelength
  pub lowest : (j : ℕ) → j < length ds → is_left cs p P j ≡ false → Lowest p.fibres 1 w (at_turn cs p ds P j) (circuit ds j) (newly cs P j)
  -- a circuit is left exactly if no old fibre has a place at its turn
  pub left_if : (j : ℕ) → j < length ds → NoPlace p.fibres 1 w (at_turn cs p ds P j) (circuit ds j) → is_left cs p P j ≡ true
  pub left_only : (j : ℕ) → j < length ds → is_left cs p P j ≡ true → NoPlace p.fibres 1 w (at_turn cs p ds P j) (circuit ds j)
  -- a file of those left
  pub left : List Circuit
  pub left_are : PartOf (is_left cs p P) ds left
  -- no old fibre changes; those of R-1's plan of that file follow
  pub fibres_after : P.fibres ≡ p.fibres ++ (lit_plan n w left).fibres
  -- who is left has the fibre of that plan, numbered on from the old ones, and its wavelength
  pub left_fibre : (j : ℕ) → j < length ds → is_left cs p P j ≡ true → (newly cs P j).fibre ≡ length p.fibres + (assigned (lit_plan n w left) (left_are.rank j)).fibre
  pub left_wavelength : (j : ℕ) → j < length ds → is_left cs p P j ≡ true → (newly cs P j).wavelength ≡ (assigned (lit_plan n w left) (left_are.rank j)).wavelength
