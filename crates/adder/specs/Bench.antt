-- Bench cases of the tests of an addition: the rooms, the old plan, and the order of the tests. `proofs/Bench.antt` shows that each holds. What a reader must believe.
-- Assumes nothing.
use Rattle.std.specs.Prelude.{ℕ, ◌≡◌, List, [], ◌∷◌, ◌++◌, take, replicate, None, Result, Ok}
use Rattle.records.specs.Records.{assignment_bytes, fibre_bytes, file_of}
use Rattle.records.specs.declared.AssignmentRecord.{AssignmentRecord}
use Rattle.records.specs.declared.Circuit.{Circuit}
use Rattle.refusals.specs.Bench.{refused}
use Rattle.refusals.specs.declared.Refusal.{Refusal}
use Rattle.refusals.specs.declared.Reason.TheVariants.{FibreRoom, AssignmentRoom, WorkRoom, UnfitPlan, NumberTaken}
use Rattle.register.specs.Areas.{Areas, areas}
use Rattle.checker.specs.Bench.{c, f, g, on}
use Rattle.adder.specs.Outcome.{judged}
use Rattle.adder.specs.declared.Named.{Named}

-- what a case says: for the old circuits and the new ones, so many old fibres and old assignments named, the first assignment record, and a fibre list,
-- an assignment list and a work area of so many bytes, the tests answer so
pub data Case : Type 0 where
  tests : (old new : List Circuit) → (fibresNamed assignmentsNamed : ℕ) → AssignmentRecord → (fibres assigns work : ℕ) → Result ℕ Refusal → Case

-- a list of so many bytes that begins with a record, and has zeros behind it
abbrev pub beginning : ℕ → List ℕ → List ℕ
beginning long r = take long (r ++ replicate long 0)

-- the lent areas: the fibre list begins with fibre 1 [1, 1] of layer 1
abbrev pub lent : AssignmentRecord → (fibres assigns work : ℕ) → Areas
lent given fibres assigns work = areas (beginning fibres (fibre_bytes (f 1 1 1 1))) (beginning assigns (assignment_bytes given)) (replicate work 0)

-- how many old records are named
abbrev pub naming : (fibresNamed assignmentsNamed : ℕ) → Named
naming fibresNamed assignmentsNamed = record { fibres = fibresNamed; assignments = assignmentsNamed }

-- a case holds: on one link with one wavelength
abbrev pub Holds : Case → Type 0
Holds (tests old new fibresNamed assignmentsNamed given fibres assigns work v) =
    judged (on 1 1 1) (file_of old) (file_of new) (naming fibresNamed assignmentsNamed) (lent given fibres assigns work) ≡ v

-- every case of a table holds
abbrev pub AllHold : List Case → Type 0
AllHold [] = Unit {0}
AllHold (x ∷ cases) = Holds x × AllHold cases

-- circuit 7 rides on fibre 1, and circuit 8 is new
unfoldable pub cases : List Case
cases =
    -- lent areas that are just long enough, and each of them one byte short
    tests (c 7 1 1 ∷ []) (c 8 1 1 ∷ []) 1 1 (g 7 1 1) 16 16 12 (Ok 2) ∷
    tests (c 7 1 1 ∷ []) (c 8 1 1 ∷ []) 1 1 (g 7 1 1) 15 16 12 (refused FibreRoom 0 None) ∷
    tests (c 7 1 1 ∷ []) (c 8 1 1 ∷ []) 1 1 (g 7 1 1) 16 15 12 (refused AssignmentRoom 0 None) ∷
    tests (c 7 1 1 ∷ []) (c 8 1 1 ∷ []) 1 1 (g 7 1 1) 16 16 11 (refused WorkRoom 0 None) ∷
    -- the room is for the records that are named, and comes before the old plan
    tests (c 7 1 1 ∷ []) (c 8 1 1 ∷ []) 2 1 (g 7 1 1) 16 16 12 (refused FibreRoom 0 None) ∷
    tests (c 7 1 1 ∷ []) (c 8 1 1 ∷ []) 1 2 (g 7 1 1) 16 16 12 (refused AssignmentRoom 0 None) ∷
    -- an assignment too many, one too few, and a fibre too few
    tests (c 7 1 1 ∷ []) (c 8 1 1 ∷ []) 1 2 (g 7 1 1) 16 24 12 (refused UnfitPlan 0 None) ∷
    tests (c 7 1 1 ∷ []) (c 8 1 1 ∷ []) 1 0 (g 7 1 1) 16 16 12 (refused UnfitPlan 0 None) ∷
    tests (c 7 1 1 ∷ []) (c 8 1 1 ∷ []) 0 1 (g 7 1 1) 16 16 12 (refused UnfitPlan 0 None) ∷
    -- a plan with a fibre and no circuit is fit
    tests [] (c 8 1 1 ∷ []) 1 0 (g 7 1 1) 16 8 8 (Ok 1) ∷
    -- 10 comes before 13, and 13 before 14: there is no wavelength 2
    tests (c 7 1 1 ∷ []) (c 8 1 1 ∷ []) 1 1 (g 7 1 2) 16 16 11 (refused WorkRoom 0 None) ∷
    tests (c 7 1 1 ∷ []) (c 7 1 1 ∷ []) 1 1 (g 7 1 2) 16 16 12 (refused UnfitPlan 0 None) ∷
    tests (c 7 1 1 ∷ []) (c 7 1 1 ∷ []) 1 1 (g 7 1 1) 16 16 12 (refused NumberTaken 2 None) ∷
    []
