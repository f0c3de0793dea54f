-- Calls of `mend` on bytes, worked out. `proofs/Bench.antt` shows that each holds. What a reader must believe.
-- Assumes nothing.
use Rattle.std.specs.Prelude.{ℕ, List, [], ◌∷◌, ◌++◌, replicate, None}
use Rattle.refusals.specs.Bench.{refused}
use Rattle.refusals.specs.declared.Reason.{Reason}
use Rattle.refusals.specs.declared.Reason.TheVariants.{FibreRoom, WorkRoom, PartList, UnfitFibres, ReportRoom}
use Rattle.register.specs.declared.Counts.{Counts}
use Rattle.mender.specs.Report.{Lent, lent_areas}
use Rattle.mender.specs.Outcome.{Outcome, Answer, mended_with}

-- what a case says: n links and w wavelengths on grid 1, the circuit bytes, how many fibres, the lent areas before and after, and the answer
pub data Case : Type 0 where
  mends : (n w : ℕ) → List ℕ → ℕ → (before after : Lent) → Answer → Case

-- a case holds
abbrev pub Holds : Case → Type 0
Holds (mends n w s many before after answer) = Outcome (record { links = n; wavelengths = w; grid = 1 }) s many before after answer

-- every case of a table holds
abbrev pub AllHold : List Case → Type 0
AllHold [] = Unit {0}
AllHold (c ∷ cases) = Holds c × AllHold cases

-- 8 bytes: a circuit, a fibre or an assignment record
abbrev pub r : ℕ → ℕ → ℕ → ℕ → ℕ → ℕ → ℕ → ℕ → List ℕ
r a b c d e f g h = a ∷ b ∷ c ∷ d ∷ e ∷ f ∷ g ∷ h ∷ []

-- 12 bytes: a line of the report
abbrev pub l : ℕ → ℕ → ℕ → ℕ → ℕ → ℕ → ℕ → ℕ → ℕ → ℕ → ℕ → ℕ → List ℕ
l a b c d e f g h i j k m = r a b c d e f g h ++ (i ∷ j ∷ k ∷ m ∷ [])

-- k bytes that are lent, as they were
abbrev pub was : ℕ → List ℕ
was k = replicate k 9

-- the three numbers
abbrev pub counts : ℕ → ℕ → ℕ → Counts
counts fibres total floor = record { fibres = fibres; total = total; floor = floor }

-- registers that are mended
unfoldable pub mendings : List Case
mendings =
    -- a clash with a record that is sound and is not kept does not count: 3 clashes with 2, which clashes with 1. A new fibre, numbered on; one byte of the work area is not used
    mends 2 1 (r 1 0 0 0 1 0 1 0 ++ (r 2 0 0 0 1 0 2 0 ++ r 3 0 0 0 2 0 2 0)) 1
    (lent_areas (r 1 0 1 0 2 0 1 0 ++ was 24) (r 1 0 0 0 1 0 1 0 ++ (r 2 0 0 0 1 0 1 0 ++ r 3 0 0 0 1 0 1 0)) (was 36) (was 21))
    (lent_areas (r 1 0 1 0 2 0 1 0 ++ (r 2 0 1 0 2 0 1 0 ++ was 16)) (r 1 0 0 0 1 0 1 0 ++ (r 2 0 0 0 2 0 1 0 ++ r 3 0 0 0 1 0 1 0))
    (l 2 0 0 0 1 0 1 0 2 0 1 0 ++ was 24) (replicate 20 0 ++ was 1))
    (mended_with (counts 2 4 4) 1) ∷
    -- numbers of more than one byte: circuit 65,538, at whose place stand circuit 7, fibre 257 and wavelength 770
    mends 1 1 (r 2 0 1 0 1 0 1 0) 1
    (lent_areas (r 1 0 1 0 1 0 1 0 ++ was 8) (r 7 0 0 0 1 1 2 3) (was 12) (was 8))
    (lent_areas (r 1 0 1 0 1 0 1 0 ++ was 8) (r 2 0 1 0 1 0 1 0) (l 2 0 1 0 1 1 2 3 1 0 1 0) (replicate 8 0))
    (mended_with (counts 1 1 1) 1) ∷
    -- the report by rising number, the assignments in the order of the file
    mends 1 2 (r 2 0 0 0 1 0 1 0 ++ r 1 0 0 0 1 0 1 0) 1
    (lent_areas (r 1 0 1 0 1 0 1 0 ++ was 16) (r 2 0 0 0 0 0 0 0 ++ r 0 0 0 0 1 0 2 0) (was 24) (was 12))
    (lent_areas (r 1 0 1 0 1 0 1 0 ++ was 16) (r 2 0 0 0 1 0 2 0 ++ r 1 0 0 0 1 0 1 0) (l 1 0 0 0 1 0 2 0 1 0 1 0 ++ l 2 0 0 0 0 0 0 0 1 0 2 0) (replicate 12 0))
    (mended_with (counts 1 1 1) 2) ∷
    []

-- a call that is refused and changes nothing
abbrev pub refuses : ℕ → ℕ → List ℕ → ℕ → Lent → Reason → ℕ → Case
refuses n w s many lent reason place = mends n w s many lent lent (refused reason place None)

-- and that are refused
unfoldable pub refusals : List Case
refusals =
    -- one circuit and a byte more than its record
    refuses 1 1 (r 1 0 0 0 1 0 1 0) 0 (lent_areas (was 8) (was 9) (was 12) (was 8)) PartList 2 ∷
    -- over 2,048 fibres
    refuses 1 1 [] 2049 (lent_areas (was 16392) [] [] (was 4)) UnfitFibres 0 ∷
    -- the second fibre has number 3
    refuses 1 1 [] 2 (lent_areas (r 1 0 1 0 1 0 1 0 ++ r 3 0 1 0 1 0 1 0) [] [] (was 4)) UnfitFibres 2 ∷
    -- one byte less than a line
    refuses 1 1 (r 1 0 0 0 1 0 1 0) 0 (lent_areas (was 8) (was 8) (was 11) (was 8)) ReportRoom 0 ∷
    -- all is kept, and the report is still asked for: one byte less than a line
    refuses 1 1 (r 1 0 0 0 1 0 1 0) 1 (lent_areas (r 1 0 1 0 1 0 1 0 ++ was 8) (r 1 0 0 0 1 0 1 0) (was 11) (was 8)) ReportRoom 0 ∷
    -- nothing would be added, and room is still asked for: one byte less behind the fibre
    refuses 1 1 (r 1 0 0 0 1 0 1 0) 1 (lent_areas (r 1 0 1 0 1 0 1 0 ++ was 7) (r 1 0 0 0 1 0 1 0) (was 12) (was 8)) FibreRoom 0 ∷
    -- one whole record too many; none, which comes before 23
    refuses 1 1 (r 1 0 0 0 1 0 1 0) 0 (lent_areas (was 8) (was 16) (was 12) (was 8)) PartList 2 ∷
    refuses 1 1 (r 1 0 0 0 1 0 1 0) 0 (lent_areas (was 8) [] [] (was 8)) PartList 2 ∷
    -- fibre 1 breaks rule 2, fibre 2 rule 1: the first fibre, not the lowest rule, and not the last fibre
    refuses 1 1 [] 2 (lent_areas (r 1 0 1 0 2 0 1 0 ++ r 3 0 1 0 1 0 1 0) [] [] (was 4)) UnfitFibres 1 ∷
    -- first link 0; first past last
    refuses 1 1 [] 1 (lent_areas (r 1 0 0 0 1 0 1 0) [] [] (was 4)) UnfitFibres 1 ∷
    refuses 2 1 [] 1 (lent_areas (r 1 0 2 0 1 0 1 0) [] [] (was 8)) UnfitFibres 1 ∷
    -- 10 comes before 16
    refuses 1 1 (r 1 0 0 0 1 0 1 0) 0 (lent_areas (was 8) (was 9) (was 12) (was 7)) WorkRoom 0 ∷
    []
