-- What makes a plan and a report the mending of R-11, said of what comes out and of no step on the way. `proofs/Mended.antt` shows that `mend` keeps it,
-- `proofs/Pinned.antt` that nothing else does. What a reader must believe.
-- Assumes nothing.
use Rattle.std.specs.Prelude.{◌+◌, ◌<◌, ℕ, eqb, ltb, get_or, length, Bool, ◌&&◌, ◌||◌, cond, false, not, true, List, ◌++◌, ◌≡◌}
use Rattle.basics.specs.Tools.{any, each}
use Rattle.records.specs.declared.AssignmentRecord.{AssignmentRecord}
use Rattle.records.specs.declared.Circuit.{Circuit}
use Rattle.method.specs.Line.{Fibre, assigned, circuit, unassigned}
use Rattle.method.specs.Lit.{lit_plan}
use Rattle.register.specs.Plans.{place_of}
use Rattle.places.specs.Parts.{PartOf}
use Rattle.places.specs.Places.{Fits, Lowest, NoPlace, Rider, riders}
use Rattle.places.specs.Turns.{number}
use Rattle.mending.specs.Mending.{Mend, ReportLine, record_of}

-- what stands past the end of a report
abbrev pub no_line : ReportLine
no_line = record { number = 0; found = unassigned; given = unassigned }

-- M has come out. Line t of its report
abbrev pub line_at : Mend → ℕ → ReportLine
line_at M t = get_or M.report t no_line

-- whether circuit j stands in the report; it is kept if it does not
unfoldable pub reported : List Circuit → Mend → ℕ → Bool
reported cs M j = any (λ t. eqb (line_at M t).number (number cs j)) (length M.report)

-- who is kept before circuit j: those with a lower number that are not reported, each with what was found
unfoldable pub kept_before : List Circuit → List AssignmentRecord → Mend → ℕ → List Rider
kept_before cs rs M j = riders cs (each (λ d. cond (not (reported cs M d) && ltb (number cs d) (number cs j)) (place_of (record_of rs d)) unassigned) 0 (length cs))

-- who rides at the turn of circuit j in the second pass: all that are kept, and those with a lower number, each with what the plan gives it
unfoldable pub at_turn : List Circuit → Mend → ℕ → List Rider
at_turn cs M j = riders cs (each (λ d. cond (not (reported cs M d) || ltb (number cs d) (number cs j)) (assigned M.plan d) unassigned) 0 (length cs))

-- whether circuit j has a new fibre: it is none of the old
unfoldable pub is_new : List Fibre → Mend → ℕ → Bool
is_new fs M j = ltb (length fs) (assigned M.plan j).fibre

-- the record at the place of circuit j names it, and its fibre and wavelength are a place beside those kept before
abbrev pub MayStay : ℕ → List Fibre → List Circuit → List AssignmentRecord → Mend → ℕ → Type 0
MayStay w fs cs rs M j =
    ((record_of rs j).circuit ≡ number cs j) × Fits fs 1 w (kept_before cs rs M j) (circuit cs j) (record_of rs j).fibre (record_of rs j).wavelength

-- the line of circuit j: its number, what was found at its place, and what the plan gives it
abbrev pub line_for : List Circuit → List AssignmentRecord → Mend → ℕ → ReportLine
line_for cs rs M j =
    record {
      number = (circuit cs j).number;
      found = record { fibre = (record_of rs j).fibre; wavelength = (record_of rs j).wavelength };
      given = assigned M.plan j;
    }

-- M is the mending
pub record Mended (n w : ℕ) (fs : List Fibre) (cs : List Circuit) (rs : List AssignmentRecord) (M : Mend) : Type 0 where
  -- a record is kept exactly if it breaks none of the rules 4 to 7 and clashes with none kept before
  pub kept_if : (j : ℕ) → j < length cs → MayStay w fs cs rs M j → reported cs M j ≡ false
  pub kept_only : (j : ℕ) → j < length cs → reported cs M j ≡ false → MayStay w fs cs rs M j
  -- its circuit keeps fibre and wavelength
  pub kept_fibre : (j : ℕ) → j < length cs → reported cs M j ≡ false → (assigned M.plan j).fibre ≡ (record_of rs j).fibre
  pub kept_wavelength : (j : ℕ) → j < length cs → reported cs M j ≡ false → (assigned M.plan j).wavelength ≡ (record_of rs j).wavelength
  -- there is one assignment for each circuit
  pub one_each : length M.plan.assignments ≡ length cs
  -- who is not kept and has an old fibre has the lowest-numbered one that spans it and has a free wavelength there at its turn, and the lowest such wavelength
  pub lowest : (j : ℕ) → j < length cs → reported cs M j ≡ true → is_new fs M j ≡ false → Lowest fs 1 w (at_turn cs M j) (circuit cs j) (assigned M.plan j)
  -- it has a new fibre exactly if no old fibre has a place at its turn
  pub new_if : (j : ℕ) → j < length cs → reported cs M j ≡ true → NoPlace fs 1 w (at_turn cs M j) (circuit cs j) → is_new fs M j ≡ true
  pub new_only : (j : ℕ) → j < length cs → is_new fs M j ≡ true → NoPlace fs 1 w (at_turn cs M j) (circuit cs j)
  -- a file of those with new fibres
  pub left : List Circuit
  pub left_are : PartOf (is_new fs M) cs left
  -- no old fibre changes; those of R-1's plan of that file follow
  pub fibres_after : M.plan.fibres ≡ fs ++ (lit_plan n w left).fibres
  -- who is in it has the fibre of that plan, numbered on from the old ones, and its wavelength
  pub left_fibre : (j : ℕ) → j < length cs → is_new fs M j ≡ true → (assigned M.plan j).fibre ≡ length fs + (assigned (lit_plan n w left) (left_are.rank j)).fibre
  pub left_wavelength : (j : ℕ) → j < length cs → is_new fs M j ≡ true → (assigned M.plan j).wavelength ≡ (assigned (lit_plan n w left) (left_are.rank j)).wavelength
  -- the report goes by rising number, so it has at most one line for a circuit
  pub by_number : (s t : ℕ) → s < t → t < length M.report → (line_at M s).number < (line_at M t).number
  -- and each line is that of a circuit
  pub lines : (t : ℕ) → t < length M.report → (j : ℕ) × (j < length cs) × (line_at M t ≡ line_for cs rs M j)
