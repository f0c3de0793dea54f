-- Request R-11, mend a damaged register, on lists. What a reader must believe.
-- Assumes nothing.
use Rattle.std.specs.Prelude.{ℕ, eqb, leb, get_or, length, replicate, Bool, ◌&&◌, cond, true, List, [], ◌++◌, map}
use Rattle.basics.specs.Tools.{each}
use Rattle.records.specs.declared.AssignmentRecord.{AssignmentRecord}
use Rattle.records.specs.declared.Circuit.{Circuit}
use Rattle.method.specs.Fibres.{floor}
use Rattle.method.specs.Line.{Assignment, Fibre, Plan, assigned, circuit, unassigned}
use Rattle.register.specs.declared.Counts.{Counts}
use Rattle.register.specs.Lists.{counts_of}
use Rattle.register.specs.Plans.{place_of}
use Rattle.places.specs.Places.{fibre_at, free, given_to, riders, spans}
use Rattle.places.specs.Turns.{by_number, in_turn, number}
use Rattle.additions.specs.Adding.{give, left_plan, settled_all, unplaced}

-- THE REGISTER. What stands past the end of a list of assignment records
abbrev pub no_record : AssignmentRecord
no_record = record { circuit = 0; fibre = 0; wavelength = 0 }

-- the record at the place of circuit j, whatever circuit it names
unfoldable pub record_of : List AssignmentRecord → ℕ → AssignmentRecord
record_of rs j = get_or rs j no_record

-- record r breaks none of R-7's rules 4 to 7 for circuit c, the one of its place: it names c, its fibre is one of the list, which spans c, and its wavelength is 1 to w
unfoldable pub sound : ℕ → List Fibre → Circuit → AssignmentRecord → Bool
sound w fs c r =
    eqb r.circuit c.number
    && (leb 1 r.fibre && leb r.fibre (length fs))
    && spans (fibre_at fs r.fibre) c
    && (leb 1 r.wavelength && leb r.wavelength w)

-- w wavelengths, the fibres fs, the circuits cs and the damaged records rs, one a circuit in the order of the file
module _ (w : ℕ) (fs : List Fibre) (cs : List Circuit) (rs : List AssignmentRecord) where
  -- FIRST PASS. Whether the record of circuit j is kept beside gs, those kept so far: it is sound and clashes with none of them
  unfoldable pub keepable : List Assignment → ℕ → Bool
  keepable gs j = sound w fs (circuit cs j) (record_of rs j) && free (riders cs gs) (circuit cs j) (record_of rs j).fibre (record_of rs j).wavelength

  -- it then has what was found; who is not kept has fibre 0
  unfoldable pub keeps : List Assignment → ℕ → Assignment
  keeps gs j = cond (keepable gs j) (place_of (record_of rs j)) unassigned

  -- all circuits, by rising number
  unfoldable pub kept : List Assignment
  kept = in_turn keeps (by_number (λ j. true) cs) (replicate (length cs) unassigned)

  -- SECOND PASS: the rest, by rising number, find places as additions do
  unfoldable pub refilled : List Assignment
  refilled = give fs w [] cs (by_number (unplaced kept) cs) kept

-- THE REPORT. A line of it: the circuit's number, the fibre and wavelength found, the fibre and wavelength given
pub record ReportLine : Type 0 where
  pub number : ℕ
  pub found : Assignment
  pub given : Assignment

-- what mending makes: the plan, and the report
pub record Mend : Type 0 where
  pub plan : Plan
  pub report : List ReportLine

-- MENDING, on a line of n links
module _ (n w : ℕ) (fs : List Fibre) (cs : List Circuit) (rs : List AssignmentRecord) where
  -- those that fit nowhere are planned together, as additions do, and their fibres follow the old ones
  unfoldable pub mended_plan : Plan
  mended_plan = record { fibres = fs ++ (left_plan n w cs (refilled w fs cs rs)).fibres; assignments = settled_all n w fs cs (refilled w fs cs rs) }

  -- the line of circuit j
  unfoldable pub line_of : ℕ → ReportLine
  line_of j = record { number = number cs j; found = place_of (record_of rs j); given = given_to mended_plan.assignments j }

  -- one line for each circuit that is not kept, by rising number
  unfoldable pub mend : Mend
  mend = record { plan = mended_plan; report = map line_of (by_number (unplaced (kept w fs cs rs)) cs) }

  -- the three numbers: those of the whole plan, with the floor of the file
  unfoldable pub mend_counts : Counts
  mend_counts = counts_of mended_plan (floor n w cs)

  -- the answer adds how many lines the report has
  unfoldable pub mend_lines : ℕ
  mend_lines = length mend.report

-- the records of a plan: one for each circuit in the order of the file, with its number and what the plan gives it
unfoldable pub records_of : List Circuit → Plan → List AssignmentRecord
records_of cs p = each (λ j. record { circuit = number cs j; fibre = (assigned p j).fibre; wavelength = (assigned p j).wavelength }) 0 (length cs)

-- the register after mending
abbrev pub mended_records : ℕ → ℕ → List Fibre → List Circuit → List AssignmentRecord → List AssignmentRecord
mended_records n w fs cs rs = records_of cs (mend n w fs cs rs).plan
