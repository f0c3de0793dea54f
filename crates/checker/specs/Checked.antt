-- What `check_plan` answers, for every input. What a reader must believe.
-- Assumes nothing.
use Rattle.std.specs.Prelude.{ℕ, ◌/◌, ◌%◌, not, ◌||◌, cond, List, [], ◌∷◌, ◌++◌, map, length, ltb, eqb, zero, suc, Option, Some, None, Result, Ok, Err}
use Rattle.std.proofs.Math.Option.{Option as Maybe, none, some}
use Rattle.basics.specs.Tools.{each}
use Rattle.records.specs.Records.{record_at, circuits_of, fibre_of, assignment_of}
use Rattle.records.specs.declared.Circuit.{Circuit}
use Rattle.records.specs.declared.FibreRecord.{FibreRecord}
use Rattle.records.specs.declared.AssignmentRecord.{AssignmentRecord}
use Rattle.records.specs.declared.Line.{Line}
use Rattle.method.specs.Line.{total}
use Rattle.method.specs.Fibres.{floor}
use Rattle.refusals.specs.Refusals.{refusal_in, if_refused}
use Rattle.refusals.specs.Table.{Row, no_end, wherever, circuit_rows, verdict}
use Rattle.refusals.specs.declared.Refusal.{Refusal}
use Rattle.refusals.specs.declared.Reason.TheVariants.{PartList}
use Rattle.register.specs.Plans.{span_of}
use Rattle.checker.specs.Rules.{Breach, first_broken}
use Rattle.checker.specs.declared.rules.Fault.{Fault}
use Rattle.checker.specs.declared.Finding.{Finding}
use Rattle.checker.specs.declared.Finding.TheVariants.{Yes, No}

-- WHAT AN ANSWER SAYS: yes, with the length of the fibres and the floor; no, with the first broken rule and its place; or a refusal
pub data Saying : Type 0 where
  yes : (long its_floor : ℕ) → Saying
  no : Breach → Saying
  refused : Refusal → Saying

-- one definition takes each case of an answer to what it says
abbrev pub says : Result Finding Refusal → Saying
says (Ok (Yes long its_floor)) = yes long its_floor
says (Ok (No rule place)) = no (record { rule = rule; place = place })
says (Err r) = refused r

-- LISTS AS BYTES. The first k fibre records of a list
unfoldable pub fibres_in : ℕ → List ℕ → List FibreRecord
fibres_in k bytes = each (λ i. fibre_of (record_at bytes i)) 0 k

-- all of them
abbrev pub fibres_of : List ℕ → List FibreRecord
fibres_of bytes = fibres_in (length bytes / 8) bytes

-- the first m assignment records of a list
unfoldable pub assignments_in : ℕ → List ℕ → List AssignmentRecord
assignments_in m bytes = each (λ j. assignment_of (record_at bytes j)) 0 m

-- all of them
abbrev pub assignments_of : List ℕ → List AssignmentRecord
assignments_of bytes = assignments_in (length bytes / 8) bytes

-- REFUSALS. The place of a list, if its bytes aren't whole records, or have more records than the limit
abbrev pub bad_list : ℕ → ℕ → ℕ → Maybe ℕ
bad_list place limit has = cond (not (eqb (has % 8) 0) || ltb limit (has / 8)) (some place) none

-- 16: a list isn't whole records or is too long
abbrev pub row16 : ℕ → ℕ → ℕ → Row
row16 place limit has = wherever PartList no_end (bad_list place limit has)

-- the fibre list, then the assignment list, by their lengths
unfoldable pub list_rows : ℕ → ℕ → List Row
list_rows fibres assigns = row16 1 4096 fibres ∷ row16 2 2048 assigns ∷ []

-- the tests of a check, for a line, the circuit bytes s, and the lengths of the two lists: those of `plan` for the circuits, then those of the lists
unfoldable pub check_table : Line → List ℕ → ℕ → ℕ → List Row
check_table line s fibres assigns = circuit_rows line s ++ (list_rows fibres assigns ++ [])

-- the verdict of the tests: the first refusal that applies, or else how many circuits there are
unfoldable pub judged : Line → List ℕ → List ℕ → List ℕ → Result ℕ Refusal
judged line s fibres assigns = verdict (check_table line s (length fibres) (length assigns)) (length s / 8)

-- THE RULES, run through: what is told of the lowest that is broken; 0 is none
abbrev pub rule_told : ℕ → Option ℕ
rule_told zero = None
rule_told (suc x) = Some (suc x)

-- and of the first that is broken
abbrev pub fault_of : Maybe Breach → Option Fault
fault_of none = None
fault_of (some b) = Some (record { rule = b.rule; place = b.place })

-- THE ANSWER. Yes, with length and floor, where no rule is broken, and else no, with the first that is and its place
abbrev pub finding_by : Maybe Breach → ℕ → ℕ → Finding
finding_by none long its_floor = Yes long its_floor
finding_by (some b) long its_floor = No b.rule b.place

-- the length of a list of fibre records: the sum of the numbers of links spanned
abbrev pub length_in : List FibreRecord → ℕ
length_in fs = total (map span_of fs)

-- what is found of lists of records
unfoldable pub found : Line → List Circuit → List FibreRecord → List AssignmentRecord → Finding
found line cs fs gs = finding_by (first_broken line cs fs gs) (length_in fs) (floor line.links line.wavelengths cs)

-- refused, as the table says, or what is found
abbrev pub answer_by : Result ℕ Refusal → Finding → Result Finding Refusal
answer_by v finding = if_refused (refusal_in v) Err (Ok finding)

-- what is answered of lists of bytes
unfoldable pub checked : Line → List ℕ → List ℕ → List ℕ → Result Finding Refusal
checked line s fibres assigns = answer_by (judged line s fibres assigns) (found line (circuits_of s) (fibres_of fibres) (assignments_of assigns))
