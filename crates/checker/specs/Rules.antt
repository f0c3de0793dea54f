-- The eight rules of a plan in records, in the paper's order, and the first that is broken. What a reader must believe.
-- Circuits, fibre records and assignment records are known by their places, counted from 0; a breach tells its place counted from 1.
-- Assumes nothing.
use Rattle.std.specs.Prelude.{ℕ, suc, ◌-◌, Bool, true, false, not, ◌&&◌, ◌||◌, cond, List, [], ◌∷◌, ◌++◌, map, length, get_or, leb, ltb, eqb}
use Rattle.std.proofs.Math.Option.{Option, none, some}
use Rattle.basics.specs.Tools.{any}
use Rattle.records.specs.declared.Circuit.{Circuit}
use Rattle.records.specs.declared.FibreRecord.{FibreRecord}
use Rattle.records.specs.declared.AssignmentRecord.{AssignmentRecord}
use Rattle.records.specs.declared.Line.{Line}
use Rattle.method.specs.Line.{circuit, Plan}
use Rattle.refusals.specs.Table.{first_record}
use Rattle.register.specs.Plans.{span_of, place_of}
use Rattle.clashes.specs.Clashes.{clash}

-- a rule: its number, and whether it is broken
pub record Rule : Type 0 where
  pub number : ℕ
  pub broken : Bool

-- a broken rule, by its number, and its place
pub record Breach : Type 0 where
  pub rule : ℕ
  pub place : ℕ

-- RULES OF A FIBRE, the one at place i. 1: its number isn't its place
abbrev pub rule1 : ℕ → FibreRecord → Rule
rule1 i f = record { number = 1; broken = not (eqb f.number (suc i)) }

-- 2: first link 0, first past last, or last past n
abbrev pub rule2 : ℕ → FibreRecord → Rule
rule2 n f = record { number = 2; broken = eqb f.first 0 || ltb f.last f.first || ltb n f.last }

-- both, by rising number
abbrev pub rules_of_fibre : ℕ → ℕ → FibreRecord → List Rule
rules_of_fibre n i f = rule1 i f ∷ rule2 n f ∷ []

-- RULES OF AN ASSIGNMENT a, for the circuit c of its place. 4: not the circuit number of that place
abbrev pub rule4 : Circuit → AssignmentRecord → Rule
rule4 c a = record { number = 4; broken = not (eqb a.circuit c.number) }

-- 5: no such fibre among k
abbrev pub rule5 : ℕ → AssignmentRecord → Rule
rule5 k a = record { number = 5; broken = not (leb 1 a.fibre && leb a.fibre k) }

-- 6: not spanned by its fibre f
abbrev pub rule6 : FibreRecord → Circuit → Rule
rule6 f c = record { number = 6; broken = not (leb f.first c.first && leb c.last f.last) }

-- 7: wavelength not 1 to w
abbrev pub rule7 : ℕ → AssignmentRecord → Rule
rule7 w a = record { number = 7; broken = not (leb 1 a.wavelength && leb a.wavelength w) }

-- 8: clashes with an earlier assignment
abbrev pub rule8 : Bool → Rule
rule8 clashing = record { number = 8; broken = clashing }

-- rules 4 to 7, which an assignment breaks by itself, by rising number
abbrev pub own_rules : ℕ → ℕ → Circuit → AssignmentRecord → FibreRecord → List Rule
own_rules w k c a f = rule4 c a ∷ rule5 k a ∷ rule6 f c ∷ rule7 w a ∷ []

-- all five
abbrev pub rules_of_assignment : ℕ → ℕ → Circuit → AssignmentRecord → FibreRecord → Bool → List Rule
rules_of_assignment w k c a f clashing = own_rules w k c a f ++ (rule8 clashing ∷ [])

-- ONE RULE OF SEVERAL. The lowest that is broken, of rules that stand by rising number from 1 on; 0 if none is
unfoldable pub lowest_broken : List Rule → ℕ
lowest_broken [] = 0
lowest_broken (r ∷ rs) = cond r.broken r.number (lowest_broken rs)

-- some rule is broken
abbrev pub faulty : List Rule → Bool
faulty rs = not (eqb (lowest_broken rs) 0)

-- at a place, counted from 1, the lowest rule that is broken there
abbrev pub breach_at : (ℕ → List Rule) → Option ℕ → Option Breach
breach_at rules none = none
breach_at rules (some place) = some (record { rule = lowest_broken (rules (place - 1)); place = place })

-- of m places, each with its rules, the first faulty one and its lowest rule
unfoldable pub first_fault : (ℕ → List Rule) → ℕ → Option Breach
first_fault rules m = breach_at rules (first_record (λ i. faulty (rules i)) m)

-- the first breach that there is
abbrev pub first_of : List (Option Breach) → Option Breach
first_of [] = none
first_of (none ∷ rest) = first_of rest
first_of (some b ∷ rest) = some b

-- LISTS OF RECORDS. What stands past the end of a list of fibre records: it spans no link
abbrev pub no_fibre_record : FibreRecord
no_fibre_record = record { number = 0; first = 1; last = 0; layer = 0 }

-- what stands past the end of a list of assignment records
abbrev pub no_assignment_record : AssignmentRecord
no_assignment_record = record { circuit = 0; fibre = 0; wavelength = 0 }

-- fibre record i
abbrev pub fibre_at : List FibreRecord → ℕ → FibreRecord
fibre_at fs i = get_or fs i no_fibre_record

-- assignment record j
abbrev pub assignment_at : List AssignmentRecord → ℕ → AssignmentRecord
assignment_at gs j = get_or gs j no_assignment_record

-- the rules of fibre i
abbrev pub fibre_rules : ℕ → List FibreRecord → ℕ → List Rule
fibre_rules n fs i = rules_of_fibre n i (fibre_at fs i)

-- assignment j clashes with an earlier one
abbrev pub clashes_before : List Circuit → List AssignmentRecord → ℕ → Bool
clashes_before cs gs j = any (λ i. clash (circuit cs i) (assignment_at gs i) (circuit cs j) (assignment_at gs j)) j

-- the rules of assignment j; fibre q stands at place q - 1
abbrev pub assignment_rules : ℕ → List Circuit → List FibreRecord → List AssignmentRecord → ℕ → List Rule
assignment_rules w cs fs gs j =
    rules_of_assignment w (length fs) (circuit cs j) (assignment_at gs j) (fibre_at fs ((assignment_at gs j).fibre - 1)) (clashes_before cs gs j)

-- rule 3, place 0: not as many assignments as circuits
abbrev pub count_fault : List Circuit → List AssignmentRecord → Option Breach
count_fault cs gs = cond (eqb (length gs) (length cs)) none (some (record { rule = 3; place = 0 }))

-- the first broken rule: of the fibres, then of the count, then of the assignments
unfoldable pub first_broken : Line → List Circuit → List FibreRecord → List AssignmentRecord → Option Breach
first_broken line cs fs gs =
    first_of
    (first_fault (fibre_rules line.links fs) (length fs) ∷
    count_fault cs gs ∷
    first_fault (assignment_rules line.wavelengths cs fs gs) (length gs) ∷
    [])

-- there is a breach
abbrev pub is_broken : Option Breach → Bool
is_broken none = false
is_broken (some b) = true

-- the plan that two lists of records hold
abbrev pub plan_held : List FibreRecord → List AssignmentRecord → Plan
plan_held fs gs = record { fibres = map span_of fs; assignments = map place_of gs }
