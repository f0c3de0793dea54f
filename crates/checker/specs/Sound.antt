-- What a yes and a no say, without running through the rules. What a reader must believe.
-- `proofs/Yes.antt` shows that no rule is broken exactly if `Sound`, and `proofs/First.antt` that a breach is given exactly if it is `FirstBreach`,
-- `proofs/LayerIdle.antt` that lists that are the same `ButLayers` get the same answer.
-- Assumes nothing.
use Rattle.std.specs.Prelude.{ℕ, suc, ◌≤◌, ◌<◌, true, false, ◌≡◌, ◌≢◌, ◌⊎◌, List, length, get_or}
use Rattle.records.specs.declared.Circuit.{Circuit}
use Rattle.records.specs.declared.FibreRecord.{FibreRecord}
use Rattle.records.specs.declared.AssignmentRecord.{AssignmentRecord}
use Rattle.records.specs.declared.Line.{Line}
use Rattle.method.specs.Line.{circuit, Valid}
use Rattle.checker.specs.Rules.{Rule, Breach, fibre_at, assignment_at, fibre_rules, assignment_rules, plan_held}

-- YES: the plan that the lists hold is valid, its fibres are numbered 1, 2, .. and lie on the line, and its assignments stand in file order
pub record Sound (line : Line) (cs : List Circuit) (fs : List FibreRecord) (gs : List AssignmentRecord) : Type 0 where
  pub numbered : (i : ℕ) → i < length fs → (fibre_at fs i).number ≡ suc i
  pub on_line : (i : ℕ) → i < length fs → (1 ≤ (fibre_at fs i).first) × ((fibre_at fs i).first ≤ (fibre_at fs i).last) × ((fibre_at fs i).last ≤ line.links)
  pub in_file_order : (j : ℕ) → j < length cs → (assignment_at gs j).circuit ≡ (circuit cs j).number
  pub valid : Valid line.wavelengths cs (plan_held fs gs)

-- two lists of fibre records that differ in their layers alone; past the end of both stands the same
pub record ButLayers (fs fs' : List FibreRecord) : Type 0 where
  pub long : length fs ≡ length fs'
  pub numbers : (i : ℕ) → (fibre_at fs i).number ≡ (fibre_at fs' i).number
  pub firsts : (i : ℕ) → (fibre_at fs i).first ≡ (fibre_at fs' i).first
  pub lasts : (i : ℕ) → (fibre_at fs i).last ≡ (fibre_at fs' i).last

-- NO. What stands past the end of a list of rules: one that is not broken
abbrev pub no_rule : Rule
no_rule = record { number = 0; broken = false }

-- rule q of a list, a place from 0
abbrev pub rule_at : List Rule → ℕ → Rule
rule_at rs q = get_or rs q no_rule

-- no rule of a list is broken
abbrev pub NoneBroken : List Rule → Type 0
NoneBroken rs = (q : ℕ) → (rule_at rs q).broken ≡ false

-- of m places none is faulty
abbrev pub NoneFaulty : (ℕ → List Rule) → ℕ → Type 0
NoneFaulty rules m = (i : ℕ) → i < m → NoneBroken (rules i)

-- the first faulty of m places, and its lowest rule: no earlier place is faulty, and no rule of that one with a lower number is broken
pub record FirstFault (rules : ℕ → List Rule) (m : ℕ) (b : Breach) : Type 0 where
  pub index : ℕ
  pub below : index < m
  pub placed : b.place ≡ suc index
  pub none_earlier : NoneFaulty rules index
  pub which : ℕ
  pub numbered : (rule_at (rules index) which).number ≡ b.rule
  pub broken : (rule_at (rules index) which).broken ≡ true
  pub none_lower : (q : ℕ) → (rule_at (rules index) q).number < b.rule → (rule_at (rules index) q).broken ≡ false

module _ (line : Line) (cs : List Circuit) (fs : List FibreRecord) (gs : List AssignmentRecord) where
  -- of the fibres
  abbrev pub OfFibres : Breach → Type 0
  OfFibres b = FirstFault (fibre_rules line.links fs) (length fs) b

  -- of the count: no fibre is faulty, and there are not as many assignments as circuits
  pub record OfCount (b : Breach) : Type 0 where
    pub fibres_sound : NoneFaulty (fibre_rules line.links fs) (length fs)
    pub miscounted : length gs ≢ length cs
    pub third : b.rule ≡ 3
    pub no_place : b.place ≡ 0

  -- of the assignments: no fibre is faulty, and there are as many assignments as circuits
  pub record OfAssignments (b : Breach) : Type 0 where
    pub fibres_sound : NoneFaulty (fibre_rules line.links fs) (length fs)
    pub counted : length gs ≡ length cs
    pub fault : FirstFault (assignment_rules line.wavelengths cs fs gs) (length gs) b

  -- the first breach in the paper's order
  abbrev pub FirstBreach : Breach → Type 0
  FirstBreach b = OfFibres b ⊎ OfCount b ⊎ OfAssignments b
