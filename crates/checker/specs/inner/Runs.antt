-- The rules of records that are read from bytes. Contracts inside the crate.
-- Assumes nothing.
use Rattle.std.specs.Prelude.{ℕ, ◌-◌, List}
use Rattle.records.specs.Records.{record_at, circuit_of, assignment_of}
use Rattle.records.specs.declared.Circuit.{Circuit}
use Rattle.records.specs.declared.AssignmentRecord.{AssignmentRecord}
use Rattle.checker.specs.Rules.{Rule, own_rules, fibre_at}
use Rattle.checker.specs.Checked.{fibres_in}

-- rules 4 to 7 of assignment a of circuit c, on one of k fibres of a list
abbrev pub own_rules_on : ℕ → ℕ → List ℕ → Circuit → AssignmentRecord → List Rule
own_rules_on w k fibres c a = own_rules w k c a (fibre_at (fibres_in k fibres) (a.fibre - 1))

-- rules 4 to 7 of assignment j of a list
abbrev pub own_rules_in : ℕ → ℕ → List ℕ → List ℕ → List ℕ → ℕ → List Rule
own_rules_in w k s fibres assigns j = own_rules_on w k fibres (circuit_of (record_at s j)) (assignment_of (record_at assigns j))
