-- What `fibre_check` answers, for every input; it writes nothing. What a reader must believe.
-- Assumes nothing.
use Rattle.std.specs.Prelude.{ℕ, zero, suc, ◌≡◌, List, Result, Ok, Err}
use Rattle.records.specs.declared.Line.{Line}
use Rattle.refusals.specs.Refusals.{number_of, end_told}
use Rattle.refusals.specs.declared.Refusal.{Refusal}
use Rattle.checker.specs.Checked.{checked}
use Rattle.checker.specs.declared.Finding.{Finding}
use Rattle.checker.specs.declared.Finding.TheVariants.{Yes, No}
use Rattle.exports.specs.Numbers.{refusal_numbered}
use Rattle.exports.specs.declared.check.CheckAnswer.{CheckAnswer}

-- a finding as numbers: refusal 0 and rule 0 is a yes, refusal 0 and another rule a no
abbrev pub flat_finding : Result Finding Refusal → CheckAnswer
flat_finding (Ok (Yes total floor)) = record { refusal = 0; place = 0; end = 0; rule = 0; length = total; floor = floor }
flat_finding (Ok (No rule place)) = record { refusal = 0; place = place; end = 0; rule = rule; length = 0; floor = 0 }
flat_finding (Err r) = record { refusal = number_of r.reason; place = r.place; end = end_told r.end; rule = 0; length = 0; floor = 0 }

-- by the refusal, and then by the rule
abbrev pub told_finding_by : ℕ → ℕ → CheckAnswer → Result Finding Refusal
told_finding_by zero zero r = Ok (Yes r.length r.floor)
told_finding_by zero (suc k) r = Ok (No (suc k) r.place)
told_finding_by (suc k) rule r = Err (refusal_numbered (suc k) r.place r.end)

-- the finding that a caller tells from the numbers
abbrev pub told_finding : CheckAnswer → Result Finding Refusal
told_finding r = told_finding_by r.refusal r.rule r

-- the finding that is told is that of `check_plan`, and the struct tells nothing else
pub record CheckExported (line : Line) (s fibres assigns : List ℕ) (r : CheckAnswer) : Type 0 where
  pub finding : told_finding r ≡ checked line s fibres assigns
  pub plain : r ≡ flat_finding (told_finding r)
