-- What `fibre_plan` and `fibre_add` answer: the outcomes of `plan` and `add`, with a plain struct for the answer. What a reader must believe.
-- Assumes nothing.
use Rattle.std.specs.Prelude.{ℕ, zero, suc, ◌≡◌, Result, Ok, Err}
use Rattle.records.specs.declared.Line.{Line}
use Rattle.register.specs.declared.Counts.{Counts}
use Rattle.refusals.specs.Refusals.{number_of, end_told}
use Rattle.refusals.specs.declared.Refusal.{Refusal}
use Rattle.exports.specs.Numbers.{refusal_numbered}
use Rattle.exports.specs.declared.PlanAnswer.{PlanAnswer}

-- an answer as numbers: refusal 0 is a plan
abbrev pub flat : Result Counts Refusal → PlanAnswer
flat (Ok counts) = record { refusal = 0; place = 0; end = 0; fibres = counts.fibres; total = counts.total; floor = counts.floor }
flat (Err r) = record { refusal = number_of r.reason; place = r.place; end = end_told r.end; fibres = 0; total = 0; floor = 0 }

-- a plan where the refusal is 0
abbrev pub told_by : ℕ → ℕ → ℕ → Counts → Result Counts Refusal
told_by zero place end counts = Ok counts
told_by (suc k) place end counts = Err (refusal_numbered (suc k) place end)

-- the answer that a caller tells from the numbers
abbrev pub told : PlanAnswer → Result Counts Refusal
told r = told_by r.refusal r.place r.end (record { fibres = r.fibres; total = r.total; floor = r.floor })

-- the line that a caller names by three numbers
abbrev pub line_of : ℕ → ℕ → ℕ → Line
line_of links wavelengths grid = record { links = links; wavelengths = wavelengths; grid = grid }

-- what an operation promises of its answer, it promises of the struct: the answer that is told has this outcome, and the struct tells nothing else
pub record Exported (Outcome : Result Counts Refusal → Type 0) (r : PlanAnswer) : Type 0 where
  pub outcome : Outcome (told r)
  pub plain : r ≡ flat (told r)
