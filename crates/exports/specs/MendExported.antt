-- What `fibre_mend` answers: the outcome of `mend`, with a plain struct for the answer. What a reader must believe.
-- Assumes nothing.
use Rattle.std.specs.Prelude.{ℕ, zero, suc, ◌≡◌, Result, Ok, Err}
use Rattle.refusals.specs.Refusals.{number_of, end_told}
use Rattle.refusals.specs.declared.Refusal.{Refusal}
use Rattle.mender.specs.declared.Mended.{Mended}
use Rattle.exports.specs.Numbers.{refusal_numbered}
use Rattle.exports.specs.declared.mend.MendAnswer.{MendAnswer}

-- an answer as numbers: refusal 0 is a register that was mended
abbrev pub flat_mend : Result Mended Refusal → MendAnswer
flat_mend (Ok m) = record { refusal = 0; place = 0; end = 0; fibres = m.counts.fibres; total = m.counts.total; floor = m.counts.floor; lines = m.lines }
flat_mend (Err r) = record { refusal = number_of r.reason; place = r.place; end = end_told r.end; fibres = 0; total = 0; floor = 0; lines = 0 }

-- mended where the refusal is 0
abbrev pub told_mend_by : ℕ → ℕ → ℕ → Mended → Result Mended Refusal
told_mend_by zero place end mended = Ok mended
told_mend_by (suc k) place end mended = Err (refusal_numbered (suc k) place end)

-- the answer that a caller tells from the numbers
abbrev pub told_mend : MendAnswer → Result Mended Refusal
told_mend r = told_mend_by r.refusal r.place r.end (record { counts = record { fibres = r.fibres; total = r.total; floor = r.floor }; lines = r.lines })

-- what `mend` promises of its answer, it promises of the struct: the answer that is told has this outcome, and the struct tells nothing else
pub record MendExported (Outcome : Result Mended Refusal → Type 0) (r : MendAnswer) : Type 0 where
  pub outcome : Outcome (told_mend r)
  pub plain : r ≡ flat_mend (told_mend r)
