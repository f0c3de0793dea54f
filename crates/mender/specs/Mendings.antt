-- Calls of `mend`, side by side and one after the other. What a reader must believe.
-- `proofs/Orders.antt` shows `same_mending`: of `TwoMendings`, if one call is mended, the other gives the `SameMending`.
-- `proofs/Yes.antt` shows `mended_yes`: the check says yes to what a call leaves, with its total and floor.
-- `proofs/Again.antt` shows `sound_stays`, that a `SoundCall` is answered with an empty report and leaves the two lists and the report as they are, and `again`,
-- that a `SecondCall` does too: mending twice is mending once.
-- Assumes nothing.
use Rattle.std.specs.Prelude.{ℕ, ◌*◌, ◌/◌, ◌<◌, ◌≤◌, ◌≡◌, List, length, take, Ok}
use Rattle.records.specs.Records.{circuits_of, number_in, record_at}
use Rattle.records.specs.declared.Line.{Line}
use Rattle.method.specs.Demands.{Rearranged}
use Rattle.register.specs.declared.Counts.{Counts}
use Rattle.checker.specs.Checked.{checked}
use Rattle.checker.specs.declared.Finding.TheVariants.{Yes}
use Rattle.mender.specs.Report.{Lent}
use Rattle.mender.specs.Outcome.{Outcome, Answer, mended_with}
use Rattle.mender.specs.Seen.{Bytes, Room}

-- two calls of `mend` with the same circuits in another order, the damaged records with them, the same fibres, and lent areas of the same lengths
pub record TwoMendings (line : Line) (many : ℕ) (s s' : List ℕ) (before after before' after' : Lent) (answer answer' : Answer) : Type 0 where
  pub one : Outcome line s many before after answer
  pub two : Outcome line s' many before' after' answer'
  pub long : length s' ≡ length s
  pub same : Rearranged (circuits_of s) (circuits_of s')
  pub fibres_same : take (8 * many) before'.fibres ≡ take (8 * many) before.fibres
  pub records_same : (i : ℕ) → i < length s / 8 → record_at before'.assigns (same.there i) ≡ record_at before.assigns i
  pub rooms : (length before'.fibres ≡ length before.fibres) × (length before'.assigns ≡ length before.assigns) × (length before'.report ≡ length before.report)
      × (length before'.work ≡ length before.work)

-- what is then the same: the answer, the fibre records, the report, and each circuit's assignment record
pub record SameMending (s s' : List ℕ) (after after' : Lent) (counts : Counts) (lines : ℕ) (answer' : Answer) : Type 0 where
  pub same_answer : answer' ≡ mended_with counts lines
  pub same_fibres : take (8 * counts.fibres) after'.fibres ≡ take (8 * counts.fibres) after.fibres
  pub same_report : take (12 * lines) after'.report ≡ take (12 * lines) after.report
  pub same_assignment : (i j : ℕ) → i < length s / 8 → j < length s' / 8 → number_in s i ≡ number_in s' j → record_at after'.assigns j ≡ record_at after.assigns i

-- a call of `mend` on a register to which the check says yes, with at most 2,048 fibres and room
pub record SoundCall (line : Line) (s : List ℕ) (many : ℕ) (before after : Lent) (answer : Answer) (long its_floor : ℕ) : Type 0 where
  pub call : Outcome line s many before after answer
  pub bytes : Bytes before.assigns
  pub said_yes : checked line s (take (8 * many) before.fibres) before.assigns ≡ Ok (Yes long its_floor)
  pub few : many ≤ 2048
  pub room : Room line.links (length s / 8) many before

-- a call of `mend` on what a call left: its fibre records, at most 2,048, and its assignment list, with room
pub record SecondCall (line : Line) (s : List ℕ) (many : ℕ) (before after before' after' : Lent) (counts : Counts) (lines : ℕ) (answer' : Answer) : Type 0 where
  pub one : Outcome line s many before after (mended_with counts lines)
  pub two : Outcome line s counts.fibres before' after' answer'
  pub fibres_left : take (8 * counts.fibres) before'.fibres ≡ take (8 * counts.fibres) after.fibres
  pub assigns_left : before'.assigns ≡ after.assigns
  pub few : counts.fibres ≤ 2048
  pub room : Room line.links (length s / 8) counts.fibres before'

-- nothing is mended: the answer has these numbers and no line, and no byte of the two lists and of the report changes
pub record NothingMended (before after : Lent) (counts : Counts) (answer : Answer) : Type 0 where
  pub no_lines : answer ≡ mended_with counts 0
  pub same_fibres : after.fibres ≡ before.fibres
  pub same_assigns : after.assigns ≡ before.assigns
  pub same_report : after.report ≡ before.report
