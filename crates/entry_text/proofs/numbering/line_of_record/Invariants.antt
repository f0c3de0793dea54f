-- `line_of_record` meets its contract: each turn passes a line that counts. Assumes nothing.
use Rattle.std.proofs.Common.{◌-◌}
use Rattle.entry_text.proofs.LineLaws.{Left}
use Rattle.entry_text.proofs.numbering.line_of_record.Given as goal

abbrev pub invariant-loop : goal.invariant-loop
invariant-loop l = Left l.text l.k (l.k - l.counter) l.i l.number
