-- `line_start` meets its contract: each turn passes a line. Assumes nothing.
use Rattle.std.proofs.Common.{◌≡◌, ◌+◌, ◌-◌, ◌≤◌, length}
use Rattle.entry_text.specs.Lines.{after_lines}
use Rattle.entry_text.proofs.numbering.line_start.Given as goal

abbrev pub invariant-loop : goal.invariant-loop
invariant-loop l = (l.counter ≤ l.line + 1) × (l.i ≡ after_lines l.text (l.counter - 1)) × (l.i ≤ length l.text)
