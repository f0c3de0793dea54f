-- `entry_text::messages::write_fault_line` meets its contract. Assumes nothing.
use Prim.Native.Nat.{◌+◌}
use mathlib.Core.List.{◌++◌}
use mathlib.Core.Path.{◌∙◌, ap}
use Rattle.text.proofs.Writing.{then_part}
use Rattle.entry_text.specs.Faults.{fault_at}
use Rattle.entry_text.specs.Messages.{fault_words, expected_words, line_words, fault_message}
use Rattle.entry_text.proofs.messages.write_fault_line.Goals as goal

pub returns : goal.returns
unfolding fault_message
returns c = let s = c.args in rw (← (c.fault_at-fault.ensures ∙ ap (fault_at s.text.now s.wrong.line) c.from.ensures)) (then_part (line_words s.wrong.line ++ fault_words c.fault_at-fault.result) (expected_words s.wrong.expected) s.out.now _ _ (c.write_line_number-a.result + c.write_fault.result) c.write_expected.result (then_part (line_words s.wrong.line) (fault_words c.fault_at-fault.result) s.out.now _ _ c.write_line_number-a.result c.write_fault.result c.write_line_number-a.ensures c.write_fault.ensures) c.write_expected.ensures)
