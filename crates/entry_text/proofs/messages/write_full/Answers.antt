-- `entry_text::messages::write_full` meets its contract. Assumes nothing.
use Rattle.text.specs.Words.{words, codes}
use Rattle.text.proofs.Writing.{then_part}
use Rattle.entry_text.specs.Messages.{line_words, full_message}
use Rattle.entry_text.proofs.messages.write_full.Goals as goal

pub returns : goal.returns
unfolding full_message words codes
returns c = then_part (line_words c.args.line) _ c.args.out.now _ _ c.write_line_number-a.result c.write_words.result c.write_line_number-a.ensures c.write_words.ensures
