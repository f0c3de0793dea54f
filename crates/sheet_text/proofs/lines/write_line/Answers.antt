-- `write_line` meets its contract: a letter, the fields in the part after it, and a newline after both. Assumes nothing.
use Rattle.std.proofs.Common.{[], ◌∷◌, ◌+◌}
use Rattle.sheet_text.specs.Text.{fields, line}
use Rattle.text.proofs.Writing.{then_part}
use Rattle.sheet_text.proofs.lines.write_line.Goals as goal

pub returns : goal.returns
unfolding line
returns c =
    let v = c.args.letter in
    let fs = fields c.args.xs.now in
    let b = c.args.out.now in
    let n = c.write_fields-n in
    then_part (v ∷ fs) (10 ∷ []) b _ _ (1 + n.result) 1 (then_part (v ∷ []) fs b _ _ 1 n.result c.write_byte.ensures n.ensures) c.write_byte-2.ensures
