-- `write_fields` meets its contract: each turn writes a field more. Assumes nothing.
use Rattle.std.proofs.Common.{◌≡◌, length, take}
use Rattle.text.specs.Wrote.{Wrote}
use Rattle.sheet_text.specs.Text.{fields}
use Rattle.sheet_text.proofs.fields.write_fields.Given as goal

abbrev pub invariant-loop-x : goal.invariant-loop-x
invariant-loop-x l = (length l.out ≡ length l.initial.out) × Wrote (fields (take l.x-index l.xs)) l.at l.initial.out l.out
