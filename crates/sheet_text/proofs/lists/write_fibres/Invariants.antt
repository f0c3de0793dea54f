-- `write_fibres` meets its contract: after i turns the lines of i fibres are written, at most 32 bytes each. Assumes nothing.
use Prim.Native.Nat.{◌*◌, ◌≤◌}
use mathlib.Core.Path.{◌≡◌}
use lib.ListN.{length}
use Rattle.sheet_text.specs.Text.{fibre_lines}
use Rattle.text.specs.Wrote.{Wrote}
use Rattle.sheet_text.proofs.lists.write_fibres.Given as goal

abbrev pub invariant-loop-i : goal.invariant-loop-i
invariant-loop-i l = (l.at ≤ 32 * l.i) × (length l.out ≡ length l.initial.out) × Wrote (fibre_lines l.i l.fibres) l.at l.initial.out l.out
