-- `write_circuits` meets its contract: after i turns the lines of i circuits are written, at most 40 bytes each. Assumes nothing.
use Prim.Native.Nat.{◌*◌, ◌≤◌}
use mathlib.Core.Path.{◌≡◌}
use lib.ListN.{length}
use Rattle.sheet_text.specs.Text.{circuit_lines}
use Rattle.text.specs.Wrote.{Wrote}
use Rattle.sheet_text.proofs.lists.write_circuits.Given as goal

abbrev pub invariant-loop-i : goal.invariant-loop-i
invariant-loop-i l = (l.at ≤ 40 * l.i) × (length l.out ≡ length l.initial.out) × Wrote (circuit_lines l.grid l.i l.assigns) l.at l.initial.out l.out
