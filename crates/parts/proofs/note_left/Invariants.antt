-- `note_left` meets its contract: place by place. Assumes nothing.
use Prim.Native.Nat.{◌≤◌}
use Rattle.additions.specs.Adding.{unplaced}
use Rattle.parts.proofs.Noting.{Noted}
use Rattle.parts.specs.Left.{said_behind}
use Rattle.parts.proofs.note_left.Given as goal

abbrev pub invariant-loop-j : goal.invariant-loop-j
invariant-loop-j l = (l.k ≤ l.j) × Noted (unplaced (said_behind l.base l.m l.assigns)) l.j l.k l.places
