-- What the tests of the old plan and of the new numbers ask: what the tests before them leave. A contract inside the crate.
-- Assumes nothing.
use Rattle.std.specs.Prelude.{ℕ, ◌+◌, ◌*◌, ◌/◌, ◌≤◌, ◌≡◌, List, length}
use Rattle.records.specs.declared.Line.{Line}
use Rattle.rows.specs.Accepted.{Accepted}
use Rattle.two_files.specs.Joint.{Unlike}
use Rattle.adder.specs.declared.Named.{Named}

-- an old file that passed its tests, a new one of whole records, not too many in all, no number twice in either, and lists that have the records that are named
pub record OldAsked (line : Line) (old new : List ℕ) (named : Named) (fibres assigns : List ℕ) : Type 0 where
  pub olds : Accepted line.links line.wavelengths (length old / 8) old
  pub old_whole : 8 * (length old / 8) ≡ length old
  pub new_whole : 8 * (length new / 8) ≡ length new
  pub few : length old / 8 + length new / 8 ≤ 2048
  pub unlike : Unlike old (length old / 8) new (length new / 8)
  pub fibre_room : 8 * named.fibres ≤ length fibres
  pub assign_room : 8 * named.assignments ≤ length assigns
