-- `keep_in_turn` meets its contract: circuit by circuit, by rising number. Assumes nothing.
use mathlib.Core.Path.{◌≡◌}
use lib.ListN.{length}
use Rattle.records.specs.Bytes.{cells_of}
use Rattle.mender.proofs.Sifting.{Keeping}
use Rattle.mender.proofs.sift.keep_in_turn.Given as goal

abbrev pub invariant-loop-t : goal.invariant-loop-t
invariant-loop-t l = (length l.kept ≡ 2048) × Keeping l.damaged.wavelengths l.damaged.m l.damaged.many l.damaged.circuits.now l.damaged.fibres.now l.damaged.assigns.now (cells_of l.order) l.t l.kept l.ends l.chains.heads l.chains.next
