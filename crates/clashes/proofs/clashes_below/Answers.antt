-- `clashes_below` meets its contract: no chain has a circuit at first. Assumes nothing.
use mathlib.Core.Path.{refl}
use Rattle.basics.proofs.Tables.{zeros_at}
use Rattle.clashes.proofs.FibreLaws.{placed_unchained}
use Rattle.clashes.proofs.clashes_below.Goals as goal

pub by_fibre-requires : goal.by_fibre-requires
by_fibre-requires c = placed_unchained c.requires refl refl (zeros_at 4096)
