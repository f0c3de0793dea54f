-- `floor_of` meets its contract: the cells that are lent are zero. Assumes nothing.
use native.Mathlib.Omega.{arith}
use Rattle.checker.proofs.Adding.{zeros_lent}
use Rattle.checker.proofs.measures.floor_of.Goals as goal

pub floor_in-requires : goal.floor_in-requires
floor_in-requires c = record {
  accepted = c.requires;
  zeroed = zeros_lent 1024 c.args.n (omega (arith, c.requires.file.line));
}
