-- `buffer`: it is as long as it says. Assumes nothing.
use Prim.Native.Nat.{ℕ}
use mathlib.Core.Path.{sym}
use lib.ListN.{length-replicate}
use Rattle.entry_text.proofs.buffer.Goals as goal

pub returns : goal.returns
returns c = sym (length-replicate {A = ℕ} 1048577 0)
