-- `all_rows`: before row k the lent sheet has k - 1 rows. Assumes nothing.
use Prim.Native.Nat.{◌-◌, ◌*◌}
use mathlib.Core.Path.{◌≡◌}
use lib.ListN.{length}
use Rattle.whole_sheet.specs.inner.Tables.{Sources, TableAfter, KeptBehind}
use Rattle.whole_sheet.proofs.table.all_rows.Given as goal

abbrev pub invariant-loop-k : goal.invariant-loop-k
invariant-loop-k l =
    Sources l.job.links l.job.wavelengths l.job.circuits l.top l.circuits l.work l.sheet
    × TableAfter l.job.links l.job.wavelengths l.job.circuits (l.k - 1) l.circuits l.work l.sheet × KeptBehind (l.job.links * (l.top * l.job.wavelengths)) l.initial.sheet l.sheet
    × (length l.sheet ≡ length l.initial.sheet)
