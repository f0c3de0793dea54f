-- `most_of`: the largest c(i) of the links before i. Assumes nothing.
use Prim.Native.Nat.{◌-◌}
use mathlib.Core.Path.{◌≡◌}
use Rattle.basics.specs.Tools.{top}
use Rattle.records.specs.Records.{circuits_in}
use Rattle.method.specs.Sheet.{need}
use Rattle.whole_sheet.proofs.loads.most_of.Given as goal

abbrev pub invariant-loop-i : goal.invariant-loop-i
invariant-loop-i l = l.most ≡ top (need l.job.wavelengths (circuits_in l.job.circuits l.circuits)) (l.i - 1)
