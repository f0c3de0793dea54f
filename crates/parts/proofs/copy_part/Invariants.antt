-- `copy_part` meets its contract: record by record. Assumes nothing.
use Prim.Native.Nat.{◌*◌}
use mathlib.Core.List.{◌++◌}
use mathlib.Core.Path.{◌≡◌}
use lib.ListN.{drop, take}
use Rattle.records.specs.Bytes.{cells_of}
use Rattle.records.specs.Records.{circuits_of, file_of}
use Rattle.parts.specs.Part.{chosen}
use Rattle.parts.proofs.copy_part.Given as goal

abbrev pub invariant-loop-t : goal.invariant-loop-t
invariant-loop-t l = (l.file ≡ file_of (take l.t (chosen (circuits_of l.circuits) (cells_of l.places))) ++ drop (8 * l.t) l.initial.file)
