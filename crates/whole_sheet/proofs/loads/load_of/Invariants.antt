-- `load_of`: how many of the circuits before j use the link. Assumes nothing.
use mathlib.Core.Path.{◌≡◌}
use Rattle.basics.specs.Tools.{count}
use Rattle.records.specs.Records.{circuits_in}
use Rattle.method.specs.Line.{circuit, uses}
use Rattle.whole_sheet.proofs.loads.load_of.Given as goal

abbrev pub invariant-loop-j : goal.invariant-loop-j
invariant-loop-j l = l.many ≡ count (λ d. uses (circuit (circuits_in l.m l.circuits) d) l.i) l.j
