-- `cells_for`: the starts, and the sums of both files. Assumes nothing.
use Prim.Native.Nat.{◌/◌}
use mathlib.Core.Path.{ap}
use mathlib.Core.List.{List}
use native.Mathlib.Omega.{arith}
use lib.ListN.{length}
use Rattle.records.specs.declared.Circuit.{Circuit}
use Rattle.records.specs.Records.{circuits_of}
use Rattle.method.specs.Sheet.{load}
use Rattle.basics.specs.Tools.{sum}
use Rattle.riders.proofs.ColumnLaws.{joined_circuits}
use Rattle.riders.proofs.LoadLaws.{sum_both}
use Rattle.riders.specs.Index.{cells_for}
use Rattle.riders.proofs.admit.cells_for.Goals as goal

pub returns : goal.returns
unfolding cells_for
returns c = let a = c.args in
    let e = ap (λ (cs : List Circuit). sum (load cs) a.links) (joined_circuits a.old.now a.new.now (length a.old.now / 8) (length a.new.now / 8) c.requires.files.0) in
    omega (arith, e, sum_both (circuits_of a.old.now) (circuits_of a.new.now) a.links, c.spans.ensures.0, c.spans-2.ensures.0)
