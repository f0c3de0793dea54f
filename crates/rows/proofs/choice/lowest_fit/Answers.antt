-- `lowest_fit`: two columns within their bounds are the test of four comparisons. Assumes nothing.
use Rattle.std.proofs.Common.{refl, arith}
use Rattle.records.specs.Bytes.{cells_of}
use Rattle.rows.proofs.FitLaws.{first_is}
use Rattle.rows.proofs.choice.lowest_fit.Goals as goal

pub returns : goal.returns
returns c =
    let a = c.args in
    let r = c.requires.low_le_from in
    first_is a.m _ (cells_of a.list.now) a.waiting a.run _ _ (omega arith) (omega arith) refl refl refl refl (omega arith) (omega arith) c.first_waiting.ensures
