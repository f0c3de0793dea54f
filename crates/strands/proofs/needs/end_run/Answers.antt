-- `strands::needs::end_run` meets its contract: the first cell within the bounds is that of the first link that does not reach t. Assumes nothing.
use native.Mathlib.Omega.{arith}
use Rattle.records.specs.Bytes.{cells_of}
use Rattle.rows.proofs.ShownLaws.{sought_in}
use Rattle.strands.proofs.Turns.{end_is}
use Rattle.strands.proofs.needs.end_run.Goals as goal

pub overflow_add-result : goal.overflow_add-result
overflow_add-result c = let a = c.args in let z = sought_in _ a.n a.i _ (omega arith) (omega arith) c.first_within.ensures in omega arith

pub returns : goal.returns
returns c = let a = c.args in end_is (cells_of a.work.now) a.n a.t a.i c.first_within.result (omega arith) (omega arith) (omega arith) c.first_within.ensures
