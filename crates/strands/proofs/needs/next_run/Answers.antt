-- `strands::needs::next_run` meets its contract: the first cell within the bounds is that of the first link that reaches t. Assumes nothing.
use mathlib.Core.Path.{◌∙◌, ap}
use native.Mathlib.Omega.{arith}
use Rattle.records.specs.Bytes.{cells_of}
use Rattle.rows.proofs.ShownLaws.{links_low, sought_in}
use Rattle.strands.specs.inner.Layers.{on_line}
use Rattle.strands.proofs.Turns.{next_is}
use Rattle.strands.proofs.needs.next_run.Goals as goal

pub overflow_add-l : goal.overflow_add-l
overflow_add-l c = let a = c.args in let z = sought_in _ a.n a.i _ (omega arith) (omega arith) c.first_within-l.ensures in omega arith

pub returns : goal.returns
returns c = let a = c.args in c.then_some.ensures ∙ ap (on_line a.n) (next_is (cells_of a.work.now) a.n a.t a.i c.first_within-l.result (omega arith) (omega arith) (links_low a.work.now (λ i. omega (arith, c.type_inv.work i))) c.first_within-l.ensures)
