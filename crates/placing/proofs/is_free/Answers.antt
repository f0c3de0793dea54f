-- `is_free` meets its contract: the chain of fibre q has all riders of it. Assumes nothing.
use mathlib.Core.Path.{◌∙◌, ap}
use Rattle.std.specs.Prelude.{is_some}
use Rattle.placing.proofs.SpotLaws.{free_alone}
use Rattle.placing.proofs.is_free.Goals as goal

pub returns : goal.returns
returns c = let a = c.args in λ many rs top h. c.is_some.ensures ∙ ap is_some (c.free_on.ensures rs (h.chained a.q c.requires.numbers.0 top)) ∙ free_alone rs a.c a.q a.v
