-- `better_of`: a circuit that may not go changes nothing. Assumes nothing.
use mathlib.Core.Path.{refl, ◌∙◌, sym}
use Rattle.basics.specs.Tools.{better}
use Rattle.whole_sheet.proofs.choice.better_of.Goals as goal

pub returns-then-not-may_go : goal.returns-then-not-may_go
unfolding better
returns-then-not-may_go c =
    (rw (sym c.may_go.ensures ∙ c.if-not-may_go.true) refl, c.requires.one_of)
