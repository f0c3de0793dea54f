-- `go_on`: the shortlist that is there, or a new one. Assumes nothing.
use Rattle.riders.proofs.PickLaws.{near_same, near_anew}
use Rattle.riders.proofs.stretches.Shortlist.go_on.Goals as goal

pub returns-else-link-eq1 : goal.returns-else-link-eq1
returns-else-link-eq1 c = near_same _ _ _ c.if-link-eq1.false c.requires.near

pub returns-then-link-eq1 : goal.returns-then-link-eq1
returns-then-link-eq1 c = near_anew _ _ _ c.if-link-eq1.true c.pick.ensures
