-- `examine` meets its contract: the first broken rule, or else length and floor. Assumes nothing.
use Rattle.checker.proofs.Judging.{no_found, yes_found}
use Rattle.checker.proofs.examine.Goals as goal

pub returns-in-Some : goal.returns-in-Some
returns-in-Some c = no_found _ _ _ _ _ c.first_broken.ensures _ c.in-Some.is

pub returns-in-None : goal.returns-in-None
returns-in-None c = yes_found _ _ _ _ _ c.first_broken.ensures c.in-None.is _ _ c.length_of.ensures c.floor_of.ensures
