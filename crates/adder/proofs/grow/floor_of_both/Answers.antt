-- `floor_of_both` meets its contract: the floor of the joined file. Assumes nothing.
use Rattle.adder.proofs.GrowingBoth.{joined_accepted, joined_floor}
use Rattle.adder.proofs.grow.floor_of_both.Goals as goal

pub floor_of-requires : goal.floor_of-requires
floor_of-requires c = let a = c.args in let p = c.requires in
    joined_accepted a.n a.w _ _ c.join-e.result a.old.now a.new.now _ _ p.0 p.1 p.2 p.3 c.join-e.ensures.0 c.join-e.ensures.1

pub returns : goal.returns
returns c = let a = c.args in let p = c.requires in
    joined_floor a.n a.w _ _ c.join-e.result a.old.now a.new.now _ _ _ p.0.file.whole c.join-e.ensures.0 c.join-e.ensures.1 c.floor_of.ensures
