-- `put_stretch`: one of the shortlist more. Assumes nothing.
use Rattle.riders.specs.inner.Picks.{listed, number_in, Stretched}
use Rattle.riders.proofs.stretches.put_stretch.Given as goal

abbrev pub invariant-loop-q : goal.invariant-loop-q
invariant-loop-q l = Stretched (listed l.link l.columns l.near) (number_in l.columns l.near) l.q l.at l.initial.index l.end l.index
