-- `fill`: one link more. Assumes nothing.
use Rattle.riders.proofs.FillLaws.{Filled}
use Rattle.riders.specs.inner.Picks.{rows, Near, near_to}
use Rattle.riders.proofs.stretches.fill.Given as goal

abbrev pub invariant-loop-link : goal.invariant-loop-link
invariant-loop-link l = Near l.columns l.link (near_to l.link) l.near × Filled l.links (rows l.columns) l.initial.index l.link l.at l.index
