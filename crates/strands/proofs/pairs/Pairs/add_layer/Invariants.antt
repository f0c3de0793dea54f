-- `Pairs::add_layer` meets its contract: the loop stands as `Going` says, and its turns are the laws of proofs/Going.antt. Assumes nothing.
use Prim.Native.Nat.{◌+◌, ◌-◌}
use mathlib.Core.Path.{◌≡◌}
use Rattle.records.specs.Bytes.{cells_of}
use Rattle.method.specs.Sheet.{at}
use Rattle.strands.specs.inner.Layers.{link_or_end, on_line, reaches}
use Rattle.strands.specs.inner.Pairs.{Going}
use Rattle.strands.proofs.pairs.Pairs.add_layer.Given as goal

abbrev pub invariant-loop-at : goal.invariant-loop-at
invariant-loop-at l =
    (l.at ≡ on_line l.n (link_or_end l.n l.at)) × Going l.h (reaches (at (cells_of l.work)) l.t) l.n l.initial.self.count l.initial.self.lasts l.self.lasts l.self.count (link_or_end l.n l.at)

abbrev pub decreases-loop-at : goal.decreases-loop-at
decreases-loop-at l = l.n + 1 - link_or_end l.n l.at
