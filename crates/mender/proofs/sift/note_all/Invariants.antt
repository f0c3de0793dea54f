-- `note_all` meets its contract: place by place. Assumes nothing.
use Rattle.records.specs.Bytes.{cells_of}
use Rattle.mender.specs.inner.Lines.{begun_line}
use Rattle.mender.specs.inner.Steps.{waits}
use Rattle.mender.proofs.Lining.{Noting}
use Rattle.mender.proofs.sift.note_all.Given as goal

abbrev pub invariant-loop-t : goal.invariant-loop-t
invariant-loop-t l = Noting (waits l.kept) (begun_line l.circuits l.assigns) (cells_of l.order) l.t l.k l.turns l.initial.report l.report
