-- `put_part` meets its contract: record by record. Assumes nothing.
use Rattle.records.specs.Bytes.{cells_of}
use Rattle.records.specs.Records.{assignment_bytes, assignment_of, record_at}
use Rattle.parts.specs.Part.{Scattered}
use Rattle.parts.proofs.put_part.Given as goal

abbrev pub invariant-loop-t : goal.invariant-loop-t
invariant-loop-t l = Scattered l.base l.t (cells_of l.places) (λ t. assignment_bytes (assignment_of (record_at l.list t))) l.initial.assigns l.assigns
