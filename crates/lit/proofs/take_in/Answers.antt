-- `take_in` meets its contract: one store, or none. Assumes nothing.
use native.Mathlib.Omega.{arith}
use Rattle.lit.proofs.Takes.{new_taken, new_written, on_taken, on_written, in_taken, in_written}
use Rattle.lit.proofs.take_in.Goals as goal

pub returns-then-past-first : goal.returns-then-past-first
returns-then-past-first c = let a = c.args in let e = c.from-end in let f = c.from-first in
    (new_taken a.c a.s f.result e.result f.ensures e.ensures (omega arith), new_written a.c a.s a.from a.layer a.fibres.now _ (omega arith) c.put_record.ensures)

pub returns-then-past-end : goal.returns-then-past-end
returns-then-past-end c = let a = c.args in let e = c.from-end in
    (on_taken a.c a.s e.result e.ensures (omega arith) (omega arith), on_written a.c a.s a.from a.layer a.fibres.now _ (omega arith) (omega arith) c.put.ensures)

pub returns : goal.returns
returns c = let a = c.args in
    (in_taken a.c a.s (omega arith) (omega arith), in_written a.c a.s a.from a.layer a.fibres.now (omega arith) (omega arith))
