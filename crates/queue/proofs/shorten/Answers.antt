-- `shorten`: closed up, or begun later. Assumes nothing.
use borrow.Author.Rules.{rules}
use Prim.Native.Nat.{◌-◌}
use native.Mathlib.Omega.{arith}
use Rattle.records.specs.Bytes.{cells_of}
use Rattle.records.proofs.Encode.{cells_fit}
use Rattle.queue.specs.inner.ClosedUp.{any_link}
use Rattle.queue.proofs.Columns.{found_within}
use Rattle.queue.proofs.Shortening.{closed_keeps, later_keeps, none_before}
use Rattle.queue.proofs.shorten.Goals as goal

pub returns-then-q : goal.returns-then-q
returns-then-q c =
    let a = c.args in
    let closed = c.close_up-to in
    (search rules, λ cs R up Q. closed_keeps a.m _ cs R _ _ a.q closed.ensures.1 up Q)

pub returns : goal.returns
returns c =
    let a = c.args in
    let q = a.q in
    let r = c.first_within-from.result in
    let C = cells_of a.list.now in
    let e = found_within a.m q.from (q.to - q.from) r any_link a.list.now c.first_within-from.ensures in
    let z = none_before a.m q.from q.to r C (omega arith) (omega arith) (cells_fit a.list.now (λ i. search rules)) e in
    (search rules, λ cs R up Q. later_keeps a.m r cs R C q z.0 z.1 up Q)
