-- `next_counted` meets its contract: each turn walks past a line that does not count. Assumes nothing.
use Rattle.std.proofs.Common.{arith, sym, ◌∙◌}
use Rattle.entry_text.specs.inner.Told.{here, past}
use Rattle.entry_text.proofs.lines.next_counted.Goals as goal

pub loop-i-init : goal.loop-i-init
loop-i-init c = (omega arith, omega arith, here, omega arith)

pub returns-then-not-idle_line : goal.returns-then-not-idle_line
returns-then-not-idle_line c =
    let l = c.loop-i in
    let e = c.line_end-end.ensures in
    (l.invariant.2, omega arith, e.0, sym c.idle_line.ensures ∙ c.if-not-idle_line.true, omega arith, omega arith, omega arith, omega arith)

pub loop-i-preserved : goal.loop-i-preserved
loop-i-preserved c =
    let l = c.loop-i in
    let e = c.line_end-end.ensures in
    (omega arith, omega arith, rw e.0 (past l.i l.number l.invariant.2 (omega arith) (rw (← e.0) (sym c.idle_line.ensures ∙ c.if-not-idle_line.false))), omega arith)

pub returns : goal.returns
returns c = let l = c.loop-i in (l.i, l.invariant.2, omega arith)
