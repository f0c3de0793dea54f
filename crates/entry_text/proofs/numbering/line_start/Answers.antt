-- `line_start` meets its contract: each turn passes a line. Assumes nothing.
use Rattle.std.proofs.Common.{◌≡◌, ◌+◌, ◌-◌, refl, arith}
use Rattle.basics.proofs.Bools.{by_le}
use Rattle.entry_text.specs.Lines.{after_lines, line_start}
use Rattle.entry_text.proofs.LineLaws.{line_turn}
use Rattle.entry_text.proofs.numbering.line_start.Goals as goal

pub loop-init : goal.loop-init
unfolding after_lines
loop-init c = (omega arith, refl, omega arith)

pub loop-preserved : goal.loop-preserved
loop-preserved c =
    let l = c.loop in
    let e : l.counter + 1 - 1 ≡ l.counter - 1 + 1 = omega arith in
    (omega arith, rw e (line_turn c.args.text.now (l.counter - 1) l.i _ l.invariant.1 c.next_line-i.ensures.0), omega arith)

pub returns : goal.returns
unfolding line_start
returns c =
    let l = c.loop in
    let e : l.counter - 1 ≡ c.args.line - 1 = by_le 1 c.args.line (λ h. let u = l.auto.counter-end h in omega arith) (λ h. omega arith) in
    (rw e at l.invariant.1, omega arith)
