-- `write_circuits` meets its contract: a turn writes a line after those before it. Assumes nothing.
use Rattle.std.proofs.Common.{rules, arith}
use Rattle.sheet_text.specs.Text.{circuit_line, circuit_lines}
use Rattle.sheet_text.proofs.Writing.{circuit_more}
use Rattle.text.proofs.Writing.{then_part, by_name}
use Rattle.sheet_text.proofs.lists.write_circuits.Goals as goal

pub loop-i-preserved : goal.loop-i-preserved
loop-i-preserved c =
    let l = c.loop-i in
    let s = c.args.assigns.now in
    let b = c.args.out.now in
    let r = c.record_at-a in
    let w = then_part (circuit_lines c.args.grid l.i s) (circuit_line c.args.grid r.result) b _ _ l.at _ l.invariant.2 c.write_circuit-at.ensures.0 in
    (omega arith, search rules, by_name _ _ b _ _ (circuit_more c.args.grid l.i s r.result r.ensures) w)
