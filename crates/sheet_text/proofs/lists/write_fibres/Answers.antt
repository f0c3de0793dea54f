-- `write_fibres` meets its contract: a turn writes a line after those before it. Assumes nothing.
use Rattle.std.proofs.Common.{rules, arith}
use Rattle.sheet_text.specs.Text.{fibre_line, fibre_lines}
use Rattle.sheet_text.proofs.Writing.{fibre_more}
use Rattle.text.proofs.Writing.{then_part, by_name}
use Rattle.sheet_text.proofs.lists.write_fibres.Goals as goal

pub loop-i-preserved : goal.loop-i-preserved
loop-i-preserved c =
    let l = c.loop-i in
    let s = c.args.fibres.now in
    let b = c.args.out.now in
    let r = c.record_at-f in
    let w = then_part (fibre_lines l.i s) (fibre_line r.result) b _ _ l.at _ l.invariant.2 c.write_fibre-at.ensures.0 in
    (omega arith, search rules, by_name _ _ b _ _ (fibre_more l.i s r.result r.ensures) w)
