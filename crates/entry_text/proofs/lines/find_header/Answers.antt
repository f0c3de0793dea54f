-- `find_header` meets its contract: the header is found from the first line that counts as from the first. Assumes nothing.
use Rattle.std.proofs.Common.{arith, sym, ◌∙◌, ◌+◌, ◌-◌, length}
use Rattle.entry_text.proofs.Readings.{header_walked, header_here, header_over}
use Rattle.entry_text.proofs.lines.find_header.Goals as goal

pub returns-in-Ok : goal.returns-in-Ok
returns-in-Ok c =
    let s = c.args.text.now in
    let line = c.in-Ok.line in
    let n = c.in-Ok.ensures in
    let h = header_walked s line.start line.number n.0 in
    let h0 = h.0 in
    let h1 = h.1 in
    let h2 = h.2 in
    c.opened.ensures ∙ sym (header_here (length s + 2 - line.number) (length s + 1 - line.number) s line.start line.number line.end (omega arith) n.1 n.2 n.3) ∙ h.3

pub returns-in-Err : goal.returns-in-Err
returns-in-Err c =
    let s = c.args.text.now in
    let n = c.in-Err.ensures in
    sym (header_over (length s + 2 - c.in-Err.line) s n.0 c.in-Err.line n.2) ∙ (header_walked s n.0 c.in-Err.line n.1).3
