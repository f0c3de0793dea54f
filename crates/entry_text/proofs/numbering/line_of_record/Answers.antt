-- `line_of_record` meets its contract: each turn passes a line that counts. Assumes nothing.
use Rattle.std.proofs.Common.{◌≡◌, ◌+◌, ◌-◌, arith}
use Rattle.entry_text.proofs.LineLaws.{left_start, left_walked, left_next, left_here, left_over}
use Rattle.entry_text.proofs.numbering.line_of_record.Goals as goal

pub loop-init : goal.loop-init
loop-init c =
    let k = c.args.k in
    let e : k - 0 ≡ k = omega arith in
    rw e (left_start c.args.text.now k)

pub returns-in_default : goal.returns-in_default
returns-in_default c =
    let s = c.args.text.now in
    let k = c.args.k in
    let l = c.loop in
    let n = c.in_default.ensures in
    left_over s k (k - l.counter) n.0 c.in_default.field-0 (left_walked s k (k - l.counter) l.i l.number n.0 c.in_default.field-0 n.1 l.invariant) n.2

pub loop-preserved : goal.loop-preserved
loop-preserved c =
    let s = c.args.text.now in
    let k = c.args.k in
    let l = c.loop in
    let line = c.in-Ok.line in
    let n = c.in-Ok.ensures in
    let e : k - (l.counter + 1) ≡ k - l.counter - 1 = omega arith in
    rw e (left_next s k (k - l.counter) line.start line.number line.end (left_walked s k (k - l.counter) l.i l.number line.start line.number n.0 l.invariant) n.1 n.2 n.3 (λ z. omega arith))

pub returns-in-Ok-next_counted : goal.returns-in-Ok-next_counted
returns-in-Ok-next_counted c =
    let s = c.args.text.now in
    let k = c.args.k in
    let l = c.loop in
    let line = c.in-Ok-next_counted.line in
    let n = c.in-Ok-next_counted.ensures in
    left_here s k (k - l.counter) line.start line.number line.end (left_walked s k (k - l.counter) l.i l.number line.start line.number n.0 l.invariant) n.1 n.2 n.3 (omega arith)

pub returns-in-Err : goal.returns-in-Err
returns-in-Err c =
    let s = c.args.text.now in
    let k = c.args.k in
    let l = c.loop in
    let n = c.in-Err.ensures in
    left_over s k (k - l.counter) n.0 c.in-Err.field-0 (left_walked s k (k - l.counter) l.i l.number n.0 c.in-Err.field-0 n.1 l.invariant) n.2
