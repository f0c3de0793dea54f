-- `blue_to`: all links from i to `stop` are blue. Assumes nothing.
use Rattle.std.proofs.Common.{◌≡◌, ◌+◌, ◌-◌, arith}
use Rattle.records.specs.Bytes.{cells_of}
use Rattle.rows.specs.inner.Colours.{shown}
use Rattle.rows.proofs.ShownLaws.{before_blue, before_not, at_none, blues_more}
use Rattle.rows.proofs.colours.blue_to.Goals as goal

pub returns-then-get : goal.returns-then-get
returns-then-get c =
    let a = c.args in
    let l = c.loop-i in
    let k : l.i - 1 + 1 ≡ l.i = omega arith in
    rw k
    (record {
      pos = omega arith;
      below = omega arith;
      blues = l.invariant.1;
      stop = before_not a.n a.k l.i c.get.result a.lasts.now (omega arith) (omega arith) (omega arith) (omega arith) c.get.ensures c.if-get.true;
    })

pub loop-i-preserved : goal.loop-i-preserved
loop-i-preserved c =
    let a = c.args in
    let l = c.loop-i in
    let b = before_blue a.n a.k l.i c.get.result a.lasts.now (omega arith) (omega arith) (omega arith) (omega arith) c.get.ensures c.if-get.false in
    (omega arith, blues_more _ _ l.i (omega arith) b l.invariant.1)

pub returns : goal.returns
returns c =
    let a = c.args in
    let l = c.loop-i in
    let z = at_none (shown a.n a.k (cells_of a.lasts.now)) 1 (omega arith) in
    record { pos = omega arith; below = omega arith; blues = λ x p q. l.invariant.1 x (omega arith) q; stop = λ e. omega arith }
