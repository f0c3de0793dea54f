-- `lowest_spot` meets its contract: no fibre passed takes the circuit. Assumes nothing.
use native.Mathlib.Omega.{arith}
use Rattle.placing.specs.Riding.{spans_of}
use Rattle.placing.proofs.SpotLaws.{length_spans_of, spot_found, spot_none}
use Rattle.placing.proofs.search.lowest_spot.Goals as goal

pub returns : goal.returns
returns c = let a = c.args in let l = c.loop-q in λ rs h. let n = length_spans_of a.many a.fibres.now in spot_none (spans_of a.many a.fibres.now) a.waves.low a.waves.high rs a.c l.q (omega arith) (l.invariant rs h)

pub returns-in-Some : goal.returns-in-Some
returns-in-Some c = let a = c.args in let l = c.loop-q in λ rs h.
    let o = c.in-Some.ensures a.many rs (omega arith) (h.chained l.q (omega arith) (omega arith)) in
    let n = length_spans_of a.many a.fibres.now in
    spot_found (spans_of a.many a.fibres.now) a.waves.low a.waves.high rs a.c l.q c.in-Some.v (omega arith) (omega arith) (l.invariant rs h) o
