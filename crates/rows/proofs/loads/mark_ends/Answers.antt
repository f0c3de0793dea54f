-- `mark_ends`: each cell is the mark of the circuits seen. Assumes nothing.
use Rattle.std.proofs.Common.{◌≡◌, ℕ, ◌+◌, sym, refl, ap, ◌∙◌, arith}
use Rattle.method.specs.Line.{circuit}
use Rattle.records.specs.Records.{circuits_in}
use Rattle.records.specs.declared.Circuit.{Circuit}
use Rattle.method.proofs.Circuits.{circuit_in_lem, lies_at}
use Rattle.rows.proofs.MarkLaws.{mark_none, mark_more}
use Rattle.rows.proofs.loads.mark_ends.Goals as goal

pub loop-j-init : goal.loop-j-init
loop-j-init c =
    (refl, mark_none _ _ _ c.requires.1.1)

pub mark_circuit-requires : goal.mark_circuit-requires
mark_circuit-requires c =
    let l = c.loop-j in
    let record_at = c.record_at-c in
    let a = c.args in
    let e = record_at.ensures in
    let p = ap (λ (c : Circuit). c.first) e in
    let q = ap (λ (c : Circuit). c.last) e in
    let y = lies_at a.n a.m a.circuits.now l.j c.requires.0.lies (omega arith) in
    (omega arith, omega arith, omega arith, omega arith, omega arith)

pub loop-j-preserved : goal.loop-j-preserved
loop-j-preserved c =
    let l = c.loop-j in
    let record_at = c.record_at-c in
    let from = c.from in
    let from2 = c.from-in-loop-j in
    let mark = c.mark_circuit in
    let a = c.args in
    let e = record_at.ensures in
    let r = circuit_in_lem a.m a.circuits.now l.j (omega arith) in
    let p : from.result ≡ (circuit (circuits_in a.m a.circuits.now) l.j).first = from.ensures ∙ ap (λ (c : Circuit). c.first) e ∙ sym (ap (λ (c : Circuit). c.first) r) in
    let q : from2.result ≡ (circuit (circuits_in a.m a.circuits.now) l.j).last = from2.ensures ∙ ap (λ (c : Circuit). c.last) e ∙ sym (ap (λ (c : Circuit). c.last) r) in
    let y = lies_at a.n a.m a.circuits.now l.j c.requires.0.lies (omega arith) in
    let f = ap (λ (c : Circuit). c.first) e in
    (mark.auto.cells ∙ l.invariant.0, mark_more _ _ l.j _ _ _ _ (omega arith) l.invariant.1 p (ap (λ (z : ℕ). z + 1) q) (omega arith) (omega arith) mark.ensures)
