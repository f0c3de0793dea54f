-- `spans`: the sum of the loads of the first j circuits. Assumes nothing.
use Prim.Native.Nat.{ℕ, ◌/◌, ◌<◌}
use mathlib.Core.Path.{◌≡◌, ◌∙◌, sym, subst}
use mathlib.Core.List.{List}
use native.Mathlib.Omega.{arith}
use native.Mathlib.Numerals.{add-one}
use lib.ListN.{length}
use Rattle.records.specs.declared.Circuit.{Circuit}
use Rattle.records.specs.Records.{record_at, circuit_of, circuits_in, circuits_of}
use Rattle.records.proofs.Files.{length_circuits_in}
use Rattle.method.specs.Line.{Lies}
use Rattle.method.proofs.Circuits.{circuit_in_lem, OnLine, lies_at}
use Rattle.riders.proofs.LoadLaws.{sum_to_more, sum_to_all}
use Rattle.riders.proofs.admit.spans.Goals as goal

-- circuit j lies on the line
online-at : (n m j : ℕ) (s : List ℕ) (c : Circuit) → Lies n (circuits_in m s) → c ≡ circuit_of (record_at s j) → j < m → OnLine n c.first c.last
online-at n m j s c l e h =
    let o = lies_at n m s j l h in
    subst (λ (d : Circuit). OnLine n d.first d.last) (sym e) o

pub overflow_sub-c : goal.overflow_sub-c
overflow_sub-c c = let a = c.args in
    (online-at a.links _ c.loop-j.j a.circuits.now c.record_at-c.result c.requires.2 c.record_at-c.ensures c.loop-j-test.true).order

pub loop-j-preserved : goal.loop-j-preserved
loop-j-preserved c = let a = c.args in
    let l = c.loop-j in
    let q = c.record_at-c.ensures in
    let o = online-at a.links _ l.j a.circuits.now c.record_at-c.result c.requires.2 q c.loop-j-test.true in
    let w = sum_to_more (circuits_of a.circuits.now) a.links l.j c.record_at-c.result (q ∙ sym (circuit_in_lem (length a.circuits.now / 8) a.circuits.now l.j c.loop-j-test.true)) (omega arith) (omega arith) (omega arith) in
    (rw (add-one l.j) (omega arith), omega arith)

pub returns : goal.returns
returns c = let a = c.args in
    let l = c.loop-j in
    let e : l.j ≡ length a.circuits.now / 8 = omega arith in
    (l.invariant.0 ∙ sum_to_all (circuits_of a.circuits.now) a.links l.j (e ∙ sym (length_circuits_in (length a.circuits.now / 8) a.circuits.now)), omega arith)
