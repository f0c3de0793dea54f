-- `may_go`: the row is read, and then the circuit. Assumes nothing.
use Prim.Native.Nat.{ℕ}
use mathlib.Core.Path.{refl, ap, ◌∙◌, sym}
use native.Mathlib.Omega.{arith}
use borrow.Author.Tests.{eq-eqb, ne_eqb}
use Rattle.whole_sheet.proofs.Fitting.{row_read}
use Rattle.whole_sheet.specs.inner.Choices.{may_go}
use Rattle.basics.proofs.Bools.{and_then}
use Rattle.method.specs.Sheet.{fits}
use Rattle.method.proofs.Circuits.{circuit_in_lem, lies_at}
use Rattle.records.specs.declared.Circuit.{Circuit}
use Rattle.whole_sheet.proofs.choice.may_go.Goals as goal

pub does_fit-requires-clause-lies : goal.does_fit-requires-clause-lies
does_fit-requires-clause-lies c =
    let a = c.args in
    let b = c.requires.0 in
    let wide = b.wide in
    let y = lies_at a.job.links a.job.circuits a.circuits.now a.j b.file.lies c.requires.2 in
    let f = ap (λ (o : Circuit). o.first) c.record_at.ensures in
    let l = ap (λ (o : Circuit). o.last) c.record_at.ensures in
    (omega arith, omega arith)

pub returns-then-get-eq0 : goal.returns-then-get-eq0
unfolding may_go
returns-then-get-eq0 c =
    let a = c.args in
    let b = c.requires.0 in
    let z = row_read a.job.links a.job.circuits a.j _ a.work.now b.room c.requires.2 c.get.ensures in
    and_then _ _ _ (eq-eqb _ 0 (z ∙ c.if-get-eq0.true))
    (c.does_fit.ensures ∙ ap (λ (n : ℕ). fits n a.row.now c.record_at.result) b.wide
    ∙ ap (fits a.job.links a.row.now) (c.record_at.ensures ∙ sym (circuit_in_lem a.job.circuits a.circuits.now a.j c.requires.2)))

pub returns-else-get-eq0 : goal.returns-else-get-eq0
unfolding may_go
returns-else-get-eq0 c =
    let a = c.args in
    let b = c.requires.0 in
    let z = row_read a.job.links a.job.circuits a.j _ a.work.now b.room c.requires.2 c.get.ensures in
    ne_eqb _ 0 c.if-get-eq0.false ∙ rw (ne_eqb _ 0 (λ e. c.if-get-eq0.false (sym z ∙ e))) refl
