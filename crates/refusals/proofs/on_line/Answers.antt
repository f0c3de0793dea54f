-- `on_line` meets its contract: no record before the one that is read has bad ends. Assumes nothing.
use Prim.Native.Nat.{◌+◌}
use mathlib.Core.Path.{◌≡◌, ◌∙◌, ap, sym}
use mathlib.Core.Bool.{true}
use Rattle.std.specs.Prelude.{Option as Told, Err, is_some}
use Rattle.records.specs.Records.{record_at, circuit_of}
use Rattle.refusals.specs.Table.{wrong_end}
use Rattle.refusals.specs.declared.Reason.TheVariants.{WrongEnd}
use Rattle.refusals.specs.declared.End.{End}
use Rattle.refusals.proofs.FirstLaws.{none_more, refused_at, checked_all}
use Rattle.refusals.proofs.EndLaws.{end_bad}
use Rattle.refusals.proofs.on_line.Invariants.{isBad}
use Rattle.refusals.proofs.on_line.Goals as goal

pub returns-then-is_some : goal.returns-then-is_some
returns-then-is_some c =
    let l = c.loop-j in
    let a = c.args in
    let x = circuit_of (record_at a.circuits.now l.j) in
    let e : c.wrong_end-end.result ≡ wrong_end a.n x = c.wrong_end-end.ensures ∙ ap (wrong_end a.n) c.record_at-c.ensures in
    let bad : isBad a.n a.circuits.now l.j ≡ true = sym (end_bad a.n x) ∙ ap is_some (sym e) ∙ sym c.is_some.ensures ∙ c.if-is_some.true in
    ap (λ (o : Told End). Err (record { reason = WrongEnd; place = l.j + 1; end = o })) e
    ∙ refused_at (isBad a.n a.circuits.now) WrongEnd (λ i. wrong_end a.n (circuit_of (record_at a.circuits.now i))) a.m a.m l.j c.loop-j-test.true bad l.invariant

pub loop-j-preserved : goal.loop-j-preserved
loop-j-preserved c =
    let l = c.loop-j in
    let a = c.args in
    let x = circuit_of (record_at a.circuits.now l.j) in
    let e : c.wrong_end-end.result ≡ wrong_end a.n x = c.wrong_end-end.ensures ∙ ap (wrong_end a.n) c.record_at-c.ensures in
    none_more (isBad a.n a.circuits.now) l.j l.invariant (sym (end_bad a.n x) ∙ ap is_some (sym e) ∙ sym c.is_some.ensures ∙ c.if-is_some.false)

pub returns : goal.returns
returns c =
    let l = c.loop-j in
    let a = c.args in
    checked_all (isBad a.n a.circuits.now) WrongEnd (λ i. wrong_end a.n (circuit_of (record_at a.circuits.now i))) a.m a.m l.j c.loop-j-test.false l.invariant
