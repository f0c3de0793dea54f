-- `read_circuits` meets its contract: each turn reads the circuit of the next line that counts. Assumes nothing.
use borrow.Author.Rules.{rules}
use mathlib.Core.Path.{refl, ◌∙◌, sym}
use native.Mathlib.Omega.{arith}
use Rattle.std.proofs.lemmas.Result.{err_from_is_err_and}
use Rattle.entry_text.proofs.Readings.{ok_or_err, ok_or_ok, going_start, going_walked, going_more, going_over, going_wrong, going_full}
use Rattle.entry_text.proofs.read_circuits.Goals as goal

pub loop-line-init : goal.loop-line-init
loop-line-init c =
    let args = c.args in
    (search rules, search rules, refl, going_start args.text.now args.start args.first args.out.now)

pub returns-in_err-c : goal.returns-in_err-c
returns-in_err-c c =
    let l = c.loop-line in
    let n = c.in-Ok.ensures in
    let p = err_from_is_err_and c.from_residual.result c.from_residual.ensures.1 in
    let q = ok_or_err _ _ _ _ c.ok_or.ensures.value c.in_err-c.was in
    rw (p.1, p.2, q.1) (going_wrong _ _ _ _ _ _ _ _ _ (going_walked _ _ _ _ _ _ _ _ _ _ n.0 l.invariant.3) n.1 n.2 n.3 (sym c.circuit_in.ensures ∙ q.0))

pub returns-then-room-count : goal.returns-then-room-count
returns-then-room-count c =
    let l = c.loop-line in
    let n = c.in-Ok.ensures in
    let q = ok_or_ok _ _ _ _ c.ok_or.ensures.value c.in_ok-c.was in
    going_full _ _ _ _ _ _ _ _ _ _ (going_walked _ _ _ _ _ _ _ _ _ _ n.0 l.invariant.3) n.1 n.2 n.3 (sym c.circuit_in.ensures ∙ q) c.if-room-count.true

pub loop-line-preserved : goal.loop-line-preserved
loop-line-preserved c =
    let l = c.loop-line in
    let n = c.in-Ok.ensures in
    let q = ok_or_ok _ _ _ _ c.ok_or.ensures.value c.in_ok-c.was in (
      omega arith,
      omega arith,
      c.put_record.auto.list ∙ l.invariant.2,
      going_more _ _ _ _ _ _ _ _ _ _ _ (going_walked _ _ _ _ _ _ _ _ _ _ n.0 l.invariant.3) n.1 (omega arith) n.2 n.3 (sym c.circuit_in.ensures ∙ q) c.if-room-count.false c.put_record.ensures,
    )

pub returns : goal.returns
returns c =
    let n = c.in_default.ensures in
    going_over _ _ _ _ _ _ _ _ (going_walked _ _ _ _ _ _ _ _ _ _ n.1 c.loop-line.invariant.3) n.2
