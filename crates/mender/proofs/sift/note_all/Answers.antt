-- `note_all` meets its contract: place by place. Assumes nothing.
use Prim.Native.Nat.{ℕ, ◌*◌}
use mathlib.Core.Path.{◌≡◌, ap, ◌∙◌}
use mathlib.Core.List.{List, ◌++◌, map}
use borrow.Author.Tests.{eq-eqb, ne_eqb}
use native.Mathlib.Omega.{arith}
use lib.ListN.{length, take, drop}
use lib.Seq.{take_all}
use Rattle.records.specs.Bytes.{cells_of}
use Rattle.records.proofs.CellLaws.{length_cells_of}
use Rattle.parts.proofs.Copying.{place_read}
use Rattle.mender.specs.Report.{report_bytes}
use Rattle.mender.specs.inner.Lines.{begun_line, passing}
use Rattle.mender.specs.inner.Steps.{waits}
use Rattle.mender.proofs.Lining.{noting_kept, noting_line, noting_none}
use Rattle.mender.proofs.sift.note_all.Goals as goal
use Rattle.mender.proofs.sift.note_all.Goals.{then-kept-j-eq0, else-kept-j-eq0}

pub loop-t-init : goal.loop-t-init
loop-t-init c = noting_none _ _ _ _ _

pub bounds-kept-j : goal.bounds-kept-j
bounds-kept-j c =
    let l = c.loop-t in
    let p = c.requires in
    let lt = c.loop-t-test.true in
    let r = place_read c.args.order.now c.args.m l.t c.get.result c.from-j.result p.3 lt c.get.ensures c.from-j.ensures in
    let th = p.6 l.t lt in
    omega arith

pub begin_line-requires : goal.begin_line-requires
begin_line-requires c =
    let l = c.loop-t in
    let p = c.requires in
    let lt = c.loop-t-test.true in
    let r = place_read c.args.order.now c.args.m l.t c.get.result c.from-j.result p.3 lt c.get.ensures c.from-j.ensures in
    let th = p.6 l.t lt in
    (omega arith, omega arith, omega arith, omega arith, omega arith)

pub loop-t-preserved : goal.loop-t-preserved
loop-t-preserved c =
    let l = c.loop-t in
    let a = c.args in
    let p = c.requires in
    let lt = c.loop-t-test.true in
    let r = place_read a.order.now a.m l.t c.get.result c.from-j.result p.3 lt c.get.ensures c.from-j.ensures in
    let n = length_cells_of a.order.now a.m p.3 in
    let who = waits a.kept.now in
    let f = begun_line a.circuits.now a.assigns.now in
    let o = c.if-kept-j-eq0 in
    elim o.branch [
      | then-kept-j-eq0 w ↦
          rw (w.k-is, w.turns-is, w.report-is, w.put.ensures, w.begin_line.ensures)
          (noting_line who f (cells_of a.order.now) l.t l.k c.from-j.result l.turns a.report.now l.report (omega arith) r l.invariant (eq-eqb _ _ w.if-kept-j-eq0.true) (omega arith))
      | else-kept-j-eq0 w ↦
          rw (w.k-is, w.turns-is, w.report-is)
          (noting_kept who f (cells_of a.order.now) l.t l.k c.from-j.result l.turns a.report.now l.report (omega arith) r l.invariant (ne_eqb _ _ w.if-kept-j-eq0.false))
    ]

pub returns : goal.returns
returns c =
    let l = c.loop-t in
    let loop-test = c.loop-t-test in
    let a = c.args in
    let places = a.order.now in
    let p = c.requires in
    let n = length_cells_of places a.m p.3 in
    let e : take l.t (cells_of places) ≡ cells_of places = take_all l.t (cells_of places) (omega (arith, loop-test.false)) in
    let g = l.invariant in
    let who = waits a.kept.now in (
      g.many ∙ ap (λ (x : List ℕ). length (passing who x)) e,
      g.noted ∙ ap (passing who) e,
      g.begun ∙ ap (λ (x : List ℕ). report_bytes (map (begun_line a.circuits.now a.assigns.now) (passing who x)) ++ drop (12 * l.k) a.report.now) e,
      omega arith,
    )
