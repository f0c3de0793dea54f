-- `fill_lines` meets its contract: line by line. Assumes nothing.
use Prim.Native.Nat.{ℕ, ◌<◌, ◌≤◌}
use mathlib.Core.Path.{ap₂, ◌∙◌}
use mathlib.Core.List.{List, ◌++◌, map}
use native.Mathlib.Omega.{arith}
use lib.ListN.{drop_of_length-le, length}
use lib.Seq.{take_all}
use Rattle.mender.specs.Report.{report_bytes}
use Rattle.mender.specs.inner.Lines.{begun_line, filled_line}
use Rattle.mender.proofs.Lining.{filling_place, filling_room, filling_more}
use Rattle.mender.proofs.lines.fill_lines.Goals as goal

pub loop-t-init : goal.loop-t-init
unfolding report_bytes
loop-t-init c = λ s before js rest n p e. e

pub fill_line-requires : goal.fill_line-requires
fill_line-requires c =
    let l = c.loop-t in
    let loop-test = c.loop-t-test in
    let a = c.args in
    let A = a.assigns.now in
    let p = c.requires in
    let lt = loop-test.true in
    let y = p.begun in
    let f = l.invariant y.0 y.1 y.2 y.3 y.4 y.5 y.6 in
    let b : l.t < length y.2 = omega arith in
    let q = filling_place y.0 y.1 A y.2 y.3 l.t l.report b f in
    let room = y.5 l.t lt in
    (omega arith, filling_room y.0 y.1 A y.2 y.3 l.t l.report b f, omega arith)

pub loop-t-preserved : goal.loop-t-preserved
loop-t-preserved c =
    let l = c.loop-t in
    let loop-test = c.loop-t-test in
    let fill-line = c.fill_line in
    let a = c.args in
    let lt = loop-test.true in
    (λ s before js rest n p e. filling_more s before a.assigns.now js rest l.t l.report _ (omega arith) (l.invariant s before js rest n p e) fill-line.ensures)

pub returns : goal.returns
unfolding report_bytes
returns c =
    let l = c.loop-t in
    let loop-test = c.loop-t-test in
    let a = c.args in
    λ s before js rest n p e. let q : length js ≤ l.t = omega (arith, loop-test.false) in
    l.invariant s before js rest n p e
    ∙ ap₂ (λ (x y : List ℕ). report_bytes (map (filled_line s before a.assigns.now) x) ++ (report_bytes (map (begun_line s before) y) ++ rest))
    (take_all l.t js q) (drop_of_length-le js {i = l.t} q)
