-- `remake` meets its contract: what its steps leave is the mending. Assumes nothing.
use Prim.Native.Nat.{◌+◌, ◌-◌, ◌*◌, ◌/◌, ◌≤◌}
use mathlib.Core.Path.{◌∙◌}
use mathlib.Core.List.{map}
use borrow.Author.Rules.{rules}
use native.Mathlib.Omega.{arith}
use lib.ListN.{length, drop}
use borrow.Rule.Slice.PartMut.{mid_len, drop_put, same_len_mid}
use Rattle.mender.specs.inner.Lines.{begun_line}
use Rattle.mender.specs.inner.Steps.{lost}
use Rattle.mender.proofs.Remaking.{old_short, left_asked, few_new, short_new, lines_begun, all_remade}
use Rattle.mender.proofs.remake.remake.Goals as goal

pub refill-lines-requires : goal.refill-lines-requires
refill-lines-requires c =
    let a = c.args in
    let W = a.work.now in
    let h = c.requires in
    let n = a.line.links in
    let m = length a.circuits.now / 8 in
    let room : 4 * n + 4 * m ≤ length W = h.work_room in
    let part = mid_len (4 * n) (4 * n + 4 * m) W room in record {
      register = (n, h.register);
      room = (h.report_room, omega arith);
    }

pub plan_left-added-requires : goal.plan_left-added-requires
plan_left-added-requires c =
    let refill = c.refill-lines in
    let a = c.args in
    let W = a.work.now in
    let s = a.circuits.now in
    let h = c.requires in
    let n = a.line.links in
    let m = length s / 8 in
    rw c.on-job.ensures (left_asked n a.line.wavelengths m a.many s a.fibres.now a.assigns.now a.report.now W h _ _ _ _ refill.ensures
    (same_len_mid (4 * n) (4 * n + 4 * m - 4 * n) W refill.new.ends refill.auto.ends))

pub fill_lines-requires : goal.fill_lines-requires
fill_lines-requires c =
    let refill = c.refill-lines in
    let plan-left = c.plan_left-added in
    let a = c.args in
    let R = a.report.now in
    let A = a.assigns.now in
    let F = a.fibres.now in
    let s = a.circuits.now in
    let h = c.requires in
    let n = a.line.links in
    let m = length s / 8 in
    let L = lost a.line.wavelengths m a.many s F A in
    let b = lines_begun n a.line.wavelengths m a.many s F A R a.work.now h _ _ _ _ refill.ensures _ _ _ _ (rw c.on-job.ensures at plan-left.ensures) in record {
      few = omega arith;
      begun = (s, A, L, drop (12 * length (map (begun_line s A) L)) R, b.0, b.1, b.2);
    }

pub overflow_add-result : goal.overflow_add-result
overflow_add-result c =
    let refill = c.refill-lines in
    let plan-left = c.plan_left-added in
    let a = c.args in
    let s = a.circuits.now in
    let h = c.requires in
    let n = a.line.links in
    let m = length s / 8 in
    let new = few_new n a.line.wavelengths m a.many s a.fibres.now a.assigns.now a.report.now a.work.now h _ _ _ _ refill.ensures _ _ _ _ (rw c.on-job.ensures at plan-left.ensures) in
    omega arith

pub overflow_add-result-2 : goal.overflow_add-result-2
overflow_add-result-2 c =
    let length-of = c.length_of-span in
    let refill = c.refill-lines in
    let plan-left = c.plan_left-added in
    let a = c.args in
    let F = a.fibres.now in
    let s = a.circuits.now in
    let h = c.requires in
    let n = a.line.links in
    let m = length s / 8 in
    let short = old_short a.many F (λ i. search rules) in
    let new = short_new n a.line.wavelengths m a.many s F a.assigns.now a.report.now a.work.now h _ _ _ _ refill.ensures _ _ _ _ (rw c.on-job.ensures at plan-left.ensures) in
    omega arith

pub returns : goal.returns
returns c =
    let refill = c.refill-lines in
    let plan-left = c.plan_left-added in
    let fill-lines = c.fill_lines in
    let length-of = c.length_of-span in
    let floor-of = c.floor_of-floor in
    let a = c.args in
    let R = a.report.now in
    let A = a.assigns.now in
    let F = a.fibres.now in
    let s = a.circuits.now in
    let h = c.requires in
    let n = a.line.links in
    let m = length s / 8 in
    let W = a.work.now in
    let L = lost a.line.wavelengths m a.many s F A in
    let room : 4 * n + 4 * m ≤ length W = h.work_room in
    let b = lines_begun n a.line.wavelengths m a.many s F A R W h _ _ _ _ refill.ensures _ _ _ _ (rw c.on-job.ensures at plan-left.ensures) in
    let f = fill-lines.ensures s A L (drop (12 * length (map (begun_line s A) L)) R) b.0 b.1 b.2 in
    all_remade n a.line.wavelengths m a.many s F A R W h _ _ _ _ refill.ensures _ _ _ _ (rw c.on-job.ensures at plan-left.ensures)
    _ length-of.result floor-of.result length-of.ensures floor-of.ensures
    (drop_put (4 * n) (4 * n + 4 * m) W refill.new.ends (omega arith) room (refill.auto.ends ∙ mid_len (4 * n) (4 * n + 4 * m) W room)) f
