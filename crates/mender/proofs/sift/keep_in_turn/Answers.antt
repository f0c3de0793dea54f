-- `keep_in_turn` meets its contract: circuit by circuit, by rising number. Assumes nothing.
use Prim.Native.Nat.{ℕ}
use mathlib.Core.Path.{◌≡◌, refl, ap, ◌∙◌}
use native.Mathlib.Omega.{arith}
use lib.ListN.{length, get_or, length-replicate, length-set, set}
use mathlib.Core.Bool.{Bool, cond, false, true}
use mathlib.Core.List.{List}
use Rattle.placing.specs.Riding.{kept_in}
use Rattle.mender.specs.inner.Steps.{may_stay}
use Rattle.records.specs.Bytes.{cells_of}
use Rattle.records.proofs.CellLaws.{length_cells_of}
use Rattle.parts.proofs.Copying.{place_read}
use Rattle.mender.proofs.Sifting.{keeping_start, keeping_more, keeping_end, turns_by_number}
use Rattle.mender.proofs.sift.keep_in_turn.Goals as goal

-- a flag that is set or not: as many flags
set_or_not : (b : Bool) (j : ℕ) (K : List ℕ) → length (cond b (set K j 1) K) ≡ length K
set_or_not true j K = length-set K j 1
set_or_not false j K = refl

pub loop-t-init : goal.loop-t-init
loop-t-init c =
    let a = c.args in
    let p = c.requires in
    let reg = p.register.1 in (
      omega (arith, ap length p.start.2),
      keeping_start a.damaged.wavelengths a.damaged.m a.damaged.many a.damaged.circuits.now a.damaged.fibres.now a.damaged.assigns.now (cells_of a.order.now) a.kept.now a.ends.now a.chains.now.heads a.chains.now.next
          reg.accepted.file.few p.start.3 (omega (arith, reg.one_each)) p.start.2 p.start.4,
    )

pub keep_if-requires : goal.keep_if-requires
keep_if-requires c =
    let l = c.loop-t in
    let loop-test = c.loop-t-test in
    let get = c.get in
    let index = c.from-j in
    let a = c.args in
    let places = a.order.now in
    let p = c.requires in
    let lt = loop-test.true in
    let o = p.start.1 in
    let n = length_cells_of places a.damaged.m p.start.0 in
    let r = place_read places a.damaged.m l.t get.result index.result p.start.0 lt get.ensures index.ensures in
    let th = o.there.places l.t lt in
    let k : length a.kept.now ≡ 2048 = ap length p.start.2 ∙ length-replicate {A = ℕ} 2048 0 in
    let g = l.invariant.1 in record {
      register = p.register;
      room = (
        omega arith,
        omega arith,
        ap (λ (x : ℕ). get_or l.kept x 0) r ∙ g.waiting l.t (omega arith) (omega arith),
      );
      staying = g.staying;
    }

pub loop-t-preserved : goal.loop-t-preserved
loop-t-preserved c =
    let l = c.loop-t in
    let loop-test = c.loop-t-test in
    let get = c.get in
    let index = c.from-j in
    let keep-if = c.keep_if in
    let a = c.args in
    let places = a.order.now in
    let p = c.requires in
    let lt = loop-test.true in
    let reg = p.register.1 in
    let o = p.start.1 in
    let n = length_cells_of places a.damaged.m p.start.0 in
    let r = place_read places a.damaged.m l.t get.result index.result p.start.0 lt get.ensures index.ensures in
    let th = o.there.places l.t lt in
    let k : length a.kept.now ≡ 2048 = ap length p.start.2 ∙ length-replicate {A = ℕ} 2048 0 in (
      ap length keep-if.ensures.0 ∙ set_or_not (may_stay a.damaged.wavelengths a.damaged.m a.damaged.many a.damaged.circuits.now a.damaged.fibres.now a.damaged.assigns.now (kept_in a.damaged.m a.damaged.assigns.now l.kept) index.result) index.result l.kept ∙ l.invariant.0,
      keeping_more a.damaged.wavelengths a.damaged.m a.damaged.many a.damaged.circuits.now a.damaged.fibres.now a.damaged.assigns.now (cells_of places) l.t index.result l.kept _ l.ends l.chains.heads l.chains.next _ _ _
          (omega arith) r (omega arith) (omega arith)
          (λ x z b d e. o.there.once x z (omega arith) (omega arith) e) keep-if.ensures.0 keep-if.ensures.1 l.invariant.1,
    )

pub returns : goal.returns
returns c =
    let l = c.loop-t in
    let loop-test = c.loop-t-test in
    let a = c.args in
    let places = a.order.now in
    let A = a.damaged.assigns.now in
    let F = a.damaged.fibres.now in
    let s = a.damaged.circuits.now in
    let p = c.requires in
    let reg = p.register.1 in
    let n = length_cells_of places a.damaged.m p.start.0 in (
      keeping_end a.damaged.wavelengths a.damaged.m a.damaged.many s F A (cells_of places) l.t l.kept l.ends l.chains.heads l.chains.next (omega (arith, loop-test.false))
          (turns_by_number p.register.0 a.damaged.wavelengths a.damaged.m a.damaged.many s F A (cells_of places) reg n p.start.1) l.invariant.1,
      l.invariant.1.staying,
    )
