-- `runs_of` meets its contract: each turn sweeps the circuit that comes next along the chain. Assumes nothing.
use Prim.Native.Nat.{suc}
use mathlib.Core.Path.{◌≡◌, refl, ap, sym, ◌∙◌}
use native.Mathlib.Omega.{arith}
use lib.ListN.{get_or}
use Rattle.records.specs.Chains.{entry_of}
use Rattle.chains.proofs.Walks.{entry_is}
use Rattle.lit.proofs.Asks.{walk_start, walk_end, there, has_row, layer_is, asked, number_low, walk_falls, walk_turn}
use Rattle.lit.proofs.runs_of.Goals as goal

pub returns-in_default : goal.returns-in_default
returns-in_default c =
    let a = c.args in
    let f = c.requires.swept_some.file in
    λ x g s. walk_end a.job.circuits a.circuits.now f g (ap entry_of c.in_default.is) (walk_start a.job.circuits a.circuits.now f g a.o (entry_is _ _ c.first-at.ensures) s)

pub layer_of-layer-requires : goal.layer_of-layer-requires
layer_of-layer-requires c =
    let a = c.args in
    let p = c.requires.swept_some in
    let y : suc c.in-Some.head ≡ get_or a.chains.now.heads a.o 0 = sym (ap entry_of c.in-Some.is) ∙ entry_is _ _ c.first-at.ensures in
    has_row a.job.circuits a.circuits.now p.file p.ground c.requires.fibre refl (walk_start a.job.circuits a.circuits.now p.file p.ground a.o y p.swept)

pub loop-at-init : goal.loop-at-init
loop-at-init c =
    let a = c.args in
    let y : suc c.in-Some.head ≡ get_or a.chains.now.heads a.o 0 = sym (ap entry_of c.in-Some.is) ∙ entry_is _ _ c.first-at.ensures in
    (λ x g s. walk_start a.job.circuits a.circuits.now c.requires.swept_some.file g a.o y s)

pub record_at-c-requires : goal.record_at-c-requires
record_at-c-requires c =
    let a = c.args in
    let l = c.loop-at in
    let p = c.requires.swept_some in
    let low = c.requires.fibre in
    let here : entry_of l.at ≡ suc c.in-Some-at.j = ap entry_of c.in-Some-at.is in
    let g = l.invariant p.origin p.ground p.swept in
    let t = there a.job.circuits a.circuits.now p.file p.ground low here g in
    omega arith

pub after-at-requires : goal.after-at-requires
after-at-requires c =
    let a = c.args in
    let l = c.loop-at in
    let p = c.requires.swept_some in
    let low = c.requires.fibre in
    let here : entry_of l.at ≡ suc c.in-Some-at.j = ap entry_of c.in-Some-at.is in
    let g = l.invariant p.origin p.ground p.swept in
    let t = there a.job.circuits a.circuits.now p.file p.ground low here g in
    omega arith

pub take_in-run-requires : goal.take_in-run-requires
take_in-run-requires c =
    let a = c.args in
    let l = c.loop-at in
    let p = c.requires.swept_some in
    let low = c.requires.fibre in
    let here : entry_of l.at ≡ suc c.in-Some-at.j = ap entry_of c.in-Some-at.is in
    let g = l.invariant p.origin p.ground p.swept in
    asked a.job.circuits a.circuits.now p.file p.ground low here g c.layer_of-layer.ensures.1 c.record_at-c.ensures

pub overflow_add-job : goal.overflow_add-job
overflow_add-job c =
    let a = c.args in
    let l = c.loop-at in
    let p = c.requires.swept_some in
    let low = c.requires.fibre in
    let here : entry_of l.at ≡ suc c.in-Some-at.j = ap entry_of c.in-Some-at.is in
    let g = l.invariant p.origin p.ground p.swept in
    -- the new number fits
    let q = number_low a.job.circuits a.circuits.now p.file p.ground low here g c.record_at-c.ensures c.take_in-run.ensures.0 in
    omega arith

pub overflow_cast-job : goal.overflow_cast-job
overflow_cast-job c =
    let a = c.args in
    let l = c.loop-at in
    let p = c.requires.swept_some in
    let low = c.requires.fibre in
    let here : entry_of l.at ≡ suc c.in-Some-at.j = ap entry_of c.in-Some-at.is in
    let g = l.invariant p.origin p.ground p.swept in
    -- the new number fits
    let q = number_low a.job.circuits a.circuits.now p.file p.ground low here g c.record_at-c.ensures c.take_in-run.ensures.0 in
    omega arith

pub loop-at-smaller : goal.loop-at-smaller
loop-at-smaller c =
    let a = c.args in
    let l = c.loop-at in
    let p = c.requires.swept_some in
    let low = c.requires.fibre in
    let here : entry_of l.at ≡ suc c.in-Some-at.j = ap entry_of c.in-Some-at.is in
    let g = l.invariant p.origin p.ground p.swept in
    walk_falls a.job.circuits a.circuits.now p.file p.ground low here g (entry_is _ _ c.after-at.ensures)

pub loop-at-preserved : goal.loop-at-preserved
loop-at-preserved c =
    let a = c.args in
    let l = c.loop-at in
    let f = c.requires.swept_some.file in
    let low = c.requires.fibre in
    let t = c.take_in-run in
    let here : entry_of l.at ≡ suc c.in-Some-at.j = ap entry_of c.in-Some-at.is in
    let y : suc c.in-Some.head ≡ get_or a.chains.now.heads a.o 0 = sym (ap entry_of c.in-Some.is) ∙ entry_is _ _ c.first-at.ensures in
    λ x g s.
    let k = layer_is a.job.circuits a.circuits.now f g low refl (walk_start a.job.circuits a.circuits.now f g a.o y s) c.layer_of-layer.ensures.0 in
    walk_turn a.job.circuits a.circuits.now f g low here (l.invariant x g s) c.record_at-c.ensures k (entry_is _ _ c.after-at.ensures) t.ensures.0 t.ensures.1 t.auto.fibres c.put.ensures

pub returns : goal.returns
returns c =
    let a = c.args in
    λ x g s. walk_end a.job.circuits a.circuits.now c.requires.swept_some.file g (ap entry_of c.in_default-at.is) (c.loop-at.invariant x g s)
