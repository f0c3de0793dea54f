-- `clashes_on` meets its contract: each turn walks the circuit that comes next along the chain, or finds a clash. Assumes nothing.
use Prim.Native.Nat.{ℕ, suc, ◌<◌}
use mathlib.Core.Path.{◌≡◌, refl, ap, sym, ◌∙◌}
use native.Mathlib.Omega.{arith}
use lib.ListN.{length-set, replicate}
use Rattle.basics.proofs.Tables.{zeros_at}
use Rattle.records.specs.Chains.{entry_of}
use Rattle.records.specs.Records.{assignment_of, circuits_in, record_at}
use Rattle.records.specs.declared.AssignmentRecord.{AssignmentRecord}
use mathlib.Core.List.{List}
use Rattle.chains.proofs.Walks.{entry_is, entry_none}
use Rattle.chains.specs.Riders.{fibre_in}
use Rattle.clashes.specs.Clashes.{wave_in}
use Rattle.clashes.specs.inner.Sweeps.{InChains, Walk}
use Rattle.clashes.proofs.SweepLaws.{there, wave_is, wave_low, walk_clash, walk_end, walk_falls, walk_start, walk_turn}
use Rattle.clashes.proofs.clashes_on.Goals as goal

-- the wavelength of the circuit at which a turn is, which is read, is in the table
low : {q j f z x : ℕ} {s assigns next heads reach : List ℕ} {a : AssignmentRecord} (h : InChains q s assigns next heads) → z ≡ suc j
    → Walk (circuits_in q s) (fibre_in assigns) (wave_in assigns) f z reach → a ≡ assignment_of (record_at assigns j) → x ≡ a.wavelength → x < 81
low h here g e y = wave_low h here g (wave_is h here g e y)

pub returns-then-is_none : goal.returns-then-is_none
returns-then-is_none c = λ q h. sym (walk_end h {reach = replicate 81 0} (entry_none _ c.if-is_none.ensures) (walk_start h c.args.o (entry_is _ _ c.first-at.ensures) (zeros_at 81)))

pub loop-at-init : goal.loop-at-init
loop-at-init c = (refl, λ q h. walk_start h c.args.o (entry_is _ _ c.first-at.ensures) (zeros_at 81))

pub record_at-c-requires : goal.record_at-c-requires
record_at-c-requires c =
    let l = c.loop-at in
    let p = c.requires.some_chains in
    let here : entry_of l.at ≡ suc c.in-Some.j = ap entry_of c.in-Some.is in
    let g = l.invariant.1 p.0 p.1 in
    let t = there p.1 here g in
    let u = t.listed in
    omega arith

pub record_at-a-requires : goal.record_at-a-requires
record_at-a-requires c =
    let l = c.loop-at in
    let p = c.requires.some_chains in
    let here : entry_of l.at ≡ suc c.in-Some.j = ap entry_of c.in-Some.is in
    let g = l.invariant.1 p.0 p.1 in
    let t = there p.1 here g in
    let u = t.assigned in
    omega arith

pub bounds-reach-v : goal.bounds-reach-v
bounds-reach-v c =
    let l = c.loop-at in
    let p = c.requires.some_chains in
    let here : entry_of l.at ≡ suc c.in-Some.j = ap entry_of c.in-Some.is in
    let g = l.invariant.1 p.0 p.1 in
    let v = low p.1 here g c.record_at-a.ensures c.from-v.ensures in
    omega arith

pub returns-then-c-reach : goal.returns-then-c-reach
returns-then-c-reach c =
    let l = c.loop-at in
    let here : entry_of l.at ≡ suc c.in-Some.j = ap entry_of c.in-Some.is in
    λ q h.
    let g = l.invariant.1 q h in
    sym (walk_clash h here g c.record_at-c.ensures (wave_is h here g c.record_at-a.ensures c.from-v.ensures) (omega (arith, c.if-c-reach.true)))

pub bounds-reach-v-in-Some : goal.bounds-reach-v-in-Some
bounds-reach-v-in-Some c =
    let l = c.loop-at in
    let p = c.requires.some_chains in
    let here : entry_of l.at ≡ suc c.in-Some.j = ap entry_of c.in-Some.is in
    let g = l.invariant.1 p.0 p.1 in
    let v = low p.1 here g c.record_at-a.ensures c.from-v.ensures in
    omega arith

pub after-at-requires : goal.after-at-requires
after-at-requires c =
    let l = c.loop-at in
    let p = c.requires.some_chains in
    let here : entry_of l.at ≡ suc c.in-Some.j = ap entry_of c.in-Some.is in
    let g = l.invariant.1 p.0 p.1 in
    let t = there p.1 here g in
    omega (arith, t.few)

pub loop-at-smaller : goal.loop-at-smaller
loop-at-smaller c =
    let l = c.loop-at in
    let p = c.requires.some_chains in
    let here : entry_of l.at ≡ suc c.in-Some.j = ap entry_of c.in-Some.is in
    let g = l.invariant.1 p.0 p.1 in
    walk_falls p.1 here g (entry_is _ _ c.after-at.ensures)

pub loop-at-preserved : goal.loop-at-preserved
loop-at-preserved c =
    let l = c.loop-at in
    let here : entry_of l.at ≡ suc c.in-Some.j = ap entry_of c.in-Some.is in (
      length-set l.reach c.from-v.result c.record_at-c.result.last ∙ l.invariant.0,
      λ q h.
          let g = l.invariant.1 q h in
          let w = wave_is h here g c.record_at-a.ensures c.from-v.ensures in
          walk_turn h here g c.record_at-c.ensures w (omega (arith, wave_low h here g w, l.invariant.0)) c.if-c-reach.false refl (entry_is _ _ c.after-at.ensures),
    )

pub returns : goal.returns
returns c = λ q h. sym (walk_end h (ap entry_of c.in_default.is) (c.loop-at.invariant.1 q h))
