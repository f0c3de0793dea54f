-- `corner_on` meets its contract: the riders passed are bounded by the corner. Assumes nothing.
use Prim.Native.Nat.{◌-◌}
use mathlib.Core.Path.{ap, subst, sym}
use lib.ListN.{get_or}
use native.Mathlib.Omega.{arith}
use Rattle.records.specs.Chains.{entry_of}
use Rattle.placing.specs.inner.Spots.{Cornering}
use Rattle.placing.proofs.ChainLaws.{entry_is}
use Rattle.placing.proofs.CornerLaws.{corner_at, corner_end, corner_less, corner_start, corner_turn}
use Rattle.placing.proofs.search.corner_on.Goals as goal

pub loop-at-init : goal.loop-at-init
loop-at-init c =
    let a = c.args in λ rs A h.
    subst (λ z. Cornering rs a.chains.now.next a.c a.q z 65535 0) (sym (entry_is _ _ c.first-at.ensures)) (corner_start rs a.ends.now A a.chains.now.next a.c (get_or a.chains.now.heads (a.q - 1) 0) a.q h 65535 0)

pub drawn_in-x-requires : goal.drawn_in-x-requires
drawn_in-x-requires c = let a = c.args in let y = c.requires.chained in let l = c.loop-at in corner_at y.0 a.ends.now y.1 a.chains.now.next a.c _ a.q y.2 _ c.in-Some.j l.x.until l.x.from (ap entry_of c.in-Some.is) (l.invariant y.0 y.1 y.2)

pub after-at-requires : goal.after-at-requires
after-at-requires c =
    let a = c.args in
    let y = c.requires.chained in
    let l = c.loop-at in
    (omega arith, (corner_at y.0 a.ends.now y.1 a.chains.now.next a.c _ a.q y.2 _ c.in-Some.j l.x.until l.x.from (ap entry_of c.in-Some.is) (l.invariant y.0 y.1 y.2)).0)

pub loop-at-smaller : goal.loop-at-smaller
loop-at-smaller c =
    let a = c.args in
    let y = c.requires.chained in
    let l = c.loop-at in
    corner_less y.0 a.ends.now y.1 a.chains.now.next a.c _ a.q y.2 _ c.in-Some.j l.x.until l.x.from (ap entry_of c.in-Some.is) (l.invariant y.0 y.1 y.2) (entry_of c.after-at.result) (entry_is _ _ c.after-at.ensures)

pub loop-at-preserved : goal.loop-at-preserved
loop-at-preserved c =
    let a = c.args in
    let l = c.loop-at in
    let e = c.drawn_in-x.ensures in λ rs A h.
    subst (λ z. Cornering rs a.chains.now.next a.c a.q z c.drawn_in-x.result.until c.drawn_in-x.result.from) (sym (entry_is _ _ c.after-at.ensures))
    (corner_turn rs a.ends.now A a.chains.now.next a.c _ a.q h _ c.in-Some.j l.x.until l.x.from (ap entry_of c.in-Some.is) (l.invariant rs A h) c.drawn_in-x.result.until c.drawn_in-x.result.from e.0 e.1 e.2)

pub returns : goal.returns
returns c = let a = c.args in let l = c.loop-at in λ rs A h. corner_end rs a.ends.now A a.chains.now.next a.c _ a.q h _ l.x.until l.x.from (ap entry_of c.in_default.is) (l.invariant rs A h)
