-- `mark` meets its contract: the walk along the chain marks each rider that overlaps. Assumes nothing.
use Prim.Native.Nat.{ℕ, ◌-◌, ◌≤◌}
use mathlib.Core.Path.{◌≡◌, ◌∙◌, ap, subst, sym}
use lib.ListN.{get_or, length, length-set, set}
use mathlib.Core.Bool.{true}
use native.Mathlib.Omega.{arith}
use Rattle.std.specs.Prelude.{Option, None, Some}
use Rattle.std.specs.Option.{SomeIff}
use Rattle.basics.proofs.Bools.{by_le}
use Rattle.records.specs.Chains.{entry_of}
use Rattle.placing.specs.inner.Marking.{Marking}
use Rattle.placing.proofs.MarkLaws.{mark_at, mark_end, mark_less, mark_start, turn_fits, turn_marks}
use Rattle.placing.proofs.riders.mark.Goals as goal

-- 1 less than an entry, where it is not 0, is the place that has this entry
told : (z : ℕ) (at : Option ℕ) → SomeIff at (1 ≤ z) (z - 1) → z ≡ entry_of at
told z None h = by_le 1 z (λ l. absurd (h l)) (λ l. omega arith)
told z (Some j) h = let a = h.0 in let b = h.1 in omega arith

pub loop-j-init : goal.loop-j-init
loop-j-init c =
    let a = c.args in (
      ap length c.requires.start.2,
      λ rs h.
          subst (λ z. Marking rs a.chains.now.next a.c a.q z a.busy.now) (sym c.first_entry-z.ensures) (mark_start rs a.ends.now a.assigns.now a.chains.now.next a.c (get_or a.chains.now.heads (a.q - 1) 0) a.q h a.busy.now c.requires.start.2),
    )

pub seen-requires : goal.seen-requires
seen-requires c = let a = c.args in let x = c.requires.chained in let l = c.loop-j in mark_at x.0 a.ends.now a.assigns.now a.chains.now.next a.c _ a.q x.1 _ c.in-Some.j l.busy (told c.loop-j.z c.checked_sub.result c.checked_sub.ensures ∙ ap entry_of c.in-Some.is) (l.invariant.1 x.0 x.1)

pub bounds-busy-v : goal.bounds-busy-v
bounds-busy-v c =
    let a = c.args in
    let x = c.requires.chained in
    let l = c.loop-j in
    let f = turn_fits x.0 a.ends.now a.assigns.now a.chains.now.next a.c _ a.q x.1 _ c.in-Some.j l.busy (told c.loop-j.z c.checked_sub.result c.checked_sub.ensures ∙ ap entry_of c.in-Some.is) (l.invariant.1 x.0 x.1) c.seen.result c.seen.ensures in omega (arith, c.unwrap_or-v.ensures)

pub bounds-chains-j : goal.bounds-chains-j
bounds-chains-j c =
    let a = c.args in
    let x = c.requires.chained in
    let l = c.loop-j in
    let b = (mark_at x.0 a.ends.now a.assigns.now a.chains.now.next a.c _ a.q x.1 _ c.in-Some.j l.busy (told c.loop-j.z c.checked_sub.result c.checked_sub.ensures ∙ ap entry_of c.in-Some.is) (l.invariant.1 x.0 x.1)).0 in omega (arith, b)

pub offset_bounds-chains-j : goal.offset_bounds-chains-j
offset_bounds-chains-j c =
    let a = c.args in
    let x = c.requires.chained in
    let l = c.loop-j in
    let b = (mark_at x.0 a.ends.now a.assigns.now a.chains.now.next a.c _ a.q x.1 _ c.in-Some.j l.busy (told c.loop-j.z c.checked_sub.result c.checked_sub.ensures ∙ ap entry_of c.in-Some.is) (l.invariant.1 x.0 x.1)).0 in omega (arith, b)

pub loop-j-smaller : goal.loop-j-smaller
loop-j-smaller c =
    let a = c.args in
    let x = c.requires.chained in
    let l = c.loop-j in
    mark_less x.0 a.ends.now a.assigns.now a.chains.now.next a.c _ a.q x.1 _ c.in-Some.j l.busy (told c.loop-j.z c.checked_sub.result c.checked_sub.ensures ∙ ap entry_of c.in-Some.is) (l.invariant.1 x.0 x.1) c.from-z.result c.from-z.ensures

pub loop-j-preserved : goal.loop-j-preserved
loop-j-preserved c =
    let a = c.args in
    let l = c.loop-j in
    let v = c.unwrap_or-v in (
      length-set l.busy v.result true ∙ l.invariant.0,
      λ rs h.
          subst (λ z. Marking rs a.chains.now.next a.c a.q z (set l.busy v.result true)) (sym c.from-z.ensures)
          (subst (λ x. Marking rs a.chains.now.next a.c a.q (get_or a.chains.now.next c.in-Some.j 0) (set l.busy x true)) (sym v.ensures)
          (turn_marks rs a.ends.now a.assigns.now a.chains.now.next a.c _ a.q h _ c.in-Some.j l.busy (told c.loop-j.z c.checked_sub.result c.checked_sub.ensures ∙ ap entry_of c.in-Some.is) (l.invariant.1 rs h) c.seen.result c.seen.ensures l.invariant.0)),
    )

pub returns : goal.returns
returns c = let a = c.args in let l = c.loop-j in λ rs h. mark_end rs a.ends.now a.assigns.now a.chains.now.next a.c _ a.q h _ l.busy (told c.loop-j.z c.checked_sub.result c.checked_sub.ensures ∙ ap entry_of c.in_default.is) (l.invariant.1 rs h)
