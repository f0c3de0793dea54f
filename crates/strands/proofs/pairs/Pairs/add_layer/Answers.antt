-- `Pairs::add_layer` meets its contract: the loop stands as `Going` says, and its turns are the laws of proofs/Going.antt. Assumes nothing.
use mathlib.Core.Path.{refl, sym, ap, ◌∙◌}
use native.Mathlib.Omega.{arith}
use Rattle.strands.specs.inner.Layers.{layer_by, link_or_end, on_line}
use Rattle.strands.proofs.Going.{going_start, going_room, going_past, going_less, going_turn, going_end}
use Rattle.strands.proofs.Turns.{told_link, told_low}
use Rattle.strands.proofs.Walk.{next_ge}
use Rattle.strands.proofs.pairs.Pairs.add_layer.Goals as goal

pub loop-at-init : goal.loop-at-init
loop-at-init c =
    let first = told_link c.args.n _ _ (next_ge c.args.h _ c.args.n 1 _ (omega arith) refl).1 c.next_run-at.ensures in
    (c.next_run-at.ensures ∙ ap (on_line c.args.n) (sym first), going_start first)

pub overflow_sub-self : goal.overflow_sub-self
overflow_sub-self c =
    let g = rw c.in-Some.is at c.loop-at.invariant.1 in
    let low = told_low c.args.n _ c.in-Some.l (sym c.in-Some.is ∙ c.loop-at.invariant.0) in
    let q₀ = (going_past g low c.end_run-r.ensures).0 in
    omega arith

pub overflow_cast-self : goal.overflow_cast-self
overflow_cast-self c =
    let g = rw c.in-Some.is at c.loop-at.invariant.1 in
    let low = told_low c.args.n _ c.in-Some.l (sym c.in-Some.is ∙ c.loop-at.invariant.0) in
    let q₁ = (going_past g low c.end_run-r.ensures).1 in
    omega arith

pub bounds-self-self : goal.bounds-self-self
unfolding layer_by
bounds-self-self c =
    let g = rw c.in-Some.is at c.loop-at.invariant.1 in
    let low = told_low c.args.n _ c.in-Some.l (sym c.in-Some.is ∙ c.loop-at.invariant.0) in
    let room = going_room g low c.end_run-r.ensures in
    omega arith

pub invariant_of-self : goal.invariant_of-self
unfolding layer_by
invariant_of-self c =
    let g = rw c.in-Some.is at c.loop-at.invariant.1 in
    let low = told_low c.args.n _ c.in-Some.l (sym c.in-Some.is ∙ c.loop-at.invariant.0) in
    record { room = (let room = going_room g low c.end_run-r.ensures in omega arith) }

pub next_run-at-requires-in-Some : goal.next_run-at-requires-in-Some
next_run-at-requires-in-Some c =
    let g = rw c.in-Some.is at c.loop-at.invariant.1 in
    let low = told_low c.args.n _ c.in-Some.l (sym c.in-Some.is ∙ c.loop-at.invariant.0) in
    let q = going_past g low c.end_run-r.ensures in
    let q₀ = q.0 in
    let q₁ = q.1 in
    (omega arith, omega arith, omega arith, omega arith)

pub loop-at-smaller : goal.loop-at-smaller
loop-at-smaller c =
    let g = rw c.in-Some.is at c.loop-at.invariant.1 in
    let low = told_low c.args.n _ c.in-Some.l (sym c.in-Some.is ∙ c.loop-at.invariant.0) in
    let q = going_past g low c.end_run-r.ensures in
    let q₀ = q.0 in
    let q₁ = q.1 in
    let next = told_link c.args.n _ _ (next_ge c.args.h _ c.args.n _ _ q₁ refl).1 c.next_run-at-in-Some.ensures in
    rw c.in-Some.is (going_less g low c.end_run-r.ensures next)

pub loop-at-preserved : goal.loop-at-preserved
loop-at-preserved c =
    let g = rw c.in-Some.is at c.loop-at.invariant.1 in
    let low = told_low c.args.n _ c.in-Some.l (sym c.in-Some.is ∙ c.loop-at.invariant.0) in
    let q = going_past g low c.end_run-r.ensures in
    let q₀ = q.0 in
    let q₁ = q.1 in
    let next = told_link c.args.n _ _ (next_ge c.args.h _ c.args.n _ _ q₁ refl).1 c.next_run-at-in-Some.ensures in
    (c.next_run-at-in-Some.ensures ∙ ap (on_line c.args.n) (sym next), going_turn g low c.end_run-r.ensures next)

pub returns : goal.returns
unfolding layer_by
returns c =
    let end = ap (link_or_end c.args.n) c.in_default.is in
    going_end c.loop-at.invariant.1 (omega arith)
