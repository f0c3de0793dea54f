-- `spot_for` meets its contract: no fibre passed has a place for the circuit, and the corners stay right. Assumes nothing.
use Prim.Native.Nat.{◌+◌}
use mathlib.Core.Path.{◌∙◌, sym}
use native.Mathlib.Omega.{arith}
use Rattle.placing.specs.inner.Spots.{spans_in}
use Rattle.placing.proofs.SpotLaws.{chained_here, length_spans_in, next_none, next_some, none_more, none_skipped, offer_free, open_spans, spot_found, spot_none}
use Rattle.placing.proofs.search.spot_for.Goals as goal

pub overflow_add-i : goal.overflow_add-i
overflow_add-i c = let a = c.args in let n = next_some _ a.many c.loop-i.from c.in-Some.i c.loop-i.invariant.0 (sym c.in-Some.is ∙ c.next_open.ensures) in let n₂ = n.2 in omega (arith, c.requires.numbers.0)

pub offer-requires-clause-numbers : goal.offer-requires-clause-numbers
offer-requires-clause-numbers c =
    let a = c.args in
    let p = c.requires.numbers in
    let n = next_some _ a.many c.loop-i.from c.in-Some.i c.loop-i.invariant.0 (sym c.in-Some.is ∙ c.next_open.ensures) in
    (omega arith, omega (arith, n.2, p.0))

pub offer-requires-clause-chained : goal.offer-requires-clause-chained
offer-requires-clause-chained c =
    let a = c.args in
    let y = c.requires.riding in
    let n = next_some _ a.many c.loop-i.from c.in-Some.i c.loop-i.invariant.0 (sym c.in-Some.is ∙ c.next_open.ensures) in
    (y.0, chained_here a.many c.in-Some.i y.0 a.ends.now a.assigns.now a.chains.now.heads a.chains.now.next n.2 y.1)

pub overflow_add-result : goal.overflow_add-result
overflow_add-result c = let a = c.args in let n = next_some _ a.many c.loop-i.from c.in-Some.i c.loop-i.invariant.0 (sym c.in-Some.is ∙ c.next_open.ensures) in let n₂ = n.2 in omega (arith, c.requires.numbers.0)

pub overflow_cast-result : goal.overflow_cast-result
overflow_cast-result c = let a = c.args in let n = next_some _ a.many c.loop-i.from c.in-Some.i c.loop-i.invariant.0 (sym c.in-Some.is ∙ c.next_open.ensures) in let n₂ = n.2 in omega (arith, c.requires.numbers.0)

pub returns-in-Some-offer : goal.returns-in-Some-offer
returns-in-Some-offer c =
    let a = c.args in
    let p = c.requires.numbers in
    let l = c.loop-i in
    let i = c.in-Some.i in
    let n = next_some _ a.many l.from i l.invariant.0 (sym c.in-Some.is ∙ c.next_open.ensures) in
    let below = n.2 in λ rs h k.
    let y = l.invariant.1 rs h k in
    let o = c.in-Some-offer.ensures a.many rs (omega arith) p.0 (chained_here a.many i rs a.ends.now a.assigns.now a.chains.now.heads a.chains.now.next below h) y.1 in
    let fs = spans_in a.many a.spans.now.firsts a.spans.now.lasts in
    let size = length_spans_in a.many a.spans.now.firsts a.spans.now.lasts in
    let offers = offer_free fs a.waves.low a.waves.high rs a.c (i + 1) _ (open_spans a.many a.spans.now.firsts a.spans.now.lasts _ _ a.c l.from i n.0 below) o.0 in
    let none = none_skipped a.many a.waves.low a.waves.high a.spans.now.firsts a.spans.now.lasts _ _ rs a.c l.from i (omega arith) p.1 y.1 (omega (arith, n.0)) y.0 in
    (spot_found fs a.waves.low a.waves.high rs a.c (i + 1) c.in-Some-offer.v (omega arith) (omega arith) none offers, o.1)

pub overflow_add-from : goal.overflow_add-from
overflow_add-from c = let a = c.args in let n = next_some _ a.many c.loop-i.from c.in-Some.i c.loop-i.invariant.0 (sym c.in-Some.is ∙ c.next_open.ensures) in let n₂ = n.2 in omega (arith, c.requires.numbers.0)

pub loop-i-smaller : goal.loop-i-smaller
loop-i-smaller c = let a = c.args in let n = next_some _ a.many c.loop-i.from c.in-Some.i c.loop-i.invariant.0 (sym c.in-Some.is ∙ c.next_open.ensures) in let n₁ = n.1 in let n₂ = n.2 in omega arith

pub loop-i-preserved : goal.loop-i-preserved
loop-i-preserved c =
    let a = c.args in
    let p = c.requires.numbers in
    let l = c.loop-i in
    let i = c.in-Some.i in
    let n = next_some _ a.many l.from i l.invariant.0 (sym c.in-Some.is ∙ c.next_open.ensures) in
    let below = n.2 in (
      omega arith,
      λ rs h k.
          let y = l.invariant.1 rs h k in
          let o = c.in_default-offer.ensures a.many rs (omega arith) p.0 (chained_here a.many i rs a.ends.now a.assigns.now a.chains.now.heads a.chains.now.next below h) y.1 in
          let fs = spans_in a.many a.spans.now.firsts a.spans.now.lasts in
          let offers = offer_free fs a.waves.low a.waves.high rs a.c (i + 1) _ (open_spans a.many a.spans.now.firsts a.spans.now.lasts _ _ a.c l.from i n.0 below) o.0 in
          let none = none_skipped a.many a.waves.low a.waves.high a.spans.now.firsts a.spans.now.lasts _ _ rs a.c l.from i (omega arith) p.1 y.1 (omega (arith, n.0)) y.0 in
          (none_more fs a.waves.low a.waves.high rs a.c (i + 1) offers none, o.1),
    )

pub returns : goal.returns
returns c =
    let a = c.args in
    let p = c.requires.numbers in
    let l = c.loop-i in
    let last = next_none _ a.many l.from (sym c.in_default.is ∙ c.next_open.ensures) in λ rs h k.
    let n = length_spans_in a.many a.spans.now.firsts a.spans.now.lasts in
    let y = l.invariant.1 rs h k in
    let none = none_skipped a.many a.waves.low a.waves.high a.spans.now.firsts a.spans.now.lasts _ _ rs a.c l.from a.many (omega arith) p.1 y.1 last y.0 in
    (spot_none (spans_in a.many a.spans.now.firsts a.spans.now.lasts) a.waves.low a.waves.high rs a.c (a.many + 1) (omega arith) none, y.1)
