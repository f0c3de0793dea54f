-- `offered` meets its contract: the fibre spans the circuit or it does not. Assumes nothing.
use borrow.Author.Tests.{le-leb, lt-leb}
use Prim.Native.Nat.{ℕ, ◌<◌}
use mathlib.Core.Bool.{◌&&◌, false}
use mathlib.Core.Logic.{◌⊎◌, inl, inr, ⊎_elim}
use lib.Dec.{leb}
use mathlib.Core.Path.{◌≡◌, refl, ◌∙◌}
use native.Mathlib.Omega.{arith}
use Rattle.basics.proofs.Bools.{and_false}
use Rattle.placing.specs.Riding.{spans_of}
use Rattle.placing.proofs.SpotLaws.{no_offer, offer_free, record_spans}
use Rattle.placing.proofs.search.offered.Goals as goal
use Rattle.placing.proofs.search.offered.Goals.{then-c-f-via-then-c-f, then-c-f-via-else-c-f+then-f-c}

-- one end lies outside
outside : (a b c d : ℕ) → (c < a) ⊎ (b < d) → leb a c && leb d b ≡ false
outside a b c d h = ⊎_elim {C = leb a c && leb d b ≡ false} (λ x. rw (lt-leb a c x) refl) (λ x. rw (lt-leb d b x, and_false (leb a c)) refl) h

pub returns-then-c-f : goal.returns-then-c-f
returns-then-c-f c =
    let a = c.args in
    let f = c.record_at-f in
    let out : (a.c.first < f.result.first) ⊎ (f.result.last < a.c.last) = elim c.then-c-f.branch [ then-c-f-via-then-c-f w ↦ inl w.if-c-f.true | then-c-f-via-else-c-f+then-f-c w ↦ inr w.if-f-c.true ] in λ many rs top h.
    let e = record_spans many a.fibres.now a.q f.result a.c c.requires.numbers.0 top f.ensures in
    no_offer (spans_of many a.fibres.now) a.waves.low a.waves.high rs a.c a.q (e ∙ outside _ _ _ _ out)

pub returns : goal.returns
returns c =
    let a = c.args in
    let f = c.record_at-f in λ many rs top h.
    let e = record_spans many a.fibres.now a.q f.result a.c c.requires.numbers.0 top f.ensures in
    offer_free (spans_of many a.fibres.now) a.waves.low a.waves.high rs a.c a.q _
    (e ∙ rw (le-leb f.result.first a.c.first (omega (arith, c.if-c-f.false)), le-leb a.c.last f.result.last (omega (arith, c.if-f-c.false))) refl) (c.free_on.ensures rs h)
