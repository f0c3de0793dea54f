-- `place_in_turn` meets its contract: after t turns the first t are placed. Assumes nothing.
use borrow.Author.Rules.{rules}
use Prim.Native.Nat.{ℕ, ◌*◌, ◌<◌}
use lib.ListN.{length, get_or, take}
use mathlib.Core.List.{List}
use mathlib.Core.Path.{◌≡◌, ap, ◌∙◌}
use native.Mathlib.Omega.{arith}
use Rattle.records.specs.Bytes.{cell, cells_of}
use Rattle.records.specs.Records.{circuits_in}
use Rattle.records.proofs.CellLaws.{cell_is, length_cells_of}
use Rattle.records.proofs.Files.{length_circuits_in}
use Rattle.places.specs.Places.{given_to}
use Rattle.additions.specs.Adding.{give}
use Rattle.placing.specs.inner.Spots.{spans_in}
use Rattle.placing.proofs.AllTurns.{turns_start, turn_waits, turns_more, turns_end}
use Rattle.placing.proofs.turns.place_in_turn.Goals as goal

-- the place that is read is the one of the turn
read : (s : List ℕ) (k t g i : ℕ) → length s ≡ 2 * k → t < k → g ≡ cell s t → i ≡ g → i ≡ get_or (cells_of s) t 0
read s k t g i n l e f = f ∙ e ∙ cell_is s t (omega arith)

pub loop-t-init : goal.loop-t-init
loop-t-init c =
    let a = c.args in
    (λ old gs n i h. turns_start (spans_in a.sizes.fibres a.spans.now.firsts a.spans.now.lasts) a.sizes.fibres a.sizes.wavelengths old (circuits_in a.sizes.circuits a.new.now) gs (cells_of a.order.now) a.ends.now a.assigns.now a.chains.now.heads a.chains.now.next a.corners.now.untils a.corners.now.froms h)

pub place_one-requires : goal.place_one-requires
place_one-requires c =
    let a = c.args in
    let b = c.requires.room in
    let y = c.requires.riding in
    let l = c.loop-t in
    let v = l.invariant in
    let lt : l.t < a.k = search rules in
    let fs = spans_in a.sizes.fibres a.spans.now.firsts a.spans.now.lasts in
    let ds = circuits_in a.sizes.circuits a.new.now in
    let js = cells_of a.order.now in
    let r = read a.order.now a.k l.t c.get.result c.from-i.result b.1 lt c.get.ensures c.from-i.ensures in
    let n = length_cells_of a.order.now a.k b.1 in
    let there = y.3.there l.t (omega (arith, lt, n)) in
    let below : c.from-i.result < a.sizes.circuits = omega (arith, r, there) in
    let so_far = give fs a.sizes.wavelengths y.0 ds (take l.t js) y.1 in
    let waits = turn_waits fs a.sizes.fibres a.sizes.wavelengths y.0 ds y.1 js a.sizes.circuits l.t y.3 (omega (arith, lt, n)) in record {
      room = (b.0, below, omega (arith, b.2), omega (arith, b.3), b.4 c.from-i.result below);
      riding = (y.0, so_far, y.2, ap (λ (x : ℕ). (given_to so_far x).fibre) r ∙ waits, (v y.0 y.1 y.2 y.3 y.4).stands);
    }

pub loop-t-preserved : goal.loop-t-preserved
loop-t-preserved c =
    let a = c.args in
    let b = c.requires.room in
    let l = c.loop-t in
    let v = l.invariant in
    let p = c.place_one in
    let lt : l.t < a.k = c.loop-t-test.true in
    let fs = spans_in a.sizes.fibres a.spans.now.firsts a.spans.now.lasts in
    let ds = circuits_in a.sizes.circuits a.new.now in
    let js = cells_of a.order.now in
    let r = read a.order.now a.k l.t c.get.result c.from-i.result b.1 lt c.get.ensures c.from-i.ensures in
    let n = length_cells_of a.order.now a.k b.1 in (
    λ old gs o i h.
    let z = v old gs o i h in
    let there = i.there l.t (omega (arith, lt, n)) in
    let cm = length_circuits_in a.sizes.circuits a.new.now in
    let so_far = give fs a.sizes.wavelengths old ds (take l.t js) gs in
    let waits = turn_waits fs a.sizes.fibres a.sizes.wavelengths old ds gs js a.sizes.circuits l.t i (omega (arith, lt, n)) in
    turns_more fs a.sizes.fibres a.sizes.wavelengths old ds gs js a.sizes.circuits l.t c.from-i.result a.assigns.now l.assigns _ _ _ _ _ _ i (omega (arith, lt, n)) z.said
    (p.ensures old so_far o (ap (λ (x : ℕ). (given_to so_far x).fibre) r ∙ waits) z.stands) r h.one_each (omega (arith, there, cm))
    )

pub returns : goal.returns
returns c =
    let a = c.args in
    let b = c.requires.room in
    let l = c.loop-t in
    let n = length_cells_of a.order.now a.k b.1 in λ old gs o i h.
    turns_end (spans_in a.sizes.fibres a.spans.now.firsts a.spans.now.lasts) a.sizes.fibres a.sizes.wavelengths old (circuits_in a.sizes.circuits a.new.now) gs (cells_of a.order.now) l.t a.assigns.now l.ends l.assigns l.chains.heads l.chains.next l.corners.untils l.corners.froms (omega arith) (l.invariant old gs o i h)
