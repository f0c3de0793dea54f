-- `is_repeat` meets its contract: the chain passes by no record with the number. Assumes nothing.
use Prim.Native.Nat.{ℕ, zero, suc, ◌≤◌, ◌<◌}
use mathlib.Core.Path.{◌≡◌, refl, ◌∙◌, ap, sym}
use mathlib.Core.Bool.{false}
use mathlib.Core.Logic.{◌≢◌}
use mathlib.Core.List.{List}
use native.Mathlib.Omega.{arith}
use borrow.Author.Tests.{eq-eqb, ne_eqb}
use lib.ListN.{get_or}
use Rattle.std.specs.Prelude.{Option}
use Rattle.records.specs.Chains.{place_told, entry_of}
use Rattle.records.specs.Records.{number_in}
use Rattle.basics.specs.Lasts.{last_place}
use Rattle.basics.proofs.Bools.{by_eq, by_le}
use Rattle.basics.proofs.LastLaws.{last_hit, last_le, last_miss}
use Rattle.basics.proofs.Searches.{any_hit, any_none}
use Rattle.refusals.specs.Table.{has_number, repeats}
use Rattle.refusals.specs.inner.Remainders.{remainder_of, rem, Chain}
use Rattle.refusals.proofs.FirstLaws.{number_is}
use Rattle.refusals.proofs.is_repeat.Invariants.{Walking}
use Rattle.refusals.proofs.is_repeat.Goals as goal

-- what is told of an entry has that entry
entry_is : (v : ℕ) (at : Option ℕ) → at ≡ place_told v → entry_of at ≡ v
entry_is zero at e = ap entry_of e
entry_is (suc i) at e = ap entry_of e

-- no record from i to j has the number x: the walk goes on at the last below i that has its remainder
walk-on : (s : List ℕ) (x j i z : ℕ) → i ≤ j → ((d : ℕ) → i ≤ d → d < j → has_number s x d ≡ false) → z ≡ last_place (rem s) (remainder_of x) i → Walking s x j z
walk-on s x j i z l o q =
    let b = last_le (rem s) (remainder_of x) i in
    record {
      low = omega arith;
      mine = λ k h. last_hit (rem s) (remainder_of x) i k (sym q ∙ h);
      others = λ d a h.
          by_le i d
          (λ u. o d u h)
          (λ u. ne_eqb (number_in s d) x (λ y. last_miss (rem s) (remainder_of x) i d (omega arith) u (ap remainder_of y)));
    }

-- what record i leads to is the last before it that has the remainder
walk_next : (s N : List ℕ) (x j head i v : ℕ) → v ≡ get_or N i 0 → Chain s j head N → Walking s x j (suc i) → v ≡ last_place (rem s) (remainder_of x) i
walk_next s N x j head i v q g w =
    let l = w.low in
    q ∙ g.links i (omega arith) ∙ ap (λ (k : ℕ). last_place (rem s) k i) (w.mine i refl)

-- record i has another number: the walk goes on
walk_turn : (s N : List ℕ) (x j head i v : ℕ) → v ≡ get_or N i 0 → number_in s i ≢ x → Chain s j head N → Walking s x j (suc i) → Walking s x j v
walk_turn s N x j head i v q n g w =
    let l = w.low in
    walk-on s x j i v (omega arith)
    (λ d a h. by_eq d i (λ y. ne_eqb (number_in s d) x (λ u. n (ap (number_in s) (sym y) ∙ u))) (λ y. w.others d (omega arith) h))
    (walk_next s N x j head i v q g w)

pub loop-at-init : goal.loop-at-init
loop-at-init c =
    let a = c.args in
    let s = a.circuits.now in
    let e = number_is s a.j _ c.record_at-x.ensures in
    walk-on s c.record_at-x.result.number a.j a.j (entry_of c.first-at.result) (omega arith) (λ d b h. absurd (omega arith))
    (entry_is _ _ c.first-at.ensures ∙ c.requires.chain.last ∙ ap (λ (x : ℕ). last_place (rem s) (remainder_of x) a.j) (sym e))

pub loop-at-smaller : goal.loop-at-smaller
loop-at-smaller c =
    let a = c.args in
    let i = c.in-Some.i in
    let x = c.record_at-x.result.number in
    let w : Walking a.circuits.now x a.j (suc i) = rw c.in-Some.is at c.loop-at.invariant in
    let e = walk_next a.circuits.now a.chains.now.next x a.j _ i _ (entry_is _ _ c.after-at.ensures) c.requires.chain w in
    let b = last_le (rem a.circuits.now) (remainder_of x) i in
    let here : entry_of c.loop-at.at ≡ suc i = ap entry_of c.in-Some.is in
    let low : entry_of c.after-at.result < entry_of c.loop-at.at = omega arith in
    low

pub loop-at-preserved : goal.loop-at-preserved
loop-at-preserved c =
    let a = c.args in
    let i = c.in-Some.i in
    let x = c.record_at-x.result.number in
    let w : Walking a.circuits.now x a.j (suc i) = rw c.in-Some.is at c.loop-at.invariant in
    let e = number_is a.circuits.now i _ c.record_at-d.ensures in
    walk_turn a.circuits.now a.chains.now.next x a.j _ i _ (entry_is _ _ c.after-at.ensures) (λ z. c.if-d-x.false (e ∙ z)) c.requires.chain w

pub returns-then-d-x : goal.returns-then-d-x
unfolding repeats
returns-then-d-x c =
    let j = c.args.j in
    let s = c.args.circuits.now in
    let i = c.in-Some.i in
    let e = number_is s j _ c.record_at-x.ensures in
    let d = number_is s i _ c.record_at-d.ensures in
    let w : Walking s c.record_at-x.result.number j (suc i) = rw c.in-Some.is at c.loop-at.invariant in
    sym (any_hit (has_number s (number_in s j)) j i (omega (arith, w.low)) (eq-eqb _ _ (sym d ∙ c.if-d-x.true ∙ e)))

pub returns : goal.returns
unfolding repeats
returns c =
    let j = c.args.j in
    let s = c.args.circuits.now in
    let e = number_is s j _ c.record_at-x.ensures in
    let z : entry_of c.loop-at.at ≡ 0 = ap entry_of c.in_default.is in
    sym (any_none (has_number s (number_in s j)) j (λ d h. ap (λ (x : ℕ). has_number s x d) (sym e) ∙ c.loop-at.invariant.others d (omega arith) h))
