-- `unlike` meets its contract: no record before the one that is compared repeats an earlier one, and all of them are in the chains of their remainders.
-- Assumes nothing.
use Prim.Native.Nat.{ℕ, ◌+◌, ◌<◌}
use mathlib.Core.Path.{◌≡◌, ◌∙◌, ap, sym}
use mathlib.Core.List.{List}
use native.Mathlib.Omega.{arith}
use lib.ListN.{get_or, set, replicate, length-set, length-replicate, get_or-replicate}
use Rattle.basics.specs.Lasts.{last_place}
use Rattle.basics.proofs.LastLaws.{heads_turn, last_none, links_turn}
use Rattle.std.specs.Prelude.{Err}
use Rattle.refusals.specs.Table.{no_end, repeats}
use Rattle.refusals.specs.declared.Reason.TheVariants.{NumberTwice}
use Rattle.refusals.specs.inner.Remainders.{remainder_of, rem}
use Rattle.refusals.proofs.FirstLaws.{number_is, none_more, refused_at, checked_all}
use Rattle.refusals.proofs.unlike.Invariants.{Chained}
use Rattle.refusals.proofs.unlike.Goals as goal

-- no record is in a chain yet
none-chained : (s : List ℕ) → Chained s 0 (replicate 4096 0) (replicate 2048 0)
none-chained s =
    record {
      long = length-replicate {A = ℕ} 4096 0;
      room = length-replicate {A = ℕ} 2048 0;
      heads = λ k h. get_or-replicate {A = ℕ} 4096 k 0 0 h ∙ sym (last_none (rem s) k);
      links = λ d h. absurd (omega arith);
    }

-- record j leads to the head of the chain of its remainder and becomes its head
chained_more : (s H N : List ℕ) (j r : ℕ) → j < 2048 → r < 4096 → r ≡ rem s j → Chained s j H N → Chained s (j + 1) (set H r (j + 1)) (set N j (get_or H r 0))
chained_more s H N j r a b e g =
    let long = g.long in
    let room = g.room in
    record {
      long = length-set H r (j + 1) ∙ long;
      room = length-set N j (get_or H r 0) ∙ room;
      heads = λ k h. heads_turn (rem s) H r k k j (omega arith) (λ z. sym e ∙ sym z) (λ z. sym z ∙ sym e) (g.heads k h);
      links = links_turn (rem s) N j (get_or H r 0) (omega arith) (g.heads r b ∙ ap (λ (k : ℕ). last_place (rem s) k j) e) g.links;
    }

pub loop-j-init : goal.loop-j-init
loop-j-init c = (λ i h. absurd (omega arith), none-chained c.args.circuits.now)

pub returns-then-is_repeat : goal.returns-then-is_repeat
returns-then-is_repeat c =
    let l = c.loop-j in
    let a = c.args in
    ap Err c.at.ensures ∙ refused_at (repeats a.circuits.now) NumberTwice no_end a.m a.m l.j c.loop-j-test.true (sym c.is_repeat.ensures ∙ c.if-is_repeat.true) l.invariant.0

pub loop-j-preserved : goal.loop-j-preserved
loop-j-preserved c =
    let l = c.loop-j in
    let s = c.args.circuits.now in
    let few = c.requires.1 in
    let e = c.remainder-r.ensures.0 ∙ ap remainder_of (number_is s l.j _ c.record_at-x.ensures) in (
      none_more (repeats s) l.j l.invariant.0 (sym c.is_repeat.ensures ∙ c.if-is_repeat.false),
      rw (c.push.ensures.heads, c.push.ensures.next) (chained_more s l.chains.heads l.chains.next l.j c.remainder-r.result (omega arith) c.remainder-r.ensures.1 e l.invariant.1),
    )

pub returns : goal.returns
returns c =
    let l = c.loop-j in
    let a = c.args in
    checked_all (repeats a.circuits.now) NumberTwice no_end a.m a.m l.j c.loop-j-test.false l.invariant.0
