-- `pick`: one place more, which stays if it passes. Assumes nothing.
use borrow.Author.Rules.{rules}
use mir.Val.{bool_byte}
use Prim.Native.Nat.{ℕ, ◌<◌, ◌≤◌}
use mathlib.Core.Path.{◌≡◌, refl, ap, ◌∙◌}
use mathlib.Core.Bool.{Bool, true, false, cond}
use native.Mathlib.Omega.{arith}
use lib.ListN.{length, length-set}
use Rattle.riders.proofs.PickLaws.{picked_none, picked_turn}
use Rattle.riders.specs.inner.Picks.{meets}
use Rattle.riders.proofs.stretches.Shortlist.pick.Goals as goal

-- a test as a number
counted : (b : Bool) → bool_byte b ≡ cond b 1 0
counted true = refl
counted false = refl

-- is at most 1
at_most : (b : Bool) → bool_byte b ≤ 1
at_most true = omega arith
at_most false = omega arith

pub loop-p-init : goal.loop-p-init
loop-p-init c = (search rules, omega arith, picked_none _ _)

pub loop-p-preserved : goal.loop-p-preserved
loop-p-preserved c = let a = c.args in
    let l = c.loop-p in
    let room : l.many < length l.self.places = omega (arith, a.columns.now.few) in (
      length-set {A = ℕ} l.self.places _ _ ∙ l.invariant.0,
      omega (arith, at_most c.meets.result),
      picked_turn (meets a.a a.e a.columns.now) l.p l.many _ _ l.self.places _ l.invariant.2 room refl refl (c.from-many.ensures ∙ counted _ ∙ ap (λ (b : Bool). cond b 1 0) c.meets.ensures),
    )
