-- A search that stops at the first link that does not pass. Assumes nothing.
use Prim.Native.Nat.{ℕ, suc, ◌+◌, ◌-◌, ◌≤◌, ◌<◌}
use mathlib.Core.Bool.{Bool, true, false}
use mathlib.Core.Path.{◌≡◌, ap, ◌∙◌}
use native.Mathlib.Omega.{arith}
use Rattle.basics.specs.Tools.{every}

module _ (p : ℕ → Bool) (i last : ℕ) where
  -- link i is one of those that are left
  left : i ≤ last → every p i (suc last - i) ≡ every p i (suc (last - i))
  left h = ap (every p i) (omega arith)

  -- it passes, so the others decide
  pub every_onward : i ≤ last → p i ≡ true → every p i (suc last - i) ≡ every p (i + 1) (suc last - (i + 1))
  unfolding every
  every_onward h e =
      let a : suc i ≡ i + 1 = omega arith in
      let b : last - i ≡ suc last - (i + 1) = omega arith in
      left h ∙ rw (e, a, b)

  -- it does not
  pub every_stop : i ≤ last → p i ≡ false → every p i (suc last - i) ≡ false
  unfolding every
  every_stop h e = left h ∙ rw e

  -- none is left
  pub every_over : last < i → every p i (suc last - i) ≡ true
  unfolding every
  every_over h = let a : suc last - i ≡ 0 = omega arith in rw a
