-- The first that passes, by halving: none of the first `low` passes, and some of the first `high`. Assumes nothing.
use Prim.Native.Nat.{ℕ, ◌+◌, ◌≤◌, ◌<◌}
use mathlib.Core.Bool.{Bool, true, false}
use mathlib.Core.Path.{◌≡◌, sym, subst, ◌∙◌}
use native.Mathlib.Omega.{arith}
use native.Mathlib.Nat.{zero-add}
use Rattle.basics.specs.Tools.{any, seek}
use Rattle.basics.proofs.Bools.{by_le, clash}
use Rattle.basics.proofs.Searches.{any_false, any_none, any_true, seek_first, seek_none}

-- none of none passes
pub none_of_none : (p : ℕ → Bool) → any p 0 ≡ false
none_of_none p = any_none p 0 (λ j l. absurd (omega arith))

-- if some of m passes, there is one
pub some_of : (p : ℕ → Bool) (m : ℕ) → any p m ≡ true → 0 < m
some_of p m e = let t = any_true p m e in let t₁ = t.1 in omega arith

-- none passes
pub no_first : (p : ℕ → Bool) (m : ℕ) → any p m ≡ false → m ≡ seek p 0 m
no_first p m e = sym (seek_none p 0 m (λ j a l. any_false p m e j (omega arith)) ∙ zero-add m)

-- no place is left between
pub halved : (p : ℕ → Bool) (low high m : ℕ) → low < high → high ≤ low + 1 → high ≤ m → any p low ≡ false → any p high ≡ true → low ≡ seek p 0 m
halved p low high m a b c none some =
    let t = any_true p high some in
    let t₁ = t.1 in
    by_le low t.0
    (λ l.
    let z : t.0 ≡ low = omega arith in
    sym (seek_first p 0 m low (omega arith) (omega arith) (subst (λ (i : ℕ). p i ≡ true) z t.2) (λ y d e. any_false p low none y e)))
    (λ l. clash (p t.0) t.2 (any_false p low none t.0 l))
