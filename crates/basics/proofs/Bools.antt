-- Going by the cases of a test, and what `&&` and `||` say. Assumes nothing.
use Prim.Native.Nat.{◌<◌, ◌≤◌, ℕ}
use borrow.Author.Tests.{eqb-false, eqb-true, leb-false, leb-true}
use lib.Dec.{eqb, leb}
use mathlib.Core.Bool.{Bool, ◌&&◌, ◌||◌, cond, false, not, true}
use mathlib.Core.Logic.{◌≢◌, ◌⊎◌, inl, inr}
use mathlib.Core.Path.{◌≡◌, refl}
use native.Mathlib.Omega.{arith}

-- the cases of a test, each with its equation
pub on : {C : Type 0} (b : Bool) → (b ≡ true → C) → (b ≡ false → C) → C
on true f g = f refl
on false f g = g refl

-- two numbers are equal, or not
pub by_eq : {C : Type 0} (a b : ℕ) → (a ≡ b → C) → (a ≢ b → C) → C
by_eq a b f g = on (eqb a b) (λ e. f (eqb-true a b e)) (λ e. g (eqb-false a b e))

-- one number is at most another, or above it
pub by_le : {C : Type 0} (a b : ℕ) → (a ≤ b → C) → (b < a → C) → C
by_le a b f g = on (leb a b) (λ e. f (leb-true a b e)) (λ e. g (leb-false a b e))

-- a test that is both true and false
pub clash : {C : Type 0} (b : Bool) → b ≡ true → b ≡ false → C
clash b p q = let z : ◌≡◌ {A = ℕ} 0 1 = cc in absurd (omega arith)

-- both hold, so the first does
pub and_l : (a b : Bool) → a && b ≡ true → a ≡ true
and_l true b e = refl
and_l false b e = e

-- and the second
pub and_r : (a b : Bool) → a && b ≡ true → b ≡ true
and_r true b e = e
and_r false b e = clash false e refl

-- each holds, so both do
pub and_of : (a b : Bool) → a ≡ true → b ≡ true → a && b ≡ true
and_of a b p q = cc

-- what fails, fails with more to test
pub and_none : (a b : Bool) → a && false && b ≡ false
and_none true b = refl
and_none false b = refl

-- one of two holds
pub or_cases : (a b : Bool) → a || b ≡ true → (a ≡ true) ⊎ (b ≡ true)
or_cases true b e = inl refl
or_cases false b e = inr e

-- the first holds, so one does
pub or_l : (a b : Bool) → a ≡ true → a || b ≡ true
or_l a b e = cc

-- the second holds, so one does
pub or_r : (a b : Bool) → b ≡ true → a || b ≡ true
or_r true b e = refl
or_r false b e = e

-- none holds, so the first does not
pub or_false_l : (a b : Bool) → a || b ≡ false → a ≡ false
or_false_l true b e = clash true refl e
or_false_l false b e = refl

-- nor the second
pub or_false_r : (a b : Bool) → a || b ≡ false → b ≡ false
or_false_r true b e = clash true refl e
or_false_r false b e = e

-- what never is true is false
pub never : (b : Bool) → (b ≡ true → ⊥) → b ≡ false
never true f = absurd (f refl)
never false f = refl

-- nothing passes together with what fails
pub and_false : (b : Bool) → b && false ≡ false
and_false true = refl
and_false false = refl

-- the first holds, so the second tells whether both do
pub and_then : (a b r : Bool) → a ≡ true → r ≡ b → r ≡ a && b
and_then a b r p q = cc

-- the first fails, and tells
pub and_not : (a b r : Bool) → a ≡ false → r ≡ a → r ≡ a && b
and_not a b r p q = cc

-- what fails chooses the other
pub cond_not : {A : Type 0} (b : Bool) (x y : A) → cond (not b) x y ≡ cond b y x
cond_not true x y = refl
cond_not false x y = refl
