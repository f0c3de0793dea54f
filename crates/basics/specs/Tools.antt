-- Small tools: counting, searching, listing and adding up. What a reader must believe.
-- Assumes nothing.
use Rattle.std.specs.Prelude.{ℕ, zero, suc, ◌+◌, max, Bool, true, false, ◌&&◌, ◌||◌, cond, List, [], ◌∷◌, take, drop, ltb}
use Rattle.std.proofs.Math.Option.{Option, none, some}

-- how many j below m pass
unfoldable pub count : (ℕ → Bool) → ℕ → ℕ
count p zero = 0
count p (suc m) = cond (p m) 1 0 + count p m

-- whether some j below m passes
unfoldable pub any : (ℕ → Bool) → ℕ → Bool
any p zero = false
any p (suc m) = p m || any p m

-- whether each of i, i + 1, .. (k of them) passes
unfoldable pub every : (ℕ → Bool) → ℕ → ℕ → Bool
every p i zero = true
every p i (suc k) = p i && every p (suc i) k

-- the first of i, i + 1, .. (k of them) that passes, or i + k if none does
unfoldable pub seek : (ℕ → Bool) → ℕ → ℕ → ℕ
seek p i zero = i
seek p i (suc k) = cond (p i) i (seek p (suc i) k)

-- f i, f (i + 1), .. (k of them) as a list
unfoldable pub each : {A : Type 0} → (ℕ → A) → ℕ → ℕ → List A
each f i zero = []
each f i (suc k) = f i ∷ each f (suc i) k

-- the k elements of a list from place a on
abbrev pub part : {A : Type 0} → ℕ → ℕ → List A → List A
part a k xs = take k (drop a xs)

-- f 1 + .. + f n
unfoldable pub sum : (ℕ → ℕ) → ℕ → ℕ
sum f zero = 0
sum f (suc n) = f (suc n) + sum f n

-- the largest of f 1 .. f n, or 0 if n is 0
unfoldable pub top : (ℕ → ℕ) → ℕ → ℕ
top f zero = 0
top f (suc n) = max (f (suc n)) (top f n)

-- the better of j, if it passes, and the best so far: the one with the lower number
unfoldable pub better : Bool → (ℕ → ℕ) → ℕ → Option ℕ → Option ℕ
better false number j best = best
better true number j none = some j
better true number j (some b) = cond (ltb (number j) (number b)) (some j) (some b)

-- of the j below m that pass, the one with the lowest number
unfoldable pub lowest : (ℕ → Bool) → (ℕ → ℕ) → ℕ → Option ℕ
lowest passes number zero = none
lowest passes number (suc j) = better (passes j) number j (lowest passes number j)
