-- Lists by their elements. Assumes nothing.
use Prim.Native.Nat.{◌+◌, ◌-◌, ◌<◌, ◌≤◌, min, suc, zero, ℕ}
use lib.ListN.{drop, get_or, length, length-drop, length-take, replicate, take}
use lib.Seq.{ext_get_or, get_or-drop, get_or-take, take-nil}
use mathlib.Core.List.{List, [], ◌++◌, ◌∷◌}
use mathlib.Core.Path.{◌∙◌, ◌≡◌, ap, ap₂, refl, sym}
use native.Mathlib.Nat.{suc-add, zero-add}
use native.Mathlib.Omega.{arith}
use Rattle.basics.specs.Tools.{each, part}

-- a table of k entries has length k
pub length_each : {A : Type 0} (f : ℕ → A) (s k : ℕ) → length (each f s k) ≡ k
unfolding each
length_each f s zero = refl
length_each f s (suc k) = ap suc (length_each f (suc s) k)

-- entry i is the function at s + i
pub get_d_each : {A : Type 0} (f : ℕ → A) (s k i : ℕ) (d : A) → i < k → get_or (each f s k) i d ≡ f (s + i)
unfolding each
get_d_each f s zero i d h = absurd (omega arith)
get_d_each f s (suc k) zero d h = ap f (omega arith)
get_d_each f s (suc k) (suc i) d h = get_d_each f (suc s) k i d (omega arith) ∙ ap f (omega arith)

-- past the end stands the default
pub get_d_each_out : {A : Type 0} (f : ℕ → A) (s k i : ℕ) (d : A) → k ≤ i → get_or (each f s k) i d ≡ d
unfolding each
get_d_each_out f s zero i d h = refl
get_d_each_out f s (suc k) zero d h = absurd (omega arith)
get_d_each_out f s (suc k) (suc i) d h = get_d_each_out f (suc s) k i d (omega arith)

-- a list that is the function at each place is its table
pub is_each : {A : Type 0} (f : ℕ → A) (s k : ℕ) (d : A) (C : List A) → length C ≡ k → ((i : ℕ) → i < k → get_or C i d ≡ f (s + i)) → C ≡ each f s k
is_each f s k d C l h =
    ext_get_or d C (each f s k) (l ∙ sym (length_each f s k))
    (λ i b. let q : i < k = omega arith in h i q ∙ sym (get_d_each f s k i d q))

-- two functions that agree from s on have the same table
pub each_same : {A : Type 0} (f g : ℕ → A) (s k : ℕ) → ((x : ℕ) → s ≤ x → x < s + k → f x ≡ g x) → each f s k ≡ each g s k
unfolding each
each_same f g s zero h = refl
each_same f g s (suc k) h = ap₂ ◌∷◌ (h s (omega arith) (omega arith)) (each_same f g (suc s) k (λ x a b. h x (omega arith) (omega arith)))

-- zeros are the table of the function that is 0
pub each_zero : (s k : ℕ) → replicate {A = ℕ} k 0 ≡ each (λ x. 0) s k
unfolding each
each_zero s zero = refl
each_zero s (suc k) = ap (λ (l : List ℕ). 0 ∷ l) (each_zero (suc s) k)

-- a zeros, and then b more
pub zeros_add : (a b : ℕ) → replicate {A = ℕ} (a + b) 0 ≡ replicate a 0 ++ replicate b 0
zeros_add zero b = rw zero-add
zeros_add (suc a) b = rw suc-add (ap (λ (l : List ℕ). 0 ∷ l) (zeros_add a b))

-- a table, from 0 on, that agrees with a list at each of its places is the list
pub table_is : {A : Type 0} (d : A) (f : ℕ → A) (xs : List A) → ((i : ℕ) → i < length xs → f i ≡ get_or xs i d) → each f 0 (length xs) ≡ xs
table_is d f xs h = sym (is_each f 0 (length xs) d xs refl (λ i l. let z : i ≡ 0 + i = omega arith in sym (h i l) ∙ ap f z))

-- element i of the part from place a on is element a + i of the list
pub get_d_part : {A : Type 0} (a k : ℕ) (xs : List A) (i : ℕ) (d : A) → i < k → get_or (part a k xs) i d ≡ get_or xs (a + i) d
get_d_part a k xs i d h = get_or-take k (drop a xs) i d h ∙ get_or-drop a xs i d

-- two lists that agree below n have the same first n elements
pub take_same : {A : Type 0} (d : A) (n : ℕ) (xs ys : List A) → length xs ≡ length ys → ((k : ℕ) → k < n → get_or xs k d ≡ get_or ys k d) → take n xs ≡ take n ys
take_same d n xs ys l h =
    ext_get_or d (take n xs) (take n ys) (length-take n xs ∙ ap (min n) l ∙ sym (length-take n ys))
    (λ i b. let w : i < n = omega (arith, length-take n xs) in get_or-take n xs i d w ∙ h i w ∙ sym (get_or-take n ys i d w))

-- two lists that agree from n on have the same elements there
pub drop_same : {A : Type 0} (d : A) (n : ℕ) (xs ys : List A) → length xs ≡ length ys → ((k : ℕ) → n ≤ k → get_or xs k d ≡ get_or ys k d) → drop n xs ≡ drop n ys
drop_same d n xs ys l h =
    ext_get_or d (drop n xs) (drop n ys) (length-drop n xs ∙ ap (λ (x : ℕ). x - n) l ∙ sym (length-drop n ys))
    (λ i b. get_or-drop n xs i d ∙ h (n + i) (omega arith) ∙ sym (get_or-drop n ys i d))

-- each element of zeros is 0, and so is the default
pub zeros_at : (m k : ℕ) → get_or {A = ℕ} (replicate m 0) k 0 ≡ 0
zeros_at zero k = refl
zeros_at (suc m) zero = refl
zeros_at (suc m) (suc k) = zeros_at m k

-- a part, by the elements to its end
part_of_take : {A : Type 0} (a k : ℕ) (xs : List A) → drop a (take (a + k) xs) ≡ part a k xs
part_of_take zero k xs = ap (λ (i : ℕ). take i xs) (zero-add k)
part_of_take (suc a) k [] = ap (drop (suc a)) (take-nil (suc a + k)) ∙ sym (take-nil k)
part_of_take (suc a) k (x ∷ xs) = ap (λ (i : ℕ). drop (suc a) (take i (x ∷ xs))) (suc-add a k) ∙ part_of_take a k xs

-- the elements to its end tell a part
pub part_kept : {A : Type 0} (a k : ℕ) (xs ys : List A) → take (a + k) xs ≡ take (a + k) ys → part a k xs ≡ part a k ys
part_kept a k xs ys e = sym (part_of_take a k xs) ∙ ap (drop a) e ∙ part_of_take a k ys
