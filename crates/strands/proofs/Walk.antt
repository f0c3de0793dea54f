-- The runs of a layer, found from left to right, and the layers one after the other. Assumes nothing.
use Prim.Native.Nat.{ℕ, zero, suc, ◌+◌, ◌-◌, ◌≤◌, ◌<◌}
use mathlib.Core.Bool.{Bool, true, not}
use mathlib.Core.Path.{◌≡◌, sym, ap, ap₂, ◌∙◌}
use mathlib.Core.List.{List, [], ◌∷◌, ◌++◌}
use native.Mathlib.Omega.{arith}
use native.Mathlib.Numerals.{add-one}
use lib.ListN.{length, length-append}
use Rattle.basics.specs.Tools.{seek}
use Rattle.basics.proofs.Bools.{by_eq, on}
use Rattle.basics.proofs.Searches.{seek_ge, seek_hit, seek_le}
use Rattle.method.specs.Fibres.{runs}
use Rattle.method.specs.Line.{Fibre}
use Rattle.method.proofs.Runs.{runs_skip, runs_take}
use Rattle.strands.specs.inner.Layers.{layer_by, layers_by}

module _ (h : ℕ) (p : ℕ → Bool) where
  -- links that do not pass may be left out
  runs_jump : (i k : ℕ) → runs h p i k ≡ runs h p (seek p i k) (i + k - seek p i k)
  unfolding seek
  runs_jump i zero = let e : i + 0 - i ≡ 0 = omega arith in rw e
  runs_jump i (suc k) =
      on (p i)
      (λ t. let e : i + suc k - i ≡ suc k = omega arith in rw (t, e))
      (λ t. let e : i + suc k - seek p (suc i) k ≡ suc i + k - seek p (suc i) k = omega arith in rw (t, e) (runs_skip h p i k t ∙ runs_jump (suc i) k))

  module _ (n : ℕ) where
    -- the runs from link 1 on start at the first link that passes
    pub runs_from : (l : ℕ) → l ≡ seek p 1 (suc n - 1) → runs h p 1 n ≡ runs h p l (suc n - l)
    runs_from l q =
        let e : suc n - 1 ≡ n = omega arith in
        let q' : seek p 1 n ≡ l = sym (q ∙ ap (seek p 1) e) in
        runs_jump 1 n ∙ ap₂ (runs h p) q' (let z : 1 + n - seek p 1 n ≡ suc n - l = omega arith in z)

    -- a run ends past its first link, and at the latest past the line
    pub past : (l e : ℕ) → p l ≡ true → l ≤ n → e ≡ seek (λ x. not (p x)) l (suc n - l) → (l < e) × (e ≤ n + 1)
    unfolding seek
    past l e t b q =
        let k : suc n - l ≡ suc (n - l) = omega arith in
        let q' : e ≡ seek (λ x. not (p x)) (suc l) (n - l) = q ∙ rw (k, t) in
        (omega (arith, seek_ge (λ x. not (p x)) (suc l) (n - l)), omega (arith, seek_le (λ x. not (p x)) (suc l) (n - l)))

    -- the next run starts at the first link that passes, or there is none
    pub next_ge : (e l : ℕ) → e ≤ n + 1 → l ≡ seek p e (suc n - e) → (e ≤ l) × (l ≤ n + 1)
    next_ge e l b q = (omega (arith, seek_ge p e (suc n - e)), omega (arith, seek_le p e (suc n - e)))

    -- and that link passes, if it is on the line
    pub next_passes : (e l : ℕ) → e ≤ n + 1 → l ≡ seek p e (suc n - e) → l ≤ n → p l ≡ true
    next_passes e l b q u = ap p q ∙ seek_hit p e (suc n - e) (omega arith)

    -- the first run, and the runs from the next one's first link on
    pub runs_first : (l e l' : ℕ) → p l ≡ true → l ≤ n → e ≡ seek (λ x. not (p x)) l (suc n - l) → l' ≡ seek p e (suc n - e)
        → runs h p l (suc n - l) ≡ record { first = l; last = e - 1; layer = h } ∷ runs h p l' (suc n - l')
    runs_first l e l' t b q q' =
        let k : suc n - l ≡ suc (n - l) = omega arith in
        let past' = past l e t b q in
        let past₀ = past'.0 in
        let past₁ = past'.1 in
        let j : l + suc (n - l) - e ≡ suc n - e = omega arith in
        let z : e + (suc n - e) - seek p e (suc n - e) ≡ suc n - l' = omega arith in
        let f : Fibre = record { first = l; last = e - 1; layer = h } in
        ap (runs h p l) k ∙ runs_take h p l (n - l) t e (sym (q ∙ ap (seek (λ x. not (p x)) l) k))
        ∙ ap (λ (fs : List Fibre). f ∷ fs) (ap (runs h p e) j ∙ runs_jump e (suc n - e) ∙ ap₂ (runs h p) (sym q') z)

    -- no run is left past the line
    pub runs_end : (l : ℕ) → n < l → runs h p l (suc n - l) ≡ []
    unfolding runs
    runs_end l b = let k : suc n - l ≡ 0 = omega arith in rw k

module _ (f : ℕ → ℕ) (n top : ℕ) where
  -- one more layer
  pub layers_more : (h : ℕ) → layers_by f n top (h + 1) ≡ layers_by f n top h ++ layer_by f n top (h + 1)
  unfolding layers_by
  layers_more h = rw add-one

  -- the first layers have no more runs than all
  pub layers_grow : (h k : ℕ) → h ≤ k → length (layers_by f n top h) ≤ length (layers_by f n top k)
  unfolding layers_by
  layers_grow h zero b = let e : h ≡ 0 = omega arith in rw e (omega arith)
  layers_grow h (suc k) b =
      by_eq h (suc k) (λ e. omega (arith, ap (λ x. length (layers_by f n top x)) e))
      (λ e. omega (arith, layers_grow h k (omega arith), length-append (layers_by f n top k) (layer_by f n top (suc k))))

  -- as many runs more as the layer has
  pub length_layers : (h : ℕ) → length (layers_by f n top (h + 1)) ≡ length (layers_by f n top h) + length (layer_by f n top (h + 1))
  length_layers h = ap length (layers_more h) ∙ length-append (layers_by f n top h) (layer_by f n top (h + 1))
