-- The turns of the loop over the runs of a layer. Assumes nothing.
use Prim.Native.Nat.{ℕ, suc, ◌+◌, ◌-◌, ◌≤◌, ◌<◌}
use mathlib.Core.Bool.{Bool, not}
use mathlib.Core.Path.{◌≡◌, refl, sym, ap, ◌∙◌}
use mathlib.Core.List.{List}
use native.Mathlib.Omega.{arith}
use lib.ListN.{length, length-set, set}
use Rattle.basics.specs.Tools.{seek}
use Rattle.method.specs.Fibres.{runs}
use Rattle.strands.specs.inner.Pairs.{Going, LastsPut, put_lasts}
use Rattle.strands.proofs.Walk.{runs_from, past, next_ge, next_passes, runs_first, runs_end}

module _ {h : ℕ} {p : ℕ → Bool} {n place₀ : ℕ} {table₀ : List ℕ} where
  -- at the first run
  pub going_start : {l : ℕ} → l ≡ seek p 1 (suc n - 1) → Going h p n place₀ table₀ table₀ place₀ l
  going_start {l = l} q =
      let e = runs_from h p n l q in
      let b = next_ge h p n 1 l (omega arith) q in
      record {
        low = b.0;
        high = b.1;
        sized = refl;
        here = next_passes h p n 1 l (omega arith) q;
        room = ap (λ fs. place₀ + length fs) (sym e);
        left = ap (λ fs. put_lasts place₀ fs table₀) (sym e);
      }

  module _ {table : List ℕ} {place l : ℕ} (g : Going h p n place₀ table₀ table place l) where
    -- there is a place for the pair
    pub going_room : l ≤ n → {e : ℕ} → e ≡ seek (λ x. not (p x)) l (suc n - l) → place + 1 ≤ place₀ + length (runs h p 1 n)
    going_room b {e = e} q =
        let r = g.room in
        omega (arith, ap length (runs_first h p n l e (seek p e (suc n - e)) (g.here b) b q refl))

    -- a run ends past its first link, and at the latest past the line
    pub going_past : l ≤ n → {e : ℕ} → e ≡ seek (λ x. not (p x)) l (suc n - l) → (l < e) × (e ≤ n + 1)
    going_past b {e = e} q = past h p n l e (g.here b) b q

    -- the next run starts nearer to the end of the line
    pub going_less : l ≤ n → {e l' : ℕ} → e ≡ seek (λ x. not (p x)) l (suc n - l) → l' ≡ seek p e (suc n - e) → n + 1 - l' < n + 1 - l
    going_less b {e = e} {l' = l'} q q' =
        let a = going_past b q in
        let a₀ = a.0 in
        let z = next_ge h p n e l' a.1 q' in
        let z₀ = z.0 in
        omega arith

    -- its last link is put, and the loop goes to the next run
    pub going_turn : l ≤ n → {e l' : ℕ} → e ≡ seek (λ x. not (p x)) l (suc n - l) → l' ≡ seek p e (suc n - e)
        → Going h p n place₀ table₀ (set table place (e - 1)) (place + 1) l'
    unfolding put_lasts
    going_turn b {e = e} {l' = l'} q q' =
        let f = runs_first h p n l e l' (g.here b) b q q' in
        let a = going_past b q in
        let a₀ = a.0 in
        let a₁ = a.1 in
        let lo = g.low in
        let r = g.room in
        let z = next_ge h p n e l' a.1 q' in
        let z₀ = z.0 in
        record {
          low = omega arith;
          high = z.1;
          sized = length-set table place (e - 1) ∙ g.sized;
          here = next_passes h p n e l' a.1 q';
          room = omega (arith, ap length f);
          left = ap (λ fs. put_lasts place fs table) (sym f) ∙ g.left;
        }

    -- no run is left: all are put
    pub going_end : n < l → LastsPut place₀ (runs h p 1 n) table₀ table place
    unfolding put_lasts
    going_end b =
        let e = runs_end h p n l b in
        let r = g.room in
        record { past_is = omega (arith, ap length e); put = ap (λ fs. put_lasts place fs table) (sym e) ∙ g.left }
