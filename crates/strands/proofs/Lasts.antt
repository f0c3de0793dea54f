-- What the last links that are put one after the other leave in the table. Assumes nothing.
use Prim.Native.Nat.{ℕ, zero, suc, ◌+◌, ◌≤◌, ◌<◌}
use mathlib.Core.Path.{◌≡◌, refl, sym, ap, ◌∙◌}
use mathlib.Core.List.{List, [], ◌∷◌, ◌++◌}
use native.Mathlib.Omega.{arith}
use lib.ListN.{length, get_or, set, length-set}
use lib.Seq.{get_or-set_same, get_or-set_other}
use Rattle.method.specs.Line.{Fibre, no_fibre}
use Rattle.strands.specs.inner.Layers.{layer_by, layers_by}
use Rattle.strands.specs.inner.Pairs.{put_lasts}
use Rattle.strands.proofs.Walk.{layers_more}

-- runs after runs
put_lasts_append : (k : ℕ) (fs gs : List Fibre) (table : List ℕ) → put_lasts k (fs ++ gs) table ≡ put_lasts (k + length fs) gs (put_lasts k fs table)
unfolding put_lasts
put_lasts_append k [] gs table = let e : k + 0 ≡ k = omega arith in rw e
put_lasts_append k (f ∷ fs) gs table =
    let e : k + suc (length fs) ≡ k + 1 + length fs = omega arith in
    rw e (put_lasts_append (k + 1) fs gs (set table k f.last))

-- one more layer is put
pub layers_turn : (f : ℕ → ℕ) (n top h pairs : ℕ) (table₀ table table' : List ℕ) → pairs ≡ length (layers_by f n top h) → table ≡ put_lasts 0 (layers_by f n top h) table₀
    → table' ≡ put_lasts pairs (layer_by f n top (h + 1)) table → table' ≡ put_lasts 0 (layers_by f n top (h + 1)) table₀
layers_turn f n top h pairs table₀ table table' m o q =
    let e : pairs ≡ 0 + length (layers_by f n top h) = omega arith in
    q ∙ (λ i. put_lasts (e i) (layer_by f n top (h + 1)) (o i))
    ∙ sym (put_lasts_append 0 (layers_by f n top h) (layer_by f n top (h + 1)) table₀)
    ∙ ap (λ fs. put_lasts 0 fs table₀) (sym (layers_more f n top h))

-- the table keeps its length
pub length_lasts : (k : ℕ) (fs : List Fibre) (table : List ℕ) → length (put_lasts k fs table) ≡ length table
unfolding put_lasts
length_lasts k [] table = refl
length_lasts k (f ∷ fs) table = length_lasts (k + 1) fs (set table k f.last) ∙ length-set table k f.last

-- places before k stay
lasts_before : (k : ℕ) (fs : List Fibre) (table : List ℕ) (i : ℕ) → i < k → get_or (put_lasts k fs table) i 0 ≡ get_or table i 0
unfolding put_lasts
lasts_before k [] table i h = refl
lasts_before k (f ∷ fs) table i h = lasts_before (k + 1) fs (set table k f.last) i (omega arith) ∙ get_or-set_other table k i f.last 0 (omega arith)

-- place k + i has the last link of run i
lasts_at : (k : ℕ) (fs : List Fibre) (table : List ℕ) (i : ℕ) → i < length fs → k + length fs ≤ length table → get_or (put_lasts k fs table) (k + i) 0 ≡ (get_or fs i no_fibre).last
unfolding put_lasts
lasts_at k [] table i h r = absurd (omega arith)
lasts_at k (f ∷ fs) table zero h r =
    let z : k + 0 ≡ k = omega arith in
    rw z (lasts_before (k + 1) fs (set table k f.last) k (omega arith) ∙ get_or-set_same table k f.last 0 (omega arith))
lasts_at k (f ∷ fs) table (suc i) h r =
    let z : k + suc i ≡ k + 1 + i = omega arith in
    rw z (lasts_at (k + 1) fs (set table k f.last) i (omega arith) (omega (arith, length-set table k f.last)))

-- so the last link of pair i is read from place i
pub last_read : (fs : List Fibre) (table₀ table : List ℕ) (i : ℕ) → table ≡ put_lasts 0 fs table₀ → length fs ≤ length table₀ → i < length fs → get_or table i 0 ≡ (get_or fs i no_fibre).last
last_read fs table₀ table i e r h =
    let z : 0 + i ≡ i = omega arith in
    ap (λ l. get_or l i 0) e ∙ (rw z at (lasts_at 0 fs table₀ i h (omega arith)))
