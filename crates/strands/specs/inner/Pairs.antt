-- The table of the pairs, which has the last link of each, and how it is filled. Assumes nothing.
use Rattle.std.specs.Prelude.{ℕ, suc, ◌+◌, ◌-◌, ◌≤◌, ◌<◌, Bool, true, List, [], ◌∷◌, ◌≡◌, length, get_or, set}
use Rattle.records.specs.Bytes.{cells_of}
use Rattle.method.specs.Fibres.{runs}
use Rattle.method.specs.Line.{Fibre, no_fibre}
use Rattle.method.specs.Sheet.{at}
use Rattle.strands.specs.inner.Layers.{Spared, layers_by, layers_in}

-- the last links of the runs, from place k of the table on
unfoldable pub put_lasts : ℕ → List Fibre → List ℕ → List ℕ
put_lasts k [] table = table
put_lasts k (f ∷ fs) table = put_lasts (k + 1) fs (set table k f.last)

-- the last links of the runs were put from place k on, and `past` is the place after them
pub record LastsPut (k : ℕ) (fs : List Fibre) (table₀ table₁ : List ℕ) (past : ℕ) : Type 0 where
  pub past_is : past ≡ k + length fs
  pub put : table₁ ≡ put_lasts k fs table₀

-- the table has the last link of each pair, `pairs` of them, and the number of pairs before each layer stands in its spare cell
pub record PairsPut (n m top : ℕ) (work₀ work₁ table : List ℕ) (pairs : ℕ) : Type 0 where
  pub pairs_are : pairs ≡ length (layers_in n top work₀)
  pub lasts : (i : ℕ) → i < pairs → get_or table i 0 ≡ (get_or (layers_in n top work₀) i no_fibre).last
  pub spare : Spared n m top top (cells_of work₀) (cells_of work₁)

-- where the loop over the runs of layer h stands at link l, with the places before `place` filled: what is left to put here is what there was at the start
pub record Going (h : ℕ) (p : ℕ → Bool) (n place₀ : ℕ) (table₀ table : List ℕ) (place l : ℕ) : Type 0 where
  pub low : 1 ≤ l
  pub high : l ≤ n + 1
  pub sized : length table ≡ length table₀
  pub here : l ≤ n → p l ≡ true
  pub room : place + length (runs h p l (suc n - l)) ≡ place₀ + length (runs h p 1 n)
  pub left : put_lasts place (runs h p l (suc n - l)) table ≡ put_lasts place₀ (runs h p 1 n) table₀

-- where the loop over the layers stands after h layers with `pairs` pairs: they are put, and the spare cells have the number of pairs before each
pub record Layering (n m top : ℕ) (b₀ table₀ b table : List ℕ) (h pairs : ℕ) : Type 0 where
  pub high : h ≤ top
  pub long : length b ≡ length b₀
  pub sized : length table ≡ length table₀
  pub spare : Spared n m top h (cells_of b₀) (cells_of b)
  pub pairs_are : pairs ≡ length (layers_by (at (cells_of b₀)) n top h)
  pub put : table ≡ put_lasts 0 (layers_by (at (cells_of b₀)) n top h) table₀
