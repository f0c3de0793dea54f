-- The turns of the loop over the layers. Assumes nothing.
use Prim.Native.Nat.{ℕ, ◌+◌, ◌*◌, ◌≤◌, ◌<◌}
use mathlib.Core.Path.{◌≡◌, refl, ap, ◌∙◌, sym}
use mathlib.Core.List.{List}
use native.Mathlib.Omega.{arith}
use lib.ListN.{length, get_or, set, take}
use lib.Seq.{get_or-drop, get_or-set_same, get_or-set_other, take-set-le}
use Rattle.basics.proofs.Bools.{by_eq}
use Rattle.records.specs.Bytes.{cells_of, set_cell}
use Rattle.records.proofs.CellLaws.{length_cells_of, stored}
use Rattle.method.specs.Sheet.{at}
use Rattle.strands.specs.inner.Layers.{HasParts, Spared, layer_by, layers_by, layers_in}
use Rattle.strands.specs.inner.Pairs.{LastsPut, Layering, PairsPut, put_lasts}
use Rattle.strands.proofs.Same.{at_kept, layer_agrees}
use Rattle.strands.proofs.Walk.{layers_grow, length_layers}
use Rattle.strands.proofs.Lasts.{last_read, layers_turn, length_lasts}

module _ {n m top : ℕ} {b₀ table₀ : List ℕ} (parts : HasParts n m top b₀) where
  -- no layer yet
  pub layering_start : Layering n m top b₀ table₀ b₀ table₀ 0 0
  unfolding layers_by put_lasts
  layering_start =
      record { high = omega arith; long = refl; sized = refl; spare = record { kept = refl; starts = λ h l. absurd (omega arith) }; pairs_are = refl; put = refl }

  -- the pairs so far are no more than all
  pub layering_few : {b table : List ℕ} {h pairs : ℕ} → Layering n m top b₀ table₀ b table h pairs → pairs ≤ length (layers_in n top b₀)
  layering_few {h = h} g = let a = g.high in let k = g.pairs_are in omega (arith, layers_grow (at (cells_of b₀)) n top h top (omega arith))

  module _ {b table : List ℕ} {h pairs : ℕ} (g : Layering n m top b₀ table₀ b table h pairs) (l : h < top) {b₁ : List ℕ} (e : b₁ ≡ set_cell b (2 * n + m + h) pairs) where
    -- one more spare cell
    spare_more : Spared n m top (h + 1) (cells_of b₀) (cells_of b₁)
    spare_more =
        let gl = g.long in
        let room : length (cells_of b) ≡ 2 * n + 2 * m = length_cells_of b (2 * n + 2 * m) (omega arith) in
        let s : cells_of b₁ ≡ set (cells_of b) (2 * n + m + h) pairs = stored b b₁ (2 * n + m + h) pairs e in
        record {
          kept = ap (take (2 * n + m)) s ∙ take-set-le (2 * n + m) (cells_of b) (2 * n + m + h) pairs (omega arith) ∙ g.spare.kept;
          starts = λ k u.
              get_or-drop (2 * n + m) (cells_of b₁) k 0 ∙ ap (λ c. get_or c (2 * n + m + k) 0) s
              ∙ by_eq k h
              (λ z.
              ap (λ y. get_or (set (cells_of b) (2 * n + m + h) pairs) (2 * n + m + y) 0) z ∙ get_or-set_same (cells_of b) (2 * n + m + h) pairs 0 (omega arith) ∙ g.pairs_are
              ∙ ap (λ y. length (layers_by (at (cells_of b₀)) n top y)) (let z' : h ≡ k = omega arith in z'))
              (λ z. get_or-set_other (cells_of b) (2 * n + m + h) (2 * n + m + k) pairs 0 (omega arith) ∙ sym (get_or-drop (2 * n + m) (cells_of b) k 0) ∙ g.spare.starts k (omega arith));
        }

    -- c(i) of each link is still there, so the next layer is the same
    next_layer : layer_by (at (cells_of b₁)) n top (h + 1) ≡ layer_by (at (cells_of b₀)) n top (h + 1)
    next_layer = layer_agrees (at (cells_of b₁)) (at (cells_of b₀)) n top (h + 1) (at_kept (cells_of b₀) (cells_of b₁) n (2 * n + m) (omega arith) spare_more.kept)

    -- there is room for it
    pub layer_room : pairs + length (layer_by (at (cells_of b₁)) n top (h + 1)) ≤ length (layers_by (at (cells_of b₀)) n top top)
    layer_room =
        let k = g.pairs_are in
        omega (arith, ap length next_layer, length_layers (at (cells_of b₀)) n top h, layers_grow (at (cells_of b₀)) n top (h + 1) top (omega arith))

    -- its last links are put
    pub layering_turn : {table₁ : List ℕ} {r : ℕ} → length b₁ ≡ length b → LastsPut pairs (layer_by (at (cells_of b₁)) n top (h + 1)) table table₁ r
        → Layering n m top b₀ table₀ b₁ table₁ (h + 1) r
    layering_turn {table₁ = table₁} lb p =
        let k = g.pairs_are in
        record {
          high = omega arith;
          long = lb ∙ g.long;
          sized = ap length p.put ∙ length_lasts pairs (layer_by (at (cells_of b₁)) n top (h + 1)) table ∙ g.sized;
          spare = spare_more;
          pairs_are = omega (arith, ap length next_layer, length_layers (at (cells_of b₀)) n top h);
          put = layers_turn (at (cells_of b₀)) n top h pairs table₀ table table₁ (omega arith) g.put (p.put ∙ ap (λ fs. put_lasts pairs fs table) next_layer);
        }

  -- all layers are done
  pub layering_end : {b table : List ℕ} {h pairs : ℕ} → length (layers_in n top b₀) ≤ length table₀ → Layering n m top b₀ table₀ b table h pairs → top ≤ h → PairsPut n m top b₀ b table pairs
  layering_end {table = table} {h = h} {pairs = pairs} room g l =
      let z : h ≡ top = (let u = g.high in omega arith) in
      let f = at (cells_of b₀) in
      let e : pairs ≡ length (layers_in n top b₀) = g.pairs_are ∙ ap (λ y. length (layers_by f n top y)) z in
      record {
        pairs_are = e;
        lasts = λ i u. last_read (layers_in n top b₀) table₀ table i (g.put ∙ ap (λ y. put_lasts 0 (layers_by f n top y) table₀) z) room (omega arith);
        spare = rw z at g.spare;
      }
