-- `strands::assigns::place_of` meets its contract: row, pair, half and wavelength are those of proofs/Places.antt. Assumes nothing.
use Rattle.std.proofs.Common.{ℕ, ◌+◌, ◌-◌, ◌*◌, ◌/◌, ◌%◌, ◌<◌, ◌≤◌, ◌≡◌, List, length, get_or, ap, ◌∙◌, sym, arith}
use Rattle.basics.specs.Tools.{seek}
use Rattle.records.specs.Bytes.{cell, cells_of}
use Rattle.records.specs.Records.{circuit_of, record_at}
use Rattle.records.specs.declared.Circuit.{Circuit}
use Rattle.records.proofs.CellLaws.{cell_is}
use Rattle.method.proofs.Circuits.{circuit_in_lem}
use Rattle.strands.specs.inner.Area.{PlacedAt, Sources, pair_reaches}
use Rattle.strands.proofs.Places.{row_pos, layer_top, start_low, place_counts}
use Rattle.strands.proofs.assigns.place_of.Goals as goal

module _ {n w m count : ℕ} {s work table : List ℕ} (src : Sources n w m count s work table) {j : ℕ} (h : j < m) {v start pair : ℕ} {k : Circuit}
    (e : v ≡ get_or (cells_of work) (2 * n + j) 0) (u : v < 65536) (b : start ≡ get_or (cells_of work) (2 * n + m + (v / 2 - 1) / w) 0) (f : k ≡ circuit_of (record_at s j))
    (p : pair ≡ seek (pair_reaches table k.first) start (count - start)) where
  -- the circuit's place, once its pair is found
  placed : PlacedAt n w m s j (2 * pair + 1 + v % 2) (v / 2 - (v / 2 - 1) / w * w)
  placed = place_counts src h e u b (ap (λ x. x.first) (f ∙ sym (circuit_in_lem m s j h))) p

  -- so its fibre is one of 4,096
  few : 2 * pair + 1 + v % 2 ≤ 4096
  few = let q = placed in let a = src.accepted in omega arith

module _ {n w m count : ℕ} {s work table : List ℕ} (src : Sources n w m count s work table) {j : ℕ} (h : j < m) {v u : ℕ} (q : u ≡ cell work (2 * n + j)) (y : v ≡ u) where
  -- the circuit's cell, as one of the list of cells
  circuit_cell : v ≡ get_or (cells_of work) (2 * n + j) 0
  circuit_cell = let g = src.marked.long in y ∙ q ∙ cell_is work (2 * n + j) (omega arith)

  -- the cell of its layer is in the work area
  layer_room : 2 * (2 * n + m + (v / 2 - 1) / w) + 1 < length work
  layer_room = let g = src.marked.long in let t = layer_top src h circuit_cell in let t₁ = t.1 in omega arith

  -- and is one of the list, too
  layer_cell : {start u' : ℕ} → u' ≡ cell work (2 * n + m + (v / 2 - 1) / w) → start ≡ u' → start ≡ get_or (cells_of work) (2 * n + m + (v / 2 - 1) / w) 0
  layer_cell q' y' = y' ∙ q' ∙ cell_is work (2 * n + m + (v / 2 - 1) / w) layer_room

pub overflow_sub-q : goal.overflow_sub-q
overflow_sub-q c = row_pos c.requires.0 c.requires.1 (circuit_cell c.requires.0 c.requires.1 c.get.ensures c.from-v.ensures)

pub get-requires-2 : goal.get-requires-2
get-requires-2 c = layer_room c.requires.0 c.requires.1 c.get.ensures c.from-v.ensures

pub pair_over-pair-requires : goal.pair_over-pair-requires
pair_over-pair-requires c =
    let s = c.requires.0 in
    let h = c.requires.1 in
    start_low s h (circuit_cell s h c.get.ensures c.from-v.ensures) (layer_cell s h c.get.ensures c.from-v.ensures c.get-2.ensures c.from-start.ensures)

pub overflow_mul-result : goal.overflow_mul-result
overflow_mul-result c =
    let s = c.requires.0 in
    let h = c.requires.1 in
    omega (arith, few s h (circuit_cell s h c.get.ensures c.from-v.ensures) (omega arith) (layer_cell s h c.get.ensures c.from-v.ensures c.get-2.ensures c.from-start.ensures) c.record_at-c.ensures c.pair_over-pair.ensures)

pub overflow_add-result : goal.overflow_add-result
overflow_add-result c =
    let s = c.requires.0 in
    let h = c.requires.1 in
    omega (arith, few s h (circuit_cell s h c.get.ensures c.from-v.ensures) (omega arith) (layer_cell s h c.get.ensures c.from-v.ensures c.get-2.ensures c.from-start.ensures) c.record_at-c.ensures c.pair_over-pair.ensures)

pub overflow_add-result-2 : goal.overflow_add-result-2
overflow_add-result-2 c =
    let s = c.requires.0 in
    let h = c.requires.1 in
    omega (arith, few s h (circuit_cell s h c.get.ensures c.from-v.ensures) (omega arith) (layer_cell s h c.get.ensures c.from-v.ensures c.get-2.ensures c.from-start.ensures) c.record_at-c.ensures c.pair_over-pair.ensures)

pub returns-clause-placed : goal.returns-clause-placed
returns-clause-placed c =
    let s = c.requires.0 in
    let h = c.requires.1 in
    placed s h (circuit_cell s h c.get.ensures c.from-v.ensures) (omega arith) (layer_cell s h c.get.ensures c.from-v.ensures c.get-2.ensures c.from-start.ensures) c.record_at-c.ensures c.pair_over-pair.ensures

pub overflow_cast-result : goal.overflow_cast-result
overflow_cast-result c =
    let s = c.requires.0 in
    let h = c.requires.1 in
    record {
      fits = omega (arith, few s h (circuit_cell s h c.get.ensures c.from-v.ensures) (omega arith) (layer_cell s h c.get.ensures c.from-v.ensures c.get-2.ensures c.from-start.ensures) c.record_at-c.ensures c.pair_over-pair.ensures);
    }

pub overflow_cast-result-2 : goal.overflow_cast-result-2
overflow_cast-result-2 c =
    let s = c.requires.0 in
    let h = c.requires.1 in
    let p = placed s h (circuit_cell s h c.get.ensures c.from-v.ensures) (omega arith) (layer_cell s h c.get.ensures c.from-v.ensures c.get-2.ensures c.from-start.ensures) c.record_at-c.ensures c.pair_over-pair.ensures in
    record { fits = omega (arith, p.wavelength_small) }
