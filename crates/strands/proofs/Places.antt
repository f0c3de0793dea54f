-- Row, pair, fibre and wavelength of a circuit, read from the work area and the table of the pairs. Assumes nothing.
use Prim.Native.Nat.{ℕ, suc, ◌+◌, ◌-◌, ◌*◌, ◌/◌, ◌%◌, ◌≤◌, ◌<◌}
use mathlib.Core.Bool.{Bool, cond}
use mathlib.Core.Path.{◌≡◌, sym, ap, ◌∙◌}
use mathlib.Core.List.{List}
use native.Mathlib.Omega.{arith}
use native.Mathlib.Nat.{div-add-mod'}
use lib.Dec.{leb}
use lib.ListN.{length, get_or}
use lib.Seq.{get_or-drop}
use Rattle.basics.specs.Tools.{seek}
use Rattle.basics.proofs.Bools.{on}
use Rattle.basics.proofs.Tables.{get_d_part}
use Rattle.records.specs.Bytes.{cells_of}
use Rattle.records.specs.Records.{circuits_in}
use Rattle.records.specs.declared.Circuit.{Circuit}
use Rattle.records.proofs.Files.{length_circuits_in}
use Rattle.method.specs.Fibres.{given, layer_of, layers, on_first, pair_of, wavelength_of}
use Rattle.method.specs.Line.{Lies, circuit}
use Rattle.method.specs.Sheet.{most, rows}
use Rattle.strands.specs.inner.Area.{PlacedAt, Sources, given_in, pair_reaches}
use Rattle.method.proofs.Given.{placed, in_top, most_few, pair_sought, start_in, fibre_small}

module _ {n w m count : ℕ} {s work table : List ℕ} (src : Sources n w m count s work table) {j : ℕ} (h : j < m) {v : ℕ} (e : v ≡ get_or (cells_of work) (2 * n + j) 0) where
  -- the circuits
  abbrev cs : List Circuit
  cs = circuits_in m s

  -- j is one of them
  l : j < length cs
  l = omega (arith, length_circuits_in m s)

  -- they lie on the line
  lies : Lies n cs
  lies = src.accepted.file.lies

  -- there is a wavelength
  waves : 1 ≤ w
  waves = src.accepted.waves.0

  -- whether it has the first fibre of its pair
  abbrev led : Bool
  led = on_first cs (rows n w cs) (pair_of n w cs (rows n w cs)) j

  -- its row, and 1 for the second fibre
  row_half : (v / 2 ≡ get_or (rows n w cs) j 0) × (v % 2 ≡ cond led 0 1)
  row_half =
      let u : v ≡ 2 * get_or (rows n w cs) j 0 + cond led 0 1 = e ∙ sym (get_d_part (2 * n) m (cells_of work) j 0 h) ∙ src.marked.halves j h in
      on led (λ t. let u' : v ≡ 2 * get_or (rows n w cs) j 0 + 0 = rw t at u in rw t (omega arith, omega arith))
      (λ t. let u' : v ≡ 2 * get_or (rows n w cs) j 0 + 1 = rw t at u in rw t (omega arith, omega arith))

  -- it is placed
  pub row_pos : 1 ≤ v / 2
  row_pos = omega (arith, row_half.0, placed n w cs lies waves j l)

  -- its layer is one of M, so of m
  pub layer_top : ((v / 2 - 1) / w < most n w cs) × ((v / 2 - 1) / w < m)
  layer_top =
      let a : (v / 2 - 1) / w < most n w cs = omega (arith, ap (λ k. (k - 1) / w) row_half.0, in_top n w cs lies waves j l) in
      (a, omega (arith, most_few n w cs waves, length_circuits_in m s))

  module _ {start : ℕ} (b : start ≡ get_or (cells_of work) (2 * n + m + (v / 2 - 1) / w) 0) where
    -- where the pairs of its layer start
    start_is : start ≡ length (layers n w cs ((get_or (rows n w cs) j 0 - 1) / w))
    start_is = b ∙ sym (get_or-drop (2 * n + m) (cells_of work) ((v / 2 - 1) / w) 0) ∙ src.marked.starts ((v / 2 - 1) / w) layer_top.0 ∙ ap (λ k. length (layers n w cs ((k - 1) / w))) row_half.0

    -- in the table
    pub start_low : start ≤ count
    start_low = omega (arith, start_is, start_in n w cs lies waves j l, src.strung.count_is)

    -- its pair
    pair_counts : {x : ℕ} → x ≡ (circuit cs j).first → {pair : ℕ} → pair ≡ seek (pair_reaches table x) start (count - start) → pair ≡ pair_of n w cs (rows n w cs) j
    pair_counts f p =
        let q = pair_reaches table (circuit cs j).first in
        p ∙ (λ i. seek (pair_reaches table (f i)) (start_is i) (src.strung.count_is i - start_is i))
        ∙ pair_sought n w cs lies waves j l q (λ i u. ap (leb (circuit cs j).first) (src.strung.lasts i (omega (arith, src.strung.count_is))))

  -- its fibre
  fibre_counts : (pair : ℕ) → pair ≡ pair_of n w cs (rows n w cs) j → 2 * pair + 1 + v % 2 ≡ (given_in n w m s j).fibre
  unfolding given_in given
  fibre_counts pair p =
      let u : v % 2 ≡ cond led 0 1 = row_half.1 in
      on led (λ t. let u' : v % 2 ≡ 0 = rw t at u in rw t (omega arith)) (λ t. let u' : v % 2 ≡ 1 = rw t at u in rw t (omega arith))

  -- the rows of the earlier layers come before its row
  pub wavelength_low : (v / 2 - 1) / w * w ≤ v / 2
  wavelength_low = omega (arith, div-add-mod' (v / 2 - 1) w)

  -- its wavelength: its row less the rows of the earlier layers
  wavelength_counts : v / 2 - (v / 2 - 1) / w * w ≡ (given_in n w m s j).wavelength
  unfolding given_in given wavelength_of layer_of
  wavelength_counts =
      let z : suc ((v / 2 - 1) / w) - 1 ≡ (v / 2 - 1) / w = omega arith in
      ap (λ q. v / 2 - q * w) (sym z) ∙ ap (λ k. k - (suc ((k - 1) / w) - 1) * w) row_half.0

  -- its place, once the search from the start of its layer gave the pair
  pub place_counts : {start x pair : ℕ} → v < 65536 → start ≡ get_or (cells_of work) (2 * n + m + (v / 2 - 1) / w) 0 → x ≡ (circuit cs j).first
      → pair ≡ seek (pair_reaches table x) start (count - start) → PlacedAt n w m s j (2 * pair + 1 + v % 2) (v / 2 - (v / 2 - 1) / w * w)
  unfolding given_in
  place_counts {pair = pair} u b f p =
      let g : 2 * pair + 1 + v % 2 ≡ (given_in n w m s j).fibre = fibre_counts pair (pair_counts b f p) in
      record {
        fibre_is = g;
        wavelength_is = wavelength_counts;
        fibre_few = omega (arith, fibre_small n w cs lies waves j l, length_circuits_in m s);
        wavelength_small = omega arith;
      }
