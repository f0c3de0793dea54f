-- What the loop that writes last red rows leaves. Assumes nothing.
use Rattle.std.proofs.Common.{◌≡◌, ℕ, ◌+◌, ◌-◌, ◌*◌, ◌<◌, ◌≤◌, List, length, get_or, take, drop, set, sym, ap, ◌∙◌, mul-le-mul_right, sub-le, arith, length-drop, get_or-take}
use lib.Seq.{take-set-le, drop-set-add}
use Rattle.basics.specs.Tools.{each}
use Rattle.method.specs.Sheet.{at}
use Rattle.records.specs.Bytes.{cell, set_cell, cells_of}
use Rattle.records.proofs.CellLaws.{cell_is, stored}
use Rattle.rows.specs.inner.Loads.{Below}
use Rattle.rows.specs.inner.Loops.{Reddening}
use Rattle.rows.proofs.Written.{at_get, at_front, written_turn, written_all}

-- a last red row is at most M × w
pub red_low : (most w c v : ℕ) → most * w ≤ v → (most - c) * w ≤ v
red_low most w c v h = omega (arith, mul-le-mul_right w (sub-le most c))

-- what is read as the need of link i + 1
pub red_need : (n i v : ℕ) (f : ℕ → ℕ) (C₀ b : List ℕ) → Reddening n f i C₀ (cells_of b) → i < n → 4 * n ≤ length b → v ≡ cell b i → v ≡ at C₀ (i + 1)
red_need n i v f C₀ b y h r e =
    let k : i + 1 - 1 ≡ i = omega arith in
    e ∙ cell_is b i (omega arith) ∙ sym (get_or-take n (cells_of b) i 0 h) ∙ ap (λ (l : List ℕ). get_or l i 0) y.front ∙ get_or-take n C₀ i 0 h
    ∙ sym (ap (λ (j : ℕ). get_or C₀ j 0) k) ∙ at_get C₀ (i + 1) (omega arith)

-- one link more
pub red_turn : (n i v : ℕ) (f : ℕ → ℕ) (C₀ b b' : List ℕ) → Reddening n f i C₀ (cells_of b) → length C₀ ≡ 2 * n → i < n → b' ≡ set_cell b (n + i) v → v ≡ f (i + 1) → Reddening n f (i + 1) C₀ (cells_of b')
red_turn n i v f C₀ b b' y l h e q =
    let k : i + 1 - 1 ≡ i = omega arith in
    let s = stored b b' (n + i) v e in
    record {
      front = ap (take n) s ∙ take-set-le n (cells_of b) (n + i) v (omega arith) ∙ y.front;
      back = written_turn f 1 (i + 1) v (drop n C₀) (drop n (cells_of b)) (drop n (cells_of b')) y.back
          (ap (drop n) s ∙ drop-set-add n (cells_of b) i v ∙ sym (ap (λ (j : ℕ). set (drop n (cells_of b)) j v) k)) q (omega arith) (omega (arith, length-drop n C₀));
    }

-- all links
pub red_done : (n i : ℕ) (f : ℕ → ℕ) (C₀ C : List ℕ) → Reddening n f i C₀ C → length C₀ ≡ 2 * n → n ≤ i → drop n C ≡ each f 1 n
red_done n i f C₀ C y l h = written_all f n (i + 1) (drop n C₀) (drop n C) y.back (omega (arith, length-drop n C₀)) (omega arith)

-- what is read as the need of a link is at most M
pub red_need_low : (n i v most : ℕ) (C : List ℕ) → Below most (take n C) → i < n → v ≡ at C (i + 1) → v ≤ most
unfolding Below
red_need_low n i v most C h l e = omega (arith, at_front n C (i + 1) (omega arith) (omega arith), h (i + 1))
