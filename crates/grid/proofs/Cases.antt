-- Wavelengths of both grids, computed, and where the grids meet. Assumes nothing.
use Prim.Native.Nat.{ℕ, suc, ◌+◌, ◌*◌, ◌-◌}
use mathlib.Core.Path.{◌≡◌, refl, ap, sym, ◌∙◌}
use native.Mathlib.Omega.{arith}
use lib.IntN.{ℤ, pos, negsuc, neg_ℤ, nat_abs, ◌+ℤ◌, ◌*ℤ◌}
use Rattle.basics.proofs.Bools.{by_le}
use Rattle.grid.specs.Bench.{AllHold, cases}
use Rattle.grid.specs.Frequencies.{limit_of, anchor_of, spacing_of, channel_of, frequency_of}
use Rattle.grid.proofs.FrequencyLaws.{minus_less, minus_more, frequency_is}

-- each case of the table
pub wavelengths_hold : AllHold cases
unfolding cases limit_of channel_of frequency_of anchor_of spacing_of
wavelengths_hold = ((refl, refl), ((refl, refl), ((refl, refl), (refl, ((refl, refl), ((refl, refl), ((refl, refl), (refl, tt))))))))

-- fifty times twice a number is a hundred times it
fifty_twice : (z : ℤ) → pos 50 *ℤ (pos 2 *ℤ z) ≡ pos 100 *ℤ z
fifty_twice (pos n) = ap pos (omega arith)
fifty_twice (negsuc n) =
    let e : 2 * suc n ≡ suc (1 + 2 * n) = omega arith in
    let f : 50 * suc (1 + 2 * n) ≡ 100 * suc n = omega arith in
    ap (λ (x : ℕ). pos 50 *ℤ neg_ℤ (pos x)) e ∙ ap (λ (x : ℕ). neg_ℤ (pos x)) f

-- MEETING. Where the channel number on grid 2 is twice that on grid 1, the frequencies are one
pub grids_agree : (u v : ℕ) → channel_of 2 u ≡ pos 2 *ℤ channel_of 1 v → frequency_of 2 u ≡ frequency_of 1 v
unfolding frequency_of spacing_of
grids_agree u v e = ap (λ (z : ℤ). pos 193100 +ℤ (pos 50 *ℤ z)) e ∙ ap (λ (z : ℤ). pos 193100 +ℤ z) (fifty_twice (channel_of 1 v))

-- and nowhere else
pub grids_agree_only : (u v : ℕ) → frequency_of 2 u ≡ frequency_of 1 v → channel_of 2 u ≡ pos 2 *ℤ channel_of 1 v
unfolding channel_of anchor_of
grids_agree_only u v e =
    let s : 192050 + 50 * u ≡ 192000 + 100 * v = ap nat_abs (sym (frequency_is 2 u) ∙ e ∙ frequency_is 1 v) in
    by_le 11 v
    (λ f. minus_less u 21 (omega arith) ∙ ap pos (omega arith) ∙ sym (ap (λ (z : ℤ). pos 2 *ℤ z) (minus_less v 11 f)))
    (λ b.
    let t : 2 * suc (11 - suc v) ≡ suc (21 - suc u) = omega arith in
    minus_more u 21 (omega arith) ∙ sym (ap (λ (z : ℤ). pos 2 *ℤ z) (minus_more v 11 b) ∙ ap (λ (n : ℕ). neg_ℤ (pos n)) t))
