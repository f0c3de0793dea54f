-- `frequency` meets its contract at every 16-bit wavelength. Assumes nothing.
use mathlib.Core.Path.{◌≡◌, ap₂, ◌∙◌}
use native.Mathlib.Omega.{arith}
use lib.IntN.{ℤ, pos, ◌*ℤ◌}
use lib.Signed.{pos-nat_abs}
use mir.Syntax.{w32}
use mir.Val.{to_z, of_z}
use mir.Facts.{to_z_pos, to_z-of_z, Fits-nat_abs}
use Rattle.grid.specs.Frequencies.{spacing_of, channel_of, frequency_of}
use Rattle.grid.proofs.FrequencyLaws.{spacing_small, channel_fits, product_fits, frequency_fits, frequency_pos}
use Rattle.std.proofs.Common.{ℕ, ◌<◌}
use Rattle.grid.proofs.frequency.Goals as goal

-- what is multiplied: the spacing and the channel number, as they are read from 32 bits
factors : (g v : ℕ) (x y : ℤ) → v < 65536 → x ≡ pos (spacing_of g) → y ≡ channel_of g v
    → to_z w32 (of_z w32 x) *ℤ to_z w32 (of_z w32 y) ≡ pos (spacing_of g) *ℤ channel_of g v
factors g v x y h p q =
    let l = spacing_small g in
    ap₂ (λ (x y : ℤ). to_z w32 (of_z w32 x) *ℤ to_z w32 (of_z w32 y)) p q
    ∙ ap₂ ◌*ℤ◌ (to_z_pos w32 {n = spacing_of g} (omega arith)) (to_z-of_z (channel_fits g v (omega arith)))

pub overflow_mul-result : goal.overflow_mul-result
overflow_mul-result c =
    let a = c.args in
    rw (factors a.grid a.v _ _ (omega arith) c.spacing.ensures c.channel.ensures) (product_fits a.grid a.v (omega arith))

pub overflow_add-result : goal.overflow_add-result
unfolding frequency_of
overflow_add-result c =
    let a = c.args in
    rw (factors a.grid a.v _ _ (omega arith) c.spacing.ensures c.channel.ensures, to_z-of_z (product_fits a.grid a.v (omega arith)))
    (frequency_fits a.grid a.v (omega arith))

pub overflow_cast-result : goal.overflow_cast-result
unfolding frequency_of
overflow_cast-result c =
    let a = c.args in
    let read = frequency_fits a.grid a.v (omega arith) in
    rw (factors a.grid a.v _ _ (omega arith) c.spacing.ensures c.channel.ensures, to_z-of_z (product_fits a.grid a.v (omega arith)), to_z-of_z read)
    (frequency_pos a.grid a.v, Fits-nat_abs tt read)

pub returns : goal.returns
unfolding frequency_of
returns c =
    let a = c.args in
    let read = frequency_fits a.grid a.v (omega arith) in
    rw (factors a.grid a.v _ _ (omega arith) c.spacing.ensures c.channel.ensures, to_z-of_z (product_fits a.grid a.v (omega arith)), to_z-of_z read)
    (pos-nat_abs _ (frequency_pos a.grid a.v))
