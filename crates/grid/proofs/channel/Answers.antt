-- `channel` meets its contract at every 16-bit wavelength. Assumes nothing.
use native.Mathlib.Omega.{arith}
use mir.Syntax.{w32}
use mir.Facts.{to_z_pos, to_z-of_z}
use Rattle.grid.specs.Frequencies.{anchor_of, channel_of}
use Rattle.grid.proofs.FrequencyLaws.{anchor_small, channel_fits}
use Rattle.grid.proofs.channel.Goals as goal

pub returns : goal.returns
unfolding channel_of
returns c =
    let a = c.args in
    let l = anchor_small a.grid in
    rw (c.anchor.ensures, c.from.ensures, to_z_pos w32 {n = anchor_of a.grid} (omega arith), to_z_pos w32 {n = a.v} (omega arith)) (to_z-of_z (channel_fits a.grid a.v (omega arith)))
