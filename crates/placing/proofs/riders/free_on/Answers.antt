-- `free_on` meets its contract: the first clear entry of the table is the lowest free wavelength. Assumes nothing.
use Prim.Native.Nat.{suc, ◌-◌}
use mathlib.Core.Path.{ap, ◌∙◌}
use native.Mathlib.Omega.{arith}
use Rattle.basics.proofs.Searches.{seek_same}
use Rattle.places.specs.Places.{free, free_wavelength}
use Rattle.placing.specs.inner.Marking.{clear, up_to}
use Rattle.placing.proofs.riders.free_on.Goals as goal

pub returns : goal.returns
unfolding free_wavelength
returns c = let a = c.args in λ rs h. c.lowest_clear.ensures ∙ ap (up_to a.waves.high) (seek_same (clear c.mark.new.busy) (free rs a.c a.q) a.waves.low (suc a.waves.high - a.waves.low) (λ v x y. c.mark.ensures rs h v (omega arith)))
