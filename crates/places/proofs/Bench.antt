-- The cases of the table, by computing. Assumes nothing.
use mathlib.Core.Path.{refl}
use Rattle.basics.specs.Tools.{any, better, each, lowest, seek}
use Rattle.method.specs.Line.{circuit, overlap}
use Rattle.places.specs.Bench.{AllHold, place_cases}
use Rattle.places.specs.Places.{clashes, free, free_fibre, free_wavelength, has_place, place, rider, spans}
use Rattle.places.specs.Turns.{next, onto, rising}

-- the table holds
pub bench : AllHold place_cases
unfolding place_cases any better each lowest seek circuit overlap clashes free free_fibre free_wavelength has_place place rider spans next onto rising
bench = (refl, (refl, (refl, (refl, (refl, (refl, (refl, (refl, (refl, (refl, (refl, (refl, (refl, (refl, (refl, (refl, (refl, tt)))))))))))))))))
