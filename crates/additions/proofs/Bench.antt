-- The additions of the table, by computing. Assumes nothing.
use Prim.Native.Nat.{ℕ}
use lib.ListN.{length}
use mathlib.Core.List.{List, ◌++◌}
use mathlib.Core.Path.{◌≡◌, refl}
use Rattle.basics.specs.Tools.{any, better, count, each, every, lowest, seek, sum, top}
use Rattle.records.specs.declared.Circuit.{Circuit}
use Rattle.method.specs.Fibres.{assignments, fibres, find, floor, given, in_layer, join, layer, layer_of, layers, on_first, on_first_by, pair_of, pairs, plan, runs, together, twice, wavelength_of}
use Rattle.method.specs.Line.{Assignment, Fibre, assigned, circuit, over, overlap, span_length, total, uses}
use Rattle.method.specs.Lit.{lit, lit_plan, new_fibre, regiven, stretches, stretches_to, trimmed}
use Rattle.method.specs.Sheet.{act, begun, chosen, fits, fresh, in_run, load, most, need, paint, red_to, row, rows, run_from, run_past, sheet, step, steps}
use Rattle.register.specs.Lists.{counts_of}
use Rattle.places.specs.Parts.{picked, those}
use Rattle.places.specs.Places.{clashes, free, free_fibre, free_wavelength, given_to, has_place, place, rider, riders, spans}
use Rattle.places.specs.Turns.{in_turn, next, onto, rising}
use Rattle.additions.specs.Adding.{add, add_counts, finds, give, left_plan, places_found, settled, settled_all, unplaced}
use Rattle.additions.specs.Bench.{Adds, AllHold, addition_cases}

-- a case, from its two equations
worked : {n w : ℕ} {cs : List Circuit} {fs : List Fibre} {gs : List Assignment} {ds : List Circuit} {more : List Fibre} {news : List Assignment} {t l : ℕ}
    → add n w cs (record { fibres = fs; assignments = gs }) ds ≡ record { fibres = fs ++ more; assignments = gs ++ news }
    → add_counts n w cs (record { fibres = fs; assignments = gs }) ds ≡ record { fibres = length (fs ++ more); total = t; floor = l }
    → Adds n w cs fs gs ds more news t l
worked p q = record { the_plan = p; the_counts = q }

-- the table holds: every definition of the method and of places is opened here
pub bench : AllHold addition_cases
unfolding addition_cases any better count each every lowest seek sum top circuit uses overlap over span_length total act Rattle.method.specs.Sheet.at begun chosen fits fresh in_run load most need paint red_to row rows run_from run_past sheet step steps assignments fibres find floor given in_layer join layer layer_of layers on_first on_first_by pair_of pairs plan runs together twice wavelength_of assigned lit stretches stretches_to new_fibre regiven trimmed lit_plan rider given_to riders spans clashes free free_wavelength has_place free_fibre place next onto rising in_turn those picked finds give unplaced left_plan settled settled_all places_found add counts_of add_counts
bench = (worked refl refl, (worked refl refl, (worked refl refl, (worked refl refl, (worked refl refl, (worked refl refl, (worked refl refl, (worked refl refl, (worked refl refl, (worked refl refl, (worked refl refl, (worked refl refl, (worked refl refl, (worked refl refl, tt))))))))))))))
