-- The questions of the table, and what happens where w or s changes, by computing. Assumes nothing.
use Prim.Native.Nat.{ℕ}
use lib.ListN.{length}
use mathlib.Core.List.{List}
use mathlib.Core.Path.{◌≡◌, refl}
use Rattle.basics.specs.Tools.{any, better, count, each, every, lowest, seek, sum, top}
use Rattle.records.specs.declared.Circuit.{Circuit}
use Rattle.method.specs.Fibres.{assignments, fibres, find, floor, given, in_layer, join, layer, layer_of, layers, on_first, on_first_by, pair_of, pairs, plan, runs, together, twice, wavelength_of}
use Rattle.method.specs.Line.{Assignment, Fibre, assigned, circuit, over, overlap, span_length, total, uses}
use Rattle.method.specs.Lit.{lit, lit_plan, new_fibre, regiven, stretches, stretches_to, trimmed}
use Rattle.method.specs.Sheet.{act, begun, chosen, fits, fresh, in_run, load, most, need, paint, red_to, row, rows, run_from, run_past, sheet, step, steps}
use Rattle.register.specs.Lists.{counts_of}
use Rattle.places.specs.Parts.{picked, those}
use Rattle.places.specs.Places.{clashes, free, free_fibre, free_wavelength, given_to, has_place, place, rider, riders, spans}
use Rattle.places.specs.Turns.{in_turn, next, onto, rising}
use Rattle.additions.specs.Adding.{add, finds, give, left_plan, places_found, settled, settled_all, unplaced}
use Rattle.partner.specs.Asking.{ask, ask_counts, asked}
use Rattle.partner.specs.Bench.{AllHold, Grants, Hazard, partner_cases}

-- a case that is granted, from its two equations
worked : {n w s : ℕ} {ds : List Circuit} {fs : List Fibre} {gs : List Assignment} {d : Circuit} {found : Assignment} {t l : ℕ}
    → ask w s ds (record { fibres = fs; assignments = gs }) d ≡ found
    → ask_counts n w s ds (record { fibres = fs; assignments = gs }) d ≡ record { fibres = length fs; total = t; floor = l }
    → Grants n w s ds fs gs d found t l
worked p q = record { the_place = p; the_counts = q }

-- the table holds
pub bench : AllHold partner_cases
unfolding partner_cases any count each seek sum circuit uses overlap span_length total load need floor clashes free free_fibre free_wavelength given_to has_place place rider riders spans counts_of ask ask_counts asked
bench = (worked refl refl, (worked refl refl, (worked refl refl, (worked refl refl, (refl, (worked refl refl, (worked refl refl, (refl, (worked refl refl, (worked refl refl, (refl, (refl, tt))))))))))))

-- so do the hazards: every definition of the method and of additions is opened here
pub hazard : Hazard
unfolding any better count each every lowest seek sum top circuit uses overlap over span_length total act Rattle.method.specs.Sheet.at begun chosen fits fresh in_run load most need paint red_to row rows run_from run_past sheet step steps assignments fibres find floor given in_layer join layer layer_of layers on_first on_first_by pair_of pairs plan runs together twice wavelength_of assigned lit stretches stretches_to new_fibre regiven trimmed lit_plan rider given_to riders spans clashes free free_wavelength has_place free_fibre place next onto rising in_turn those picked finds give unplaced left_plan settled settled_all places_found add ask
hazard = record { theirs = refl; as_before = refl; other_w = refl; other_s = refl; ours_before = refl; theirs_after = refl; their_fibre = refl; its_span = refl; span_anew = refl }
