-- The registers of the table, by computing. Assumes nothing.
use Prim.Native.Nat.{ℕ}
use lib.ListN.{length}
use mathlib.Core.List.{List, ◌++◌}
use mathlib.Core.Path.{◌≡◌, refl}
use Rattle.basics.specs.Tools.{any, better, count, each, every, lowest, seek, sum, top}
use Rattle.records.specs.declared.AssignmentRecord.{AssignmentRecord}
use Rattle.records.specs.declared.Circuit.{Circuit}
use Rattle.method.specs.Fibres.{assignments, fibres, find, floor, given, in_layer, join, layer, layer_of, layers, on_first, on_first_by, pair_of, pairs, plan, runs, together, twice, wavelength_of}
use Rattle.method.specs.Line.{Assignment, Fibre, assigned, circuit, over, overlap, span_length, total, uses}
use Rattle.method.specs.Lit.{lit, lit_plan, new_fibre, regiven, stretches, stretches_to, trimmed}
use Rattle.method.specs.Sheet.{act, begun, chosen, fits, fresh, in_run, load, most, need, paint, red_to, row, rows, run_from, run_past, sheet, step, steps}
use Rattle.register.specs.Lists.{counts_of}
use Rattle.places.specs.Parts.{picked, those}
use Rattle.places.specs.Places.{clashes, free, free_fibre, free_wavelength, given_to, has_place, place, rider, riders, spans}
use Rattle.places.specs.Turns.{in_turn, next, onto, rising}
use Rattle.additions.specs.Adding.{finds, give, left_plan, settled, settled_all, unplaced}
use Rattle.mending.specs.Bench.{AllHold, Mends, mending_cases}
use Rattle.mending.specs.Mending.{ReportLine, keepable, keeps, kept, line_of, mend, mend_counts, mend_lines, mended_plan, record_of, refilled, sound}

-- a case, from its three equations
worked : {n w : ℕ} {cs : List Circuit} {fs : List Fibre} {rs : List AssignmentRecord} {more : List Fibre} {gs : List Assignment} {ls : List ReportLine} {t b : ℕ}
    → mend n w fs cs rs ≡ record { plan = record { fibres = fs ++ more; assignments = gs }; report = ls }
    → mend_counts n w fs cs rs ≡ record { fibres = length (fs ++ more); total = t; floor = b }
    → mend_lines n w fs cs rs ≡ length ls
    → Mends n w cs fs rs more gs ls t b
worked p q s = record { the_mend = p; the_counts = q; the_lines = s }

-- the table holds: every definition of the method, of places and of additions is opened here
pub bench : AllHold mending_cases
unfolding mending_cases any better count each every lowest seek sum top circuit uses overlap over span_length total act Rattle.method.specs.Sheet.at begun chosen fits fresh in_run load most need paint red_to row rows run_from run_past sheet step steps assignments fibres find floor given in_layer join layer layer_of layers on_first on_first_by pair_of pairs plan runs together twice wavelength_of assigned lit stretches stretches_to new_fibre regiven trimmed lit_plan rider given_to riders spans clashes free free_wavelength has_place free_fibre place next onto rising in_turn those picked finds give unplaced left_plan settled settled_all counts_of record_of sound keepable keeps kept refilled mended_plan line_of mend mend_counts mend_lines
bench = (worked refl refl refl, (worked refl refl refl, (worked refl refl refl, (worked refl refl refl, (worked refl refl refl, (worked refl refl refl, (worked refl refl refl, (worked refl refl refl, (worked refl refl refl, (worked refl refl refl, (worked refl refl refl, (worked refl refl refl, (worked refl refl refl, (worked refl refl refl, tt))))))))))))))
