-- The bench cases that are worked out by computing. Assumes nothing.
use Prim.Native.Nat.{ℕ}
use mathlib.Core.List.{List}
use mathlib.Core.Path.{◌≡◌, refl}
use Rattle.basics.specs.Tools.{any, better, count, each, every, lowest, seek, sum, top}
use Rattle.records.specs.declared.Circuit.{Circuit}
use Rattle.method.specs.Bench.{AllHold, Least, NoRow, Planned, cases, clashing, slips, three}
use Rattle.method.specs.Fibres.{assignments, fibres, find, floor, given, in_layer, join, layer, layer_of, layers, on_first, on_first_by, pair_of, pairs, plan, runs, together, twice, wavelength_of}
use Rattle.method.specs.Line.{Assignment, Fibre, Plan, assigned, circuit, over, overlap, span_length, total, uses}
use Rattle.method.specs.Lit.{lit, lit_plan, new_fibre, regiven, stretches, stretches_to, trimmed}
use Rattle.method.specs.LitBench.{lit_cases, lit_slips}
use Rattle.method.specs.Sheet.{act, at, begun, chosen, fits, fresh, in_run, load, most, need, paint, red_to, row, rows, run_from, run_past, sheet, step, steps}
use Rattle.method.specs.Sides.{keep, left_of, right_of, side_cases}

-- a case of a plan, from its three equations
worked : {p : Plan} {n w : ℕ} {cs : List Circuit} {fs : List Fibre} {gs : List Assignment} {t f : ℕ}
    → p ≡ record { fibres = fs; assignments = gs } → total fs ≡ t → floor n w cs ≡ f → Planned p n w cs fs gs t f
worked p q r = record { the_plan = p; the_total = q; the_floor = r }

-- the five tables, by computing, given the two cases that do not compute: every definition of the method is opened here
pub tables : Least 2 three 5 → NoRow clashing 2 3 → AllHold cases × AllHold slips × AllHold lit_cases × AllHold lit_slips × AllHold side_cases
unfolding cases slips lit_cases lit_slips side_cases keep left_of right_of in_layer any better count each every lowest seek sum top circuit uses overlap over span_length total act at begun chosen fits fresh in_run load most need paint red_to row rows run_from run_past sheet step steps assignments fibres find floor given join layer layer_of layers on_first on_first_by pair_of pairs plan runs together twice wavelength_of assigned lit lit_plan new_fibre regiven stretches stretches_to trimmed
tables least no_row = (
  (worked refl refl refl, (worked refl refl refl, (worked refl refl refl, (worked refl refl refl, (worked refl refl refl, (least, (worked refl refl refl, (worked refl refl refl, (no_row, tt))))))))),
  (worked refl refl refl, (worked refl refl refl, (worked refl refl refl, (worked refl refl refl, (worked refl refl refl, (worked refl refl refl, (worked refl refl refl, (worked refl refl refl, (worked refl refl refl, (worked refl refl refl, (worked refl refl refl, tt))))))))))),
  (worked refl refl refl, (worked refl refl refl, (worked refl refl refl, (worked refl refl refl, (worked refl refl refl, (worked refl refl refl, (worked refl refl refl, tt))))))),
  (worked refl refl refl, (worked refl refl refl, (worked refl refl refl, (worked refl refl refl, (worked refl refl refl, (worked refl refl refl, (worked refl refl refl, (worked refl refl refl, tt)))))))),
  (worked refl refl refl, (worked refl refl refl, (worked refl refl refl, tt))),
)
