-- The bench cases of the whole sheet hold, by computation. Assumes nothing.
use Prim.Native.Nat.{ℕ}
use mathlib.Core.List.{List}
use mathlib.Core.Path.{◌≡◌, refl}
use Rattle.basics.specs.Tools.{any, better, count, each, every, lowest, seek, sum, top}
use Rattle.records.specs.Records.{circuits_in, file_of}
use Rattle.records.specs.declared.Circuit.{Circuit}
use Rattle.grid.specs.Frequencies.{is_grid, limit_of}
use Rattle.method.specs.Fibres.{assignments, fibres, find, floor, given, in_layer, join, layer, layer_of, layers, on_first, on_first_by, pair_of, pairs, plan, runs, together, twice, wavelength_of}
use Rattle.method.specs.Line.{Assignment, Fibre, assigned, circuit, over, overlap, span_length, total, uses}
use Rattle.method.specs.Lit.{lit, lit_plan, new_fibre, regiven, stretches, stretches_to, trimmed}
use Rattle.method.specs.Sheet.{act, at, begun, chosen, fits, fresh, in_run, load, most, need, paint, red_to, row, rows, run_from, run_past, sheet, step, steps}
use Rattle.refusals.specs.Table.{area_rows, bad_ends, circuit_rows, file_rows, first_record, line_rows, plan_table, record_rows, repeats, verdict, wrong_end}
use Rattle.whole_sheet.specs.Cells.{cells, cells_to}
use Rattle.whole_sheet.specs.WholeOutcome.{whole_table}
use Rattle.whole_sheet.specs.WholeBench.{AllHold, Sheeted, joined, sheet_tests, whole_cases, whole_slips}

-- sheet and plan of a case, computed
worked : {n w : ℕ} {cs : List Circuit} {rows : List (List ℕ)} {fs : List Fibre} {gs : List Assignment} {t u : ℕ}
    → cells n w cs ≡ joined rows → lit_plan n w cs ≡ record { fibres = fs; assignments = gs } → total fs ≡ t → floor n w cs ≡ u → Sheeted n w cs rows fs gs t u
worked a b c d = record { the_cells = a; the_plan = b; the_total = c; the_floor = d }

-- each case of each table
pub whole_bench : AllHold whole_cases × AllHold whole_slips × AllHold sheet_tests
unfolding whole_cases whole_slips sheet_tests cells_to lit lit_plan new_fibre regiven stretches stretches_to trimmed in_layer any better count each every lowest seek sum top assigned circuit uses overlap over span_length total floor act at begun chosen fits fresh in_run load most need paint red_to row rows run_from run_past sheet step steps assignments fibres find given join layer layer_of layers on_first on_first_by pair_of pairs plan runs together twice wavelength_of whole_table verdict plan_table circuit_rows file_rows line_rows is_grid limit_of record_rows area_rows first_record bad_ends wrong_end repeats file_of circuits_in
whole_bench = (
  (worked refl refl refl refl, (worked refl refl refl refl, (worked refl refl refl refl, (worked refl refl refl refl, (worked refl refl refl refl, (worked refl refl refl refl, (worked refl refl refl refl, tt))))))),
  (worked refl refl refl refl, (worked refl refl refl refl, tt)),
  (refl, (refl, (refl, (refl, (refl, (refl, (refl, (refl, tt)))))))),
)
