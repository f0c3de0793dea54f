-- The bench cases of the tests hold, by computation. Assumes nothing.
use mathlib.Core.Path.{refl}
use Rattle.basics.specs.Tools.{any, seek}
use Rattle.records.specs.Records.{file_of}
use Rattle.grid.specs.Frequencies.{is_grid, limit_of}
use Rattle.refusals.specs.Bench.{AllHold, cases, grid_cases, end_cases}
use Rattle.refusals.specs.Table.{first_record, bad_ends, wrong_end, repeats, verdict, file_rows, line_rows, record_rows, circuit_rows, area_rows, plan_table}

-- each case of each table
pub tests_hold : AllHold cases × AllHold grid_cases × AllHold end_cases
unfolding cases grid_cases end_cases verdict plan_table circuit_rows file_rows line_rows is_grid limit_of record_rows area_rows first_record bad_ends wrong_end repeats seek any file_of
tests_hold = (
  (refl, (refl, (refl, (refl, (refl, (refl, (refl, (refl, (refl, (refl, (refl, tt))))))))))),
  (refl, (refl, (refl, (refl, (refl, (refl, (refl, (refl, (refl, tt))))))))),
  (refl, (refl, (refl, (refl, (refl, (refl, (refl, tt))))))),
)
