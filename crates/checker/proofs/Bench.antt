-- The bench cases of the check hold, by computation. Assumes nothing.
use mathlib.Core.Path.{refl}
use Rattle.basics.specs.Tools.{any, count, each, seek, sum}
use Rattle.records.specs.Records.{circuits_in}
use Rattle.method.specs.Fibres.{floor}
use Rattle.method.specs.Line.{circuit, overlap, span_length, total, uses}
use Rattle.method.specs.Sheet.{load, need}
use Rattle.refusals.specs.Table.{bad_ends, circuit_rows, file_rows, first_record, line_rows, record_rows, repeats, verdict, wrong_end}
use Rattle.grid.specs.Frequencies.{is_grid, limit_of}
use Rattle.clashes.specs.Clashes.{clash}
use Rattle.checker.specs.Rules.{first_broken, first_fault, lowest_broken}
use Rattle.checker.specs.Checked.{assignments_in, check_table, checked, fibres_in, found, judged, list_rows}
use Rattle.checker.specs.Bench.{AllHold, refusals, rulings}

-- every case about records
rulings_hold : AllHold rulings
unfolding rulings found first_broken first_fault lowest_broken first_record seek clash any circuit overlap total span_length floor sum need load count uses
rulings_hold = (refl, (refl, (refl, (refl, (refl, (refl, (refl, (refl, (refl, (refl, (refl, (refl, (refl, (refl, (refl, (refl, (refl, (refl, (refl, (refl, (refl, (refl, (refl, (refl, (refl, (refl, (refl, (refl, (refl, (refl, (refl, (refl, (refl, (refl, (refl, (refl, (refl, (refl, (refl, (refl, (refl, (refl, (refl, (refl, (refl, (refl, (refl, (refl, (refl, (refl, (refl, tt)))))))))))))))))))))))))))))))))))))))))))))))))))

-- every case about bytes and lengths
refusals_hold : AllHold refusals
unfolding refusals checked judged check_table circuit_rows file_rows line_rows record_rows list_rows verdict is_grid limit_of wrong_end found first_broken first_fault lowest_broken first_record seek clash any circuit overlap total span_length floor sum need load count uses bad_ends repeats circuits_in fibres_in assignments_in each
refusals_hold = (refl, (refl, (refl, (refl, (refl, (refl, (refl, (refl, (refl, (refl, (refl, (refl, (refl, (refl, (refl, (refl, (refl, (refl, (refl, (refl, (refl, (refl, (refl, (refl, (refl, tt)))))))))))))))))))))))))

-- EVERY BENCH CASE HOLDS
pub bench_holds : AllHold rulings × AllHold refusals
bench_holds = (rulings_hold, refusals_hold)
