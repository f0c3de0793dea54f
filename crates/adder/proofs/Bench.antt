-- The bench cases of the tests of an addition hold, by computation. Assumes nothing.
use mathlib.Core.Path.{refl}
use Rattle.basics.specs.Tools.{any, each, seek}
use Rattle.records.specs.Records.{circuits_in, file_of}
use Rattle.method.specs.Line.{circuit, overlap}
use Rattle.refusals.specs.Table.{bad_ends, first_record, line_rows, repeats, verdict, wrong_end}
use Rattle.grid.specs.Frequencies.{is_grid, limit_of}
use Rattle.clashes.specs.Clashes.{clash}
use Rattle.checker.specs.Rules.{first_broken, first_fault, lowest_broken}
use Rattle.checker.specs.Checked.{assignments_in, fibres_in}
use Rattle.two_files.specs.Rows.{has_old, two_file_rows, two_record_rows}
use Rattle.adder.specs.Table.{add_table, old_rows, room_rows, unfit}
use Rattle.adder.specs.Outcome.{judged}
use Rattle.adder.specs.Bench.{AllHold, cases}

-- each case
pub additions_judged : AllHold cases
unfolding cases judged add_table two_file_rows line_rows two_record_rows room_rows old_rows unfit verdict is_grid limit_of first_broken first_fault lowest_broken first_record bad_ends wrong_end repeats has_old seek clash any circuit overlap circuits_in fibres_in assignments_in each file_of
additions_judged = (refl, (refl, (refl, (refl, (refl, (refl, (refl, (refl, (refl, (refl, (refl, (refl, (refl, tt)))))))))))))
