-- The bench cases of the tests of two files hold, by computation. Assumes nothing.
use mathlib.Core.Path.{refl}
use Rattle.basics.specs.Tools.{any, seek}
use Rattle.records.specs.Records.{file_of}
use Rattle.refusals.specs.Table.{first_record, bad_ends, wrong_end, repeats, verdict}
use Rattle.two_files.specs.Rows.{has_old, two_file_rows, two_record_rows}
use Rattle.two_files.specs.Bench.{AllHold, cases, two_table}

-- each case
pub two_files_hold : AllHold cases
unfolding cases two_table verdict two_file_rows two_record_rows first_record bad_ends wrong_end repeats has_old seek any file_of
two_files_hold = (refl, (refl, (refl, (refl, (refl, (refl, (refl, (refl, (refl, (refl, (refl, (refl, tt))))))))))))
