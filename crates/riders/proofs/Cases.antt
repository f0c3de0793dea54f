-- The bench cases of the index, of the question and of the tests hold, by computation. Assumes nothing.
use mathlib.Core.Path.{refl}
use Rattle.basics.specs.Tools.{any, count, each, seek, sum}
use Rattle.records.specs.Records.{circuits_in, file_of}
use Rattle.method.specs.Line.{circuit, uses}
use Rattle.method.specs.Sheet.{load}
use Rattle.refusals.specs.Table.{bad_ends, first_record, repeats, verdict, wrong_end}
use Rattle.two_files.specs.Rows.{has_old, two_file_rows, two_record_rows}
use Rattle.riders.specs.Index.{between, cells_for, start_of, stretch_at}
use Rattle.riders.specs.Outcome.{index_table}
use Rattle.riders.specs.Computed.{index_of, insert, numbers_to, stretches_to}
use Rattle.riders.specs.Bench.{AllHold, first_two, indexes, listing, other_two, questions, refusals}

-- each index
indexes_hold : AllHold indexes
unfolding indexes listing first_two other_two file_of index_of each start_of sum load count circuit uses circuits_in stretches_to numbers_to insert
indexes_hold = (refl, (refl, (refl, (refl, (refl, tt)))))

-- each question
questions_hold : AllHold questions
unfolding questions listing stretch_at between
questions_hold = (refl, (refl, (refl, (refl, (refl, (refl, (refl, (refl, (refl, (refl, (refl, tt)))))))))))

-- each test
refusals_hold : AllHold refusals
unfolding refusals first_two other_two file_of verdict index_table two_file_rows two_record_rows has_old first_record bad_ends wrong_end repeats seek any cells_for sum load count circuit uses circuits_in each
refusals_hold = (refl, (refl, (refl, (refl, (refl, (refl, (refl, (refl, (refl, (refl, (refl, tt)))))))))))

-- EVERY BENCH CASE HOLDS
pub riders_hold : AllHold indexes × (AllHold questions × AllHold refusals)
riders_hold = (indexes_hold, (questions_hold, refusals_hold))
