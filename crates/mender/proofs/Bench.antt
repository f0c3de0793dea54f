-- The calls of the table, by computing. Assumes nothing.
use mathlib.Core.Path.{refl}
use Rattle.basics.specs.Tools.{any, better, count, each, every, lowest, seek, sum, top}
use Rattle.records.specs.Records.{circuits_in}
use Rattle.grid.specs.Frequencies.{is_grid, limit_of}
use Rattle.method.specs.Fibres.{assignments, fibres, find, floor, given, in_layer, join, layer, layer_of, layers, on_first, on_first_by, pair_of, pairs, plan, runs, together, twice, wavelength_of}
use Rattle.method.specs.Line.{assigned, circuit, over, overlap, span_length, total, uses}
use Rattle.method.specs.Lit.{lit, lit_plan, new_fibre, regiven, stretches, stretches_to, trimmed}
use Rattle.method.specs.Sheet.{act, begun, chosen, fits, fresh, in_run, load, most, need, paint, red_to, row, rows, run_from, run_past, sheet, step, steps}
use Rattle.refusals.specs.Table.{bad_ends, circuit_rows, file_rows, first_record, line_rows, record_rows, repeats, verdict, wrong_end}
use Rattle.register.specs.Areas.{zeroed_to}
use Rattle.register.specs.Lists.{assignment_record, assignment_records, behind, counts_of, fibre_list, fibre_record, fibre_records}
use Rattle.register.specs.Plans.{plan_in}
use Rattle.places.specs.Parts.{picked, those}
use Rattle.places.specs.Places.{clashes, free, free_fibre, free_wavelength, given_to, has_place, place, rider, riders, spans}
use Rattle.places.specs.Turns.{in_turn, next, onto, rising}
use Rattle.additions.specs.Adding.{finds, give, left_plan, settled, settled_all, unplaced}
use Rattle.checker.specs.Rules.{lowest_broken}
use Rattle.checker.specs.Checked.{assignments_in, fibres_in}
use Rattle.mending.specs.Mending.{keepable, keeps, kept, line_of, mend, mend_counts, mend_lines, mended_plan, record_of, refilled, sound}
use Rattle.mender.specs.Report.{report_bytes, report_list}
use Rattle.mender.specs.Table.{lent_rows, mend_table}
use Rattle.mender.specs.Outcome.{judged}
use Rattle.mender.specs.Bench.{AllHold, mendings, refusals}

-- registers that are mended: every definition of the method, of places and of additions is opened here
mendings_hold : AllHold mendings
unfolding mendings judged verdict mend_table lent_rows circuit_rows file_rows line_rows record_rows is_grid limit_of first_record bad_ends repeats wrong_end lowest_broken circuits_in fibres_in assignments_in plan_in zeroed_to behind fibre_list fibre_record fibre_records assignment_record assignment_records report_bytes report_list any better count each every lowest seek sum top circuit uses overlap over span_length total act Rattle.method.specs.Sheet.at begun chosen fits fresh in_run load most need paint red_to row rows run_from run_past sheet step steps assignments fibres find floor given in_layer join layer layer_of layers on_first on_first_by pair_of pairs plan runs together twice wavelength_of assigned lit stretches stretches_to new_fibre regiven trimmed lit_plan rider given_to riders spans clashes free free_wavelength has_place free_fibre place next onto rising in_turn those picked finds give unplaced left_plan settled settled_all counts_of record_of sound keepable keeps kept refilled mended_plan line_of mend mend_counts mend_lines
mendings_hold = (
  record { answered = refl; listed = refl; assigned = refl; reported = refl; cleared = refl },
  (
    record { answered = refl; listed = refl; assigned = refl; reported = refl; cleared = refl },
    (record { answered = refl; listed = refl; assigned = refl; reported = refl; cleared = refl }, tt),
  ),
)

-- and that are refused
refusals_hold : AllHold refusals
unfolding refusals judged verdict mend_table lent_rows circuit_rows file_rows line_rows record_rows is_grid limit_of first_record bad_ends repeats wrong_end lowest_broken fibres_in each seek any
refusals_hold = (
  record { answered = refl; listed = refl; assigned = refl; reported = refl; cleared = refl },
  (
    record { answered = refl; listed = refl; assigned = refl; reported = refl; cleared = refl },
    (
      record { answered = refl; listed = refl; assigned = refl; reported = refl; cleared = refl },
      (
        record { answered = refl; listed = refl; assigned = refl; reported = refl; cleared = refl },
        (
          record { answered = refl; listed = refl; assigned = refl; reported = refl; cleared = refl },
          (
            record { answered = refl; listed = refl; assigned = refl; reported = refl; cleared = refl },
            (
              record { answered = refl; listed = refl; assigned = refl; reported = refl; cleared = refl },
              (
                record { answered = refl; listed = refl; assigned = refl; reported = refl; cleared = refl },
                (
                  record { answered = refl; listed = refl; assigned = refl; reported = refl; cleared = refl },
                  (
                    record { answered = refl; listed = refl; assigned = refl; reported = refl; cleared = refl },
                    (
                      record { answered = refl; listed = refl; assigned = refl; reported = refl; cleared = refl },
                      (record { answered = refl; listed = refl; assigned = refl; reported = refl; cleared = refl }, tt),
                    ),
                  ),
                ),
              ),
            ),
          ),
        ),
      ),
    ),
  ),
)

-- EVERY CASE HOLDS
pub bench_holds : AllHold mendings × AllHold refusals
bench_holds = (mendings_hold, refusals_hold)
