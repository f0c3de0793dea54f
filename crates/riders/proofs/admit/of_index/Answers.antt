-- `of_index`: what the tests before leave. Assumes nothing.
use mathlib.Core.Path.{◌∙◌, sym}
use Rattle.two_files.proofs.Told.{files_old, files_few, records_unlike}
use Rattle.riders.proofs.Accepting.{line_short, records_lie}
use Rattle.riders.proofs.admit.of_index.Goals as goal

pub unlike_old-requires-clause-unlike : goal.unlike_old-requires-clause-unlike
unlike_old-requires-clause-unlike c = records_unlike _ _ _ _ _ _ _ (sym c.of_records.ensures ∙ c.in_ok-of_records.was)

pub cells_for-requires : goal.cells_for-requires
cells_for-requires c = let a = c.args in
    let files = sym c.of_files.ensures ∙ c.in_ok-of_files.was in
    let w = files_old a.old.now a.new.now _ _ files in record {
      files = (w, files_few _ _ _ _ files, line_short _ _ _ _ (sym c.line.ensures ∙ c.in_ok-line.was));
      lie = records_lie a.links _ _ a.old.now a.new.now _ _ w (sym c.of_records.ensures ∙ c.in_ok-of_records.was);
    }
