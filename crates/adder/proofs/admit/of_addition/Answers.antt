-- `of_addition`: what the tests before leave. Assumes nothing.
use mathlib.Core.Path.{◌∙◌, sym}
use Rattle.adder.proofs.Accepting.{old_asked}
use Rattle.adder.proofs.admit.of_addition.Goals as goal

pub of_old-requires : goal.of_old-requires
of_old-requires c =
    old_asked _ _ _ _ _ _ _ _ _ _ _ _ _ _ _
    (sym c.of_files.ensures ∙ c.in_ok-of_files.was)
    (sym c.of_line.ensures ∙ c.in_ok-of_line.was)
    (sym c.of_records.ensures ∙ c.in_ok-of_records.was)
    (sym c.of_rooms.ensures ∙ c.in_ok-of_rooms.was)
