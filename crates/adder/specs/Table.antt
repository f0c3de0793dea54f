-- The tests of an addition (R-2) in their order. What a reader must believe.
-- Assumes nothing.
use Rattle.std.specs.Prelude.{ℕ, ◌+◌, ◌/◌, Bool, ◌||◌, List, [], ◌∷◌, ◌++◌, length, ltb}
use Rattle.records.specs.Records.{circuits_of}
use Rattle.records.specs.declared.Line.{Line}
use Rattle.refusals.specs.declared.Reason.TheVariants.{UnfitPlan}
use Rattle.refusals.specs.Table.{Row, whenever, line_rows, row8, row9, row10}
use Rattle.two_files.specs.Rows.{row14, two_file_rows, two_record_rows}
use Rattle.register.specs.Areas.{Areas}
use Rattle.checker.specs.Rules.{first_broken, is_broken}
use Rattle.checker.specs.Checked.{fibres_in, assignments_in}
use Rattle.adder.specs.declared.Named.{Named}

-- the old plan, of the records that are named, breaks a rule of R-7, or has over 2,048 fibres
unfoldable pub unfit : Line → List ℕ → Named → List ℕ → List ℕ → Bool
unfit line old named fibres assigns =
    ltb 2048 named.fibres || is_broken (first_broken line (circuits_of old) (fibres_in named.fibres fibres) (assignments_in named.assignments assigns))

-- 13: the old plan is unfit
abbrev pub row13 : Line → List ℕ → Named → List ℕ → List ℕ → Row
row13 line old named fibres assigns = whenever UnfitPlan (unfit line old named fibres assigns)

-- the lent areas, by their lengths, for k old circuits and m new ones on n links: room for the old records of a list and 8 bytes for each new circuit;
-- the work area counts both files
unfoldable pub room_rows : ℕ → ℕ → ℕ → Named → ℕ → ℕ → ℕ → List Row
room_rows n k m named fibres assigns work = row8 (named.fibres + m) fibres ∷ row9 (named.assignments + m) assigns ∷ row10 n (k + m) work ∷ []

-- the old plan, and then the new numbers beside the old ones
unfoldable pub old_rows : Line → List ℕ → List ℕ → Named → List ℕ → List ℕ → List Row
old_rows line old new named fibres assigns = row13 line old named fibres assigns ∷ row14 old (length old / 8) new (length new / 8) ∷ []

-- the tests of an addition, for a line, the bytes of the old and of the new circuit file, how many old records the lists have, and the lent areas
unfoldable pub add_table : Line → List ℕ → List ℕ → Named → Areas → List Row
add_table line old new named lent =
    two_file_rows old new
    ++ (line_rows line
    ++ (two_record_rows line.links (length old / 8) (length new / 8) old new
    ++ (room_rows line.links (length old / 8) (length new / 8) named (length lent.fibres) (length lent.assigns) (length lent.work)
    ++ (old_rows line old new named lent.fibres lent.assigns ++ []))))
