-- The tests of mending (R-11) in their order. What a reader must believe.
-- `proofs/Leaves.antt` shows `mend_in_order`: they stand in the order 1, 2, 3, 12, 4, 5, 6, 7, 8, 10, 16, 20, 23.
-- Assumes nothing.
use Rattle.std.specs.Prelude.{ℕ, ◌+◌, ◌*◌, ◌/◌, cond, true, List, [], ◌∷◌, ◌++◌, length, eqb, ltb}
use Rattle.std.proofs.Math.Option.{none, some}
use Rattle.records.specs.declared.Line.{Line}
use Rattle.refusals.specs.declared.Reason.TheVariants.{PartList, UnfitFibres, ReportRoom}
use Rattle.refusals.specs.Table.{Row, whenever, wherever, no_end, first_record, circuit_rows, row8, row10}
use Rattle.checker.specs.Rules.{faulty, fibre_rules}
use Rattle.checker.specs.Checked.{fibres_in}
use Rattle.mender.specs.Report.{Lent}

-- 16, place 2: the assignments aren't whole records, one for each of m circuits
abbrev pub row16 : ℕ → ℕ → Row
row16 m has = wherever PartList no_end (cond (eqb has (8 * m)) none (some 2))

-- 20: place 0 for over 2,048 fibres, else the first that breaks R-7's rule 1 or 2 on a line of n links
abbrev pub row20 : ℕ → ℕ → List ℕ → Row
row20 n many fibres =
    cond (ltb 2048 many) (whenever UnfitFibres true) (wherever UnfitFibres no_end (first_record (λ i. faulty (fibre_rules n (fibres_in many fibres) i)) many))

-- 23: report shorter than 12 × circuits bytes
abbrev pub row23 : ℕ → ℕ → Row
row23 m has = whenever ReportRoom (ltb has (12 * m))

-- the lent lists and areas, for m circuits on n links behind `many` fibres: 8 asks 8 bytes a circuit after the fibres, and 9 isn't tested
unfoldable pub lent_rows : ℕ → ℕ → ℕ → Lent → List Row
lent_rows n m many lent =
    row8 (many + m) (length lent.fibres)
    ∷ row10 n m (length lent.work)
    ∷ row16 m (length lent.assigns)
    ∷ row20 n many lent.fibres
    ∷ row23 m (length lent.report)
    ∷ []

-- the tests of mending, for a line, the circuit bytes s, how many fibres there are, and what is lent
unfoldable pub mend_table : Line → List ℕ → ℕ → Lent → List Row
mend_table line s many lent = circuit_rows line s ++ (lent_rows line.links (length s / 8) many lent ++ [])
