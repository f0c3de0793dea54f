-- Whole sheets of 01's cases, slips, and the test of the sheet. `proofs/WholeBench.antt` shows that each holds. What a reader must believe.
-- Assumes nothing.
use Rattle.std.specs.Prelude.{ℕ, List, [], ◌∷◌, ◌++◌, ◌≡◌, length, None, Result, Ok}
use Rattle.std.proofs.Math.Option.{none, some}
use Rattle.records.specs.Records.{file_of}
use Rattle.records.specs.declared.Circuit.{Circuit}
use Rattle.records.specs.declared.Line.{Line}
use Rattle.method.specs.Bench.{c, f, g, three}
use Rattle.method.specs.Fibres.{floor}
use Rattle.method.specs.Line.{Assignment, Fibre, total}
use Rattle.method.specs.Lit.{lit_plan}
use Rattle.refusals.specs.Bench.{on, refused}
use Rattle.refusals.specs.Table.{Row, verdict}
use Rattle.refusals.specs.declared.Refusal.{Refusal}
use Rattle.refusals.specs.declared.Reason.TheVariants.{WorkRoom, SheetRoom}
use Rattle.whole_sheet.specs.Cells.{cells}
use Rattle.whole_sheet.specs.WholeOutcome.{row21, whole_table}

-- what a case says
pub data WholeCase : Type 0 where
  -- the rows of the sheet, the plan, its total and floor
  sheeted : (n w : ℕ) → List Circuit → List (List ℕ) → List Fibre → List Assignment → (length floor : ℕ) → WholeCase
  -- for a line, circuits, and a fibre list, an assignment list, a work area and a sheet of so many bytes, the tests answer so
  tests : Line → List Circuit → (fibres assigns work sheet : ℕ) → Result ℕ Refusal → WholeCase
  -- row 21, for so many cells and a lent sheet of so many bytes
  tabled : (count has : ℕ) → Row → WholeCase

-- rows one after the other
abbrev pub joined : List (List ℕ) → List ℕ
joined [] = []
joined (r ∷ rows) = r ++ joined rows

-- sheet and plan are just this
pub record Sheeted (n w : ℕ) (cs : List Circuit) (rows : List (List ℕ)) (fs : List Fibre) (gs : List Assignment) (t u : ℕ) : Type 0 where
  pub the_cells : cells n w cs ≡ joined rows
  pub the_plan : lit_plan n w cs ≡ record { fibres = fs; assignments = gs }
  pub the_total : total fs ≡ t
  pub the_floor : floor n w cs ≡ u

-- a case holds
abbrev pub Holds : WholeCase → Type 0
Holds (sheeted n w cs rows fs gs t u) = Sheeted n w cs rows fs gs t u
Holds (tests line cs fibres assigns work sheet v) = verdict (whole_table line (file_of cs) fibres assigns work sheet) (length cs) ≡ v
Holds (tabled count has row) = row21 count has ≡ row

-- every case of a table holds
abbrev pub AllHold : List WholeCase → Type 0
AllHold [] = Unit {0}
AllHold (x ∷ cases) = Holds x × AllHold cases

-- cases 1, 2, 4, 3, 5, 6 and 7 of 01
unfoldable pub whole_cases : List WholeCase
whole_cases =
    -- no circuits, no rows
    sheeted 1 1 [] [] [] [] 0 0 ∷
    sheeted 1 1 (c 7 1 1 ∷ []) ((2 ∷ []) ∷ []) (f 1 1 1 ∷ []) (g 1 1 ∷ []) 1 1 ∷
    -- a link without circuits is red in each row
    sheeted 3 1 (c 1 1 1 ∷ c 2 3 3 ∷ []) ((2 ∷ 0 ∷ 2 ∷ []) ∷ []) (f 1 1 1 ∷ f 3 3 1 ∷ []) (g 1 1 ∷ g 2 1 ∷ []) 2 2 ∷
    -- a row in which nobody is left
    sheeted 1 2 (c 1 1 1 ∷ c 2 1 1 ∷ c 3 1 1 ∷ []) ((2 ∷ []) ∷ (2 ∷ []) ∷ (2 ∷ []) ∷ (1 ∷ []) ∷ []) (f 1 1 1 ∷ f 1 1 2 ∷ []) (g 1 1 ∷ g 1 2 ∷ g 2 1 ∷ []) 2 2 ∷
    sheeted 3 2 three ((0 ∷ 1 ∷ 0 ∷ []) ∷ (0 ∷ 1 ∷ 0 ∷ []) ∷ (2 ∷ 1 ∷ 2 ∷ []) ∷ (1 ∷ 1 ∷ 2 ∷ []) ∷ []) (f 1 3 2 ∷ f 2 3 2 ∷ []) (g 1 2 ∷ g 1 1 ∷ g 2 1 ∷ []) 5 4 ∷
    sheeted 5 2 (c 10 1 3 ∷ c 20 2 5 ∷ c 30 1 2 ∷ c 40 4 5 ∷ [])
    ((0 ∷ 1 ∷ 0 ∷ 0 ∷ 0 ∷ []) ∷ (0 ∷ 1 ∷ 0 ∷ 0 ∷ 0 ∷ []) ∷ (2 ∷ 1 ∷ 2 ∷ 2 ∷ 2 ∷ []) ∷ (1 ∷ 1 ∷ 2 ∷ 2 ∷ 2 ∷ []) ∷ [])
    (f 1 5 2 ∷ f 2 5 2 ∷ []) (g 1 2 ∷ g 2 1 ∷ g 1 1 ∷ g 1 2 ∷ []) 9 6 ∷
    sheeted 5 2 (c 40 4 5 ∷ c 30 1 2 ∷ c 20 2 5 ∷ c 10 1 3 ∷ [])
    ((0 ∷ 1 ∷ 0 ∷ 0 ∷ 0 ∷ []) ∷ (0 ∷ 1 ∷ 0 ∷ 0 ∷ 0 ∷ []) ∷ (2 ∷ 1 ∷ 2 ∷ 2 ∷ 2 ∷ []) ∷ (1 ∷ 1 ∷ 2 ∷ 2 ∷ 2 ∷ []) ∷ [])
    (f 1 5 2 ∷ f 2 5 2 ∷ []) (g 1 2 ∷ g 1 1 ∷ g 2 1 ∷ g 1 2 ∷ []) 9 6 ∷
    []

-- slips, each with an instance that it gets wrong
unfoldable pub whole_slips : List WholeCase
whole_slips =
    -- a blue link opens in the next row: link 2 would be taken in row 2, and circuit 2 has no row
    sheeted 3 1 (c 1 1 2 ∷ c 2 2 3 ∷ []) ((0 ∷ 1 ∷ 0 ∷ []) ∷ (2 ∷ 1 ∷ 2 ∷ []) ∷ []) (f 1 2 2 ∷ f 2 3 2 ∷ []) (g 1 1 ∷ g 2 1 ∷ []) 4 4 ∷
    -- red by the largest load: link 2 would be taken in row 1
    sheeted 2 1 (c 1 1 1 ∷ c 2 1 1 ∷ c 3 2 2 ∷ []) ((2 ∷ 0 ∷ []) ∷ (2 ∷ 2 ∷ []) ∷ []) (f 1 1 1 ∷ f 1 2 2 ∷ []) (g 1 1 ∷ g 2 1 ∷ g 2 1 ∷ []) 3 3 ∷
    []

-- the test of the sheet
unfoldable pub sheet_tests : List WholeCase
sheet_tests =
    -- one cell, and a lent sheet one byte short
    tests (on 1 1 1) (c 7 1 1 ∷ []) 8 8 8 1 (Ok 1) ∷
    tests (on 1 1 1) (c 7 1 1 ∷ []) 8 8 8 0 (refused SheetRoom 0 None) ∷
    -- two links, two rows
    tests (on 2 1 1) (c 1 1 1 ∷ c 2 1 2 ∷ []) 16 16 16 4 (Ok 2) ∷
    tests (on 2 1 1) (c 1 1 1 ∷ c 2 1 2 ∷ []) 16 16 16 3 (refused SheetRoom 0 None) ∷
    -- it comes last
    tests (on 1 1 1) (c 7 1 1 ∷ []) 8 8 7 0 (refused WorkRoom 0 None) ∷
    -- no rows: any lent sheet will do
    tests (on 5 2 1) [] 0 0 20 0 (Ok 0) ∷
    -- the most cells, and one more
    tabled 65536 65536 none ∷
    tabled 65537 65537 (some (record { reason = SheetRoom; place = 0; end = None })) ∷
    []
