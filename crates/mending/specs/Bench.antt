-- Registers mended, worked out: slips, each with an instance that it gets wrong. `proofs/Bench.antt` shows that each holds. What a reader must believe.
-- Assumes nothing.
use Rattle.std.specs.Prelude.{ℕ, length, List, [], ◌++◌, ◌∷◌, ◌≡◌}
use Rattle.records.specs.declared.AssignmentRecord.{AssignmentRecord}
use Rattle.records.specs.declared.Circuit.{Circuit}
use Rattle.method.specs.Bench.{c, f, g}
use Rattle.method.specs.Line.{Assignment, Fibre}
use Rattle.mending.specs.Mending.{ReportLine, mend, mend_counts, mend_lines}

-- what a case says: n and w; the circuits, the fibres, the records found; and then the new fibres, the assignments, the report, the total and the floor
pub data Case : Type 0 where
  mends : (n w : ℕ) → List Circuit → List Fibre → List AssignmentRecord → List Fibre → List Assignment → List ReportLine → (total floor : ℕ) → Case

-- mending gives just this
pub record Mends (n w : ℕ) (cs : List Circuit) (fs : List Fibre) (rs : List AssignmentRecord) (more : List Fibre) (gs : List Assignment) (ls : List ReportLine) (total floor : ℕ) : Type 0 where
  pub the_mend : mend n w fs cs rs ≡ record { plan = record { fibres = fs ++ more; assignments = gs }; report = ls }
  pub the_counts : mend_counts n w fs cs rs ≡ record { fibres = length (fs ++ more); total = total; floor = floor }
  pub the_lines : mend_lines n w fs cs rs ≡ length ls

-- a case holds
abbrev pub Holds : Case → Type 0
Holds (mends n w cs fs rs more gs ls t b) = Mends n w cs fs rs more gs ls t b

-- every case of a table holds
abbrev pub AllHold : List Case → Type 0
AllHold [] = Unit {0}
AllHold (k ∷ ks) = Holds k × AllHold ks

-- a record found: circuit m, fibre q, wavelength v
abbrev pub r : ℕ → ℕ → ℕ → AssignmentRecord
r m q v = record { circuit = m; fibre = q; wavelength = v }

-- a line of the report: circuit m, found a and b, given q and v
abbrev pub l : ℕ → ℕ → ℕ → ℕ → ℕ → ReportLine
l m a b q v = record { number = m; found = g a b; given = g q v }

-- the table
unfoldable pub mending_cases : List Case
mending_cases =
    -- the listing as it is: nothing changes
    mends 5 2 (c 10 1 3 ∷ c 20 2 5 ∷ c 30 1 2 ∷ c 40 4 5 ∷ []) (f 1 5 2 ∷ f 2 5 2 ∷ []) (r 10 1 2 ∷ r 20 2 1 ∷ r 30 1 1 ∷ r 40 1 2 ∷ [])
    [] (g 1 2 ∷ g 2 1 ∷ g 1 1 ∷ g 1 2 ∷ []) [] 9 6 ∷
    -- no circuits
    mends 1 1 [] [] []
    [] [] [] 0 0 ∷
    -- all lost: 3 needs a fibre that R-1's plan did not need
    mends 3 2 (c 1 2 3 ∷ c 2 1 2 ∷ c 3 1 3 ∷ []) (f 1 3 2 ∷ f 2 3 2 ∷ []) (r 0 0 0 ∷ r 0 0 0 ∷ r 0 0 0 ∷ [])
    (f 1 3 1 ∷ []) (g 1 1 ∷ g 1 2 ∷ g 3 1 ∷ []) (l 1 0 0 1 1 ∷ l 2 0 0 1 2 ∷ l 3 0 0 3 1 ∷ []) 8 4 ∷
    -- two passes: 2 is kept before 1 is placed
    mends 1 2 (c 1 1 1 ∷ c 2 1 1 ∷ []) (f 1 1 1 ∷ []) (r 1 0 0 ∷ r 2 1 1 ∷ [])
    [] (g 1 2 ∷ g 1 1 ∷ []) (l 1 0 0 1 2 ∷ []) 1 1 ∷
    -- by rising number and not in file order: 1 is kept
    mends 1 2 (c 2 1 1 ∷ c 1 1 1 ∷ []) (f 1 1 1 ∷ []) (r 2 1 1 ∷ r 1 1 1 ∷ [])
    [] (g 1 2 ∷ g 1 1 ∷ []) (l 2 1 1 1 2 ∷ []) 1 1 ∷
    -- the rest by rising number too, and so the report
    mends 1 2 (c 3 1 1 ∷ c 2 1 1 ∷ c 1 1 1 ∷ []) (f 1 1 1 ∷ []) (r 3 9 1 ∷ r 2 1 1 ∷ r 1 1 9 ∷ [])
    (f 1 1 1 ∷ []) (g 2 1 ∷ g 1 1 ∷ g 1 2 ∷ []) (l 1 1 9 1 2 ∷ l 3 9 1 2 1 ∷ []) 2 2 ∷
    -- a clash with one that is not kept does not count
    mends 1 2 (c 1 1 1 ∷ c 2 1 1 ∷ []) (f 1 1 1 ∷ []) (r 9 1 1 ∷ r 2 1 1 ∷ [])
    [] (g 1 2 ∷ g 1 1 ∷ []) (l 1 1 1 1 2 ∷ []) 1 1 ∷
    -- nor does one with a record that is sound and is not kept: 3 clashes with 2, which clashes with 1
    mends 2 1 (c 1 1 1 ∷ c 2 1 2 ∷ c 3 2 2 ∷ []) (f 1 2 1 ∷ []) (r 1 1 1 ∷ r 2 1 1 ∷ r 3 1 1 ∷ [])
    (f 1 2 1 ∷ []) (g 1 1 ∷ g 2 1 ∷ g 1 1 ∷ []) (l 2 1 1 2 1 ∷ []) 4 4 ∷
    -- right records in each other's places: only the place counts
    mends 1 2 (c 1 1 1 ∷ c 2 1 1 ∷ []) (f 1 1 1 ∷ []) (r 2 1 2 ∷ r 1 1 1 ∷ [])
    [] (g 1 1 ∷ g 1 2 ∷ []) (l 1 1 2 1 1 ∷ l 2 1 1 1 2 ∷ []) 1 1 ∷
    -- a record that names another circuit: what is given may be what was found
    mends 1 1 (c 1 1 1 ∷ []) (f 1 1 1 ∷ []) (r 7 1 1 ∷ [])
    [] (g 1 1 ∷ []) (l 1 1 1 1 1 ∷ []) 1 1 ∷
    -- a fibre past the list, a fibre that does not span, a wavelength past w, fibre 0, wavelength 0
    mends 3 2 (c 1 1 1 ∷ c 2 1 2 ∷ c 3 3 3 ∷ c 4 2 2 ∷ c 5 3 3 ∷ []) (f 1 2 1 ∷ f 3 3 1 ∷ []) (r 1 3 1 ∷ r 2 2 1 ∷ r 3 2 3 ∷ r 4 0 1 ∷ r 5 2 0 ∷ [])
    [] (g 1 1 ∷ g 1 2 ∷ g 2 1 ∷ g 1 1 ∷ g 2 2 ∷ []) (l 1 3 1 1 1 ∷ l 2 2 1 1 2 ∷ l 3 2 3 2 1 ∷ l 4 0 1 1 1 ∷ l 5 2 0 2 2 ∷ []) 3 3 ∷
    -- a fibre over the first link alone, and one over the last alone; the new fibres have the layer of the plan of both
    mends 3 1 (c 1 1 2 ∷ c 2 2 3 ∷ []) (f 1 1 1 ∷ f 3 3 1 ∷ []) (r 1 1 1 ∷ r 2 2 1 ∷ [])
    (f 1 2 2 ∷ f 2 3 2 ∷ []) (g 3 1 ∷ g 4 1 ∷ []) (l 1 1 1 3 1 ∷ l 2 2 1 4 1 ∷ []) 6 4 ∷
    -- w below a wavelength found
    mends 1 1 (c 1 1 1 ∷ c 2 1 1 ∷ []) (f 1 1 1 ∷ []) (r 1 1 1 ∷ r 2 1 2 ∷ [])
    (f 1 1 1 ∷ []) (g 1 1 ∷ g 2 1 ∷ []) (l 2 1 2 2 1 ∷ []) 2 2 ∷
    -- those that meet on no link keep one wavelength
    mends 3 1 (c 1 1 1 ∷ c 2 3 3 ∷ []) (f 1 3 1 ∷ []) (r 1 1 1 ∷ r 2 1 1 ∷ [])
    [] (g 1 1 ∷ g 1 1 ∷ []) [] 3 2 ∷
    []
