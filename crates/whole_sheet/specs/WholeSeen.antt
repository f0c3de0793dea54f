-- The promise of the whole-sheet engine, about what a caller sees: the answer and the bytes of the lent areas. `proofs/WholeDemands.antt` shows `whole_seen`, that every
-- call of `plan_whole` meets `WholeSeen`, and `same_plan`, that of `TwoEngines`, if the whole sheet is drawn, both plans are the same. What a reader must believe.
-- Assumes nothing.
use Rattle.std.specs.Prelude.{ℕ, ◌+◌, ◌-◌, ◌*◌, ◌/◌, ◌≤◌, ◌<◌, true, List, ◌≢◌, ◌⊎◌, ◌≡◌, length, get_or, take, drop, Ok}
use Rattle.std.proofs.Math.Option.{some}
use Rattle.records.specs.Records.{circuits_of}
use Rattle.records.specs.declared.Circuit.{Circuit}
use Rattle.records.specs.declared.Line.{Line}
use Rattle.method.specs.Demands.{Rearranged}
use Rattle.method.specs.Line.{Plan, assigned, circuit, fibre_under, uses}
use Rattle.method.specs.Sheet.{blue, need, red, taken}
use Rattle.refusals.specs.Ends.{TellsEnd}
use Rattle.refusals.specs.Given.{Given, NoneApplies}
use Rattle.refusals.specs.Refusals.{refusal_in}
use Rattle.refusals.specs.declared.Refusal.{Refusal}
use Rattle.register.specs.Areas.{Areas}
use Rattle.register.specs.declared.Counts.{Counts}
use Rattle.planner.specs.Outcome.{Answer, Outcome}
use Rattle.planner.specs.Seen.{Seen2, Seen3, held}
use Rattle.whole_sheet.specs.Cells.{cell_count, cells, row_count}
use Rattle.whole_sheet.specs.WholeOutcome.{WholeOutcome, whole_for}

-- THE SHEET. The cell of row k and link i, of n links
abbrev pub cell_in : ℕ → List ℕ → ℕ → ℕ → ℕ
cell_in n sheet k i = get_or sheet (n * (k - 1) + (i - 1)) 0

-- the row of circuit j, by what a plan gives to it: layer h is rows (h − 1) × w + 1 to h × w
unfoldable pub row_in : ℕ → Plan → ℕ → ℕ
row_in w p j = ((fibre_under p j).layer - 1) * w + (assigned p j).wavelength

module _ (n w : ℕ) (cs : List Circuit) (p : Plan) (sheet : List ℕ) where
  -- what the cell of row k and link i tells, beside the plan p
  pub record CellMeans (k i : ℕ) : Type 0 where
    -- it is red, blue or taken: no link is open as a row ends
    pub one_of : (cell_in n sheet k i ≡ red) ⊎ ((cell_in n sheet k i ≡ blue) ⊎ (cell_in n sheet k i ≡ taken))
    -- red exactly while c(i) × w rows or more come after this one
    pub red_only : cell_in n sheet k i ≡ red → k + need w cs i * w ≤ row_count n w cs
    pub red_there : k + need w cs i * w ≤ row_count n w cs → cell_in n sheet k i ≡ red
    -- blue in all later rows too
    pub blue_on : (l : ℕ) → k ≤ l → l ≤ row_count n w cs → cell_in n sheet k i ≡ blue → cell_in n sheet l i ≡ blue
    -- taken by a circuit of this row, and no other circuit of the row uses the link
    pub taken_by : cell_in n sheet k i ≡ taken
        → (j : ℕ) × (j < length cs) × (row_in w p j ≡ k) × (uses (circuit cs j) i ≡ true) × ((d : ℕ) → d < length cs → row_in w p d ≡ k → uses (circuit cs d) i ≡ true → d ≡ j)
    -- a circuit of this row uses no red link
    pub not_on_red : (j : ℕ) → j < length cs → row_in w p j ≡ k → uses (circuit cs j) i ≡ true → cell_in n sheet k i ≢ red

  -- the whole sheet
  pub record SheetMeans : Type 0 where
    -- what each cell means
    pub means : (k i : ℕ) → 1 ≤ k → k ≤ row_count n w cs → 1 ≤ i → i ≤ n → CellMeans k i
    -- each circuit has its row, and has taken a link there, which no other circuit of the row uses
    pub has_row : (j : ℕ) → j < length cs → (1 ≤ row_in w p j) × (row_in w p j ≤ row_count n w cs)
    pub has_taken : (j : ℕ) → j < length cs
        → (i : ℕ) × (uses (circuit cs j) i ≡ true) × (cell_in n sheet (row_in w p j) i ≡ taken) × ((d : ℕ) → d < length cs → row_in w p d ≡ row_in w p j → uses (circuit cs d) i ≡ true → d ≡ j)
    -- a circuit that is placed later than row k has a link that is not blue as row k ends
    pub waits_on : (j k : ℕ) → j < length cs → 1 ≤ k → k < row_in w p j → (i : ℕ) × (uses (circuit cs j) i ≡ true) × (cell_in n sheet k i ≢ blue)

-- ONE CALL of `plan_whole`
module _ (line : Line) (s : List ℕ) (before after : Areas) (sheet sheet' : List ℕ) where
  -- demand 1: a refusal is given exactly as tabled, tells the wrong end, and then no byte is changed
  pub record WholeSeen1 (answer : Answer) : Type 0 where
    pub as_tabled : (r : Refusal) → refusal_in answer ≡ some r → Given (whole_for line s before sheet) r
    pub whenever_tabled : (r : Refusal) → Given (whole_for line s before sheet) r → refusal_in answer ≡ some r
    pub otherwise_planned : NoneApplies (whole_for line s before sheet) → (counts : Counts) × (answer ≡ Ok counts)
    pub end_told : (r : Refusal) → refusal_in answer ≡ some r → TellsEnd line.links (length s / 8) s r
    pub unchanged : (r : Refusal) → refusal_in answer ≡ some r → (after ≡ before) × (sheet' ≡ sheet)

  -- the sheet is at most 65,536 cells, beside the plan that the lists hold it means what it should, the same records in another file order have the same sheet, and
  -- the bytes behind it stay
  pub record SheetSeen (counts : Counts) : Type 0 where
    pub small : cell_count line.links line.wavelengths (circuits_of s) ≤ 65536
    pub room : cell_count line.links line.wavelengths (circuits_of s) ≤ length sheet
    pub meaning : SheetMeans line.links line.wavelengths (circuits_of s) (held line s before after counts) sheet'
    pub any_order : (ds : List Circuit) → Rearranged (circuits_of s) ds → take (cell_count line.links line.wavelengths (circuits_of s)) sheet' ≡ cells line.links line.wavelengths ds
    pub sheet_kept : drop (cell_count line.links line.wavelengths (circuits_of s)) sheet' ≡ drop (cell_count line.links line.wavelengths (circuits_of s)) sheet

  -- demand 1 in any case; of the three numbers that it answers, the demands on R-1's plan, and the sheet
  pub record WholeSeen (answer : Answer) : Type 0 where
    pub demand_1 : WholeSeen1 answer
    pub demand_2 : (counts : Counts) → answer ≡ Ok counts → Seen2 line s before after counts
    pub demand_3 : (counts : Counts) → answer ≡ Ok counts → Seen3 line s before after counts
    pub sheet_seen : (counts : Counts) → answer ≡ Ok counts → SheetSeen counts

-- TWO CALLS, of `plan` and of `plan_whole`, with the same line, circuit bytes and lent areas
pub record TwoEngines (line : Line) (s : List ℕ) (before after after' : Areas) (sheet sheet' : List ℕ) (answer answer' : Answer) : Type 0 where
  pub first : Outcome line s before after answer
  pub second : WholeOutcome line s before after' sheet sheet' answer'

-- both planned the same: the three numbers, and every byte of the fibre list, the assignment list and the work area
pub record SamePlan (after after' : Areas) (counts : Counts) (answer : Answer) : Type 0 where
  pub same_answer : answer ≡ Ok counts
  pub same_fibres : after.fibres ≡ after'.fibres
  pub same_assigns : after.assigns ≡ after'.assigns
  pub same_work : after.work ≡ after'.work
