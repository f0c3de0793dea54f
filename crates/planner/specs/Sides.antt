-- Request R-9 about what a caller sees: one side of an idle link planned alone. `proofs/Sides.antt` shows `side_sheet`, that of `SideCalls`, if the call with the
-- whole file is planned, the call with the side's file gives the `SideSheet`. What a reader must believe.
-- Assumes nothing.
use Rattle.std.specs.Prelude.{ℕ, ◌-◌, ◌/◌, ◌%◌, ◌≤◌, ◌<◌, ◌≡◌, ◌⊎◌, List, length, Ok}
use Rattle.records.specs.Records.{record_at, circuits_of, number_in, fibre_of, assignment_of}
use Rattle.records.specs.declared.Line.{Line}
use Rattle.records.specs.declared.FibreRecord.{FibreRecord}
use Rattle.records.specs.declared.AssignmentRecord.{AssignmentRecord}
use Rattle.method.specs.Sheet.{load}
use Rattle.method.specs.Demands.{Rearranged}
use Rattle.method.specs.Sides.{left_of, right_of}
use Rattle.refusals.specs.Given.{NoneApplies}
use Rattle.refusals.specs.Table.{Row, circuit_rows, area_rows}
use Rattle.register.specs.Areas.{Areas}
use Rattle.register.specs.declared.Counts.{Counts}
use Rattle.planner.specs.Outcome.{Answer, Outcome}

-- two calls of `plan` on one line: one with the whole file s, one with s', the records of one side of link z, in any order
pub record SideCalls (line : Line) (z : ℕ) (s s' : List ℕ) (before after before' after' : Areas) (answer answer' : Answer) : Type 0 where
  pub whole : Outcome line s before after answer
  pub alone : Outcome line s' before' after' answer'
  -- z is a link of the line, and has load 0
  pub on_line : (1 ≤ z) × (z ≤ line.links)
  pub idle : load (circuits_of s) z ≡ 0
  -- s' has only the circuits left of it, or only those right
  pub side : Rearranged (left_of z (circuits_of s)) (circuits_of s') ⊎ Rearranged (right_of z (circuits_of s)) (circuits_of s')
  pub whole_records : length s' % 8 ≡ 0

-- tests 8 to 10, for a line, circuit bytes s and lent areas
abbrev pub area_table_for : Line → List ℕ → Areas → List Row
area_table_for line s lent = area_rows line.links (length s / 8) (length lent.fibres) (length lent.assigns) (length lent.work)

-- assignment record j
abbrev pub assignment_at : Areas → ℕ → AssignmentRecord
assignment_at lent j = assignment_of (record_at lent.assigns j)

-- the fibre record that it names, by a number from 1
abbrev pub fibre_for : Areas → ℕ → FibreRecord
fibre_for lent j = fibre_of (record_at lent.fibres ((assignment_at lent j).fibre - 1))

-- assignment records i and j agree in wavelength, and their fibre records in first and last link
pub record SameInRecords (lent : Areas) (i : ℕ) (lent' : Areas) (j : ℕ) : Type 0 where
  pub wavelength : (assignment_at lent i).wavelength ≡ (assignment_at lent' j).wavelength
  pub first : (fibre_for lent i).first ≡ (fibre_for lent' j).first
  pub last : (fibre_for lent i).last ≡ (fibre_for lent' j).last

-- what the call with the side's file gives
pub record SideSheet (line : Line) (s s' : List ℕ) (before after before' after' : Areas) (answer' : Answer) : Type 0 where
  -- none of tests 1 to 7 and 12 applies to the side's file
  pub circuits_pass : NoneApplies (circuit_rows line s')
  -- so it is planned exactly if none of 8 to 10 applies to its own lent areas
  pub planned : NoneApplies (area_table_for line s' before') → (counts' : Counts) × (answer' ≡ Ok counts')
  pub planned_only : (counts' : Counts) → answer' ≡ Ok counts' → NoneApplies (area_table_for line s' before')
  -- as none does if they are no shorter than those of the whole
  pub long_enough : length before.fibres ≤ length before'.fibres → length before.assigns ≤ length before'.assigns → length before.work ≤ length before'.work
      → NoneApplies (area_table_for line s' before')
  -- and then each circuit has the wavelength and fibre span of the full plan; layers and fibre numbers may differ
  pub as_full : (counts' : Counts) → answer' ≡ Ok counts' → (i j : ℕ) → i < length s / 8 → j < length s' / 8 → number_in s i ≡ number_in s' j
      → SameInRecords after i after' j
