-- Rule 8 of R-7: an assignment clashes with an earlier one. What a reader must believe.
-- Circuits and assignments are known by their places, counted from 0.
-- Assumes nothing.
use Rattle.std.specs.Prelude.{ℕ, ◌*◌, ◌≤◌, ◌<◌, Bool, ◌&&◌, List, length, eqb}
use Rattle.basics.specs.Tools.{any}
use Rattle.records.specs.Records.{assignment_of, circuit_of, circuits_in, record_at}
use Rattle.records.specs.declared.AssignmentRecord.{AssignmentRecord}
use Rattle.records.specs.declared.Circuit.{Circuit}
use Rattle.method.specs.Line.{Lies, overlap}
use Rattle.chains.specs.Riders.{OnFibres}

-- two circuits c and d that are given a and b clash: they overlap, on the same fibre, with the same wavelength
unfoldable pub clash : Circuit → AssignmentRecord → Circuit → AssignmentRecord → Bool
clash c a d b = overlap c d && eqb a.fibre b.fibre && eqb a.wavelength b.wavelength

-- assignment j clashes with an earlier one
unfoldable pub clashes_in : List ℕ → List ℕ → ℕ → Bool
clashes_in s assigns j = any (λ i. clash (circuit_of (record_at s i)) (assignment_of (record_at assigns i)) (circuit_of (record_at s j)) (assignment_of (record_at assigns j))) j

-- the wavelength in assignment record j
unfoldable pub wave_in : List ℕ → ℕ → ℕ
wave_in assigns j = (assignment_of (record_at assigns j)).wavelength

-- p circuits on a line of n links, each with the number of one of k fibres, and a wavelength of at most 80
pub record Placed (n k p : ℕ) (s assigns : List ℕ) : Type 0 where
  pub line : n ≤ 512
  pub fibres : k ≤ 4096
  pub few : p ≤ 2048
  pub file : 8 * p ≤ length s
  pub listed : 8 * p ≤ length assigns
  pub lies : Lies n (circuits_in p s)
  pub numbered : OnFibres p k assigns
  pub waves : (j : ℕ) → j < p → wave_in assigns j ≤ 80
