-- The circuit that a step places, as the search has it. Assumes nothing.
use Rattle.std.specs.Prelude.{ℕ, ◌<◌, Bool, ◌&&◌, List, eqb, Option as Told, Some, None}
use Rattle.std.proofs.Math.Option.{Option, none, some}
use Rattle.records.specs.Records.{circuits_in}
use Rattle.method.specs.Line.{circuit}
use Rattle.method.specs.Sheet.{fits, row_of}
use Rattle.whole_sheet.specs.inner.Board.{state_in}

-- the place of the circuit, if there is one
abbrev pub place_of : Told ℕ → Option ℕ
place_of (Some j) = some j
place_of None = none

-- it is one of m
abbrev pub OneOf : ℕ → Told ℕ → Type 0
OneOf m (Some j) = j < m
OneOf m None = Unit {0}

-- whether circuit j waits and fits
unfoldable pub may_go : ℕ → ℕ → List ℕ → List ℕ → List ℕ → ℕ → Bool
may_go n m s work row j = eqb (row_of (state_in n m work row) j) 0 && fits n row (circuit (circuits_in m s) j)

-- the number of circuit j
unfoldable pub number_of : ℕ → List ℕ → ℕ → ℕ
number_of m s j = (circuit (circuits_in m s) j).number
