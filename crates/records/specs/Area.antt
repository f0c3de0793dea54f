-- The parts of the work area, as cells: n needs c(i), n last rows of links, m rows of circuits (0 while a circuit waits), m spare, where phase two keeps
-- how many pairs stand before each layer. A contract between crates.
-- Assumes nothing.
use Rattle.std.specs.Prelude.{ℕ, ◌+◌, ◌*◌, List, take, drop}
use Rattle.basics.specs.Tools.{part}

-- c(i) of each link
abbrev pub needs_in : ℕ → List ℕ → List ℕ
needs_in n C = take n C

-- the last row of each link: in which it was taken or is red for the last time, or 65,535 once it is blue
abbrev pub lasts_in : ℕ → List ℕ → List ℕ
lasts_in n C = part n n C

-- the row of each circuit
abbrev pub rows_in : ℕ → ℕ → List ℕ → List ℕ
rows_in n m C = part (2 * n) m C

-- the spare cells
abbrev pub spare_in : ℕ → ℕ → List ℕ → List ℕ
spare_in n m C = drop (2 * n + m) C
