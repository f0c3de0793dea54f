-- The test of four comparisons. Assumes nothing.
use Rattle.std.specs.Prelude.{ℕ, ◌+◌, Bool, ◌&&◌, List, nat_le, nat_lt, slice_index}
use Rattle.rows.specs.declared.colours.Run.{Run}

-- whether a circuit from link a to link b lies right for the run and its reach
unfoldable pub fits_run : Run → ℕ → ℕ → Bool
fits_run run a b = (nat_le run.low a && nat_lt a run.past) && (nat_le run.from b && nat_lt b run.high)

-- whether the circuit at place p of the list L does
abbrev pub fits_at : ℕ → Run → List ℕ → ℕ → Bool
fits_at m run L p = fits_run run (slice_index L p) (slice_index L (m + p))
