-- How far a search by chunks has come. Assumes nothing.
use Rattle.std.specs.Prelude.{◌≡◌, ℕ, ◌-◌, ◌≤◌, Bool}
use Rattle.basics.specs.Tools.{seek}

-- the search from `from` to before `to` may go on at place i: it finds the same
abbrev pub CameTo : (ℕ → Bool) → ℕ → ℕ → ℕ → Type 0
CameTo p from to i = (from ≤ i) × (i ≤ to) × (seek p i (to - i) ≡ seek p from (to - from))
