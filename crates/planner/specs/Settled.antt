-- What `settle` asks, and what it leaves: circuits that passed the tests are planned. A contract between crates.
-- Assumes nothing.
use Rattle.std.specs.Prelude.{ℕ, ◌+◌, ◌*◌, ◌≤◌, ◌≡◌, List, length}
use Rattle.records.specs.Records.{circuits_in}
use Rattle.method.specs.Fibres.{floor}
use Rattle.method.specs.Lit.{lit_plan}
use Rattle.register.specs.Areas.{Areas, zeroed_to}
use Rattle.register.specs.Registered.{Registered}
use Rattle.register.specs.declared.Counts.{Counts}
use Rattle.rows.specs.Accepted.{Accepted}

-- m circuits that passed the tests, lent areas that are long enough, and fibre numbers of two bytes
pub record Admitted (n w m from : ℕ) (s : List ℕ) (lent : Areas) : Type 0 where
  pub accepted : Accepted n w m s
  pub fibre_room : 8 * m ≤ length lent.fibres
  pub assign_room : 8 * m ≤ length lent.assigns
  pub work_room : 4 * n + 4 * m ≤ length lent.work
  pub number_room : from + m ≤ 65535

-- the lists hold the plan of R-1, numbered after `from`, and what was used of the work area is zeroed
pub record Settled (n w m from : ℕ) (s : List ℕ) (before after : Areas) (counts : Counts) : Type 0 where
  pub registered : Registered from (floor n w (circuits_in m s)) (circuits_in m s) (lit_plan n w (circuits_in m s)) before.fibres after.fibres before.assigns after.assigns counts
  pub cleared : after.work ≡ zeroed_to (4 * n + 4 * m) before.work
