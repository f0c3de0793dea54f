-- What phase two asks and what it leaves. A contract between crates.
-- Assumes nothing.
use Rattle.std.specs.Prelude.{ℕ, ◌+◌, ◌*◌, ◌≤◌, ◌≡◌, List, length}
use Rattle.records.specs.Records.{circuits_in}
use Rattle.method.specs.Fibres.{floor}
use Rattle.method.specs.Lit.{lit_plan}
use Rattle.method.specs.Sheet.{most}
use Rattle.register.specs.declared.Counts.{Counts}
use Rattle.register.specs.Areas.{Areas}
use Rattle.register.specs.Registered.{Registered}
use Rattle.rows.specs.Accepted.{Accepted}
use Rattle.rows.specs.Filled.{Filled}

-- an accepted file and what phase one made of it, with M as `top`; room for a fibre and an assignment for each circuit; and fibre numbers of two bytes
pub record Ready (n w m from top : ℕ) (s : List ℕ) (lent : Areas) : Type 0 where
  pub accepted : Accepted n w m s
  pub filled : Filled n w m s lent.work
  pub top_is : top ≡ most n w (circuits_in m s)
  pub fibre_room : 8 * m ≤ length lent.fibres
  pub assign_room : 8 * m ≤ length lent.assigns
  pub number_room : from + m ≤ 65535

-- the lists hold R-1's plan, numbered after `from`; of the work area only the length is told, since its cells are used up
pub record Laid (n w m from : ℕ) (s : List ℕ) (before after : Areas) (counts : Counts) : Type 0 where
  pub registered : Registered from (floor n w (circuits_in m s)) (circuits_in m s) (lit_plan n w (circuits_in m s)) before.fibres after.fibres before.assigns after.assigns counts
  pub sized : length after.work ≡ length before.work
