-- What `grow` asks and leaves: two files that passed the tests, and an old plan that is fit. A contract inside the crate.
-- Assumes nothing.
use Rattle.std.specs.Prelude.{ℕ, ◌+◌, ◌*◌, ◌<◌, ◌≤◌, ◌≡◌, List, ◌++◌, length, drop}
use Rattle.records.specs.Records.{circuits_in}
use Rattle.method.specs.Line.{Distinct, Valid}
use Rattle.register.specs.Areas.{Areas, zeroed_to}
use Rattle.register.specs.Lists.{fibre_list, assignment_list, behind}
use Rattle.register.specs.Plans.{plan_in}
use Rattle.register.specs.declared.Counts.{Counts}
use Rattle.rows.specs.Accepted.{Accepted}
use Rattle.places.specs.Turns.{number}
use Rattle.additions.specs.Adding.{add, add_counts}

-- k old circuits and m new ones on a line of n links with w wavelengths, the old ones with a plan of `many` fibres that is valid; and room for what is written
pub record GrowAsked (n w k m many : ℕ) (old new : List ℕ) (lent : Areas) : Type 0 where
  pub olds : Accepted n w k old
  pub news : Accepted n w m new
  pub few : k + m ≤ 2048
  pub once : Distinct (circuits_in k old ++ circuits_in m new)
  pub from_one : (j : ℕ) → j < m → 1 ≤ number (circuits_in m new) j
  pub few_fibres : many ≤ 2048
  pub old_valid : Valid w (circuits_in k old) (plan_in many k lent.fibres lent.assigns)
  pub fibre_room : 8 * (many + m) ≤ length lent.fibres
  pub assign_room : 8 * (k + m) ≤ length lent.assigns
  pub work_room : 4 * n + 4 * (k + m) ≤ length lent.work

-- what is left: the three numbers of the grown plan, its records behind the old ones, and a work area of which the part that was used is zeroed
pub record Grew (n w k m many : ℕ) (old new : List ℕ) (before after : Areas) (counts : Counts) : Type 0 where
  pub counted : counts ≡ add_counts n w (circuits_in k old) (plan_in many k before.fibres before.assigns) (circuits_in m new)
  pub listed : after.fibres
      ≡ behind (8 * many)
      (fibre_list many (drop many (add n w (circuits_in k old) (plan_in many k before.fibres before.assigns) (circuits_in m new)).fibres)) before.fibres
  pub assigned : after.assigns
      ≡ behind (8 * k)
      (assignment_list 0 (circuits_in m new)
      (drop k (add n w (circuits_in k old) (plan_in many k before.fibres before.assigns) (circuits_in m new)).assignments)) before.assigns
  pub cleared : after.work ≡ zeroed_to (4 * n + 4 * (k + m)) before.work
