-- Those of some circuits that fit nowhere, planned together as R-1 plans, their fibres behind the old ones (R-2, R-11). A contract between crates.
-- Assumes nothing.
use Rattle.std.specs.Prelude.{ℕ, ◌+◌, ◌*◌, ◌<◌, ◌≤◌, length, List, ◌≡◌}
use Rattle.basics.specs.Tools.{each}
use Rattle.records.specs.Records.{assignment_of, circuits_in, number_in, record_at}
use Rattle.method.specs.Fibres.{floor}
use Rattle.method.specs.Line.{Assignment, Fibre}
use Rattle.register.specs.Areas.{Areas, zeroed_to}
use Rattle.register.specs.Lists.{behind, counts_of, fibre_list}
use Rattle.register.specs.Plans.{place_of}
use Rattle.register.specs.declared.Counts.{Counts}
use Rattle.rows.specs.Accepted.{Accepted}
use Rattle.places.specs.Parts.{picked}
use Rattle.additions.specs.Adding.{left_plan, settled_all, unplaced}
use Rattle.placing.specs.Turns.{AllWritten}

-- what the records of m circuits, behind b others, say; fibre 0 says that it has no place
unfoldable pub said_behind : ℕ → ℕ → List ℕ → List Assignment
said_behind b m assigns = each (λ j. place_of (assignment_of (record_at assigns (b + j)))) 0 m

-- what is asked: m circuits that passed the tests, each named by its own record behind b others, and room for what is written behind `many` fibres
pub record LeftAsked (n w many b m : ℕ) (s : List ℕ) (lent : Areas) : Type 0 where
  pub accepted : Accepted n w m s
  pub few : b + m ≤ 2048
  pub few_fibres : many ≤ 2048
  pub named : (j : ℕ) → j < m → (assignment_of (record_at lent.assigns (b + j))).circuit ≡ number_in s j
  pub fibre_room : 8 * (many + m) ≤ length lent.fibres
  pub assign_room : 8 * (b + m) ≤ length lent.assigns
  pub work_room : 4 * n + 4 * (b + m) ≤ length lent.work

-- what is left: behind the old fibres those of the plan of the circuits that had no place, each of these circuits with what that plan gives it, and all others with what they had
pub record LeftSettled (n w many b m : ℕ) (s : List ℕ) (before after : Areas) (counts : Counts) : Type 0 where
  pub counted : counts
      ≡ counts_of (left_plan n w (circuits_in m s) (said_behind b m before.assigns)) (floor n w (picked (unplaced (said_behind b m before.assigns)) (circuits_in m s)))
  pub listed : after.fibres ≡ behind (8 * many) (fibre_list many (left_plan n w (circuits_in m s) (said_behind b m before.assigns)).fibres) before.fibres
  pub written : (fs : List Fibre) → length fs ≡ many
      → AllWritten (circuits_in m s) b (settled_all n w fs (circuits_in m s) (said_behind b m before.assigns)) before.assigns after.assigns
  pub cleared : after.work ≡ zeroed_to (4 * n + 4 * (b + m)) before.work
