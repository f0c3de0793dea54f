-- Some circuits of a file, planned alone as R-1 plans, each assignment in its circuit's own record. What a reader must believe.
-- Assumes nothing.
use Rattle.std.specs.Prelude.{ℕ, ◌+◌, ◌*◌, ◌/◌, ◌≤◌, ◌<◌, get_or, length, List, map, ◌≢◌, ◌≡◌}
use Rattle.records.specs.Bytes.{cells_of}
use Rattle.records.specs.Records.{circuits_of, record_at}
use Rattle.records.specs.declared.Circuit.{Circuit}
use Rattle.method.specs.Fibres.{floor}
use Rattle.method.specs.Line.{Distinct, Lies, assigned, circuit}
use Rattle.method.specs.Lit.{lit_plan}
use Rattle.register.specs.Areas.{Areas, zeroed_to}
use Rattle.register.specs.Lists.{assignment_record, counts_of, fibre_list}
use Rattle.register.specs.declared.Counts.{Counts}
use Rattle.rows.specs.Accepted.{Accepted}

-- the circuits at places js of a file, in the order of js
abbrev pub chosen : List Circuit → List ℕ → List Circuit
chosen cs js = map (circuit cs) js

-- js are places of a file of m circuits
abbrev pub PlacesOf : ℕ → List ℕ → Type 0
PlacesOf m js = (t : ℕ) → t < length js → get_or js t 0 < m

-- no place stands twice among the first k
abbrev pub Once : ℕ → List ℕ → Type 0
Once k js = (t r : ℕ) → t < k → r < k → get_or js t 0 ≡ get_or js r 0 → t ≡ r

-- records in a list: the one of place js(t), behind b others, is f t, for each t below k; all other bytes are as they were
pub record Scattered (b k : ℕ) (js : List ℕ) (f : ℕ → List ℕ) (s s' : List ℕ) : Type 0 where
  pub sized : length s' ≡ length s
  pub put : (t : ℕ) → t < k → record_at s' (b + get_or js t 0) ≡ f t
  pub kept : (i : ℕ) → ((t : ℕ) → t < k → i ≢ b + get_or js t 0) → record_at s' i ≡ record_at s i

-- WHAT IS ASKED. There is room for what is written: k places of a file of m circuits, whose assignment records stand behind b others
pub record Rooms (n k from b m : ℕ) (js : List ℕ) (lent : Areas) : Type 0 where
  pub places : PlacesOf m js
  pub base : b ≤ 2048
  pub fibre_room : 8 * k ≤ length lent.fibres
  pub assign_room : 8 * (b + m) ≤ length lent.assigns
  pub work_room : 4 * n + 4 * k ≤ length lent.work
  pub number_room : from + k ≤ 65535

-- the circuits of file s at these places lie on the line and have different numbers
pub record PartAsked (n w k from b : ℕ) (s places : List ℕ) (lent : Areas) : Type 0 where
  pub line : n ≤ 512
  pub waves : (1 ≤ w) × (w ≤ 80)
  pub few : k ≤ 2048
  pub listed : length places ≡ 2 * k
  pub lies : Lies n (chosen (circuits_of s) (cells_of places))
  pub distinct : Distinct (chosen (circuits_of s) (cells_of places))
  pub rooms : Rooms n k from b (length s / 8) (cells_of places) lent

-- the same, where the part is already a file of its own: what `settle_part` is asked
pub record ApartAsked (n w k from b m : ℕ) (part places : List ℕ) (lent : Areas) : Type 0 where
  pub accepted : Accepted n w k part
  pub listed : length places ≡ 2 * k
  pub once : Once k (cells_of places)
  pub rooms : Rooms n k from b m (cells_of places) lent

-- WHAT IS LEFT, where `part` are the circuits at places js, planned as R-1 plans
pub record PartSettled (n w from b : ℕ) (part : List Circuit) (js : List ℕ) (before after : Areas) (counts : Counts) : Type 0 where
  -- the three numbers are those of that plan
  pub counted : counts ≡ counts_of (lit_plan n w part) (floor n w part)
  -- the fibre list begins with its fibres, numbered after `from`
  pub listed : after.fibres ≡ fibre_list from (lit_plan n w part).fibres before.fibres
  -- the circuit at place js(t) has in its own record what the plan gives to circuit t of the part; no other byte of the list changes
  pub assigned_each : Scattered b (length js) js (λ t. assignment_record from (circuit part t) (assigned (lit_plan n w part) t)) before.assigns after.assigns
  -- what was used of the work area is zeroed
  pub cleared : after.work ≡ zeroed_to (4 * n + 4 * length js) before.work
