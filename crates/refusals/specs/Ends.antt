-- Which end is wrong, said without running through the records. What a reader must believe.
-- Assumes nothing.
use Rattle.std.specs.Prelude.{ℕ, suc, ◌≤◌, ◌<◌, ◌≡◌, ◌⊎◌, ◌≢◌, List, Option, Some, None}
use Rattle.records.specs.Records.{record_at, circuit_of}
use Rattle.records.specs.declared.Circuit.{Circuit}
use Rattle.refusals.specs.Refusals.{number_of}
use Rattle.refusals.specs.declared.Refusal.{Refusal}
use Rattle.refusals.specs.declared.End.{End}
use Rattle.refusals.specs.declared.End.TheVariants.{FirstZero, FirstPastLast, LastPastLine}

-- the first fault of a circuit on a line of n links, in the order of their numbers, is that of this end
abbrev pub FirstFault : ℕ → Circuit → Option End → Type 0
FirstFault n c end =
    ((end ≡ Some FirstZero) × (c.first ≡ 0))
    ⊎ (((end ≡ Some FirstPastLast) × (1 ≤ c.first) × (c.last < c.first)) ⊎ ((end ≡ Some LastPastLine) × (1 ≤ c.first) × (c.first ≤ c.last) × (n < c.last)))

-- a circuit has no fault
abbrev pub Faultless : ℕ → Circuit → Type 0
Faultless n c = (1 ≤ c.first) × (c.first ≤ c.last) × (c.last ≤ n)

-- of the first m records the one at this place has the fault of this end, and none before it has any
pub record EndTold (n m : ℕ) (s : List ℕ) (place : ℕ) (end : Option End) : Type 0 where
  pub index : ℕ
  pub there : index < m
  pub placed : place ≡ suc index
  pub fault : FirstFault n (circuit_of (record_at s index)) end
  pub before : (i : ℕ) → i < index → Faultless n (circuit_of (record_at s i))

-- refusal 6 tells the end so, and every other refusal tells none
pub record TellsEnd (n m : ℕ) (s : List ℕ) (r : Refusal) : Type 0 where
  pub six : number_of r.reason ≡ 6 → EndTold n m s r.place r.end
  pub other : number_of r.reason ≢ 6 → r.end ≡ None
