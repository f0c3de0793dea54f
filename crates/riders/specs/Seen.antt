-- What a caller of `index_riders` and of the question sees. `proofs/Seeing.antt` shows `seen`, that every call meets `Seen`; `same_index`, that `TwoCalls` leave the `SameIndex`, and so do
-- `files_exchanged` and `files_joined`; `index_in_order`, the order of the tests; and `outcome_pins`, that there is one answer. What a reader must believe.
-- Assumes nothing.
use Rattle.std.specs.Prelude.{ℕ, ◌+◌, ◌/◌, ◌≤◌, ◌<◌, ◌≡◌, ◌⊎◌, true, List, ◌++◌, length, get_or, take, drop, Ok}
use Rattle.std.proofs.Math.Option.{some}
use Rattle.records.specs.Records.{record_at, circuit_of, number_in}
use Rattle.method.specs.Line.{uses}
use Rattle.method.specs.Demands.{Rearranged}
use Rattle.refusals.specs.Refusals.{refusal_in}
use Rattle.refusals.specs.declared.Refusal.{Refusal}
use Rattle.refusals.specs.Given.{Given, NoneApplies}
use Rattle.refusals.specs.Ends.{TellsEnd}
use Rattle.riders.specs.Index.{riders_at, cells_for}
use Rattle.riders.specs.Outcome.{Answer, both_of, index_table, Outcome}
use Rattle.riders.specs.Computed.{index_of}

-- record j of a file is a circuit that uses link i
abbrev pub RidesIn : List ℕ → ℕ → ℕ → Type 0
RidesIn s i j = (j < length s / 8) × (uses (circuit_of (record_at s j)) i ≡ true)

-- the number x stands in a list
abbrev pub Stands : ℕ → List ℕ → Type 0
Stands x xs = (p : ℕ) × (p < length xs) × (get_or xs p 0 ≡ x)

-- a list has the numbers of the circuits of both files that use link i, no other, each once, rising
pub record RidersOf (old new : List ℕ) (i : ℕ) (xs : List ℕ) : Type 0 where
  pub rising : (p q : ℕ) → p < q → q < length xs → get_or xs p 0 < get_or xs q 0
  pub old_there : (j : ℕ) → RidesIn old i j → Stands (number_in old j) xs
  pub new_there : (j : ℕ) → RidesIn new i j → Stands (number_in new j) xs
  pub no_other : (p : ℕ) → p < length xs → ((j : ℕ) × RidesIn old i j × (get_or xs p 0 ≡ number_in old j)) ⊎ ((j : ℕ) × RidesIn new i j × (get_or xs p 0 ≡ number_in new j))

-- one call of `index_riders`: a refusal is given exactly as tabled, tells the wrong end, and changes nothing; else the question for each link of the line finds its riders
pub record Seen (n : ℕ) (old new before after : List ℕ) (answer : Answer) : Type 0 where
  pub as_tabled : (r : Refusal) → refusal_in answer ≡ some r → Given (index_table n old new (length before)) r
  pub whenever_tabled : (r : Refusal) → Given (index_table n old new (length before)) r → refusal_in answer ≡ some r
  pub otherwise_indexed : NoneApplies (index_table n old new (length before)) → answer ≡ Ok (cells_for n (both_of old new))
  pub end_told : (r : Refusal) → refusal_in answer ≡ some r → TellsEnd n (length old / 8 + length new / 8) (old ++ new) r
  pub unchanged : (r : Refusal) → refusal_in answer ≡ some r → after ≡ before
  pub riders : (cells : ℕ) → answer ≡ Ok cells → (i : ℕ) → 1 ≤ i → i ≤ n → RidersOf old new i (riders_at n i after)
  pub the_list : (cells : ℕ) → answer ≡ Ok cells → take cells after ≡ index_of n (both_of old new)
  pub kept : (cells : ℕ) → answer ≡ Ok cells → drop cells after ≡ drop cells before

-- two calls of `index_riders` that are both indexed, whose files have the same circuits, in whichever file and order
pub record TwoCalls (n : ℕ) (old new before after old' new' before' after' : List ℕ) (cells cells' : ℕ) : Type 0 where
  pub one : Outcome n old new before after (Ok cells)
  pub two : Outcome n old' new' before' after' (Ok cells')
  pub same : Rearranged (both_of old new) (both_of old' new')

-- what is the same: how many cells are used, and each of them
pub record SameIndex (after after' : List ℕ) (cells cells' : ℕ) : Type 0 where
  pub same_many : cells' ≡ cells
  pub same_cells : take cells' after' ≡ take cells after
