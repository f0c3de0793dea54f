-- The circuits that wait, by rising number. A contract between crates.
-- Assumes nothing.
use Rattle.std.specs.Prelude.{ℕ, ◌+◌, ◌-◌, ◌*◌, ◌≤◌, ◌<◌, Bool, cond, ◌≡◌, List, length, get_or, eqb}
use Rattle.basics.specs.Tools.{count, seek}
use Rattle.records.specs.declared.Circuit.{Circuit}
use Rattle.method.specs.Line.{circuit}
use Rattle.queue.specs.declared.Queue.{Queue}

-- the place in the file of the circuit at place p of the list
unfoldable pub place_in : ℕ → List ℕ → ℕ → ℕ
place_in m L p = get_or L (2 * m + p) 0

-- the list L is a queue of the circuits that wait; R has the row of each circuit, 0 while it waits
pub record Queued (m : ℕ) (cs : List Circuit) (R L : List ℕ) (q : Queue) : Type 0 where
  pub ends : (q.from ≤ q.to) × (q.to ≤ m)
  -- up to `to` it has circuits of the file, each at most once, by rising number
  pub places : (p : ℕ) → p < q.to → place_in m L p < m
  pub once : (p r : ℕ) → p < q.to → r < q.to → place_in m L p ≡ place_in m L r → p ≡ r
  pub rising : (p r : ℕ) → p ≤ r → r < q.to → (circuit cs (place_in m L p)).number ≤ (circuit cs (place_in m L r)).number
  -- with their ends, but first link 0 for those that do not wait
  pub firsts : (p : ℕ) → p < q.to → get_or L p 0 ≡ cond (eqb (get_or R (place_in m L p) 0) 0) (circuit cs (place_in m L p)).first 0
  pub lasts : (p : ℕ) → p < q.to → get_or L (m + p) 0 ≡ (circuit cs (place_in m L p)).last
  -- every circuit that waits is there, from `from` on
  pub all : (j : ℕ) → j < m → get_or R j 0 ≡ 0 → (p : ℕ) × (q.from ≤ p) × (p < q.to) × (place_in m L p ≡ j)
  -- and at most `many` wait
  pub few : (count (λ j. eqb (get_or R j 0) 0) m ≤ q.many) × (q.many ≤ m)

-- the ends of a queue in a list of 4 m cells
abbrev pub InList : ℕ → List ℕ → Queue → Type 0
InList m list q = (m ≤ 2048) × (length list ≡ 8 * m) × (q.from ≤ q.to) × (q.to ≤ m)

-- the first place of a queue that passes a test, or the queue's end
abbrev pub first_place : Queue → (ℕ → Bool) → ℕ
first_place q passes = seek passes q.from (q.to - q.from)

-- whatever circuits L with q is a queue of, L' with r is one of them too, if each has a first link
abbrev pub StaysQueued : ℕ → List ℕ → List ℕ → Queue → Queue → Type 0
StaysQueued m L L' q r = (cs : List Circuit) (R : List ℕ) → ((j : ℕ) → j < m → 1 ≤ (circuit cs j).first) → Queued m cs R L q → Queued m cs R L' r
