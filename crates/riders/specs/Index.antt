-- The index of the circuits on each link, and the answer to the question for a link. What a reader must believe.
-- Links are 1 to n. Cells are counted from 0, and start i, for i from 1 to n + 1, stands in cell i − 1.
-- Assumes nothing.
use Rattle.std.specs.Prelude.{ℕ, ◌+◌, ◌-◌, ◌≤◌, ◌<◌, ◌≡◌, true, ◌&&◌, cond, List, length, get_or, drop, leb, ltb}
use Rattle.basics.specs.Tools.{part, sum}
use Rattle.records.specs.declared.Circuit.{Circuit}
use Rattle.method.specs.Line.{circuit, uses}
use Rattle.method.specs.Sheet.{load}
use Rattle.riders.specs.declared.Stretch.{Stretch}

-- THE QUESTION. An empty stretch
abbrev pub nowhere : Stretch
nowhere = record { start = 0; length = 0 }

-- the cells from start a to before start e; none where these fall or lead past the buffer
unfoldable pub between : List ℕ → ℕ → ℕ → Stretch
between cells a e = cond (leb a e && leb e (length cells)) (record { start = a; length = e - a }) nowhere

-- where the stretch of link i is: nowhere for a link outside the line or a buffer too short for its n + 1 starts, else from start i to before start i + 1
unfoldable pub stretch_at : ℕ → ℕ → List ℕ → Stretch
stretch_at n i cells = cond (leb 1 i && leb i n && ltb n (length cells)) (between cells (get_or cells (i - 1) 0) (get_or cells i 0)) nowhere

-- the stretch itself: that part of the buffer
abbrev pub riders_at : ℕ → ℕ → List ℕ → List ℕ
riders_at n i cells = part (stretch_at n i cells).start (stretch_at n i cells).length cells

-- THE INDEX. xs has the numbers of the circuits that use link i, no other, each once, rising
pub record Riders (cs : List Circuit) (i : ℕ) (xs : List ℕ) : Type 0 where
  pub rising : (p q : ℕ) → p < q → q < length xs → get_or xs p 0 < get_or xs q 0
  pub all : (j : ℕ) → j < length cs → uses (circuit cs j) i ≡ true → (p : ℕ) × (p < length xs) × (get_or xs p 0 ≡ (circuit cs j).number)
  pub only : (p : ℕ) → p < length xs → (j : ℕ) × (j < length cs) × (uses (circuit cs j) i ≡ true) × (get_or xs p 0 ≡ (circuit cs j).number)

-- start i: after n + 1 starts, and the circuit numbers of each link before i
unfoldable pub start_of : ℕ → List Circuit → ℕ → ℕ
start_of n cs i = n + 1 + sum (load cs) (i - 1)

-- how many cells the index has: the sum of all loads plus n + 1 starts
unfoldable pub cells_for : ℕ → List Circuit → ℕ
cells_for n cs = sum (load cs) n + (n + 1)

-- a buffer holds the index of circuits cs at its start, and is as it was after that
pub record Index (n : ℕ) (cs : List Circuit) (before after : List ℕ) : Type 0 where
  pub long : length after ≡ length before
  pub starts : (i : ℕ) → 1 ≤ i → i ≤ n + 1 → get_or after (i - 1) 0 ≡ start_of n cs i
  pub stretches : (i : ℕ) → 1 ≤ i → i ≤ n → Riders cs i (part (start_of n cs i) (load cs i) after)
  pub rest : drop (cells_for n cs) after ≡ drop (cells_for n cs) before
