-- What the loops over the columns do. Assumes nothing.
use Rattle.std.specs.Prelude.{ℕ, ◌+◌, ◌-◌, ◌%◌, ◌≤◌, ◌<◌, ◌≡◌, Bool, true, ◌&&◌, List, length, get_or, leb}
use Rattle.basics.specs.Tools.{count, each}
use Rattle.records.specs.declared.Circuit.{Circuit}
use Rattle.method.specs.Line.{circuit}
use Rattle.order.specs.Order.{Ordered}
use Rattle.riders.specs.declared.columns.Columns.{Columns}
use Rattle.riders.specs.declared.stretches.Shortlist.{Shortlist}

-- row p of the columns
unfoldable pub row : Columns → ℕ → Circuit
row C p = record { number = get_or C.numbers p 0; first = get_or C.firsts p 0; last = get_or C.lasts p 0 }

-- the rows that are used
unfoldable pub rows : Columns → List Circuit
rows C = each (row C) 0 C.many

-- their numbers rise
abbrev pub Rises : Columns → Type 0
Rises C = (p q : ℕ) → p < q → q < C.many → get_or C.numbers p 0 < get_or C.numbers q 0

-- the rows are the circuits cs by rising number
pub record Sorted (cs : List Circuit) (C : Columns) : Type 0 where
  pub many : length cs ≡ C.many
  pub places : List ℕ
  pub order : Ordered C.many cs places
  pub each_row : (p : ℕ) → p < C.many → row C p ≡ circuit cs (get_or places p 0)

-- row p uses a link of a to e
unfoldable pub meets : ℕ → ℕ → Columns → ℕ → Bool
meets a e C p = leb (get_or C.firsts p 0) e && leb a (get_or C.lasts p 0)

-- a list has, at its start, the k of the first m places that pass a test, rising
pub record Picked (test : ℕ → Bool) (m k : ℕ) (near : List ℕ) : Type 0 where
  pub many : k ≡ count test m
  pub picked : (p : ℕ) → p < m → test p ≡ true → get_or near (count test p) 0 ≡ p

-- whether the row that a shortlist has at q uses link i
unfoldable pub listed : ℕ → Columns → Shortlist → ℕ → Bool
listed i C S q = meets i i C (get_or S.places q 0)

-- a shortlist, rising, has each row that uses a link of a to e, and so each such link has as many in it as there are in all
pub record Near (C : Columns) (a e : ℕ) (S : Shortlist) : Type 0 where
  pub few : S.many ≤ C.many
  pub rising : (q r : ℕ) → q < r → r < S.many → get_or S.places q 0 < get_or S.places r 0
  pub only : (q : ℕ) → q < S.many → get_or S.places q 0 < C.many
  pub all : (p : ℕ) → p < C.many → meets a e C p ≡ true → (q : ℕ) × (q < S.many) × (get_or S.places q 0 ≡ p)
  pub loads : (i : ℕ) → a ≤ i → i ≤ e → count (listed i C S) S.many ≡ count (meets i i C) C.many

-- the last link of the block of 16 that the link before i is of
unfoldable pub near_to : ℕ → ℕ
near_to i = i + 14 - (i + 14) % 16

-- the number of the row that a shortlist has at q
unfoldable pub number_in : Columns → Shortlist → ℕ → ℕ
number_in C S q = get_or C.numbers (get_or S.places q 0) 0

-- the numbers of those of k that pass a test stand from cell `at` on, to before cell `end`, and all other cells are as they were
pub record Stretched (test : ℕ → Bool) (number : ℕ → ℕ) (k at : ℕ) (before : List ℕ) (end : ℕ) (after : List ℕ) : Type 0 where
  pub long : length after ≡ length before
  pub next : end ≡ at + count test k
  pub put : (p : ℕ) → p < k → test p ≡ true → get_or after (at + count test p) 0 ≡ number p
  pub below : (x : ℕ) → x < at → get_or after x 0 ≡ get_or before x 0
  pub above : (x : ℕ) → end ≤ x → get_or after x 0 ≡ get_or before x 0
