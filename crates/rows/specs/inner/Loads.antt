-- What the loops over loads do to the cells of the links. Assumes nothing.
use Rattle.std.specs.Prelude.{◌≡◌, ℕ, ◌+◌, ◌-◌, ◌*◌, ◌/◌, ◌%◌, ◌≤◌, List, length, take, drop, replicate, nat_eq, slice_set}
use Rattle.basics.specs.Tools.{count, each, sum, top}
use Rattle.records.specs.Bytes.{cells_of}
use Rattle.records.specs.declared.Circuit.{Circuit}
use Rattle.method.specs.Line.{circuit}
use Rattle.method.specs.Sheet.{at, need, most}

-- a number in a cell of 16 bits, where it wraps around at 65,536
abbrev pub wrapped : ℕ → ℕ
wrapped v = v % 65536

-- the cell of link x one up
abbrev pub mark_up : ℕ → List ℕ → List ℕ
mark_up x C = slice_set C (x - 1) (wrapped (at C x + 1))

-- the cell of link x one down, which is 65,535 up; nothing changes if x is past the line
abbrev pub mark_down : ℕ → List ℕ → List ℕ
mark_down x C = slice_set C (x - 1) (wrapped (at C x + 65535))

-- how many of the first j circuits begin at link x
unfoldable pub begin_to : List Circuit → ℕ → ℕ → ℕ
begin_to cs j x = count (λ d. nat_eq (circuit cs d).first x) j

-- how many of the first j circuits end just before link x
unfoldable pub end_to : List Circuit → ℕ → ℕ → ℕ
end_to cs j x = count (λ d. nat_eq ((circuit cs d).last + 1) x) j

-- the mark of link x after the first j circuits: how many begin there, less how many end just before it
unfoldable pub mark_to : List Circuit → ℕ → ℕ → ℕ
mark_to cs j x = wrapped (65536 + begin_to cs j x - end_to cs j x)

-- the cells of links 1 to x added up
unfoldable pub sum_to : List ℕ → ℕ → ℕ
sum_to C x = wrapped (sum (at C) x)

-- each link's cell is at most v
unfoldable pub Below : ℕ → List ℕ → Type 0
Below v C = (x : ℕ) → at C x ≤ v

-- a load over w, rounded up
abbrev pub rounded : ℕ → ℕ → ℕ
rounded w v = (v + (w - 1)) / w

-- the load in the cell of link x over w, rounded up
unfoldable pub rounded_at : ℕ → List ℕ → ℕ → ℕ
rounded_at w C x = rounded w (at C x)

-- each load in C became c(i) in C', and r is the largest of them
abbrev pub RoundedAll : ℕ → ℕ → List ℕ → List ℕ → ℕ → Type 0
RoundedAll n w C C' r = (r ≡ top (rounded_at w C) n) × (C' ≡ each (rounded_at w C) 1 n)

-- C has c(i) of each link, and r is M
abbrev pub NeedsCounted : ℕ → ℕ → List Circuit → List ℕ → ℕ → Type 0
NeedsCounted n w cs C r = (r ≡ most n w cs) × (C ≡ each (need w cs) 1 n)

-- the cells of n links hold 0
abbrev pub Zeroed : ℕ → List ℕ → Type 0
Zeroed n cells = (length cells ≡ 2 * n) × (cells_of cells ≡ replicate n 0)

-- the last red row of link x, (M - c(x)) * w
abbrev pub red_at : ℕ → ℕ → List ℕ → ℕ → ℕ
red_at M w C x = (M - at C x) * w

-- the last red row of each link in the second n cells; the first n stay
abbrev pub RedsWritten : ℕ → ℕ → ℕ → List ℕ → List ℕ → Type 0
RedsWritten n w M cells cells' =
    (length cells' ≡ 4 * n) × (take n (cells_of cells') ≡ take n (cells_of cells)) × (drop n (cells_of cells') ≡ each (red_at M w (cells_of cells)) 1 n)
