-- Lines of a text by their number, counted from 1. What a reader must believe.
-- Assumes nothing.
use Rattle.std.specs.Prelude.{ℕ, zero, suc, ◌-◌, cond, List, length, leb, ltb, eqb}
use Rattle.entry_text.specs.Entries.{line_end, idle_line}

-- where the line after the one that starts at i starts: past its newline, or at the end of the text
unfoldable pub next_line : List ℕ → ℕ → ℕ
next_line s i = cond (ltb (line_end s i) (length s)) (suc (line_end s i)) (length s)

-- where the line after the first k lines starts
unfoldable pub after_lines : List ℕ → ℕ → ℕ
after_lines s zero = 0
after_lines s (suc k) = next_line s (after_lines s k)

-- where the line numbered l starts
unfoldable pub line_start : List ℕ → ℕ → ℕ
line_start s l = after_lines s (l - 1)

-- the number of the line that counts after k others that count, of at most f lines from place i on, of which the first is numbered l; 0 if there is none
unfoldable pub counting_line : ℕ → List ℕ → ℕ → ℕ → ℕ → ℕ
counting_line zero s i l k = 0
counting_line (suc f) s i l k =
    cond
    (leb (length s) i)
    0
    (cond
    (idle_line s i (line_end s i))
    (counting_line f s (suc (line_end s i)) (suc l) k)
    (cond (eqb k 0) l (counting_line f s (suc (line_end s i)) (suc l) (k - 1))))

-- the number of the line that holds circuit k, counted from 1: k lines that count stand before it, of which the first is the header
unfoldable pub line_of_record : List ℕ → ℕ → ℕ
line_of_record s k = counting_line (suc (length s)) s 0 1 k

-- the number of the header's line
abbrev pub header_line : List ℕ → ℕ
header_line s = line_of_record s 0
