-- Counting lines: a turn at a line, and the end. Assumes nothing.
use Prim.Native.Nat.{ℕ, zero, suc, ◌+◌, ◌-◌, ◌<◌, ◌≤◌}
use mathlib.Core.Bool.{true, false}
use mathlib.Core.List.{List}
use mathlib.Core.Logic.{◌≢◌}
use mathlib.Core.Path.{◌≡◌, ◌∙◌, refl, sym}
use native.Mathlib.Omega.{arith}
use native.Mathlib.Numerals.{add-one}
use lib.ListN.{length}
use borrow.Author.Tests.{le-leb, lt-leb, ne_eqb}
use Rattle.entry_text.specs.Entries.{line_end, idle_line}
use Rattle.entry_text.specs.Lines.{next_line, after_lines, counting_line, line_of_record}
use Rattle.entry_text.specs.inner.Told.{Walked, here, past}
use Rattle.entry_text.proofs.Places.{line_ge, line_le}

-- no line is left
pub counting_over : (f : ℕ) (s : List ℕ) (i l k : ℕ) → length s ≤ i → counting_line f s i l k ≡ 0
unfolding counting_line
counting_over zero s i l k h = refl
counting_over (suc f) s i l k h = rw (le-leb (length s) i h)

-- a line that does not count
pub counting_idle : (f g : ℕ) (s : List ℕ) (i l k e : ℕ) → f ≡ suc g → i < length s → e ≡ line_end s i → idle_line s i e ≡ true → counting_line f s i l k ≡ counting_line g s (e + 1) (l + 1) k
unfolding counting_line
counting_idle f g s i l k e q h he t = rw (q, lt-leb (length s) i h, ← he, t, add-one e, add-one l)

-- the line that is sought
pub counting_here : (f g : ℕ) (s : List ℕ) (i l k e : ℕ) → f ≡ suc g → i < length s → e ≡ line_end s i → idle_line s i e ≡ false → k ≡ 0 → counting_line f s i l k ≡ l
unfolding counting_line
counting_here f g s i l k e q h he t z = rw (q, lt-leb (length s) i h, ← he, t, z)

-- a line that counts, before it
pub counting_more : (f g : ℕ) (s : List ℕ) (i l k e : ℕ) → f ≡ suc g → i < length s → e ≡ line_end s i → idle_line s i e ≡ false → k ≢ 0 → counting_line f s i l k ≡ counting_line g s (e + 1) (l + 1) (k - 1)
unfolding counting_line
counting_more f g s i l k e q h he t z = rw (q, lt-leb (length s) i h, ← he, t, ne_eqb k 0 z, add-one e, add-one l)

-- one line more is passed
pub line_turn : (s : List ℕ) (k i j : ℕ) → i ≡ after_lines s k → j ≡ next_line s i → j ≡ after_lines s (k + 1)
unfolding after_lines
line_turn s k i j p q = rw (add-one k, ← p, q)

-- where a walk that counts to line k is: so many lines that count are left before it
abbrev pub Left : List ℕ → ℕ → ℕ → ℕ → ℕ → Type 0
Left s k left i l = (i ≤ length s + 1) × (1 ≤ l) × (l ≤ i + 1) × (counting_line (length s + 2 - l) s i l left ≡ line_of_record s k)

-- at the start
pub left_start : (s : List ℕ) (k : ℕ) → Left s k k 0 1
unfolding line_of_record
left_start s k = let e : length s + 2 - 1 ≡ suc (length s) = omega arith in (omega arith, omega arith, omega arith, rw e)

-- past lines that do not count
pub left_walked : (s : List ℕ) (k left i l j m : ℕ) → Walked s i l j m → Left s k left i l → Left s k left j m
left_walked s k left i l _ _ here q = q
left_walked s k left i l _ _ (past j m w b t) q =
    let r = left_walked s k left i l j m w q in
    let a = line_ge s j in
    let d = line_le s j (omega arith) in
    (omega arith, omega arith, omega arith, sym (counting_idle (length s + 2 - m) (length s + 2 - (m + 1)) s j m left (line_end s j) (omega arith) b refl t) ∙ r.3)

-- past one that counts
pub left_next : (s : List ℕ) (k left i l e : ℕ) → Left s k left i l → i < length s → e ≡ line_end s i → idle_line s i e ≡ false → left ≢ 0 → Left s k (left - 1) (e + 1) (l + 1)
left_next s k left i l e q b he t z =
    let a = line_ge s i in
    let d = line_le s i (omega arith) in
    (omega arith, omega arith, omega arith, sym (counting_more (length s + 2 - l) (length s + 2 - (l + 1)) s i l left e (omega arith) b he t z) ∙ q.3)

-- at the line that is sought
pub left_here : (s : List ℕ) (k left i l e : ℕ) → Left s k left i l → i < length s → e ≡ line_end s i → idle_line s i e ≡ false → left ≡ 0 → l ≡ line_of_record s k
left_here s k left i l e q b he t z = sym (counting_here (length s + 2 - l) (length s + 1 - l) s i l left e (omega arith) b he t z) ∙ q.3

-- at the end of the text
pub left_over : (s : List ℕ) (k left i l : ℕ) → Left s k left i l → length s ≤ i → 0 ≡ line_of_record s k
left_over s k left i l q h = sym (counting_over (length s + 2 - l) s i l left h) ∙ q.3
