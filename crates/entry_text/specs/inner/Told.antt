-- What the internal functions answer, as values of their own types. Assumes nothing.
use Rattle.std.specs.Prelude.{ℕ, suc, ◌+◌, ◌*◌, ◌/◌, ◌<◌, ◌≤◌, true, false, List, ◌++◌, ◌≡◌, length, drop, Option, None, Some, Result, Ok, Err}
use Rattle.records.specs.Records.{file_of}
use Rattle.entry_text.specs.declared.Wrong.{Wrong}
use Rattle.entry_text.specs.declared.lines.Counted.{Counted}
use Rattle.entry_text.specs.Entries.{line_end, idle_line}
use Rattle.entry_text.specs.Entries as text

-- how many circuits, or where reading stopped
abbrev pub ending_by : ℕ → Option Wrong → Result ℕ Wrong
ending_by many None = Ok many
ending_by many (Some w) = Err w

-- the end of reading
abbrev pub ending : text.Reading → Result ℕ Wrong
ending r = ending_by (length r.circuits) r.stopped

-- all that the lines from place i on say, of which the first is numbered l, with room for as many circuits as the output holds
abbrev pub reading_from : List ℕ → ℕ → ℕ → List ℕ → text.Reading
reading_from s i l before = text.circuits_from (suc (length s)) s i l (length before / 8)

-- the end of that reading, and an output with its circuits' records at its start and all else as it was before
abbrev pub Reads : List ℕ → ℕ → ℕ → List ℕ → Result ℕ Wrong → List ℕ → Type 0
Reads s i l before answer after =
    (answer ≡ ending (reading_from s i l before))
    × (after ≡ file_of (reading_from s i l before).circuits ++ drop (8 * length (reading_from s i l before).circuits) before)

-- from the line at i, numbered l, on to the one at j, numbered m, past lines that do not count
pub data Walked (s : List ℕ) (i l : ℕ) : ℕ → ℕ → Type 0 where
  here : Walked s i l i l
  past : (j m : ℕ) → Walked s i l j m → j < length s → idle_line s j (line_end s j) ≡ true → Walked s i l (line_end s j + 1) (m + 1)

-- the first line that counts, from the one at i on, which is numbered l, or the number behind the last line
abbrev pub Next : List ℕ → ℕ → ℕ → Result Counted ℕ → Type 0
Next s i l (Ok c) =
    Walked s i l c.start c.number × (c.start < length s) × (c.end ≡ line_end s c.start) × (idle_line s c.start c.end ≡ false)
    × (c.start ≤ c.end) × (c.end ≤ length s) × (c.number ≤ c.start + 1) × (i ≤ c.start)
Next s i l (Err m) = (j : ℕ) × Walked s i l j m × (length s ≤ j)
