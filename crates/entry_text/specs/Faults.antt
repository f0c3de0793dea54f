-- What is wrong with a line that was not read. What a reader must believe.
-- Assumes nothing.
use Rattle.std.specs.Prelude.{ℕ, ◌+◌, ◌-◌, Bool, not, ◌&&◌, ◌||◌, cond, List, leb, eqb, Option, None, Some}
use Rattle.basics.specs.Tools.{seek}
use Rattle.entry_text.specs.declared.faults.Fault.{Fault}
use Rattle.entry_text.specs.declared.faults.Fault.TheVariants.{NumberMissing, Sign, Mark, NoNumber, TooLarge, WordTooMany}
use Rattle.entry_text.specs.declared.Expected.{Expected}
use Rattle.entry_text.specs.declared.Expected.TheVariants.{HeaderLine, CircuitLine, NoMoreCircuits, ShorterText}
use Rattle.entry_text.specs.Entries.{byte, is_digit, line_end, word_from, word_past, word_number}
use Rattle.entry_text.specs.Lines.{line_start}

-- + or -
unfoldable pub is_sign : ℕ → Bool
is_sign b = eqb b 43 || eqb b 45

-- the word from i to e begins with the three bytes of a byte order mark
unfoldable pub is_mark : List ℕ → ℕ → ℕ → Bool
is_mark s i e = leb 3 (e - i) && (eqb (byte s i) 239 && (eqb (byte s (i + 1)) 187 && eqb (byte s (i + 2)) 191))

-- where the digits from i on end, before e
unfoldable pub digits_to : List ℕ → ℕ → ℕ → ℕ
digits_to s i e = seek (λ x. not (is_digit (byte s x))) i (e - i)

-- what is wrong with the word from i to e, which was not read as a number: one of digits alone was too large
unfoldable pub word_fault : List ℕ → ℕ → ℕ → Fault
word_fault s i e =
    cond (leb e i) NumberMissing (cond (is_sign (byte s i)) Sign (cond (is_mark s i e) Mark (cond (leb e (digits_to s i e)) TooLarge NoNumber)))

-- what is wrong with the first word from i on, before e, which was not read as a number
unfoldable pub fault_from : List ℕ → ℕ → ℕ → Fault
fault_from s i e = word_fault s (word_from s i e) (word_past s i e)

-- the fault of a word that was not read, or what is wrong after one that was
abbrev pub or_fault : Option ℕ → Fault → Fault → Fault
or_fault None fault rest = fault
or_fault (Some v) fault rest = rest

-- what is wrong with the line from i to e, which was not read: the first of three words that is no number, the first below the limit and the others of two bytes, or else a word too many
unfoldable pub line_fault : List ℕ → ℕ → ℕ → ℕ → Fault
line_fault s i e limit =
    or_fault (word_number s i e limit) (fault_from s i e)
    (or_fault (word_number s (word_past s i e) e 65536) (fault_from s (word_past s i e) e)
    (or_fault (word_number s (word_past s (word_past s i e) e) e 65536) (fault_from s (word_past s (word_past s i e) e) e) WordTooMany))

-- the number of what was expected
abbrev pub expected_number : Expected → ℕ
expected_number HeaderLine = 1
expected_number CircuitLine = 2
expected_number NoMoreCircuits = 3
expected_number ShorterText = 4

-- what is wrong with the line numbered l: with 1 expected as `n w` or `n w grid`, of two bytes each, else as `number first last`, of four, two and two
unfoldable pub fault_at : List ℕ → ℕ → ℕ → Fault
fault_at s l expected = line_fault s (line_start s l) (line_end s (line_start s l)) (cond (eqb expected 1) 65536 4294967296)
