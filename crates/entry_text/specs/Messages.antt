-- What is said of a text. What a reader must believe.
-- Assumes nothing.
use Rattle.std.specs.Prelude.{ℕ, List, ◌++◌, Result, Ok, Err}
use Rattle.text.specs.Decimals.{decimal}
use Rattle.text.specs.Words.{words}
use Rattle.entry_text.specs.declared.Entry.{Entry}
use Rattle.entry_text.specs.declared.Expected.{Expected}
use Rattle.entry_text.specs.declared.Expected.TheVariants.{HeaderLine, CircuitLine, NoMoreCircuits, ShorterText}
use Rattle.entry_text.specs.declared.Wrong.{Wrong}
use Rattle.entry_text.specs.declared.faults.Fault.{Fault}
use Rattle.entry_text.specs.declared.faults.Fault.TheVariants.{NumberMissing, Sign, Mark, NoNumber, TooLarge, WordTooMany}
use Rattle.entry_text.specs.Entered.{entry_of}
use Rattle.entry_text.specs.Faults.{expected_number, fault_at}

-- a fault in words
unfoldable pub fault_words : Fault → List ℕ
fault_words NumberMissing = words "a number missing"
fault_words Sign = words "a sign"
fault_words Mark = words "a byte order mark"
fault_words NoNumber = words "not a number"
fault_words TooLarge = words "a number too large"
fault_words WordTooMany = words "a word too many"

-- what a line should have been
unfoldable pub expected_words : Expected → List ℕ
expected_words HeaderLine = words " (expected: n w, or n w grid)\n"
expected_words CircuitLine = words " (expected: number first last)\n"
expected_words NoMoreCircuits = words " (expected: number first last)\n"
expected_words ShorterText = words " (expected: number first last)\n"

-- which line
unfoldable pub line_words : ℕ → List ℕ
line_words l = words "line " ++ decimal l ++ words ": "

-- a line that was not read: which, its fault, and what it should have been
unfoldable pub fault_message : List ℕ → ℕ → Expected → List ℕ
fault_message s l expected = line_words l ++ fault_words (fault_at s l (expected_number expected)) ++ expected_words expected

-- the line of a circuit for which there is no room
unfoldable pub full_message : ℕ → List ℕ
full_message l = line_words l ++ words "more than 2048 circuits\n"

-- what is said of a text that is wrong in line l
unfoldable pub wrong_message : List ℕ → ℕ → Expected → List ℕ
wrong_message s l HeaderLine = fault_message s l HeaderLine
wrong_message s l CircuitLine = fault_message s l CircuitLine
wrong_message s l NoMoreCircuits = full_message l
wrong_message s l ShorterText = words "a text of more than 1048576 bytes\n"

-- how many circuits there are
unfoldable pub count_message : ℕ → List ℕ
count_message many = words "circuits: " ++ decimal many ++ words "\n"

-- what is said of a text, by the answer for it
unfoldable pub message_by : List ℕ → Result Entry Wrong → List ℕ
message_by s (Ok e) = count_message e.circuits
message_by s (Err w) = wrong_message s w.line w.expected

-- what is said of a text, of at most the 2,048 circuits that the planner takes
unfoldable pub message_of : List ℕ → List ℕ
message_of s = message_by s (entry_of s 2048)
