-- How long the messages' parts are, and messages by cases. Assumes nothing.
use Prim.Native.Nat.{ℕ, ◌≤◌}
use mathlib.Core.List.{◌++◌}
use native.Mathlib.Omega.{arith}
use lib.ListN.{length, length-append}
use mathlib.Core.Path.{refl}
use borrow.Author.Tests.{leb-true}
use Rattle.text.specs.Decimals.{decimal}
use Rattle.text.specs.Words.{words, codes}
use Rattle.text.proofs.Lengths.{length_twenty}
use Rattle.entry_text.specs.declared.Expected.{Expected}
use Rattle.entry_text.specs.declared.Expected.TheVariants.{HeaderLine, CircuitLine, NoMoreCircuits, ShorterText}
use Rattle.entry_text.specs.declared.faults.Fault.{Fault}
use Rattle.entry_text.specs.declared.faults.Fault.TheVariants.{NumberMissing, Sign, Mark, NoNumber, TooLarge, WordTooMany}
use Rattle.entry_text.specs.Messages.{fault_words, expected_words, line_words}

-- the words that name a line are at most 27 bytes
pub line_room : (l : ℕ) → length (line_words l) ≤ 27
unfolding line_words words codes
line_room l =
    omega (arith, length_twenty l, length-append (words "line ") (decimal l), length-append (words "line " ++ decimal l) (words ": "))

-- a fault's words are at most 18 bytes
pub fault_room : (f : Fault) → length (fault_words f) ≤ 18
unfolding fault_words words codes
fault_room NumberMissing = leb-true _ _ refl
fault_room Sign = leb-true _ _ refl
fault_room Mark = leb-true _ _ refl
fault_room NoNumber = leb-true _ _ refl
fault_room TooLarge = leb-true _ _ refl
fault_room WordTooMany = leb-true _ _ refl

-- what was expected is at most 31 bytes
pub expected_room : (expected : Expected) → length (expected_words expected) ≤ 31
unfolding expected_words words codes
expected_room HeaderLine = leb-true _ _ refl
expected_room CircuitLine = leb-true _ _ refl
expected_room NoMoreCircuits = leb-true _ _ refl
expected_room ShorterText = leb-true _ _ refl
