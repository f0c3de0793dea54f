-- Texts worked out, line by line. Assumes nothing.
use Prim.Native.Nat.{ℕ, suc, ◌≤◌}
use mathlib.Core.List.{List, [], ◌∷◌}
use Rattle.std.specs.Prelude.{None, Some}
use mathlib.Core.Path.{◌≡◌, ◌∙◌, refl, ap}
use lib.ListN.{length}
use borrow.Author.Tests.{leb-true, ltb-true}
use Rattle.basics.specs.Tools.{seek}
use Rattle.records.specs.LineFiles.{line_bytes}
use Rattle.records.specs.Records.{file_of}
use Rattle.records.specs.declared.Circuit.{Circuit}
use Rattle.entry_text.specs.declared.Header.{Header}
use Rattle.entry_text.specs.declared.Expected.TheVariants.{HeaderLine, CircuitLine, NoMoreCircuits}
use Rattle.entry_text.specs.Entries.{Reading, is_space, is_digit, line_end, word_from, word_to, spelt, numeral_in, word_number, word_past, idle_line, header_in, circuit_in, circuits_from, header_from, headed, too_long, read, after}
use Rattle.entry_text.specs.Entered.{entered, wrong, entry_by, entry_of}
use Rattle.entry_text.specs.declared.faults.Fault.TheVariants.{NumberMissing, Sign, Mark, NoNumber, TooLarge, WordTooMany}
use Rattle.entry_text.specs.Pair.{header_bytes, files_by, files_of}
use Rattle.entry_text.specs.Lines.{next_line, after_lines, line_start, counting_line, line_of_record, header_line}
use Rattle.entry_text.specs.Faults.{is_sign, is_mark, digits_to, word_fault, fault_from, line_fault, fault_at}
use Rattle.entry_text.proofs.Headings.{read_as, entry_as}
use Rattle.entry_text.proofs.Readings.{circuits_over, circuits_idle, circuits_full, circuits_more}

-- a circuit
abbrev circuit : ℕ → ℕ → ℕ → Circuit
circuit number first last = record { number = number; first = first; last = last }

-- five links and two wavelengths, with no grid named
abbrev five_two : Header
five_two = record { n = 5; w = 2; grid = None }

-- five links, two wavelengths and four circuits: `5 2`, `10 1 3`, `20 2 5`, `30 1 2`, `40 4 5`
unfoldable pub four : List ℕ
four = 53 ∷ 32 ∷ 50 ∷ 10 ∷ 49 ∷ 48 ∷ 32 ∷ 49 ∷ 32 ∷ 51 ∷ 10 ∷ 50 ∷ 48 ∷ 32 ∷ 50 ∷ 32 ∷ 53 ∷ 10 ∷ 51 ∷ 48 ∷ 32 ∷ 49 ∷ 32 ∷ 50 ∷ 10 ∷ 52 ∷ 48 ∷ 32 ∷ 52 ∷ 32 ∷ 53 ∷ 10 ∷ []

-- its header
four_header : header_from (suc (length four)) four 0 1 ≡ headed five_two 4 2
unfolding four header_from header_in line_end seek idle_line word_from is_space word_number word_past numeral_in word_to spelt is_digit
four_header = refl

-- and is not too long
four_short : length four ≤ 1048576
unfolding four
four_short = leb-true (length four) 1048576 refl

-- its lines, with room for four
four_lines : circuits_from 33 four 4 2 4 ≡ record { circuits = circuit 10 1 3 ∷ circuit 20 2 5 ∷ circuit 30 1 2 ∷ circuit 40 4 5 ∷ []; stopped = None }
unfolding four line_end seek idle_line word_from is_space circuit_in word_number word_past numeral_in word_to spelt is_digit
four_lines =
    circuits_more 33 32 four 4 2 4 3 10 (circuit 10 1 3) refl (ltb-true 4 32 refl) refl refl refl refl
    ∙ ap (after (circuit 10 1 3)) (circuits_more 32 31 four 11 3 3 2 17 (circuit 20 2 5) refl (ltb-true 11 32 refl) refl refl refl refl
    ∙ ap (after (circuit 20 2 5)) (circuits_more 31 30 four 18 4 2 1 24 (circuit 30 1 2) refl (ltb-true 18 32 refl) refl refl refl refl
    ∙ ap (after (circuit 30 1 2)) (circuits_more 30 29 four 25 5 1 0 31 (circuit 40 4 5) refl (ltb-true 25 32 refl) refl refl refl refl
    ∙ ap (after (circuit 40 4 5)) (circuits_over 29 four 32 6 0 (leb-true 32 32 refl)))))

-- these circuits are read, in this order
pub four_circuits : (read four 4).circuits ≡ circuit 10 1 3 ∷ circuit 20 2 5 ∷ circuit 30 1 2 ∷ circuit 40 4 5 ∷ []
unfolding four
four_circuits = ap (λ (r : Reading). r.circuits) (read_as four 4 five_two 4 2 four_short four_header ∙ four_lines)

-- and all four are entered
pub four_answer : entry_of four 4 ≡ entered five_two 4
unfolding four
four_answer = entry_as four 4 five_two 4 2 four_short four_header
    ∙ ap (λ (r : Reading). entry_by (headed five_two 4 2) (length r.circuits) r.stopped) four_lines

-- its lines, with room for three
three_lines : circuits_from 33 four 4 2 3 ≡ record { circuits = circuit 10 1 3 ∷ circuit 20 2 5 ∷ circuit 30 1 2 ∷ []; stopped = Some (record { line = 5; expected = NoMoreCircuits }) }
unfolding four line_end seek idle_line word_from is_space circuit_in word_number word_past numeral_in word_to spelt is_digit
three_lines =
    circuits_more 33 32 four 4 2 3 2 10 (circuit 10 1 3) refl (ltb-true 4 32 refl) refl refl refl refl
    ∙ ap (after (circuit 10 1 3)) (circuits_more 32 31 four 11 3 2 1 17 (circuit 20 2 5) refl (ltb-true 11 32 refl) refl refl refl refl
    ∙ ap (after (circuit 20 2 5)) (circuits_more 31 30 four 18 4 1 0 24 (circuit 30 1 2) refl (ltb-true 18 32 refl) refl refl refl refl
    ∙ ap (after (circuit 30 1 2)) (circuits_full 30 29 four 25 5 0 31 (circuit 40 4 5) refl (ltb-true 25 32 refl) refl refl refl refl)))

-- with room for three, these are read
pub three_circuits : (read four 3).circuits ≡ circuit 10 1 3 ∷ circuit 20 2 5 ∷ circuit 30 1 2 ∷ []
unfolding four
three_circuits = ap (λ (r : Reading). r.circuits) (read_as four 3 five_two 4 2 four_short four_header ∙ three_lines)

-- and the fifth line has one too many
pub three_answer : entry_of four 3 ≡ wrong 5 NoMoreCircuits
unfolding four
three_answer = entry_as four 3 five_two 4 2 four_short four_header
    ∙ ap (λ (r : Reading). entry_by (headed five_two 4 2) (length r.circuits) r.stopped) three_lines

-- comment lines, blank lines, tabs, carriage returns and no newline at the end
unfoldable pub spaced : List ℕ
spaced = 35 ∷ 32 ∷ 116 ∷ 119 ∷ 111 ∷ 10 ∷ 10 ∷ 9 ∷ 53 ∷ 32 ∷ 50 ∷ 13 ∷ 10 ∷ 32 ∷ 13 ∷ 10 ∷ 32 ∷ 32 ∷ 55 ∷ 9 ∷ 49 ∷ 32 ∷ 32 ∷ 50 ∷ 32 ∷ 13 ∷ 10 ∷ 35 ∷ 57 ∷ 32 ∷ 57 ∷ 10 ∷ 52 ∷ 50 ∷ 57 ∷ 52 ∷ 57 ∷ 54 ∷ 55 ∷ 50 ∷ 57 ∷ 53 ∷ 32 ∷ 54 ∷ 53 ∷ 53 ∷ 51 ∷ 53 ∷ 32 ∷ 48 ∷ []

-- its header
spaced_header : header_from (suc (length spaced)) spaced 0 1 ≡ headed five_two 13 4
unfolding spaced header_from header_in line_end seek idle_line word_from is_space word_number word_past numeral_in word_to spelt is_digit
spaced_header = refl

-- and is not too long
spaced_short : length spaced ≤ 1048576
unfolding spaced
spaced_short = leb-true (length spaced) 1048576 refl

-- its lines
spaced_lines : circuits_from 51 spaced 13 4 9 ≡ record { circuits = circuit 7 1 2 ∷ circuit 4294967295 65535 0 ∷ []; stopped = None }
unfolding spaced line_end seek idle_line word_from is_space circuit_in word_number word_past numeral_in word_to spelt is_digit
spaced_lines =
    circuits_idle 51 50 spaced 13 4 9 15 refl (ltb-true 13 50 refl) refl refl
    ∙ circuits_more 50 49 spaced 16 5 9 8 26 (circuit 7 1 2) refl (ltb-true 16 50 refl) refl refl refl refl
    ∙ ap (after (circuit 7 1 2)) (circuits_idle 49 48 spaced 27 6 8 31 refl (ltb-true 27 50 refl) refl refl
    ∙ circuits_more 48 47 spaced 32 7 8 7 50 (circuit 4294967295 65535 0) refl (ltb-true 32 50 refl) refl refl refl refl
    ∙ ap (after (circuit 4294967295 65535 0)) (circuits_over 47 spaced 51 8 7 (leb-true 50 51 refl)))

-- these circuits are read, with the largest numbers that a record holds
pub spaced_circuits : (read spaced 9).circuits ≡ circuit 7 1 2 ∷ circuit 4294967295 65535 0 ∷ []
unfolding spaced
spaced_circuits = ap (λ (r : Reading). r.circuits) (read_as spaced 9 five_two 13 4 spaced_short spaced_header ∙ spaced_lines)

-- and both are entered
pub spaced_answer : entry_of spaced 9 ≡ entered five_two 2
unfolding spaced
spaced_answer = entry_as spaced 9 five_two 13 4 spaced_short spaced_header
    ∙ ap (λ (r : Reading). entry_by (headed five_two 13 4) (length r.circuits) r.stopped) spaced_lines

-- no text
unfoldable pub nothing : List ℕ
nothing = []

-- `n w` or `n w grid` was expected in line 1
pub nothing_wrong : entry_of nothing 9 ≡ wrong 1 HeaderLine
unfolding nothing entry_of read too_long header_from header_in circuits_from circuit_in idle_line word_number word_past numeral_in word_from word_to line_end spelt is_space is_digit seek
nothing_wrong = refl

-- one number: `5`
unfoldable pub one : List ℕ
one = 53 ∷ 10 ∷ []

-- `n w` or `n w grid` was expected in line 1
pub one_wrong : entry_of one 9 ≡ wrong 1 HeaderLine
unfolding one entry_of read too_long header_from header_in circuits_from circuit_in idle_line word_number word_past numeral_in word_from word_to line_end spelt is_space is_digit seek
one_wrong = refl

-- a circuit with two numbers: `5 2`, `1 2`
unfoldable pub short : List ℕ
short = 53 ∷ 32 ∷ 50 ∷ 10 ∷ 49 ∷ 32 ∷ 50 ∷ 10 ∷ []

-- a circuit was expected in line 2
pub short_wrong : entry_of short 9 ≡ wrong 2 CircuitLine
unfolding short entry_of read too_long header_from header_in circuits_from circuit_in idle_line word_number word_past numeral_in word_from word_to line_end spelt is_space is_digit seek
short_wrong = refl

-- a circuit with four numbers: `5 2`, `1 2 3 4`
unfoldable pub long : List ℕ
long = 53 ∷ 32 ∷ 50 ∷ 10 ∷ 49 ∷ 32 ∷ 50 ∷ 32 ∷ 51 ∷ 32 ∷ 52 ∷ 10 ∷ []

-- a circuit was expected in line 2
pub long_wrong : entry_of long 9 ≡ wrong 2 CircuitLine
unfolding long entry_of read too_long header_from header_in circuits_from circuit_in idle_line word_number word_past numeral_in word_from word_to line_end spelt is_space is_digit seek
long_wrong = refl

-- a first link that does not fit in two bytes: `5 2`, `1 65536 2`
unfoldable pub large : List ℕ
large = 53 ∷ 32 ∷ 50 ∷ 10 ∷ 49 ∷ 32 ∷ 54 ∷ 53 ∷ 53 ∷ 51 ∷ 54 ∷ 32 ∷ 50 ∷ 10 ∷ []

-- a circuit was expected in line 2
pub large_wrong : entry_of large 9 ≡ wrong 2 CircuitLine
unfolding large entry_of read too_long header_from header_in circuits_from circuit_in idle_line word_number word_past numeral_in word_from word_to line_end spelt is_space is_digit seek
large_wrong = refl

-- a number with a letter: `5 2`, `1 2 3x`
unfoldable pub letter : List ℕ
letter = 53 ∷ 32 ∷ 50 ∷ 10 ∷ 49 ∷ 32 ∷ 50 ∷ 32 ∷ 51 ∷ 120 ∷ 10 ∷ []

-- a circuit was expected in line 2
pub letter_wrong : entry_of letter 9 ≡ wrong 2 CircuitLine
unfolding letter entry_of read too_long header_from header_in circuits_from circuit_in idle_line word_number word_past numeral_in word_from word_to line_end spelt is_space is_digit seek
letter_wrong = refl

-- a number is missing
pub short_fault : fault_at short 2 2 ≡ NumberMissing
unfolding short entry_of read too_long header_from header_in circuits_from circuit_in idle_line word_number word_past numeral_in word_from word_to line_end spelt is_space is_digit seek fault_at line_fault fault_from word_fault is_sign is_mark digits_to line_start after_lines next_line
short_fault = refl

-- a word is too many
pub long_fault : fault_at long 2 2 ≡ WordTooMany
unfolding long entry_of read too_long header_from header_in circuits_from circuit_in idle_line word_number word_past numeral_in word_from word_to line_end spelt is_space is_digit seek fault_at line_fault fault_from word_fault is_sign is_mark digits_to line_start after_lines next_line
long_fault = refl

-- a number is too large
pub large_fault : fault_at large 2 2 ≡ TooLarge
unfolding large entry_of read too_long header_from header_in circuits_from circuit_in idle_line word_number word_past numeral_in word_from word_to line_end spelt is_space is_digit seek fault_at line_fault fault_from word_fault is_sign is_mark digits_to line_start after_lines next_line
large_fault = refl

-- a word is no number
pub letter_fault : fault_at letter 2 2 ≡ NoNumber
unfolding letter entry_of read too_long header_from header_in circuits_from circuit_in idle_line word_number word_past numeral_in word_from word_to line_end spelt is_space is_digit seek fault_at line_fault fault_from word_fault is_sign is_mark digits_to line_start after_lines next_line
letter_fault = refl

-- a sign: `5 2`, `1 -2 3`
unfoldable pub sign : List ℕ
sign = 53 ∷ 32 ∷ 50 ∷ 10 ∷ 49 ∷ 32 ∷ 45 ∷ 50 ∷ 32 ∷ 51 ∷ 10 ∷ []

-- the second line has it
pub sign_fault : fault_at sign 2 2 ≡ Sign
unfolding sign entry_of read too_long header_from header_in circuits_from circuit_in idle_line word_number word_past numeral_in word_from word_to line_end spelt is_space is_digit seek fault_at line_fault fault_from word_fault is_sign is_mark digits_to line_start after_lines next_line
sign_fault = refl

-- a byte order mark before `5 2`
unfoldable pub mark : List ℕ
mark = 239 ∷ 187 ∷ 191 ∷ 53 ∷ 32 ∷ 50 ∷ 10 ∷ []

-- the first line has it
pub mark_fault : fault_at mark 1 1 ≡ Mark
unfolding mark entry_of read too_long header_from header_in circuits_from circuit_in idle_line word_number word_past numeral_in word_from word_to line_end spelt is_space is_digit seek fault_at line_fault fault_from word_fault is_sign is_mark digits_to line_start after_lines next_line
mark_fault = refl

-- a comment line, `5 2`, a blank line, `7 1 2`
unfoldable pub gaps : List ℕ
gaps = 35 ∷ 10 ∷ 53 ∷ 32 ∷ 50 ∷ 10 ∷ 10 ∷ 55 ∷ 32 ∷ 49 ∷ 32 ∷ 50 ∷ 10 ∷ []

-- its header stands in line 2
pub gaps_header : header_line gaps ≡ 2
unfolding gaps line_of_record counting_line idle_line line_end word_from is_space seek
gaps_header = refl

-- its circuit in line 4
pub gaps_first : line_of_record gaps 1 ≡ 4
unfolding gaps line_of_record counting_line idle_line line_end word_from is_space seek
gaps_first = refl

-- and there is no second
pub gaps_second : line_of_record gaps 2 ≡ 0
unfolding gaps line_of_record counting_line idle_line line_end word_from is_space seek
gaps_second = refl

-- five links and two wavelengths on grid 2, and no circuit: `5 2 2`
unfoldable pub finer : List ℕ
finer = 53 ∷ 32 ∷ 50 ∷ 32 ∷ 50 ∷ 10 ∷ []

-- its header names the grid
pub finer_answer : entry_of finer 9 ≡ entered (record { n = 5; w = 2; grid = Some 2 }) 0
unfolding finer entry_of read too_long header_from header_in circuits_from circuit_in idle_line word_number word_past numeral_in word_from word_to line_end spelt is_space is_digit seek
finer_answer = refl

-- so its line's file has six bytes
pub finer_files : files_of finer ≡ Some (record { line = 5 ∷ 0 ∷ 2 ∷ 0 ∷ 2 ∷ 0 ∷ []; circuits = [] })
unfolding finer files_of files_by header_bytes file_of line_bytes entry_of read too_long header_from header_in circuits_from circuit_in idle_line word_number word_past numeral_in word_from word_to line_end spelt is_space is_digit seek
finer_files = refl

-- no grid is named: `5 2`
unfoldable pub bare : List ℕ
bare = 53 ∷ 32 ∷ 50 ∷ 10 ∷ []

-- so its line's file has four bytes
pub bare_files : files_of bare ≡ Some (record { line = 5 ∷ 0 ∷ 2 ∷ 0 ∷ []; circuits = [] })
unfolding bare files_of files_by header_bytes file_of line_bytes entry_of read too_long header_from header_in circuits_from circuit_in idle_line word_number word_past numeral_in word_from word_to line_end spelt is_space is_digit seek
bare_files = refl

-- a grid that is no number: `5 2 x`
unfoldable pub gridless : List ℕ
gridless = 53 ∷ 32 ∷ 50 ∷ 32 ∷ 120 ∷ 10 ∷ []

-- `n w` or `n w grid` was expected in line 1
pub gridless_wrong : entry_of gridless 9 ≡ wrong 1 HeaderLine
unfolding gridless entry_of read too_long header_from header_in circuits_from circuit_in idle_line word_number word_past numeral_in word_from word_to line_end spelt is_space is_digit seek
gridless_wrong = refl

-- a word is no number
pub gridless_fault : fault_at gridless 1 1 ≡ NoNumber
unfolding gridless entry_of read too_long header_from header_in circuits_from circuit_in idle_line word_number word_past numeral_in word_from word_to line_end spelt is_space is_digit seek fault_at line_fault fault_from word_fault is_sign is_mark digits_to line_start after_lines next_line
gridless_fault = refl

-- a fourth number: `5 2 1 7`
unfoldable pub wide : List ℕ
wide = 53 ∷ 32 ∷ 50 ∷ 32 ∷ 49 ∷ 32 ∷ 55 ∷ 10 ∷ []

-- `n w` or `n w grid` was expected in line 1
pub wide_wrong : entry_of wide 9 ≡ wrong 1 HeaderLine
unfolding wide entry_of read too_long header_from header_in circuits_from circuit_in idle_line word_number word_past numeral_in word_from word_to line_end spelt is_space is_digit seek
wide_wrong = refl

-- a word is too many
pub wide_fault : fault_at wide 1 1 ≡ WordTooMany
unfolding wide entry_of read too_long header_from header_in circuits_from circuit_in idle_line word_number word_past numeral_in word_from word_to line_end spelt is_space is_digit seek fault_at line_fault fault_from word_fault is_sign is_mark digits_to line_start after_lines next_line
wide_fault = refl
