-- What a text of circuits says. What a reader must believe.
-- The first line that counts is `n w` or `n w grid`; each further line that counts is `number first last`. Blank lines and lines that begin with # do not count.
-- Assumes nothing.
use Rattle.std.specs.Prelude.{ℕ, zero, suc, ◌+◌, ◌-◌, ◌*◌, Bool, true, false, not, ◌&&◌, ◌||◌, cond, List, [], ◌∷◌, length, get_or, leb, ltb, eqb, Option, None, Some, Result, Ok, Err}
use Rattle.basics.specs.Tools.{seek}
use Rattle.records.specs.declared.Circuit.{Circuit}
use Rattle.entry_text.specs.declared.Header.{Header}
use Rattle.entry_text.specs.declared.Expected.TheVariants.{HeaderLine, CircuitLine, NoMoreCircuits, ShorterText}
use Rattle.entry_text.specs.declared.Wrong.{Wrong}
use Rattle.entry_text.specs.declared.lines.Opening.{Opening}

-- byte x of the text
abbrev pub byte : List ℕ → ℕ → ℕ
byte s x = get_or s x 0

-- a space, a tab or a carriage return stands between words
unfoldable pub is_space : ℕ → Bool
is_space b = eqb b 32 || eqb b 9 || eqb b 13

-- the digits 0 to 9
unfoldable pub is_digit : ℕ → Bool
is_digit b = leb 48 b && leb b 57

-- where the line that starts at i ends: at its newline, or at the end of the text
unfoldable pub line_end : List ℕ → ℕ → ℕ
line_end s i = seek (λ x. eqb (byte s x) 10) i (length s - i)

-- where the first word from i on begins, or e if there is none before e
unfoldable pub word_from : List ℕ → ℕ → ℕ → ℕ
word_from s i e = seek (λ x. not (is_space (byte s x))) i (e - i)

-- where the word that begins at i ends
unfoldable pub word_to : List ℕ → ℕ → ℕ → ℕ
word_to s i e = seek (λ x. is_space (byte s x)) i (e - i)

-- the number that k bytes from i on spell, after v; none if one of them is no digit
unfoldable pub spelt : List ℕ → ℕ → ℕ → ℕ → Option ℕ
spelt s i zero v = Some v
spelt s i (suc k) v = cond (is_digit (byte s i)) (spelt s (suc i) k (10 * v + (byte s i - 48))) None

-- a number below the limit
abbrev pub below : ℕ → Option ℕ → Option ℕ
below limit None = None
below limit (Some v) = cond (ltb v limit) (Some v) None

-- the number from i to e: at least one digit, digits only, below the limit
unfoldable pub numeral_in : List ℕ → ℕ → ℕ → ℕ → Option ℕ
numeral_in s i e limit = cond (ltb i e) (below limit (spelt s i (e - i) 0)) None

-- the word that begins first from i on, before e, as a number below the limit
unfoldable pub word_number : List ℕ → ℕ → ℕ → ℕ → Option ℕ
word_number s i e limit = numeral_in s (word_from s i e) (word_to s (word_from s i e) e) limit

-- where that word ends
unfoldable pub word_past : List ℕ → ℕ → ℕ → ℕ
word_past s i e = word_to s (word_from s i e) e

-- a line from i to e does not count: it has no word, or begins with #
unfoldable pub idle_line : List ℕ → ℕ → ℕ → Bool
idle_line s i e = leb e (word_from s i e) || eqb (byte s (word_from s i e)) 35

-- n and w with nothing after them, or n, w and a grid with nothing after them
abbrev pub header : Option ℕ → Option ℕ → Bool → Option ℕ → Bool → Option Header
header (Some n) (Some w) true grid whole = Some (record { n = n; w = w; grid = None })
header (Some n) (Some w) false (Some grid) true = Some (record { n = n; w = w; grid = Some grid })
header (Some n) (Some w) false (Some grid) false = None
header (Some n) (Some w) false None whole = None
header (Some n) None short grid whole = None
header None w short grid whole = None

-- the line from i to e says just two or three numbers of two bytes
unfoldable pub header_in : List ℕ → ℕ → ℕ → Option Header
header_in s i e =
    header (word_number s i e 65536) (word_number s (word_past s i e) e 65536) (leb e (word_from s (word_past s (word_past s i e) e) e))
    (word_number s (word_past s (word_past s i e) e) e 65536) (leb e (word_from s (word_past s (word_past s (word_past s i e) e) e) e))

-- a circuit, if its three numbers are there
abbrev pub circuit_of3 : Option ℕ → Option ℕ → Option ℕ → Bool → Option Circuit
circuit_of3 (Some number) (Some first) (Some last) true = Some (record { number = number; first = first; last = last })
circuit_of3 (Some number) (Some first) (Some last) false = None
circuit_of3 (Some number) (Some first) None b = None
circuit_of3 (Some number) None last b = None
circuit_of3 None first last b = None

-- the line from i to e says just three numbers: of four bytes, of two and of two
unfoldable pub circuit_in : List ℕ → ℕ → ℕ → Option Circuit
circuit_in s i e =
    circuit_of3 (word_number s i e 4294967296) (word_number s (word_past s i e) e 65536) (word_number s (word_past s (word_past s i e) e) e 65536)
    (leb e (word_from s (word_past s (word_past s (word_past s i e) e) e) e))

-- the circuits that were read, and where reading stopped if it did
pub record Reading : Type 0 where
  pub circuits : List Circuit
  pub stopped : Option Wrong

-- one circuit more at the front
abbrev pub after : Circuit → Reading → Reading
after c r = record { circuits = c ∷ r.circuits; stopped = r.stopped }

-- what the line numbered l says: a circuit, for which there must be room, and then the rest
abbrev pub circuit_then : ℕ → ℕ → Option Circuit → Reading → Reading
circuit_then l room None rest = record { circuits = []; stopped = Some (record { line = l; expected = CircuitLine }) }
circuit_then l zero (Some c) rest = record { circuits = []; stopped = Some (record { line = l; expected = NoMoreCircuits }) }
circuit_then l (suc room) (Some c) rest = after c rest

-- at most f lines from place i on, of which the first is numbered l, with room for so many circuits
unfoldable pub circuits_from : ℕ → List ℕ → ℕ → ℕ → ℕ → Reading
circuits_from zero s i l room = record { circuits = []; stopped = None }
circuits_from (suc f) s i l room =
    cond
    (leb (length s) i)
    (record { circuits = []; stopped = None })
    (cond
    (idle_line s i (line_end s i))
    (circuits_from f s (suc (line_end s i)) (suc l) room)
    (circuit_then l room (circuit_in s i (line_end s i)) (circuits_from f s (suc (line_end s i)) (suc l) (room - 1))))

-- a header, where the next line starts and its number
abbrev pub headed : Header → ℕ → ℕ → Result Opening Wrong
headed h i l = Ok (record { header = h; next = i; line = l })

-- no header: the line that should have been it
abbrev pub headless : ℕ → Result Opening Wrong
headless l = Err (record { line = l; expected = HeaderLine })

-- what the line numbered l says, if it is the header: the next line starts at i
abbrev pub found_by : ℕ → ℕ → Option Header → Result Opening Wrong
found_by i l None = headless l
found_by i l (Some h) = headed h i (suc l)

-- the first line that counts, of at most f lines from place i on
unfoldable pub header_from : ℕ → List ℕ → ℕ → ℕ → Result Opening Wrong
header_from zero s i l = headless l
header_from (suc f) s i l =
    cond
    (leb (length s) i)
    (headless l)
    (cond (idle_line s i (line_end s i)) (header_from f s (suc (line_end s i)) (suc l)) (found_by (suc (line_end s i)) l (header_in s i (line_end s i))))

-- the circuits after the header, with room for so many
abbrev pub read_by : List ℕ → ℕ → Result Opening Wrong → Reading
read_by s room (Err wrong) = record { circuits = []; stopped = Some wrong }
read_by s room (Ok o) = circuits_from (suc (length s)) s o.next o.line room

-- a text of more than 1,048,576 bytes is not read
unfoldable pub too_long : List ℕ → Bool
too_long s = ltb 1048576 (length s)

-- all that the text says
unfoldable pub read : List ℕ → ℕ → Reading
read s room =
    cond (too_long s) (record { circuits = []; stopped = Some (record { line = 0; expected = ShorterText }) }) (read_by s room (header_from (suc (length s)) s 0 1))
