-- What was read of a file, in a buffer. What a reader must believe.
-- Assumes nothing.
use Rattle.std.specs.Prelude.{ℕ, ◌≤◌, List, length, take, Option, Some, None, IfSome}
use Rattle.files.specs.Starts.{bytes_read, ReadInto}
use Rattle.files.specs.declared.Start.{Start}

-- the bytes that were read, or nothing could be read
abbrev pub start_read : Option Start → Option (List ℕ)
start_read (Some s) = Some (bytes_read s)
start_read None = None

-- the same of a buffer that is written later: the bytes that were read stand at its start
abbrev pub file_read : Option ℕ → List ℕ → Option (List ℕ)
file_read (Some k) buffer = Some (take k buffer)
file_read None buffer = None

-- what was read stands in a buffer of so many bytes
abbrev pub Into : ℕ → Option Start → Type 0
Into room got = IfSome got (ReadInto room)

-- what the sheet program read: a seventh byte of `line.rec` would tell that it is too long, and 16,392 bytes of `circuits.rec` are all that count
pub record SheetRead (line circuits : Option Start) : Type 0 where
  pub line_read : Into 7 line
  pub circuits_read : Into 16392 circuits

-- what a program that takes a text read: a byte more than the longest text would tell that it is too long
abbrev pub TextRead : Option Start → Type 0
TextRead got = Into 1048577 got

-- at most so many bytes
abbrev pub AtMost : ℕ → Option (List ℕ) → Type 0
AtMost most read = IfSome read (λ s. length s ≤ most)
