-- The two files of a text. What a reader must believe.
-- Assumes nothing.
use Rattle.std.specs.Prelude.{ℕ, ◌≤◌, Bool, true, false, List, ◌≡◌, length, take, Option, None, Some, Result, Ok, Err}
use Rattle.records.specs.LineFiles.{line_bytes}
use Rattle.records.specs.Records.{file_of}
use Rattle.records.specs.declared.Circuit.{Circuit}
use Rattle.entry_text.specs.declared.Header.{Header}
use Rattle.entry_text.specs.declared.Entry.{Entry}
use Rattle.entry_text.specs.declared.Files.{Files}
use Rattle.entry_text.specs.declared.Made.{Made}
use Rattle.entry_text.specs.declared.Wrong.{Wrong}
use Rattle.entry_text.specs.Entries.{read}
use Rattle.entry_text.specs.Entered.{entry_of}
use Rattle.entry_text.specs.Messages.{message_of}

-- the grid, which is 1 where it is not named
abbrev pub grid_of : Option ℕ → ℕ
grid_of None = 1
grid_of (Some grid) = grid

-- whether it is named
abbrev pub is_named : Option ℕ → Bool
is_named None = false
is_named (Some grid) = true

-- the bytes of line.rec
unfoldable pub header_bytes : Header → List ℕ
header_bytes h = line_bytes h.n h.w (grid_of h.grid) (is_named h.grid)

-- the bytes of line.rec and of circuits.rec
pub record Pair : Type 0 where
  pub line : List ℕ
  pub circuits : List ℕ

-- the files of an entry, none of a text that is wrong
unfoldable pub files_by : Result Entry Wrong → List Circuit → Option Pair
files_by (Ok e) cs = Some (record { line = header_bytes e.header; circuits = file_of cs })
files_by (Err w) cs = None

-- the files of a text, of at most the 2,048 circuits that the planner takes
unfoldable pub files_of : List ℕ → Option Pair
files_of s = files_by (entry_of s 2048) (read s 2048).circuits

-- the files of a text in two buffers, or that it has none
abbrev pub Filed : List ℕ → Option Files → List ℕ → List ℕ → Type 0
Filed s (Some f) line circuits =
    (files_of s ≡ Some (record { line = take f.line line; circuits = take f.circuits circuits })) × (f.line ≤ length line) × (f.circuits ≤ length circuits)
Filed s None line circuits = files_of s ≡ None

-- what was made of a text in three buffers: its files, or none, and what is said of it
abbrev pub MadeOf : List ℕ → Made → List ℕ → List ℕ → List ℕ → Type 0
MadeOf s made line circuits message =
    Filed s made.files line circuits × (take made.message message ≡ message_of s) × (made.message ≤ length message)
