-- What the program `enter` makes of standard input. What a reader must believe.
-- Assumes nothing.
use Rattle.std.specs.Prelude.{ℕ, ◌≤◌, ◌≡◌, List, length, take, Option, Some, None}
use Rattle.entry_text.specs.Pair.{MadeOf}
use Rattle.entry_text.specs.declared.Made.{Made}
use Rattle.prints.specs.Typed.{no_input}

-- no file is made, and just this is said
abbrev pub SaysOnly : List ℕ → Made → List ℕ → Type 0
SaysOnly text made message = (made.files ≡ None) × (take made.message message ≡ text) × (made.message ≤ length message)

-- what was made in three buffers, from what was read: none where standard input cannot be read, else the text
abbrev pub MadeRead : Option (List ℕ) → Made → List ℕ → List ℕ → List ℕ → Type 0
MadeRead None made line circuits message = SaysOnly no_input made message
MadeRead (Some text) made line circuits message = MadeOf text made line circuits message
