-- What `enter` answers. What a reader must believe.
-- Assumes nothing.
use Rattle.std.specs.Prelude.{ℕ, suc, ◌*◌, cond, List, ◌++◌, ◌≡◌, length, drop, Option, None, Some, Result, Ok, Err}
use Rattle.records.specs.Records.{file_of}
use Rattle.entry_text.specs.declared.Header.{Header}
use Rattle.entry_text.specs.declared.Entry.{Entry}
use Rattle.entry_text.specs.declared.Expected.{Expected}
use Rattle.entry_text.specs.declared.Expected.TheVariants.{ShorterText}
use Rattle.entry_text.specs.declared.Wrong.{Wrong}
use Rattle.entry_text.specs.declared.lines.Opening.{Opening}
use Rattle.entry_text.specs.Entries.{header_from, too_long, read}

-- a header and so many circuits
abbrev pub entered : Header → ℕ → Result Entry Wrong
entered h many = Ok (record { header = h; circuits = many })

-- a line that is wrong, and what was expected there
abbrev pub wrong : ℕ → Expected → Result Entry Wrong
wrong l expected = Err (record { line = l; expected = expected })

-- the header and how many circuits, or the line that is wrong and what was expected there
abbrev pub entry_by : Result Opening Wrong → ℕ → Option Wrong → Result Entry Wrong
entry_by (Err w) many stopped = Err w
entry_by (Ok o) many None = entered o.header many
entry_by (Ok o) many (Some w) = Err w

-- the answer for a text, with room for so many circuits
unfoldable pub entry_of : List ℕ → ℕ → Result Entry Wrong
entry_of s room =
    cond (too_long s) (wrong 0 ShorterText) (entry_by (header_from (suc (length s)) s 0 1) (length (read s room).circuits) (read s room).stopped)

-- an answer for a text, and an output with the records of the circuits that were read at its start and all else as it was before
abbrev pub Enters : List ℕ → ℕ → List ℕ → Result Entry Wrong → List ℕ → Type 0
Enters s room before answer after =
    (answer ≡ entry_of s room) × (after ≡ file_of (read s room).circuits ++ drop (8 * length (read s room).circuits) before)
