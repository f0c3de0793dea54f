-- What is printed for a text that a person typed. What a reader must believe.
-- Assumes nothing.
use Rattle.std.specs.Prelude.{ℕ, ◌/◌, List, [], ◌++◌, length, Option, Some, None, Result, Ok, Err}
use Rattle.records.specs.Records.{file_of}
use Rattle.records.specs.declared.Line.{Line}
use Rattle.refusals.specs.Refusals.{refusal_in, if_refused}
use Rattle.refusals.specs.Table.{verdict, circuit_rows}
use Rattle.refusals.specs.declared.Refusal.{Refusal}
use Rattle.refusals.specs.declared.Reason.{Reason}
use Rattle.refusals.specs.declared.Reason.TheVariants.{PartRecord, TooManyCircuits, Links, Wavelengths, NumberZero, WrongEnd, NumberTwice, FibreRoom, AssignmentRoom, WorkRoom, Unread, Grid, UnfitPlan, NumberTaken, IndexRoom, PartList, UnfitFibres, SheetRoom, ReportRoom}
use Rattle.refusals.specs.declared.End.{End}
use Rattle.refusals.specs.declared.End.TheVariants.{FirstZero, FirstPastLast, LastPastLine}
use Rattle.grid.specs.Frequencies.{limit_of}
use Rattle.text.specs.Decimals.{decimal}
use Rattle.text.specs.Words.{words}
use Rattle.entry_text.specs.Entered.{entry_of}
use Rattle.entry_text.specs.Entries.{read}
use Rattle.entry_text.specs.Lines.{line_of_record}
use Rattle.entry_text.specs.Messages.{line_words, message_by}
use Rattle.entry_text.specs.declared.Entry.{Entry}
use Rattle.entry_text.specs.declared.Wrong.{Wrong}
use Rattle.entry_text.specs.Pair.{grid_of}
use Rattle.prints.specs.Sheets.{sheet_of}

-- which end is wrong, in words
unfoldable pub end_words : Option End → List ℕ
end_words (Some FirstZero) = words "first link 0\n"
end_words (Some FirstPastLast) = words "first link past the last\n"
end_words (Some LastPastLine) = words "last link past the line\n"
end_words None = words "last link past the line\n"

-- a refusal on a grid in words, by its reason and end; those that no text gets have none
unfoldable pub refusal_words : ℕ → Reason → Option End → List ℕ
refusal_words grid Links end = words "not 1 to 512 links\n"
refusal_words grid Wavelengths end = words "not 1 to " ++ decimal (limit_of grid) ++ words " wavelengths\n"
refusal_words grid NumberZero end = words "circuit number 0\n"
refusal_words grid WrongEnd end = end_words end
refusal_words grid NumberTwice end = words "a circuit number that stands twice\n"
refusal_words grid Grid end = words "a grid that is neither 1 nor 2\n"
refusal_words grid PartRecord end = words "\n"
refusal_words grid TooManyCircuits end = words "\n"
refusal_words grid FibreRoom end = words "\n"
refusal_words grid AssignmentRoom end = words "\n"
refusal_words grid WorkRoom end = words "\n"
refusal_words grid Unread end = words "\n"
refusal_words grid UnfitPlan end = words "\n"
refusal_words grid NumberTaken end = words "\n"
refusal_words grid IndexRoom end = words "\n"
refusal_words grid PartList end = words "\n"
refusal_words grid UnfitFibres end = words "\n"
refusal_words grid SheetRoom end = words "\n"
refusal_words grid ReportRoom end = words "\n"

-- after the line of a refusal: the line of the text where it stands, which is the header's for place 0, and the refusal in words
abbrev pub explained : List ℕ → Line → Result ℕ Refusal → List ℕ
explained text line v = if_refused (refusal_in v) (λ r. line_words (line_of_record text r.place) ++ refusal_words line.grid r.reason r.end) []

-- the sheet of circuit bytes s on a line, or its refusal with the line of the text
unfoldable pub typed_sheet : List ℕ → Line → List ℕ → List ℕ
typed_sheet text line s = sheet_of line s ++ explained text line (verdict (circuit_rows line s) (length s / 8))

-- by what was entered: what is wrong with the text, or the sheet of its circuits
abbrev pub typed_by : List ℕ → Result Entry Wrong → List ℕ
typed_by text (Err wrong) = message_by text (Err wrong)
typed_by text (Ok e) = typed_sheet text (record { links = e.header.n; wavelengths = e.header.w; grid = grid_of e.header.grid }) (file_of (read text 2048).circuits)

-- what is printed for a text of at most the 2,048 circuits that the planner takes
unfoldable pub typed_text : List ℕ → List ℕ
typed_text text = typed_by text (entry_of text 2048)

-- what is said where standard input cannot be read
abbrev pub no_input : List ℕ
no_input = words "standard input cannot be read\n"

-- what is printed: none where standard input cannot be read, else the text
unfoldable pub typed : Option (List ℕ) → List ℕ
typed None = no_input
typed (Some text) = typed_text text
