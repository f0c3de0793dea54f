-- What the program `adds` prints, and which files it keeps, from the five files of its folder. What a reader must believe.
-- `proofs/AddingChecked.antt` shows `add_first_bytes` and `grown_first_bytes`, that what the program leaves unread of long files changes nothing,
-- and `grown_checked`, that the files which it keeps get a yes, with the length and the floor that it prints.
-- Assumes nothing.
use Rattle.std.specs.Prelude.{ℕ, ◌+◌, ◌/◌, ◌%◌, ◌≡◌, ◌≤◌, Bool, not, ◌||◌, List, [], ◌∷◌, ◌++◌, eqb, length, drop, take, Option, Some, None, Result, IfSome}
use Rattle.records.specs.LineFiles.{line_in}
use Rattle.records.specs.Records.{circuits_of}
use Rattle.records.specs.declared.Line.{Line}
use Rattle.method.specs.Line.{Plan}
use Rattle.refusals.specs.Refusals.{refusal_in, if_refused}
use Rattle.refusals.specs.Table.{Row, line_rows, verdict, whenever}
use Rattle.refusals.specs.declared.Refusal.{Refusal}
use Rattle.refusals.specs.declared.Reason.TheVariants.{UnfitPlan}
use Rattle.register.specs.Lists.{fibre_records, assignment_records}
use Rattle.register.specs.declared.Counts.{Counts}
use Rattle.two_files.specs.Rows.{row14, two_file_rows, two_record_rows}
use Rattle.additions.specs.Adding.{add, add_counts}
use Rattle.adder.specs.Table.{unfit}
use Rattle.adder.specs.Additions.{Files, named_in, plan_of_files}
use Rattle.sheet_text.specs.Text.{sheet_text, yes_line}
use Rattle.text.specs.Wrote.{Wrote}
use Rattle.files.specs.declared.Start.{Start}
use Rattle.prints.specs.Checks.{check_printed}
use Rattle.prints.specs.Reads.{Into}
use Rattle.prints.specs.Sheets.{text_by, unread}
use Rattle.prints.specs.declared.adding.Grown.{Grown}
use Rattle.prints.specs.declared.adding.Lengths.{Lengths}

-- REFUSALS. The two lists are no plan to which circuits are added: one isn't whole records, or the plan that they hold is unfit
unfoldable pub no_plan : Line → Files → Bool
no_plan line old = not (eqb (length old.fibres % 8) 0) || (not (eqb (length old.assigns % 8) 0) || unfit line old.circuits (named_in old) old.fibres old.assigns)

-- the tests of both circuit files and of the line: 1 to 7 and 12
unfoldable pub both_rows : Line → List ℕ → List ℕ → List Row
both_rows line old new = two_file_rows old new ++ (line_rows line ++ two_record_rows line.links (length old / 8) (length new / 8) old new)

-- and then 13 and 14; 8, 9 and 10 never come, since the program lends enough
unfoldable pub folder_rows : Line → Files → List ℕ → List Row
folder_rows line old new = both_rows line old.circuits new ++ (whenever UnfitPlan (no_plan line old) ∷ row14 old.circuits (length old.circuits / 8) new (length new / 8) ∷ [])

-- the verdict on the files of a plan and new circuit bytes
unfoldable pub folder_verdict : Line → Files → List ℕ → Result ℕ Refusal
folder_verdict line old new = verdict (folder_rows line old new) (length old.circuits / 8 + length new / 8)

-- THE GROWN PLAN, with the new circuits added
abbrev pub grown_plan : Line → Files → List ℕ → Plan
grown_plan line old new = add line.links line.wavelengths (circuits_of old.circuits) (plan_of_files old) (circuits_of new)

-- its three numbers
abbrev pub grown_numbers : Line → Files → List ℕ → Counts
grown_numbers line old new = add_counts line.links line.wavelengths (circuits_of old.circuits) (plan_of_files old) (circuits_of new)

-- its three files: behind the old records, of which no byte changes, the new circuits, the fibres that are new, and the new circuits' assignments
abbrev pub grown_files : Line → Files → List ℕ → Files
grown_files line old new = record {
  circuits = old.circuits ++ new;
  fibres = old.fibres ++ fibre_records (length old.fibres / 8) (drop (length old.fibres / 8) (grown_plan line old new).fibres);
  assigns = old.assigns ++ assignment_records 0 (circuits_of new) (drop (length old.assigns / 8) (grown_plan line old new).assignments);
}

-- the sheet of a plan's files on a grid, with its numbers
unfoldable pub files_text : ℕ → Files → Counts → List ℕ
files_text grid kept counts = sheet_text grid (length kept.fibres / 8) (length kept.assigns / 8) kept.fibres kept.assigns counts.total counts.floor

-- WHAT IS KEPT AND PRINTED. A refusal keeps no file
abbrev pub files_by : Result ℕ Refusal → Files → Option Files
files_by v files = if_refused (refusal_in v) (λ r. None) (Some files)

-- the files that are kept, for the files of a plan and new circuit bytes on a line
unfoldable pub grown_of : Line → Files → List ℕ → Option Files
grown_of line old new = files_by (folder_verdict line old new) (grown_files line old new)

-- the text for them: the sheet of the whole plan, or the one line of the refusal
unfoldable pub grown_text : Line → Files → List ℕ → List ℕ
grown_text line old new = text_by (folder_verdict line old new) (files_text line.grid (grown_files line old new) (grown_numbers line old new))

-- FROM FILES. The bytes of the five files of a folder
pub record Folder : Type 0 where
  pub line : List ℕ
  pub circuits : List ℕ
  pub new : List ℕ
  pub fibres : List ℕ
  pub assigns : List ℕ

-- `line.rec`, `circuits.rec`, `new.rec`, `fibres.rec` and `assign.rec`: none where the file cannot be read, else its bytes; they are a folder where each can be read
unfoldable pub all_read : Option (List ℕ) → Option (List ℕ) → Option (List ℕ) → Option (List ℕ) → Option (List ℕ) → Option Folder
all_read None circuits new fibres assigns = None
all_read (Some line) None new fibres assigns = None
all_read (Some line) (Some circuits) None fibres assigns = None
all_read (Some line) (Some circuits) (Some new) None assigns = None
all_read (Some line) (Some circuits) (Some new) (Some fibres) None = None
all_read (Some line) (Some circuits) (Some new) (Some fibres) (Some assigns) = Some (record { line = line; circuits = circuits; new = new; fibres = fibres; assigns = assigns })

-- the old plan of a folder: at most the first 16,392 bytes of `circuits.rec` count, as for the sheet
abbrev pub old_in : Folder → Files
old_in given = record { circuits = take 16392 given.circuits; fibres = given.fibres; assigns = given.assigns }

-- and as many of `new.rec`
abbrev pub new_in : Folder → List ℕ
new_in given = take 16392 given.new

-- which files are kept, by what `line.rec` says
abbrev pub grown_by : Option Line → Folder → Option Files
grown_by None given = None
grown_by (Some line) given = grown_of line (old_in given) (new_in given)

-- what is printed, by what `line.rec` says
abbrev pub grown_text_by : Option Line → Folder → List ℕ
grown_text_by None given = unread
grown_text_by (Some line) given = grown_text line (old_in given) (new_in given)

-- which files are kept: none where one cannot be read
unfoldable pub grown : Option Folder → Option Files
grown None = None
grown (Some given) = grown_by (line_in given.line) given

-- what is printed; 11 comes before all others
unfoldable pub add_printed : Option Folder → List ℕ
add_printed None = unread
add_printed (Some given) = grown_text_by (line_in given.line) given

-- IN BUFFERS. The files stand at the start of three buffers, as long as is told, or none is kept; all else is as it was
abbrev pub Filed : Option Files → Option Lengths → List ℕ → List ℕ → List ℕ → List ℕ → List ℕ → List ℕ → Type 0
Filed None None circuits₀ circuits fibres₀ fibres assigns₀ assigns = (circuits ≡ circuits₀) × (fibres ≡ fibres₀) × (assigns ≡ assigns₀)
Filed None (Some long) circuits₀ circuits fibres₀ fibres assigns₀ assigns = ⊥
Filed (Some files) None circuits₀ circuits fibres₀ fibres assigns₀ assigns = ⊥
Filed (Some files) (Some long) circuits₀ circuits fibres₀ fibres assigns₀ assigns =
    Wrote files.circuits long.circuits circuits₀ circuits × Wrote files.fibres long.fibres fibres₀ fibres × Wrote files.assigns long.assigns assigns₀ assigns

-- the files and the text stand at the start of four buffers, or the text alone does; all else is as it was
abbrev pub Grows : Option Files → List ℕ → Grown → List ℕ → List ℕ → List ℕ → List ℕ → List ℕ → List ℕ → List ℕ → List ℕ → Type 0
Grows files text grown circuits₀ circuits fibres₀ fibres assigns₀ assigns out₀ out =
    Filed files grown.files circuits₀ circuits fibres₀ fibres assigns₀ assigns × Wrote text grown.text out₀ out

-- what the program read: at most 16,392 bytes of `circuits.rec` and of `new.rec`, which are all that count, and as many at the start of each list, which has room for more
pub record AddRead (circuits : Option ℕ) (new : Option (List ℕ)) (fibres assigns : Option ℕ) (circuitBuffer fibreBuffer assignBuffer : List ℕ) : Type 0 where
  pub circuits_read : IfSome circuits (λ k. k ≤ 16392)
  pub circuits_long : length circuitBuffer ≡ 16392
  pub new_read : IfSome new (λ s. length s ≤ 16392)
  pub fibres_read : IfSome fibres (λ k. k ≤ 16392)
  pub fibres_long : length fibreBuffer ≡ 32776
  pub assigns_read : IfSome assigns (λ k. k ≤ 16392)
  pub assigns_long : length assignBuffer ≡ 32776

-- the same with the buffers of `line.rec` and `new.rec`: two files as the sheet program reads them, as many bytes of `new.rec`, and as many at the start of each list, which has room for more
pub record AddStarts (line : Option Start) (circuits : Option ℕ) (new : Option Start) (fibres assigns : Option ℕ) (circuitBuffer fibreBuffer assignBuffer : List ℕ) : Type 0 where
  pub line_read : Into 7 line
  pub circuits_read : IfSome circuits (λ k. k ≤ 16392)
  pub circuits_long : length circuitBuffer ≡ 16392
  pub new_read : Into 16392 new
  pub fibres_read : IfSome fibres (λ k. k ≤ 16392)
  pub fibres_long : length fibreBuffer ≡ 32776
  pub assigns_read : IfSome assigns (λ k. k ≤ 16392)
  pub assigns_long : length assignBuffer ≡ 32776

-- AND CHECKED. `line.rec` is a line; what was printed is the sheet of the files that are kept, with these numbers; and the check program says yes to them, with this length and floor
pub record GrownYes (given : Folder) (kept : Files) : Type 0 where
  pub said : Line
  pub is_line : line_in given.line ≡ Some said
  pub numbers : Counts
  pub printed : add_printed (Some given) ≡ files_text said.grid kept numbers
  pub yes : check_printed (Some given.line) (Some kept.circuits) (Some kept.fibres) (Some kept.assigns) ≡ yes_line numbers.total numbers.floor
