-- Which lists the program `lists` keeps, from the two files of its folder. What it prints is `printed`, as of the sheet program. What a reader must believe.
-- Assumes nothing.
use Rattle.std.specs.Prelude.{ℕ, ◌/◌, ◌≡◌, List, length, take, Option, Some, None, Result}
use Rattle.records.specs.LineFiles.{line_in}
use Rattle.records.specs.Records.{circuits_of}
use Rattle.records.specs.declared.Line.{Line}
use Rattle.refusals.specs.Refusals.{refusal_in, if_refused}
use Rattle.refusals.specs.Table.{verdict, circuit_rows}
use Rattle.refusals.specs.declared.Refusal.{Refusal}
use Rattle.register.specs.Lists.{fibre_records, assignment_records}
use Rattle.planner.specs.Outcome.{plan_of}
use Rattle.text.specs.Wrote.{Wrote}
use Rattle.prints.specs.declared.keeping.Kept.{Kept}
use Rattle.prints.specs.declared.keeping.Lengths.{Lengths}

-- the bytes of `fibres.rec` and of `assign.rec`
pub record Lists : Type 0 where
  pub fibres : List ℕ
  pub assigns : List ℕ

-- the lists of the plan of circuit bytes s on a line
abbrev pub plan_lists : Line → List ℕ → Lists
plan_lists line s = record { fibres = fibre_records 0 (plan_of line s).fibres; assigns = assignment_records 0 (circuits_of s) (plan_of line s).assignments }

-- a refusal keeps no list
abbrev pub lists_by : Result ℕ Refusal → Lists → Option Lists
lists_by v lists = if_refused (refusal_in v) (λ r. None) (Some lists)

-- the lists for circuit bytes s on a line: tests 1 to 7 and 12, and then the plan
unfoldable pub lists_of : Line → List ℕ → Option Lists
lists_of line s = lists_by (verdict (circuit_rows line s) (length s / 8)) (plan_lists line s)

-- what `line.rec` says comes first, and then at most the first 16,392 bytes of `circuits.rec` count
abbrev pub kept_by : Option Line → List ℕ → Option Lists
kept_by None s = None
kept_by (Some line) s = lists_of line (take 16392 s)

-- which lists are kept, from `line.rec` and `circuits.rec`: none where the file cannot be read, else its bytes
unfoldable pub kept : Option (List ℕ) → Option (List ℕ) → Option Lists
kept None circuits = None
kept (Some line) None = None
kept (Some line) (Some circuits) = kept_by (line_in line) circuits

-- the lists stand at the start of two buffers, as long as is told, or none is kept; all else is as it was
abbrev pub Listed : Option Lists → Option Lengths → List ℕ → List ℕ → List ℕ → List ℕ → Type 0
Listed None None fibres₀ fibres assigns₀ assigns = (fibres ≡ fibres₀) × (assigns ≡ assigns₀)
Listed None (Some long) fibres₀ fibres assigns₀ assigns = ⊥
Listed (Some lists) None fibres₀ fibres assigns₀ assigns = ⊥
Listed (Some lists) (Some long) fibres₀ fibres assigns₀ assigns = Wrote lists.fibres long.fibres fibres₀ fibres × Wrote lists.assigns long.assigns assigns₀ assigns

-- the lists and the text stand at the start of three buffers, or the text alone does; all else is as it was
abbrev pub Keeps : Option Lists → List ℕ → Kept → List ℕ → List ℕ → List ℕ → List ℕ → List ℕ → List ℕ → Type 0
Keeps lists text kept fibres₀ fibres assigns₀ assigns out₀ out = Listed lists kept.lists fibres₀ fibres assigns₀ assigns × Wrote text kept.text out₀ out
