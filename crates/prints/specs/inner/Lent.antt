-- What a program that plans lends, and what it finds in the lists.
-- Assumes nothing.
use Rattle.std.specs.Prelude.{ℕ, ◌+◌, ◌*◌, ◌/◌, ◌%◌, ◌≤◌, ◌&&◌, cond, List, ◌++◌, ◌≡◌, eqb, length, drop, take, Option, Some, None, Ok, Err}
use Rattle.planner.specs.Outcome.{Answer}
use Rattle.sheet_text.specs.Text.{sheet_text, refusal_line}
use Rattle.text.specs.Wrote.{Wrote}
use Rattle.adder.specs.Additions.{Files}
use Rattle.adder.specs.declared.Named.{Named}
use Rattle.prints.specs.declared.adding.Grown.{Grown}
use Rattle.prints.specs.declared.adding.Lengths.{Lengths}

-- the text of an answer on a grid, with m circuits and the two lists as the planner left them
abbrev pub answer_text : ℕ → Answer → ℕ → List ℕ → List ℕ → List ℕ
answer_text grid (Ok counts) m fibres assigns = sheet_text grid counts.fibres m fibres assigns counts.total counts.floor
answer_text grid (Err r) m fibres assigns = refusal_line r

-- the lists hold what a planned answer counts, which is no more than the limits allow, and the text has room
abbrev pub Held : Answer → ℕ → List ℕ → List ℕ → ℕ → Type 0
Held (Ok counts) m fibres assigns room =
    (8 * counts.fibres ≤ length fibres) × (8 * m ≤ length assigns) × (counts.fibres ≤ 4096) × (m ≤ 2048) × (32 * counts.fibres + 40 * m + 80 ≤ room)
Held (Err r) m fibres assigns room = 80 ≤ room

-- areas that hold the plan of any accepted file
pub record Ample (fibres assigns work : List ℕ) : Type 0 where
  pub fibres_ample : 16384 ≤ length fibres
  pub assigns_ample : 16384 ≤ length assigns
  pub work_ample : 10240 ≤ length work

-- how many records lists of f and a bytes have; where one isn't whole records, more fibres than an addition takes
unfoldable pub records_read : ℕ → ℕ → Named
records_read f a = cond (eqb (f % 8) 0 && eqb (a % 8) 0) (record { fibres = f / 8; assignments = a / 8 }) (record { fibres = 2049; assignments = 0 })

-- lists that begin with f and a bytes that were read, with room for an addition behind them
pub record Growable (f a : ℕ) (fibres assigns : List ℕ) : Type 0 where
  pub fibres_behind : f + 16384 ≤ length fibres
  pub fibres_ample : 32776 ≤ length fibres
  pub assigns_behind : a + 16384 ≤ length assigns

-- the old plan: circuit bytes s, and those bytes
abbrev pub old_read : List ℕ → ℕ → List ℕ → ℕ → List ℕ → Files
old_read s f fibres a assigns = record { circuits = s; fibres = take f fibres; assigns = take a assigns }

-- the lists of an addition stand at the start of two buffers, and the circuits are counted, which are not too many; or no file is kept; all else is as it was
abbrev pub ListsLaid : Option Files → Option Lengths → List ℕ → List ℕ → List ℕ → List ℕ → Type 0
ListsLaid None None fibres₀ fibres assigns₀ assigns = (fibres ≡ fibres₀) × (assigns ≡ assigns₀)
ListsLaid None (Some long) fibres₀ fibres assigns₀ assigns = ⊥
ListsLaid (Some files) None fibres₀ fibres assigns₀ assigns = ⊥
ListsLaid (Some files) (Some long) fibres₀ fibres assigns₀ assigns =
    (long.circuits ≡ length files.circuits) × (long.circuits ≤ 16384) × Wrote files.fibres long.fibres fibres₀ fibres × Wrote files.assigns long.assigns assigns₀ assigns

-- and the text stands at the start of a third
abbrev pub Laid : Option Files → List ℕ → Grown → List ℕ → List ℕ → List ℕ → List ℕ → List ℕ → List ℕ → Type 0
Laid files text grown fibres₀ fibres assigns₀ assigns out₀ out = ListsLaid files grown.files fibres₀ fibres assigns₀ assigns × Wrote text grown.text out₀ out

-- where files are kept, the circuit buffer has room for the new circuits behind its first c bytes
abbrev pub Appendable : Option Lengths → ℕ → List ℕ → List ℕ → Type 0
Appendable (Some long) c new before = c + length new ≤ length before
Appendable None c new before = Unit

-- and there they stand then; all else is as it was
abbrev pub Appended : Option Lengths → ℕ → List ℕ → List ℕ → List ℕ → Type 0
Appended (Some long) c new before after = after ≡ take c before ++ (new ++ drop (c + length new) before)
Appended None c new before after = after ≡ before
