-- Request R-1 in bytes: a plan whose assignments stand in their list loses its dark fibres and links. A contract between crates.
-- Assumes nothing.
use Rattle.std.specs.Prelude.{ℕ, ◌+◌, ◌*◌, ◌/◌, ◌≤◌, ◌<◌, ◌≡◌, List, length, get_or}
use Rattle.records.specs.Area.{rows_in}
use Rattle.records.specs.Bytes.{cells_of}
use Rattle.records.specs.Records.{circuits_in, record_at}
use Rattle.records.specs.declared.Circuit.{Circuit}
use Rattle.method.specs.Fibres.{layer_of}
use Rattle.method.specs.Line.{Lies, Plan, assigned, circuit, fibre_under, total}
use Rattle.method.specs.Lit.{fibre_number, trimmed}
use Rattle.register.specs.Areas.{Areas}
use Rattle.register.specs.Lists.{assignment_list, assignment_record, fibre_list}
use Rattle.lit.specs.declared.Trimmed.{Trimmed}

-- plan p of `many` fibres is held for m circuits: its assignments stand in their list, and in the rows' part of the work area stands, for each circuit, twice
-- a row of the layer of its fibre, or 1 more
pub record Held (n w m many : ℕ) (cs : List Circuit) (p : Plan) (work assigns : List ℕ) : Type 0 where
  pub fibres : length p.fibres ≡ many
  pub records : (j : ℕ) → j < m → record_at assigns j ≡ assignment_record 0 (circuit cs j) (assigned p j)
  pub numbered : (j : ℕ) → j < m → (1 ≤ fibre_number p j) × (fibre_number p j ≤ many)
  pub rows : (j : ℕ) → j < m → 2 ≤ get_or (rows_in n m (cells_of work)) j 0
  pub layers : (j : ℕ) → j < m → layer_of w (get_or (rows_in n m (cells_of work)) j 0 / 2) ≡ (fibre_under p j).layer

-- m circuits on the line, and some plan of at most 4,096 fibres that is held; room for a fibre and an assignment for each circuit; and fibre numbers of two bytes
pub record Trimmable (n w m from many : ℕ) (s : List ℕ) (lent : Areas) : Type 0 where
  pub line : n ≤ 512
  pub waves : 1 ≤ w
  pub few : m ≤ 2048
  pub file : 8 * m ≤ length s
  pub lies : Lies n (circuits_in m s)
  pub area : 4 * n + 2 * m ≤ length lent.work
  pub fibre_room : 8 * m ≤ length lent.fibres
  pub assign_room : 8 * m ≤ length lent.assigns
  pub number_room : from + m ≤ 65535
  pub fibres_few : many ≤ 4096
  pub plan : Plan
  pub held : Held n w m many (circuits_in m s) plan lent.work lent.assigns

-- the lists hold plan p of circuits cs without its dark fibres and links, numbered after `from`, and the answer is how many fibres it has, and their length
pub record Lean (n from : ℕ) (cs : List Circuit) (p : Plan) (fibres₀ fibres₁ assigns₀ assigns₁ : List ℕ) (answer : Trimmed) : Type 0 where
  pub counted : answer ≡ record { fibres = length (trimmed n cs p).fibres; total = total (trimmed n cs p).fibres }
  pub listed : fibres₁ ≡ fibre_list from (trimmed n cs p).fibres fibres₀
  pub assigned : assigns₁ ≡ assignment_list from cs (trimmed n cs p).assignments assigns₀
