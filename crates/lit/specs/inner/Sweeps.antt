-- The sweep along the circuits of an old fibre, by rising first link, as the loops do it.
-- Assumes nothing.
use Rattle.std.specs.Prelude.{ℕ, zero, suc, ◌+◌, ◌-◌, ◌*◌, ◌/◌, ◌≤◌, ◌<◌, cond, ◌≡◌, ◌⊎◌, List, ◌++◌, length, get_or, drop, ltb}
use Rattle.records.specs.Area.{rows_in}
use Rattle.records.specs.Bytes.{cells_of, set_cell}
use Rattle.records.specs.Records.{assignment_bytes, circuits_in, put_record, record_at}
use Rattle.records.specs.declared.Circuit.{Circuit}
use Rattle.method.specs.Fibres.{layer_of, runs}
use Rattle.method.specs.Line.{Fibre, Lies, Plan, assigned, circuit, fibre_under, no_fibre, total}
use Rattle.method.specs.Lit.{fibre_number, lit, new_fibre, stretches_to}
use Rattle.register.specs.Lists.{fibre_list, fibre_record}
use Rattle.register.specs.declared.Job.{Job}
use Rattle.chains.specs.Riders.{Chained, Rides, key}
use Rattle.lit.specs.declared.Open.{Open}
use Rattle.lit.specs.declared.Trimmed.{Trimmed}

-- circuit j has a row, which stands doubled in the rows' part of the work area
pub record HasRow (n w m j : ℕ) (work : List ℕ) : Type 0 where
  pub line : n ≤ 512
  pub waves : 1 ≤ w
  pub few : m ≤ 2048
  pub there : j < m
  pub area : 4 * n + 2 * m ≤ length work
  pub row : 2 ≤ get_or (rows_in n m (cells_of work)) j 0

-- circuit c can be taken in where s is open: if it begins a run, there is room for a fibre more and its number; if not, there is a last fibre
pub record Takable (from layer : ℕ) (c : Circuit) (s : Open) (fibres : List ℕ) : Type 0 where
  pub pos : 1 ≤ c.first
  pub order : c.first ≤ c.last
  pub high : c.last ≤ 512
  pub layer_small : layer ≤ 65535
  pub total_small : s.made.total ≤ 4294967295
  pub past_small : s.past ≤ 513
  pub new : s.past < c.first → (8 * s.made.fibres + 8 ≤ length fibres) × (from + s.made.fibres + 1 ≤ 65535)
  pub on : c.first ≤ s.past → (1 ≤ s.made.fibres) × (8 * s.made.fibres ≤ length fibres)

-- one circuit, in numbers: it begins a run past the one that is open, lengthens that one, or lies in it
unfoldable pub taken : Circuit → Open → Open
taken c s =
    cond
    (ltb s.past c.first)
    (record { made = record { fibres = s.made.fibres + 1; total = s.made.total + (c.last + 1 - c.first) }; past = c.last + 1 })
    (cond (ltb s.past (c.last + 1)) (record { made = record { fibres = s.made.fibres; total = s.made.total + (c.last + 1 - s.past) }; past = c.last + 1 }) s)

-- and in bytes: a fibre record more, or a new last link in the last one
unfoldable pub written : ℕ → ℕ → Circuit → Open → List ℕ → List ℕ
written from layer c s fibres =
    cond
    (ltb s.past c.first)
    (put_record fibres s.made.fibres (fibre_record (from + s.made.fibres + 1) (record { first = c.first; last = c.last; layer = layer })))
    (cond (ltb s.past (c.last + 1)) (set_cell fibres (4 * (s.made.fibres - 1) + 2) c.last) fibres)

-- past all circuits, by first link and then place: 2,048 x 513
abbrev pub past_all : ℕ
past_all = 1050624

-- where a walk stands that comes to the circuit told by z, by first link and then place: past all if z is 0
unfoldable pub standing : List Circuit → ℕ → ℕ
standing cs zero = past_all
standing cs (suc j) = key cs j

-- the bytes of circuit j's assignment with fibre number u
unfoldable pub spot : List Circuit → Plan → ℕ → ℕ → List ℕ
spot cs p j u = assignment_bytes (record { circuit = (circuit cs j).number; fibre = u; wavelength = (assigned p j).wavelength })

-- what stood at the start: the plan, and the two lists
pub record Origin : Type 0 where
  pub plan : Plan
  pub fibres : List ℕ
  pub assigns : List ℕ

-- what does not change: circuits on the line, chains by old fibre, and rows of the layers of the old fibres
pub record Ground (n w from : ℕ) (cs : List Circuit) (work next heads : List ℕ) (x : Origin) : Type 0 where
  pub line : n ≤ 512
  pub waves : 1 ≤ w
  pub few : length cs ≤ 2048
  pub lies : Lies n cs
  pub chained : Chained cs (fibre_number x.plan) next heads
  pub area : 4 * n + 2 * length cs ≤ length work
  pub rows : (j : ℕ) → j < length cs → 2 ≤ get_or (rows_in n (length cs) (cells_of work)) j 0
  pub layers : (j : ℕ) → j < length cs → layer_of w (get_or (rows_in n (length cs) (cells_of work)) j 0 / 2) ≡ (fibre_under x.plan j).layer
  pub fibre_room : 8 * length cs ≤ length x.fibres
  pub assign_room : 8 * length cs ≤ length x.assigns
  pub number_room : from + length cs ≤ 65535

-- the new fibres of old fibres 1 to o, and of fibre o + 1 the runs that its circuits light on links before `past`
unfoldable pub so_far : ℕ → List Circuit → Plan → ℕ → ℕ → List Fibre
so_far n cs p o past = stretches_to n cs p o ++ runs (get_or p.fibres o no_fibre).layer (lit cs p (suc o)) 1 (past - 1)

-- the circuits of fibres 1 to o are swept, and those of fibre o + 1 that stand before t: the open run ends where the last of these does; the fibres so far are
-- counted and listed; each circuit has an assignment with its wavelength, and those that are swept with their new fibre's number
pub record Swept (n from : ℕ) (cs : List Circuit) (x : Origin) (o t : ℕ) (s : Open) (fibres assigns : List ℕ) : Type 0 where
  pub all_end : (d : ℕ) → Rides cs (fibre_number x.plan) (suc o) d → key cs d < t → (circuit cs d).last < s.past
  pub one_ends : (s.past ≡ 0) ⊎ ((d : ℕ) × Rides cs (fibre_number x.plan) (suc o) d × (key cs d < t) × ((circuit cs d).last + 1 ≡ s.past))
  pub counted : s.made.fibres ≡ length (so_far n cs x.plan o s.past)
  pub summed : s.made.total ≡ total (so_far n cs x.plan o s.past)
  pub listed : fibres ≡ fibre_list from (so_far n cs x.plan o s.past) x.fibres
  pub sized : length fibres ≡ length x.fibres
  pub kept : length assigns ≡ length x.assigns
  pub rest : drop (8 * length cs) assigns ≡ drop (8 * length cs) x.assigns
  pub some : (j : ℕ) → j < length cs → (u : ℕ) × (record_at assigns j ≡ spot cs x.plan j u)
  pub given : (j : ℕ) → j < length cs → past_all * fibre_number x.plan j + key cs j < past_all * suc o + t → record_at assigns j ≡ spot cs x.plan j (from + new_fibre n cs x.plan j)

-- between two old fibres no run is open
abbrev pub closed : Trimmed → Open
closed r = record { made = r; past = 0 }

-- what does not change, for the circuits of a file
abbrev pub GroundOf : Job → List ℕ → List ℕ → List ℕ → List ℕ → Origin → Type 0
GroundOf job s work next heads x = Ground job.links job.wavelengths job.from (circuits_in job.circuits s) work next heads x

-- fibres 1 to o are swept, for the circuits of a file
abbrev pub SweptOf : Job → List ℕ → Origin → ℕ → Trimmed → List ℕ → List ℕ → Type 0
SweptOf job s x o r fibres assigns = Swept job.links job.from (circuits_in job.circuits s) x o 0 (closed r) fibres assigns

-- of some start, fibres 1 to o are swept
pub record SweptSome (job : Job) (o : ℕ) (s work next heads : List ℕ) (r : Trimmed) (fibres assigns : List ℕ) : Type 0 where
  pub file : 8 * job.circuits ≤ length s
  pub origin : Origin
  pub ground : GroundOf job s work next heads origin
  pub swept : SweptOf job s origin o r fibres assigns

-- whatever stood at the start, fibres 1 to o were swept, and now fibres 1 to u are
abbrev pub SweptOn : Job → List ℕ → List ℕ → List ℕ → List ℕ → ℕ → Trimmed → List ℕ → List ℕ → ℕ → Trimmed → List ℕ → List ℕ → Type 0
SweptOn job s work next heads o r fibres assigns u r' fibres' assigns' = (x : Origin) → GroundOf job s work next heads x → SweptOf job s x o r fibres assigns → SweptOf job s x u r' fibres' assigns'
