-- Plans that have grown by additions, and how many fibres a link then has: what demand 3 then says. What a reader must believe.
-- Assumes nothing.
use Rattle.std.specs.Prelude.{◌*◌, ◌+◌, ◌<◌, ◌≤◌, min, suc, ℕ, get_or, length, List, ◌++◌}
use Rattle.records.specs.declared.Circuit.{Circuit}
use Rattle.method.specs.Fibres.{floor}
use Rattle.method.specs.Line.{Fibre, Lies, Plan, Valid, fibres_over, no_fibre, total}
use Rattle.method.specs.Lit.{lit_plan}
use Rattle.method.specs.Sheet.{need}
use Rattle.additions.specs.Adding.{add}

-- Grown k w cs p: p is a plan of R-1 after k additions, cs are all its circuits, and w is the least that the plan and the additions were given. Each addition has its own
-- n and its own w, and is made to a plan that is valid for that w
pub data Grown : ℕ → ℕ → List Circuit → Plan → Type 0 where
  planned : (n w : ℕ) (cs : List Circuit) → 1 ≤ w → Lies n cs → Grown 0 w cs (lit_plan n w cs)
  added : {k w : ℕ} {cs : List Circuit} {p : Plan} → Grown k w cs p → (n v : ℕ) (ds : List Circuit) → 1 ≤ v → Lies n ds → Valid v cs p
      → Grown (suc k) (min w v) (cs ++ ds) (add n v cs p ds)

-- the fibres of a list lie on the line of n links
abbrev pub FibresOn : ℕ → List Fibre → Type 0
FibresOn n fs = (q : ℕ) → q < length fs → (1 ≤ (get_or fs q no_fibre).first) × ((get_or fs q no_fibre).first ≤ (get_or fs q no_fibre).last) × ((get_or fs q no_fibre).last ≤ n)

-- what holds after k additions
pub record Within (k w : ℕ) (cs : List Circuit) (p : Plan) : Type 0 where
  -- each link has at most 2 × (its whole load / w, rounded up) + 2k fibres
  pub over : (i : ℕ) → fibres_over p.fibres i ≤ 2 * need w cs i + 2 * k
  -- so at most twice as many as any plan of these circuits that is valid for w, and 2k more
  pub over_any : (q : Plan) → Valid w cs q → (i : ℕ) → fibres_over p.fibres i ≤ 2 * fibres_over q.fibres i + 2 * k
  -- on any line that has all the fibres the total is at most twice the floor, and 2k more for each link
  pub total_few : (n : ℕ) → FibresOn n p.fibres → total p.fibres ≤ 2 * floor n w cs + n * (2 * k)
  -- at most one fibre for each circuit
  pub few_fibres : length p.fibres ≤ length cs
  -- the plan is valid for some w that is at least the least
  pub valid : (v : ℕ) × (w ≤ v) × Valid v cs p
