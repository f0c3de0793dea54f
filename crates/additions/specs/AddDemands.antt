-- All that is promised of an addition of R-2. `proofs/AddDemands.antt` shows that it holds for all that the tests leave. What a reader must believe.
-- Assumes nothing.
use Rattle.std.specs.Prelude.{◌+◌, ◌<◌, ◌≤◌, min, suc, ℕ, length, List, [], ◌++◌, ◌≡◌}
use Rattle.records.specs.declared.Circuit.{Circuit}
use Rattle.method.specs.Demands.{Rearranged, SamePlan}
use Rattle.method.specs.Fibres.{floor}
use Rattle.method.specs.Line.{Distinct, Lies, Plan, Valid, assigned, total}
use Rattle.method.specs.Lit.{lit_plan}
use Rattle.places.specs.Turns.{number}
use Rattle.additions.specs.Added.{Added}
use Rattle.additions.specs.Adding.{add, add_counts}
use Rattle.additions.specs.Grown.{FibresOn, Grown, Within}

-- what the tests leave: w is at least 1, the old plan is valid for it, the new circuits lie on the line, no number of both files stands twice, and none is 0
pub record Addable (n w : ℕ) (cs : List Circuit) (p : Plan) (ds : List Circuit) : Type 0 where
  pub waves : 1 ≤ w
  pub old_valid : Valid w cs p
  pub lies : Lies n ds
  pub once : Distinct (cs ++ ds)
  pub from_one : (j : ℕ) → j < length ds → 1 ≤ number ds j

-- the plan without circuits
abbrev pub no_plan : Plan
no_plan = record { fibres = []; assignments = [] }

-- the same plan with the circuit file in another order, and the assignments permuted alike
pub record Permuted (cs : List Circuit) (p : Plan) (cs' : List Circuit) (p' : Plan) : Type 0 where
  pub records : Rearranged cs cs'
  pub fibres_same : p.fibres ≡ p'.fibres
  pub one_each : length p'.assignments ≡ length cs'
  pub assigned_same : (i : ℕ) → i < length cs → assigned p i ≡ assigned p' (records.there i)

-- what is promised then
pub record AddDemand (n w : ℕ) (cs : List Circuit) (p : Plan) (ds : List Circuit) : Type 0 where
  -- no old fibre or assignment changes, each new circuit has the lowest place at its turn, and those left have new fibres
  pub added : Added n w cs p ds (add n w cs p ds)
  -- and no other plan is so
  pub no_other : (P : Plan) → Added n w cs p ds P → P ≡ add n w cs p ds
  -- the plan of both files is valid
  pub valid : Valid w (cs ++ ds) (add n w cs p ds)
  -- its fibres lie on the line if the old ones do
  pub on_line : FibresOn n p.fibres → FibresOn n (add n w cs p ds).fibres
  -- at most one new fibre for each new circuit, so 8 bytes a circuit hold them
  pub few_fibres : length (add n w cs p ds).fibres ≤ length p.fibres + length ds
  -- neither the order of the new file matters, nor that of the old one with its assignments
  pub any_order : (cs' : List Circuit) (p' : Plan) (ds' : List Circuit) → Permuted cs p cs' p' → Rearranged ds ds'
      → SamePlan n w (cs ++ ds) (cs' ++ ds') (add n w cs p ds) (add n w cs' p' ds')
  -- the three numbers are those of the whole plan, with the floor of both files
  pub fibres_are : (add_counts n w cs p ds).fibres ≡ length (add n w cs p ds).fibres
  pub total_is : (add_counts n w cs p ds).total ≡ total (add n w cs p ds).fibres
  pub floor_is : (add_counts n w cs p ds).floor ≡ floor n w (cs ++ ds)
  -- one addition more to a plan that has grown by k
  pub within : (k v : ℕ) → Grown k v cs p → Within (suc k) (min v w) (cs ++ ds) (add n w cs p ds)
  -- an addition of nothing changes nothing
  pub nothing_new : add n w cs p [] ≡ p
  -- an addition to no plan is R-1's plan
  pub to_nothing : add n w [] no_plan ds ≡ lit_plan n w ds
