-- What is written once a plan is entered. A contract between crates.
-- Assumes nothing.
use Rattle.std.specs.Prelude.{ℕ, ◌≡◌, List}
use Rattle.records.specs.declared.Circuit.{Circuit}
use Rattle.method.specs.Line.{Plan}
use Rattle.register.specs.declared.Counts.{Counts}
use Rattle.register.specs.Lists.{counts_of, fibre_list, assignment_list}

-- the lists hold plan p of circuits cs, numbered after `from`, and the three numbers are its own
pub record Registered (from floor : ℕ) (cs : List Circuit) (p : Plan) (fibres₀ fibres₁ assigns₀ assigns₁ : List ℕ) (counts : Counts) : Type 0 where
  pub counted : counts ≡ counts_of p floor
  pub listed : fibres₁ ≡ fibre_list from p.fibres fibres₀
  pub assigned : assigns₁ ≡ assignment_list from cs p.assignments assigns₀
