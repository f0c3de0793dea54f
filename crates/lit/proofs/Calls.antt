-- For the callers of `trim`: the plan of the two-phase method is held once its assignments stand in their list. Assumes nothing.
use Prim.Native.Nat.{ℕ, ◌+◌, ◌*◌, ◌/◌, ◌≤◌, ◌<◌}
use mathlib.Core.Bool.{Bool, cond}
use mathlib.Core.Path.{◌≡◌, sym, ap, ◌∙◌}
use mathlib.Core.List.{List}
use native.Mathlib.Omega.{arith}
use lib.ListN.{length, get_or, drop}
use Rattle.basics.proofs.Bools.{on}
use Rattle.records.specs.Area.{rows_in}
use Rattle.records.specs.Bytes.{cells_of}
use Rattle.records.specs.Records.{record_at}
use Rattle.records.specs.declared.Circuit.{Circuit}
use Rattle.method.specs.Fibres.{assignments, fibres, layer_of, plan}
use Rattle.method.specs.Line.{Lies, Plan, Valid, assigned, circuit, fibre_under}
use Rattle.method.specs.Sheet.{rows}
use Rattle.method.proofs.Given.{placed}
use Rattle.method.proofs.ValidPlan.{final, fibre_under_is, its_layer, layer_at, plan_valid}
use Rattle.register.specs.Lists.{assignment_list}
use Rattle.register.proofs.Reading.{assignment_record_lem}
use Rattle.lit.specs.Trims.{Held}

-- a valid plan whose assignments stand in their list is held
held_valid : (n w m many : ℕ) (cs : List Circuit) (p : Plan) (work A old : List ℕ) → length cs ≡ m → Valid w cs p → length p.fibres ≡ many → A ≡ assignment_list 0 cs p.assignments old
    → ((j : ℕ) → j < m → 2 ≤ get_or (rows_in n m (cells_of work)) j 0) → ((j : ℕ) → j < m → layer_of w (get_or (rows_in n m (cells_of work)) j 0 / 2) ≡ (fibre_under p j).layer)
    → Held n w m many cs p work A
unfolding circuit assigned assignment_list
held_valid n w m many cs p work A old k v e a r l =
    record {
      fibres = e;
      records = λ j b. ap (λ (x : List ℕ). record_at x j) a ∙ assignment_record_lem 0 cs p.assignments (drop (8 * length cs) old) j v.all_assigned (omega arith);
      numbered = λ j b. (let u = v.numbered j (omega arith) in (u.0, omega (arith, u.1)));
      rows = r;
      layers = l;
    }

-- THE PLAN OF THE TWO-PHASE METHOD, where the work area has twice each row, or 1 more
module _ (n w m : ℕ) (cs : List Circuit) (k : length cs ≡ m) (lies : Lies n cs) (pos : 1 ≤ w) where
  -- the layer of a circuit's fibre is that of its row
  plan_layer : (j : ℕ) → j < length cs → (fibre_under (plan n w cs) j).layer ≡ layer_of w (get_or (rows n w cs) j 0)
  unfolding layer_at final rows
  plan_layer j l = ap (λ f. f.layer) (fibre_under_is n w cs j l) ∙ its_layer n w cs lies pos j l

  pub held_plan : (many : ℕ) (half : ℕ → Bool) (work A old : List ℕ) → length (fibres n w cs) ≡ many → A ≡ assignment_list 0 cs (assignments n w cs) old
      → ((j : ℕ) → j < m → get_or (rows_in n m (cells_of work)) j 0 ≡ 2 * get_or (rows n w cs) j 0 + cond (half j) 0 1) → Held n w m many cs (plan n w cs) work A
  unfolding plan
  held_plan many half work A old e a r =
      held_valid n w m many cs (plan n w cs) work A old k (plan_valid n w cs lies pos) e a
      (λ j l. (let h = r j l in let u = placed n w cs lies pos j (omega arith) in omega arith))
      (λ j l. ap (layer_of w) (row j l) ∙ sym (plan_layer j (omega arith)))
    where
      -- the row from the cell
      row : (j : ℕ) → j < m → get_or (rows_in n m (cells_of work)) j 0 / 2 ≡ get_or (rows n w cs) j 0
      row j l =
          let h = r j l in
          on (half j)
          (λ b. let h' : get_or (rows_in n m (cells_of work)) j 0 ≡ 2 * get_or (rows n w cs) j 0 + 0 = h ∙ rw b in omega arith)
          (λ b. let h' : get_or (rows_in n m (cells_of work)) j 0 ≡ 2 * get_or (rows n w cs) j 0 + 1 = h ∙ rw b in omega arith)
