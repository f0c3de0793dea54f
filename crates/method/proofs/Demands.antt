-- Demands 2 and 3 hold for every n, every w ≥ 1 and every list of circuits that lie on the line. Assumes nothing.
use Prim.Native.Nat.{◌*◌, ◌≤◌, ℕ}
use mathlib.Core.List.{List}
use native.Mathlib.Omega.{arith}
use Rattle.records.specs.declared.Circuit.{Circuit}
use Rattle.method.specs.Demands.{Demand2, Demand3, OwnLinks, during, in_row}
use Rattle.method.specs.Fibres.{fibres, pairs}
use Rattle.method.specs.Line.{Lies}
use Rattle.method.specs.Sheet.{most, rows}
use Rattle.method.proofs.Bound.{floor_least, need_fits}
use Rattle.method.proofs.During.{own_during}
use Rattle.method.proofs.Few.{few_pairs}
use Rattle.method.proofs.FibreLists.{all_get_d, length_twice}
use Rattle.method.proofs.Intervals.{at_most_two, lasts_differ, none_within}
use Rattle.method.proofs.Lengths.{OnLine, fibres_on, plan_over, plan_total}
use Rattle.method.proofs.Links.{lies_there}
use Rattle.method.proofs.Placed.{after, few_rows}
use Rattle.method.proofs.Rearranged.{any_order}
use Rattle.method.proofs.ValidPlan.{final, first_any_run, is_placed, plan_valid}

-- the plan is valid, carries every circuit, and does not depend on file order
pub demand_2 : (n w : ℕ) (cs : List Circuit) → Lies n cs → 1 ≤ w → Demand2 n w cs
unfolding rows final fibres
demand_2 n w cs lies pos =
    record {
      placed = λ j l. let p = is_placed n w cs lies pos j l in (omega arith, (after n w cs (lies_there n cs lies) (most n w cs * w)).marked j);
      few_rows = few_rows n w cs pos;
      valid = plan_valid n w cs lies pos;
      fibres_on_line = all_get_d (OnLine n) (fibres n w cs) (fibres_on n w cs);
      any_order = λ ds. any_order n w cs ds lies;
      run_idle = first_any_run n w cs lies pos;
    }

-- the rows are as demanded, and the plan is at most twice any valid one
pub demand_3 : (n w : ℕ) (cs : List Circuit) → Lies n cs → 1 ≤ w → Demand3 n w cs
unfolding fibres
demand_3 n w cs lies pos =
    let own : (r f k : ℕ) → 1 ≤ k → OwnLinks cs (in_row (during n w cs r f) k) = own_during n w cs (lies_there n cs lies) in
    record {
      own = own;
      two = λ r f k i p. at_most_two cs (in_row (during n w cs r f) k) (own r f k p) i;
      none_within = λ r f k p. none_within cs (in_row (during n w cs r f) k) (own r f k p);
      lasts_differ = λ r f k p. lasts_differ cs (in_row (during n w cs r f) k) (own r f k p);
      over = plan_over n w cs;
      total_is = plan_total n w cs;
      few_pairs = few_pairs n w cs (lies_there n cs lies) pos;
      few_fibres = omega (arith, length_twice (pairs n w cs), few_pairs n w cs (lies_there n cs lies) pos);
      over_any = need_fits w cs pos;
      total_any = floor_least n w cs pos;
      twice_over = λ p v i a b. omega (arith, plan_over n w cs i a b, need_fits w cs pos p v i);
      twice_total = λ p v. omega (arith, plan_total n w cs, floor_least n w cs pos p v);
    }
