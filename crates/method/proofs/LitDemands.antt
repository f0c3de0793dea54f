-- R-1's plan is as promised for every n, every w ≥ 1 and every list of circuits that lie on the line. Assumes nothing.
use Prim.Native.Nat.{◌*◌, ◌≤◌, ℕ}
use lib.ListN.{length}
use mathlib.Core.List.{List}
use native.Mathlib.Omega.{arith}
use Rattle.records.specs.declared.Circuit.{Circuit}
use Rattle.method.specs.Fibres.{floor, plan}
use Rattle.method.specs.Line.{Lies, Valid, fibres_over, total}
use Rattle.method.specs.Lit.{lit_plan, trimmed}
use Rattle.method.specs.LitDemands.{LitDemand, LitRules, lit_fibres}
use Rattle.method.specs.Sheet.{need}
use Rattle.method.proofs.Bound.{floor_least, need_fits}
use Rattle.method.proofs.FibreLists.{all_get_d}
use Rattle.method.proofs.Lengths.{OnLine, plan_over, plan_total}
use Rattle.method.proofs.Links.{lies_there}
use Rattle.method.proofs.LitFew.{trimmed_few}
use Rattle.method.proofs.LitPinned.{one_plan}
use Rattle.method.proofs.Rearranged.{lit_any_order}
use Rattle.method.proofs.Stretches.{to_on, wavelength_stays}
use Rattle.method.proofs.Trimmed.{by_left_end, by_old, ends_dark, layer_stays, none_dark, one_for_a_run, trimmed_over, trimmed_total, trimmed_valid, within_old}
use Rattle.method.proofs.ValidPlan.{plan_valid}

module _ (n w : ℕ) (cs : List Circuit) (lies : Lies n cs) (pos : 1 ≤ w) where
  -- the plan of 01 is valid
  old_valid : Valid w cs (plan n w cs)
  old_valid = plan_valid n w cs lies pos

  -- the plan keeps the rules
  lit_rules : LitRules n w cs (plan n w cs) (lit_plan n w cs)
  unfolding lit_plan trimmed
  lit_rules =
      let p = plan n w cs in
      record {
        valid = trimmed_valid n w cs p lies old_valid;
        fibres_on_line = all_get_d (OnLine n) (lit_plan n w cs).fibres (to_on n cs p (length p.fibres));
        wavelength_stays = wavelength_stays n cs p;
        layer_stays = layer_stays n w cs p lies old_valid;
        within_old = within_old n w cs p lies old_valid;
        none_dark = none_dark n w cs p lies old_valid;
        maximal = λ j d a b. ends_dark n w cs p lies old_valid j a d b;
        by_old = by_old n w cs p lies old_valid;
        by_left_end = by_left_end n w cs p lies old_valid;
        one_for_a_run = one_for_a_run n w cs p lies old_valid;
      }

  -- at most 2 c(i) fibres pass over link i
  lit_over_few : (x : ℕ) → 1 ≤ x → x ≤ n → fibres_over (lit_fibres n w cs) x ≤ 2 * need w cs x
  unfolding lit_fibres lit_plan plan
  lit_over_few x a b = omega (arith, trimmed_over n w cs (plan n w cs) lies old_valid x a b, plan_over n w cs x a b)

  -- the total is at most twice the floor
  lit_total_few : total (lit_fibres n w cs) ≤ 2 * floor n w cs
  unfolding lit_fibres lit_plan plan
  lit_total_few = omega (arith, trimmed_total n w cs (plan n w cs) lies old_valid, plan_total n w cs)

  -- all that is promised of R-1's plan
  pub lit_demand : LitDemand n w cs
  unfolding lit_fibres lit_plan
  lit_demand =
      record {
        rules = lit_rules;
        no_other = λ p r. one_plan n w cs (plan n w cs) lies p (lit_plan n w cs) r lit_rules;
        over_few = lit_over_few;
        total_few = lit_total_few;
        twice_over = λ p v i a b. omega (arith, lit_over_few i a b, need_fits w cs pos p v i);
        twice_total = λ p v. omega (arith, lit_total_few, floor_least n w cs pos p v);
        few_fibres = trimmed_few n cs (plan n w cs) (lies_there n cs lies);
        any_order = λ ds. lit_any_order n w cs ds lies;
      }
