-- The same records in another file order have the same plan. Assumes nothing.
use Prim.Native.Nat.{ℕ}
use mathlib.Core.List.{List}
use mathlib.Core.Path.{◌∙◌, ◌≡◌, ap, sym}
use native.Mathlib.Omega.{arith}
use Rattle.records.specs.declared.Circuit.{Circuit}
use Rattle.method.specs.Demands.{Rearranged, SamePlan}
use Rattle.method.specs.Fibres.{plan}
use Rattle.method.specs.Line.{Distinct, Lies, Plan, assigned, circuit, total}
use Rattle.method.specs.Lit.{lit_plan}
use Rattle.method.proofs.LitOrder.{lit_fibres_match, lit_plan_match}
use Rattle.method.proofs.Order.{Match, Twin, fibres_match, floor_match, plan_match}

-- no number stands twice in a rearrangement
pub rearranged_once : (cs ds : List Circuit) → Distinct cs → Rearranged cs ds → Distinct ds
rearranged_once cs ds once h i j a b e =
    let x = h.fro i a in
    let y = h.fro j b in
    let z : h.back i ≡ h.back j = once (h.back i) (h.back j) x.0 y.0 (ap (λ c. c.number) (sym x.2) ∙ e ∙ ap (λ c. c.number) y.2) in
    sym x.1 ∙ ap h.there z ∙ y.1

-- nor has it gaps
rearranged : (n : ℕ) (cs ds : List Circuit) → Lies n cs → Distinct cs → Rearranged cs ds → Match cs ds
unfolding circuit
rearranged n cs ds lies once h =
    record {
      once = λ i j a b r s e. once i j a b e;
      once' = λ i j a b r s e. rearranged_once cs ds once h i j a b e;
      gap = λ i l. (lies i l).0;
      gap' = λ j l. let x = h.fro j l in omega (arith, (lies (h.back j) x.0).0, ap (λ c. c.first) x.2);
      there = h.there;
      back = h.back;
      to = λ i l r. let x = h.to i l in (x.0, x.2);
      fro = λ j l r. let x = h.fro j l in (x.0, x.2);
    }

module _ (n w : ℕ) (cs ds : List Circuit) (lies : Lies n cs) (once : Distinct cs) (h : Rearranged cs ds) where
  -- two plans with the same fibres that give the same to the same circuit are the same plan
  same_plan : (p q : Plan) → p.fibres ≡ q.fibres → ((i j : ℕ) → Twin n w cs ds (rearranged n cs ds lies once h) i j → assigned p i ≡ assigned q j)
      → SamePlan n w cs ds p q
  unfolding circuit
  same_plan p q same_fibres same_given =
      record {
        fibres_same = same_fibres;
        total_same = ap total same_fibres;
        floor_same = floor_match n w cs ds (rearranged n cs ds lies once h);
        assigned_same = λ i j a b e.
            let x = h.fro j b in
            let z : i ≡ h.back j = once i (h.back j) a x.0 (e ∙ ap (λ c. c.number) x.2) in
            let l = lies i a in
            same_given i j (record { in_cs = a; in_ds = b; real = omega arith; same = ap (circuit cs) z ∙ sym x.2 });
      }

  -- so the plan of the two-phase method is the same
  pub any_order : SamePlan n w cs ds (plan n w cs) (plan n w ds)
  unfolding plan
  any_order = let m = rearranged n cs ds lies once h in same_plan (plan n w cs) (plan n w ds) (fibres_match n w cs ds m) (plan_match n w cs ds m)

  -- and so is R-1's
  pub lit_any_order : SamePlan n w cs ds (lit_plan n w cs) (lit_plan n w ds)
  lit_any_order = let m = rearranged n cs ds lies once h in same_plan (lit_plan n w cs) (lit_plan n w ds) (lit_fibres_match n w cs ds m) (lit_plan_match n w cs ds m)
