-- The same circuits in another file order, with or without gaps, have the same plan without dark links. Assumes nothing.
use Prim.Native.Nat.{◌+◌, ◌-◌, suc, zero, ℕ}
use lib.Dec.{eqb}
use lib.ListN.{get_or, length}
use mathlib.Core.Bool.{Bool, ◌&&◌}
use mathlib.Core.List.{List, ◌++◌}
use mathlib.Core.Path.{◌∙◌, ◌≡◌, ap, ap₂, fun_ext, refl, sym}
use Rattle.basics.proofs.Bools.{and_r}
use Rattle.records.specs.declared.Circuit.{Circuit}
use Rattle.method.specs.Fibres.{find, plan, runs}
use Rattle.method.specs.Line.{Assignment, Fibre, Plan, assigned, circuit, no_fibre, over, uses}
use Rattle.method.specs.Lit.{fibre_number, lit, lit_plan, new_fibre, regiven, stretches, stretches_to, trimmed}
use Rattle.method.proofs.Order.{Match, Twin, any_match, fibres_match, plan_match, uses_real}
use Rattle.method.proofs.Stretches.{regiven_is}

-- two plans of two such files that give the same to the same circuit
module _ (n w : ℕ) (cs ds : List Circuit) (h : Match cs ds) (p q : Plan) (same_fibres : p.fibres ≡ q.fibres)
    (same_given : (i j : ℕ) → Twin n w cs ds h i j → assigned p i ≡ assigned q j) where
  -- the same links are lit
  lit_same : lit cs p ≡ lit ds q
  unfolding lit
  lit_same =
      fun_ext (λ r. fun_ext (λ x.
      any_match n w cs ds h (λ j. eqb (fibre_number p j) r && uses (circuit cs j) x) (λ j. eqb (fibre_number q j) r && uses (circuit ds j) x)
      (λ i l e. uses_real cs i x (h.gap i l) (and_r (eqb (fibre_number p i) r) _ e))
      (λ j l e. uses_real ds j x (h.gap' j l) (and_r (eqb (fibre_number q j) r) _ e))
      (λ i j c. ap₂ (λ (g : Assignment) (d : Circuit). eqb g.fibre r && uses d x) (same_given i j c) c.same)))

  -- a fibre becomes the same fibres
  stretches_same : stretches n cs p ≡ stretches n ds q
  unfolding stretches
  stretches_same = ap₂ (λ (fs : List Fibre) (l : ℕ → ℕ → Bool). λ (r : ℕ). runs (get_or fs (r - 1) no_fibre).layer (l r) 1 n) same_fibres lit_same

  -- so do fibres 1 to r
  to_same : (r : ℕ) → stretches_to n cs p r ≡ stretches_to n ds q r
  unfolding stretches_to
  to_same zero = refl
  to_same (suc r) = ap₂ ◌++◌ (to_same r) (ap (λ f. f (suc r)) stretches_same)

  -- the fibres are the same
  trimmed_fibres : (trimmed n cs p).fibres ≡ (trimmed n ds q).fibres
  unfolding trimmed
  trimmed_fibres = to_same (length p.fibres) ∙ ap (λ fs. stretches_to n ds q (length fs)) same_fibres

  -- the same new fibre and wavelength
  regiven_same : (i j : ℕ) → Twin n w cs ds h i j → regiven n cs p i ≡ regiven n ds q j
  unfolding regiven new_fibre
  regiven_same i j c =
      let g = same_given i j c in
      ap₂ (λ (x y : ℕ). let r : Assignment = record { fibre = suc x; wavelength = y } in r)
      (ap₂ (λ (x y : ℕ). x + y)
      (ap length (to_same (fibre_number p i - 1)) ∙ ap (λ k. length (stretches_to n ds q (k.fibre - 1))) g)
      (ap (λ f. find (λ g. over g (circuit cs i).first) (f (fibre_number p i))) stretches_same
      ∙ ap₂ (λ (k : Assignment) (d : Circuit). find (λ g. over g d.first) (stretches n ds q k.fibre)) g c.same))
      (ap (λ k. k.wavelength) g)

  -- so the plans give the same to the same circuit
  trimmed_match : (i j : ℕ) → Twin n w cs ds h i j → assigned (trimmed n cs p) i ≡ assigned (trimmed n ds q) j
  trimmed_match i j c = regiven_is n cs p i c.in_cs ∙ regiven_same i j c ∙ sym (regiven_is n ds q j c.in_ds)

-- R-1's plans
module _ (n w : ℕ) (cs ds : List Circuit) (h : Match cs ds) where
  -- have the same fibres
  pub lit_fibres_match : (lit_plan n w cs).fibres ≡ (lit_plan n w ds).fibres
  unfolding lit_plan plan
  lit_fibres_match = trimmed_fibres n w cs ds h (plan n w cs) (plan n w ds) (fibres_match n w cs ds h) (plan_match n w cs ds h)

  -- and give the same to the same circuit
  pub lit_plan_match : (i j : ℕ) → Twin n w cs ds h i j → assigned (lit_plan n w cs) i ≡ assigned (lit_plan n w ds) j
  unfolding lit_plan plan
  lit_plan_match = trimmed_match n w cs ds h (plan n w cs) (plan n w ds) (fibres_match n w cs ds h) (plan_match n w cs ds h)
