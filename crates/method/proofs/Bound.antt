-- No valid plan has fewer than c(i) fibres over link i, or is shorter than the floor. Assumes nothing.
use Prim.Native.Nat.{◌*◌, ◌+◌, ◌-◌, ◌/◌, ◌<◌, ◌≤◌, suc, ℕ}
use lib.ListN.{get_or, length}
use mathlib.Core.Bool.{true}
use mathlib.Core.List.{List}
use mathlib.Core.Path.{◌∙◌, ◌≡◌, ap, sym}
use native.Mathlib.Nat.{div-lt_iff_lt-mul, mul-le-mul_right}
use native.Mathlib.Omega.{arith}
use Rattle.basics.specs.Tools.{count}
use Rattle.basics.proofs.Bools.{by_eq}
use Rattle.basics.proofs.Counts.{block, blocks, pigeonhole}
use Rattle.basics.proofs.Sums.{sum_le}
use Rattle.records.specs.declared.Circuit.{Circuit}
use Rattle.method.specs.Fibres.{floor}
use Rattle.method.specs.Line.{Plan, Valid, assigned, circuit, fibre_under, fibres_over, no_fibre, over, total, uses}
use Rattle.method.specs.Sheet.{load, need}
use Rattle.method.proofs.FibreLists.{tally_count}
use Rattle.method.proofs.Lengths.{sum_total_le}
use Rattle.method.proofs.Links.{overlap_shared, uses_first, uses_last}
use Rattle.method.proofs.Runs.{over_of}

module _ (w : ℕ) (cs : List Circuit) (pos : 1 ≤ w) (P : Plan) (v : Valid w cs P) where
  -- the place of circuit j: its wavelength on its fibre, counted through all fibres
  place : ℕ → ℕ
  place j = ((assigned P j).fibre - 1) * w + ((assigned P j).wavelength - 1)

  -- the fibre of a place
  place_fibre : (j : ℕ) → j < length cs → place j / w ≡ (assigned P j).fibre - 1
  unfolding place
  place_fibre j l = block _ w _ (let a = v.wavelength_in j l in omega arith)

  -- there are w places on each fibre
  place_below : (j : ℕ) → j < length cs → place j < length P.fibres * w
  unfolding place
  place_below j l =
      let a = v.wavelength_in j l in
      let b = v.numbered j l in
      let c : suc ((assigned P j).fibre - 1) ≤ length P.fibres = omega arith in
      omega (arith, mul-le-mul_right w c)

  -- two circuits on a link have two places
  place_differs : (i j x : ℕ) → i < length cs → j < length cs → uses (circuit cs i) x ≡ true → uses (circuit cs j) x ≡ true → place i ≡ place j → i ≡ j
  unfolding circuit place
  place_differs i j x li lj ui uj e =
      let f : (assigned P i).fibre - 1 ≡ (assigned P j).fibre - 1 = sym (place_fibre i li) ∙ ap (λ z. z / w) e ∙ place_fibre j lj in
      let a = v.wavelength_in i li in
      let b = v.numbered i li in
      let c = v.wavelength_in j lj in
      let d = v.numbered j lj in
      by_eq i j (λ q. q)
      (λ q. absurd (v.apart i j li lj q
      (overlap_shared _ _ x ui uj)
      (omega arith) (omega (arith, ap (λ z. z * w) f))))

  -- the fibre passes over the links of its circuits
  place_over : (i j : ℕ) → j < length cs → uses (circuit cs j) i ≡ true → over (get_or P.fibres (place j / w) no_fibre) i ≡ true
  unfolding circuit fibre_under
  place_over i j l e =
      rw (place_fibre j l)
      (let a = v.within j l in over_of _ i (omega (arith, uses_first _ i e)) (omega (arith, uses_last _ i e)))

  -- w times the fibres over a link are at least its load
  pub load_fits : (i : ℕ) → load cs i ≤ fibres_over P.fibres i * w
  unfolding load fibres_over
  load_fits i =
      let z : load cs i ≤ count (λ x. over (get_or P.fibres (x / w) no_fibre) i) (length P.fibres * w) =
      pigeonhole (λ j. uses (circuit cs j) i) (length cs) (λ x. over (get_or P.fibres (x / w) no_fibre) i) (length P.fibres * w) place
      (λ j l e. (place_below j l, place_over i j l e)) (λ a b la lb. place_differs a b i la lb) in
      omega (arith, blocks (λ q. over (get_or P.fibres q no_fibre) i) w (length P.fibres), ap (λ x. x * w) (tally_count (λ f. over f i) P.fibres))

  -- so at least c(i) fibres pass over link i
  pub need_fits : (i : ℕ) → need w cs i ≤ fibres_over P.fibres i
  unfolding need
  need_fits i =
      let z : (load cs i + (w - 1)) / w < suc (fibres_over P.fibres i) =
      (div-lt_iff_lt-mul {k = w} {x = load cs i + (w - 1)} {y = suc (fibres_over P.fibres i)} pos).1 (omega (arith, load_fits i)) in
      omega arith

-- so no valid plan is shorter than the floor
pub floor_least : (n w : ℕ) (cs : List Circuit) → 1 ≤ w → (P : Plan) → Valid w cs P → floor n w cs ≤ total P.fibres
unfolding floor
floor_least n w cs pos P v = omega (arith, sum_le _ _ n (λ i a b. need_fits w cs pos P v i), sum_total_le P.fibres n)
