-- What a circuit is given: its row, layer, pair, fibre and wavelength, as the code computes them. Assumes nothing.
use Prim.Native.Nat.{ℕ, suc, ◌-◌, ◌*◌, ◌/◌, ◌≤◌, ◌<◌}
use mathlib.Core.Bool.{Bool, true}
use mathlib.Core.Path.{◌≡◌, ap, ◌∙◌}
use mathlib.Core.Logic.{◌≢◌}
use mathlib.Core.List.{List}
use native.Mathlib.Omega.{arith}
use native.Mathlib.Nat.{div-lt_iff_lt-mul, le-div_iff_mul-le, le-mul_of_pos_right, mul-le-mul_right, suc-mul}
use lib.ListN.{length, get_or}
use lib.Dec.{eqb, leb}
use borrow.Author.Tests.{eq-eqb, le-leb}
use Rattle.basics.specs.Tools.{seek}
use Rattle.basics.proofs.Bools.{by_eq, by_le}
use Rattle.basics.proofs.Tables.{get_d_each}
use Rattle.records.specs.declared.Circuit.{Circuit}
use Rattle.method.specs.Fibres.{assignments, fibres, given, in_layer, layer_of, layers, pair_of, pairs, plan}
use Rattle.method.specs.Line.{Lies, assigned, circuit, no_fibre, unassigned, uses}
use Rattle.method.specs.Sheet.{most, need, red_to, rows}
use Rattle.method.specs.Demands.{OwnLinks}
use Rattle.method.proofs.During.{own_after}
use Rattle.method.proofs.Intervals.{lasts_differ}
use Rattle.method.proofs.Links.{lies_there, on_line, proper, uses_of}
use Rattle.method.proofs.Placed.{after, all_placed, few_rows}
use Rattle.method.proofs.FibreLists.{length_twice}
use Rattle.method.proofs.Few.{few_pairs}
use Rattle.method.proofs.ValidPlan.{plan_valid}
use Rattle.method.proofs.PairPlaces.{layers_grow, pair_walk}

-- there are no more layers than circuits
pub most_few : (n w : ℕ) (cs : List Circuit) → 1 ≤ w → most n w cs ≤ length cs
most_few n w cs pos =
    by_le (most n w cs) (length cs) (λ h. h)
    (λ h. absurd (omega (arith, few_rows n w cs pos, mul-le-mul_right w h, suc-mul (length cs) w, le-mul_of_pos_right (length cs) pos)))

module _ (n w : ℕ) (cs : List Circuit) (lies : Lies n cs) (pos : 1 ≤ w) (j : ℕ) (l : j < length cs) where
  -- the row of circuit j
  abbrev row : ℕ
  row = get_or (rows n w cs) j 0

  -- it has a last link
  ends : 1 ≤ (circuit cs j).last
  unfolding circuit
  ends = let a = lies j l in let b = a.0 in let c = a.1 in omega arith

  -- it has a row
  pub placed : row ≢ 0
  unfolding rows
  placed = all_placed n w cs (lies_there n cs lies) pos j l ends

  -- its layer is one of the M layers
  pub in_top : (row - 1) / w < most n w cs
  unfolding rows
  in_top = (div-lt_iff_lt-mul {k = w} {x = row - 1} {y = most n w cs} pos).1 (let p = placed in omega (arith, (after n w cs (lies_there n cs lies) (most n w cs * w)).marked j))

  -- it uses its first link
  first_used : uses (circuit cs j) (circuit cs j).first ≡ true
  first_used = uses_of (circuit cs j) (circuit cs j).first (omega arith) (proper n cs (lies_there n cs lies) j l ends)

  -- its first link is on the line
  first_on : (1 ≤ (circuit cs j).first) × ((circuit cs j).first ≤ n)
  first_on = on_line n cs (lies_there n cs lies) j (circuit cs j).first first_used

  -- its first link is in a run of its layer
  reach : most n w cs - (row - 1) / w ≤ need w cs (circuit cs j).first
  unfolding rows red_to
  reach =
      let x = (circuit cs j).first in
      let c = (after n w cs (lies_there n cs lies) (most n w cs * w)).clear j x placed first_used in
      let z : most n w cs - need w cs x ≤ (row - 1) / w = (le-div_iff_mul-le {k = w} {x = most n w cs - need w cs x} {y = row - 1} pos).1 (omega arith) in
      omega arith

  -- its first link is in its layer
  in_layer_lem : in_layer n w cs (suc ((row - 1) / w)) (circuit cs j).first ≡ true
  unfolding in_layer
  in_layer_lem = let r = reach in le-leb (suc (most n w cs) - suc ((row - 1) / w)) (need w cs (circuit cs j).first) (omega arith)

  -- its pair is found by a walk from the first pair of its layer on, to the first that ends at its first link or later; p is that test
  pub pair_sought : (p : ℕ → Bool) → ((i : ℕ) → i < length (pairs n w cs) → p i ≡ leb (circuit cs j).first (get_or (pairs n w cs) i no_fibre).last)
      → seek p (length (layers n w cs ((row - 1) / w))) (length (pairs n w cs) - length (layers n w cs ((row - 1) / w))) ≡ pair_of n w cs (rows n w cs) j
  unfolding pair_of pairs layer_of
  pair_sought p h = pair_walk n w cs ((row - 1) / w) (circuit cs j).first first_on.0 first_on.1 in_layer_lem (most n w cs) in_top p h

  -- the layers before its own have no more pairs than all
  pub start_in : length (layers n w cs ((row - 1) / w)) ≤ length (pairs n w cs)
  unfolding pairs
  start_in = layers_grow n w cs ((row - 1) / w) (most n w cs) (let t = in_top in omega arith)

  -- its fibre is one of the list
  pub fibre_small : (given n w cs (rows n w cs) j).fibre ≤ 2 * length cs
  unfolding assigned plan assignments fibres
  fibre_small =
      let e : assigned (plan n w cs) j ≡ given n w cs (rows n w cs) j = get_d_each (given n w cs (rows n w cs)) 0 (length cs) j unassigned l ∙ ap (given n w cs (rows n w cs)) (omega arith) in
      let v = (plan_valid n w cs lies pos).numbered j l in
      let v₁ = v.1 in
      omega (arith, ap (λ x. x.fibre) e, length_twice (pairs n w cs), few_pairs n w cs (lies_there n cs lies) pos)

-- no two circuits of a row end at the same link
pub ends_differ : (n w : ℕ) (cs : List Circuit) → Lies n cs → 1 ≤ w → (i j : ℕ) → i < length cs → j < length cs → get_or (rows n w cs) i 0 ≡ get_or (rows n w cs) j 0
    → (circuit cs i).last ≡ (circuit cs j).last → i ≡ j
unfolding rows
ends_differ n w cs lies pos i j a b r e =
    let k : ℕ = get_or (rows n w cs) j 0 in
    let up : 1 ≤ k = (let p = placed n w cs lies pos j b in omega arith) in
    let own : OwnLinks cs (λ d. eqb (get_or (rows n w cs) d 0) k) = own_after n w cs (lies_there n cs lies) (most n w cs * w) k up in
    by_eq i j (λ z. z)
    (λ z. absurd (lasts_differ cs (λ d. eqb (get_or (rows n w cs) d 0) k) own i j (eq-eqb (get_or (rows n w cs) i 0) k r) (eq-eqb k k (λ i. k)) z e))
