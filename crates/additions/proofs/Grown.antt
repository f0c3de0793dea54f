-- The bound after k additions. Assumes nothing.
use Prim.Native.Nat.{◌*◌, ◌+◌, ◌-◌, ◌/◌, ◌<◌, ◌≤◌, min, suc, zero, ℕ}
use lib.ListN.{get_or, length, length-append}
use mathlib.Core.Bool.{false}
use mathlib.Core.List.{List, ◌++◌}
use mathlib.Core.Path.{◌≡◌, ap}
use native.Mathlib.Nat.{div-lt_iff_lt-mul, div-mul-le_self, le-div_iff_mul-le, lt-div-mul-add, mul-le-mul_left}
use native.Mathlib.Omega.{arith}
use Rattle.basics.specs.Tools.{sum}
use Rattle.basics.proofs.Bools.{by_eq, by_le}
use Rattle.basics.proofs.Sums.{sum_le}
use Rattle.records.specs.declared.Circuit.{Circuit}
use Rattle.method.specs.Fibres.{floor}
use Rattle.method.specs.Line.{Fibre, Lies, Plan, Valid, fibres_over, no_fibre, over, tally}
use Rattle.method.specs.Lit.{lit_plan}
use Rattle.method.specs.LitDemands.{lit_fibres}
use Rattle.method.specs.Sheet.{load, need}
use Rattle.method.proofs.Bound.{need_fits}
use Rattle.method.proofs.FibreLists.{all_of, tally_append, tally_none}
use Rattle.method.proofs.Lengths.{OnLine, sum_total}
use Rattle.method.proofs.LitDemands.{lit_demand}
use Rattle.method.proofs.Runs.{over_left, over_right}
use Rattle.places.specs.Parts.{picked}
use Rattle.places.proofs.Parts.{part_lies, part_load, picked_part}
use Rattle.places.proofs.TwoFiles.{load_append}
use Rattle.additions.specs.Adding.{add, left_plan, places_found, unplaced}
use Rattle.additions.specs.Grown.{FibresOn, Grown, Within, added, planned}
use Rattle.additions.proofs.Added.{add_few, add_fibres, add_valid}

-- ROUNDING UP: a / w, rounded up
abbrev up : ℕ → ℕ → ℕ
up a w = (a + (w - 1)) / w

-- it rises with a
up_le : (a b w : ℕ) → 1 ≤ w → a ≤ b → up a w ≤ up b w
up_le a b w pos h = (le-div_iff_mul-le {k = w} {x = up a w} {y = b + (w - 1)} pos).1 (omega (arith, div-mul-le_self (a + (w - 1)) w))

-- two, rounded up each, are at most their sum, rounded up, and one more
up_add : (a b w : ℕ) → 1 ≤ w → up a w + up b w ≤ up (a + b) w + 1
up_add a b w pos =
    by_eq (up a w + up b w) 0 (λ z. omega arith)
    (λ z.
    let s : ℕ = up a w + up b w - 1 in
    let e : suc s ≡ up a w + up b w = omega arith in
    let m : suc s * w ≡ (up a w + up b w) * w = ap (λ x. x * w) e in
    let r : s ≤ up (a + b) w = (le-div_iff_mul-le {k = w} {x = s} {y = a + b + (w - 1)} pos).1 (omega (arith, div-mul-le_self (a + (w - 1)) w, div-mul-le_self (b + (w - 1)) w)) in
    omega arith)

-- it falls as w rises
up_anti : (a w v : ℕ) → 1 ≤ w → w ≤ v → up a v ≤ up a w
up_anti a w v pos h =
    let y : ℕ = up a w in
    let l : a + (w - 1) < y * w + w = lt-div-mul-add {a = a + (w - 1)} {b = w} pos in
    let m : y * w ≤ y * v = mul-le-mul_left y h in
    let z : up a v < suc y = (div-lt_iff_lt-mul {k = v} {x = a + (v - 1)} {y = suc y} (omega arith)).1 (omega arith) in
    omega arith

-- no fibre of the line passes over a link that is not on it
off_line : (n : ℕ) (fs : List Fibre) → FibresOn n fs → (x : ℕ) → (1 ≤ x → x ≤ n → ⊥) → fibres_over fs x ≡ 0
unfolding fibres_over
off_line n fs on x h =
    tally_none (λ f. over f x) fs
    (all_of (λ f. over f x ≡ false) fs
    (λ q l.
    let a = on q l in
    by_le 1 x (λ b. over_right (get_or fs q no_fibre) x (by_le x n (λ c. absurd (h b c)) (λ c. omega arith))) (λ b. over_left (get_or fs q no_fibre) x (omega arith))))

-- R-1's bound holds for every number, on the line or not
lit_over : (n w : ℕ) → 1 ≤ w → (cs : List Circuit) → Lies n cs → (x : ℕ) → fibres_over (lit_plan n w cs).fibres x ≤ 2 * need w cs x
unfolding lit_fibres
lit_over n w pos cs lies x =
    let a = lit_demand n w cs lies pos in
    let off : (1 ≤ x → x ≤ n → ⊥) → fibres_over (lit_plan n w cs).fibres x ≡ 0 = off_line n (lit_plan n w cs).fibres a.rules.fibres_on_line x in
    by_le 1 x (λ b. by_le x n (λ c. a.over_few x b c) (λ c. omega (arith, off (λ d e. omega arith)))) (λ b. omega (arith, off (λ d e. omega arith)))

-- an addition brings a link at most twice the new circuits' load / v, rounded up
added_over : (n v : ℕ) (cs : List Circuit) (p : Plan) (ds : List Circuit) → 1 ≤ v → Valid v cs p → Lies n ds → (x : ℕ)
    → fibres_over (add n v cs p ds).fibres x ≤ fibres_over p.fibres x + 2 * up (load ds x) v
unfolding fibres_over left_plan need
added_over n v cs p ds pos y lies x =
    let part = picked_part (unplaced (places_found v cs p ds)) ds in
    let left = picked (unplaced (places_found v cs p ds)) ds in
    omega (
      arith,
      ap (tally (λ f. over f x)) (add_fibres n v cs p ds pos y lies),
      tally_append (λ f. over f x) p.fibres (lit_plan n v left).fibres,
      lit_over n v pos left (part_lies part n lies) x,
      up_le (load left x) (load ds x) v pos (part_load part x),
    )

-- the sums of both sides
sum_const : (f : ℕ → ℕ) (c m : ℕ) → sum (λ i. 2 * f i + c) m ≡ 2 * sum f m + m * c
unfolding sum
sum_const f c zero = omega arith
sum_const f c (suc m) = omega (arith, sum_const f c m)

-- the least w is at least 1
pub grown_pos : {k w : ℕ} {cs : List Circuit} {p : Plan} → Grown k w cs p → 1 ≤ w
grown_pos (planned n w cs a l) = a
grown_pos (added g n v ds a l y) = let h = grown_pos g in omega arith

-- the plan is valid for the w that was given last, which is at least the least
pub grown_valid : {k w : ℕ} {cs : List Circuit} {p : Plan} → Grown k w cs p → (v : ℕ) × (w ≤ v) × Valid v cs p
grown_valid (planned n w cs pos l) = (w, omega arith, (lit_demand n w cs l pos).rules.valid)
grown_valid (added {cs = cs} {p = p} g n v ds pos l y) = (v, omega arith, add_valid n v cs p ds pos y l)

-- at most 2 × (whole load / w, rounded up) + 2k over each link
pub grown_over : {k w : ℕ} {cs : List Circuit} {p : Plan} → Grown k w cs p → (x : ℕ) → fibres_over p.fibres x ≤ 2 * need w cs x + 2 * k
unfolding need
grown_over (planned n w cs pos l) x = omega (arith, lit_over n w pos cs l x)
grown_over (added {k = k} {w = w} {cs = cs} {p = p} g n v ds pos l y) x =
    let m : ℕ = min w v in
    let pw = grown_pos g in
    let pm : 1 ≤ m = omega arith in
    let A : ℕ = up (load cs x) w in
    let ih : fibres_over p.fibres x ≤ 2 * A + 2 * k = grown_over g x in
    let B : ℕ = up (load ds x) v in
    let step : fibres_over (add n v cs p ds).fibres x ≤ fibres_over p.fibres x + 2 * B = added_over n v cs p ds pos y l x in
    let a' : A ≤ up (load cs x) m = up_anti (load cs x) m w pm (omega arith) in
    let b' : B ≤ up (load ds x) m = up_anti (load ds x) m v pm (omega arith) in
    let c : up (load cs x) m + up (load ds x) m ≤ up (load cs x + load ds x) m + 1 = up_add (load cs x) (load ds x) m pm in
    let d : up (load (cs ++ ds) x) m ≡ up (load cs x + load ds x) m = ap (λ z. up z m) (load_append cs ds x) in
    gather (fibres_over (add n v cs p ds).fibres x) (fibres_over p.fibres x) A B (up (load cs x) m) (up (load ds x) m) (up (load cs x + load ds x) m) (up (load (cs ++ ds) x) m) k step ih a' b' c d
  where
    gather : (F G A B A' B' C D k : ℕ) → F ≤ G + 2 * B → G ≤ 2 * A + 2 * k → A ≤ A' → B ≤ B' → A' + B' ≤ C + 1 → D ≡ C → F ≤ 2 * D + 2 * suc k
    gather F G A B A' B' C D k h₁ h₂ h₃ h₄ h₅ h₆ = omega arith

-- at most as many fibres as circuits
grown_few : {k w : ℕ} {cs : List Circuit} {p : Plan} → Grown k w cs p → length p.fibres ≤ length cs
grown_few (planned n w cs pos l) = unfold lit_fibres in (lit_demand n w cs l pos).few_fibres
grown_few (added {cs = cs} {p = p} g n v ds pos l y) =
    omega (arith, grown_few g, add_few n v cs p ds pos y l, length-append cs ds)

-- DEMAND 3 AFTER k ADDITIONS
pub grown_within : {k w : ℕ} {cs : List Circuit} {p : Plan} → Grown k w cs p → Within k w cs p
grown_within {k = k} {w = w} {cs = cs} {p = p} g =
    record {
      over = grown_over g;
      over_any = λ q v i. omega (arith, grown_over g i, need_fits w cs (grown_pos g) q v i);
      total_few = λ n on.
          unfold floor in omega (
            arith,
            sum_total p.fibres n (all_of (OnLine n) p.fibres on),
            sum_le (fibres_over p.fibres) (λ i. 2 * need w cs i + 2 * k) n (λ i a b. grown_over g i),
            sum_const (need w cs) (2 * k) n,
          );
      few_fibres = grown_few g;
      valid = grown_valid g;
    }
