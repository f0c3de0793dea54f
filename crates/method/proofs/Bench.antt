-- The bench cases hold. Assumes nothing.
use Prim.Native.Nat.{◌+◌, ◌-◌, ◌<◌, ◌≤◌, suc, zero, ℕ}
use lib.ListN.{length}
use mathlib.Core.Bool.{cond}
use mathlib.Core.List.{List, [], ◌∷◌}
use mathlib.Core.Logic.{◌≢◌}
use mathlib.Core.Path.{◌≡◌, ap, refl}
use native.Mathlib.Omega.{arith}
use Rattle.basics.specs.Tools.{count}
use Rattle.basics.proofs.Bools.{by_eq, on}
use Rattle.records.specs.declared.Circuit.{Circuit}
use Rattle.method.specs.Bench.{AllHold, Least, NoRow, c, cases, clashing, f, g, slips, three}
use Rattle.method.specs.Demands.{during, in_row}
use Rattle.method.specs.Line.{Plan, Valid, assigned, circuit, fibre_under, overlap, span_length, total, uses}
use Rattle.method.specs.LitBench.{lit_cases, lit_slips}
use Rattle.method.specs.Sheet.{load}
use Rattle.method.specs.Sides.{side_cases}
use Rattle.method.proofs.BenchPlans.{tables}
use Rattle.method.proofs.During.{own_during}
use Rattle.method.proofs.Intervals.{none_within}
use Rattle.method.proofs.Lengths.{two_total}
use Rattle.method.proofs.Links.{lies_there, uses_first, uses_last, uses_of}

-- CASE 5
-- a fibre is as long as each circuit in it
long : {w : ℕ} {cs : List Circuit} {p : Plan} → Valid w cs p → (j : ℕ) → j < length cs → suc (circuit cs j).last - (circuit cs j).first ≤ span_length (fibre_under p j)
unfolding span_length
long v j l = let a = v.within j l in omega (arith, a.0, a.1)

-- two circuits on different fibres: a plan is as long as both
both : {w : ℕ} {cs : List Circuit} {p : Plan} → Valid w cs p → (i j : ℕ) → i < length cs → j < length cs → (assigned p i).fibre ≢ (assigned p j).fibre
    → (suc (circuit cs i).last - (circuit cs i).first) + (suc (circuit cs j).last - (circuit cs j).first) ≤ total p.fibres
unfolding fibre_under
both {p = p} v i j l m d =
    let a = (v.numbered i l).0 in
    let b = (v.numbered j m).0 in
    omega (arith, long v i l, long v j m, two_total p.fibres ((assigned p i).fibre - 1) ((assigned p j).fibre - 1) (omega arith))

-- three wavelengths of two are not all different
crowded : (x y z : ℕ) → 1 ≤ x → x ≤ 2 → 1 ≤ y → y ≤ 2 → 1 ≤ z → z ≤ 2 → x ≢ y → x ≢ z → y ≢ z → ⊥
crowded x y z a b c d e f p q r = omega arith

-- no valid plan of them is shorter than 5: one fibre cannot carry all three, and the first needs 3 links, each other 2
no_shorter : (p : Plan) → Valid 2 three p → 5 ≤ total p.fibres
unfolding circuit overlap
no_shorter p v =
    by_eq (assigned p 0).fibre (assigned p 1).fibre
    (λ d.
    by_eq (assigned p 0).fibre (assigned p 2).fibre
    (λ e.
    let x = v.wavelength_in 0 (omega arith) in
    let y = v.wavelength_in 1 (omega arith) in
    let z = v.wavelength_in 2 (omega arith) in
    absurd
    (crowded _ _ _ x.0 x.1 y.0 y.1 z.0 z.1
    (v.apart 0 1 (omega arith) (omega arith) (omega arith) refl d)
    (v.apart 0 2 (omega arith) (omega arith) (omega arith) refl e)
    (v.apart 1 2 (omega arith) (omega arith) (omega arith) refl (omega arith))))
    (λ e. omega (arith, both v 0 2 (omega arith) (omega arith) e)))
    (λ d. omega (arith, both v 0 1 (omega arith) (omega arith) d))

-- a plan of length 5
abbrev short : Plan
short = record { fibres = f 1 3 2 ∷ f 2 3 2 ∷ []; assignments = g 1 2 ∷ g 1 1 ∷ g 2 1 ∷ [] }

-- what holds at places 0, 1 and 2 holds below 3
below_three : (P : ℕ → Type 0) → P 0 → P 1 → P 2 → (j : ℕ) → j < 3 → P j
below_three P a b c zero l = a
below_three P a b c (suc zero) l = b
below_three P a b c (suc (suc zero)) l = c
below_three P a b c (suc (suc (suc j))) l = absurd (omega arith)

-- its fibre and wavelength tell a place
told : (j : ℕ) → j < 3 → j + (assigned short j).wavelength ≡ suc (assigned short j).fibre
unfolding assigned
told = below_three _ refl refl refl

-- it is valid
short_valid : Valid 2 three short
unfolding circuit assigned fibre_under overlap
short_valid =
    record {
      all_assigned = refl;
      numbered = below_three _ (omega arith, omega arith) (omega arith, omega arith) (omega arith, omega arith);
      within = below_three _ (omega arith, omega arith) (omega arith, omega arith) (omega arith, omega arith);
      wavelength_in = below_three _ (omega arith, omega arith) (omega arith, omega arith) (omega arith, omega arith);
      apart = λ i j l m d o e u. d (omega (arith, told i l, told j m));
    }

-- CASE 8
-- of two circuits that are apart, a link is used by one at most
one_of : (c d : Circuit) (i : ℕ) → c.last < d.first → cond (uses c i) 1 0 + cond (uses d i) 1 0 ≤ 1
one_of c d i l =
    on (uses c i)
    (λ u. on (uses d i) (λ v. absurd (omega (arith, uses_last c i u, uses_first d i v))) (λ v. rw (u, v) (omega arith)))
    (λ u. on (uses d i) (λ v. rw (u, v) (omega arith)) (λ v. rw (u, v) (omega arith)))

-- at most two of them are on a link: the first and the last are apart, and so are the two between
two_on : (i : ℕ) → load clashing i ≤ 2
unfolding load count circuit
two_on i = omega (arith, one_of (c 1 1 2) (c 4 4 9) i (omega arith), one_of (c 2 2 4) (c 3 5 6) i (omega arith))

-- they are no row of any sheet
clash_no_row : NoRow clashing 2 3
unfolding circuit
clash_no_row =
    record {
      two_on_a_link = two_on;
      two_of_them = (omega arith, omega arith, omega arith);
      no_own_link = λ i u. uses_of (c 4 4 9) i (omega (arith, uses_first (c 3 5 6) i u)) (omega (arith, uses_last (c 3 5 6) i u));
      no_row_lem = λ n w ds lies r f k pos h.
          let x = h 2 (omega arith) in
          let y = h 3 (omega arith) in
          none_within ds (in_row (during n w ds r f) k) (own_during n w ds (lies_there n ds lies) r f k pos) x.0 y.0 x.1 y.1 (λ e. let z = ap (λ j. (circuit ds j).last) e in omega (arith, x.3, y.3)) (omega (arith, x.2, y.2)) (omega (arith, x.3, y.3));
    }

-- no valid plan of case 5 is shorter than 5, and one has that length
least_five : Least 2 three 5
unfolding total span_length
least_five = record { none_shorter = no_shorter; best = short; best_valid = short_valid; best_total = refl }

-- every case of the bench holds
pub bench : AllHold cases
bench = (tables least_five clash_no_row).0

-- every case of our own table holds
pub our_bench : AllHold slips
our_bench = (tables least_five clash_no_row).1

-- every case of the bench holds as R-1 has it
pub lit_bench : AllHold lit_cases
lit_bench = (tables least_five clash_no_row).2

-- every case of our own table for R-1 holds
pub our_lit_bench : AllHold lit_slips
our_lit_bench = (tables least_five clash_no_row).3

-- the two sides of an idle link, and the whole
pub side_bench : AllHold side_cases
side_bench = (tables least_five clash_no_row).4
