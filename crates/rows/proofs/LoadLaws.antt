-- Loads are at most the number of circuits; from loads to c(i) and M. Assumes nothing.
use Rattle.std.proofs.Common.{◌≡◌, ℕ, ◌/◌, ◌<◌, ◌≤◌, List, length, ap, ◌∙◌, ⊎_elim, div-le_self, arith, w16, Fits}
use Rattle.basics.specs.Tools.{each, top}
use Rattle.basics.proofs.Tables.{each_same}
use Rattle.basics.proofs.Counts.{count_below, top_same}
use Rattle.method.specs.Line.{circuit, uses}
use Rattle.method.specs.Sheet.{at, load, need, most}
use Rattle.method.proofs.Colours.{at_each, at_each_cases}
use Rattle.records.specs.declared.Circuit.{Circuit}
use Rattle.rows.specs.inner.Loads.{Below, rounded, rounded_at}

-- what is at most v at each link is so at link x
pub below_at : (v : ℕ) (C : List ℕ) (x : ℕ) → Below v C → at C x ≤ v
unfolding Below
below_at v C x h = h x

-- a load is at most the number of circuits
pub load_few : (cs : List Circuit) (x : ℕ) → load cs x ≤ length cs
unfolding load
load_few cs x = count_below (λ j. uses (circuit cs j) x) (length cs)

-- and so is each of a table of loads
pub load_bound : (cs : List Circuit) (n v : ℕ) (C : List ℕ) → C ≡ each (load cs) 1 n → length cs ≤ v → Below v C
unfolding Below
load_bound cs n v C e h x =
    let z = ap (λ (z : List ℕ). at z x) e in
    ⊎_elim
    (λ r. let t = r.2 in omega (arith, load_few cs x))
    (λ r. omega arith)
    (at_each_cases (load cs) n x)

-- from loads to c(i)
pub needs_are : (cs : List Circuit) (n w : ℕ) (C C' : List ℕ) → C ≡ each (load cs) 1 n → C' ≡ each (rounded_at w C) 1 n → C' ≡ each (need w cs) 1 n
unfolding rounded_at need
needs_are cs n w C C' e h =
    h ∙ each_same (rounded_at w C) (need w cs) 1 n
    (λ x k l. ap (rounded w) (ap (λ (z : List ℕ). at z x) e ∙ at_each (load cs) n x k (omega arith)))

-- and to M
pub most_is : (cs : List Circuit) (n w r : ℕ) (C : List ℕ) → C ≡ each (load cs) 1 n → r ≡ top (rounded_at w C) n → r ≡ most n w cs
unfolding rounded_at need most
most_is cs n w r C e h =
    h ∙ top_same (rounded_at w C) (need w cs) n
    (λ x k l. ap (rounded w) (ap (λ (z : List ℕ). at z x) e ∙ at_each (load cs) n x k (omega arith)))

-- a quotient of a number that fits a cell fits a cell
pub quotient_fits : (x w : ℕ) → x < 65536 → Fits w16 (x / w)
quotient_fits x w h = omega (arith, div-le_self x w)
