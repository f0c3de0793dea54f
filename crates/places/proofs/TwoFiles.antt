-- Two files: the same records in another order, and one file after the other. Assumes nothing.
use Prim.Native.Nat.{◌+◌, ◌-◌, ◌<◌, ◌≤◌, suc, zero, ℕ}
use lib.ListN.{get_or-append, length, length-append}
use lib.Seq.{get_or-append-add}
use mathlib.Core.Bool.{Bool, true}
use mathlib.Core.List.{List, ◌++◌}
use mathlib.Core.Path.{◌∙◌, ◌≡◌, ap, refl, sym}
use native.Mathlib.Omega.{arith}
use Rattle.basics.specs.Tools.{count}
use Rattle.basics.proofs.Bools.{by_le}
use Rattle.basics.proofs.Counts.{count_all, count_split, pigeonhole}
use Rattle.records.specs.declared.Circuit.{Circuit}
use Rattle.method.specs.Demands.{Rearranged}
use Rattle.method.specs.Line.{Distinct, circuit, nobody, uses}
use Rattle.method.specs.Sheet.{load}

-- files with the same records are equally long
pub length_rearranged : (cs ds : List Circuit) → Rearranged cs ds → length cs ≡ length ds
length_rearranged cs ds h =
    let a : length cs ≤ length ds = no_longer (length cs) (length ds) h.there (λ i l. (h.to i l).0) (λ i j a b e. sym (h.to i a).1 ∙ ap h.back e ∙ (h.to j b).1) in
    let b : length ds ≤ length cs = no_longer (length ds) (length cs) h.back (λ j l. (h.fro j l).0) (λ i j a b e. sym (h.fro i a).1 ∙ ap h.there e ∙ (h.fro j b).1) in
    omega arith
  where
    no_longer : (m k : ℕ) (f : ℕ → ℕ) → ((i : ℕ) → i < m → f i < k) → ((i j : ℕ) → i < m → j < m → f i ≡ f j → i ≡ j) → m ≤ k
    no_longer m k f to one =
        omega (arith, pigeonhole (λ j. true) m (λ j. true) k f (λ j l u. (to j l, refl)) (λ i j a b u v e. one i j a b e), count_all (λ j. true) true m (λ x l. refl), count_all (λ j. true) true k (λ x l. refl))

-- they have the same loads
pub load_same : (cs ds : List Circuit) → Rearranged cs ds → (x : ℕ) → load cs x ≡ load ds x
unfolding load
load_same cs ds h x =
    let a = pigeonhole (λ j. uses (circuit cs j) x) (length cs) (λ j. uses (circuit ds j) x) (length ds) h.there
    (λ j l e. ((h.to j l).0, sym (ap (λ c. uses c x) (h.to j l).2) ∙ e)) (λ i j li lj u v e. sym (h.to i li).1 ∙ ap h.back e ∙ (h.to j lj).1) in
    let b = pigeonhole (λ j. uses (circuit ds j) x) (length ds) (λ j. uses (circuit cs j) x) (length cs) h.back
    (λ j l e. ((h.fro j l).0, sym (ap (λ c. uses c x) (h.fro j l).2) ∙ e)) (λ i j li lj u v e. sym (h.fro i li).1 ∙ ap h.there e ∙ (h.fro j lj).1) in
    omega arith

-- TWO FILES, one after the other: an old circuit
pub circuit_old : (cs ds : List Circuit) (j : ℕ) → j < length cs → circuit (cs ++ ds) j ≡ circuit cs j
unfolding circuit
circuit_old cs ds j l = get_or-append cs ds nobody j l

-- a new one
pub circuit_new : (cs ds : List Circuit) (j : ℕ) → circuit (cs ++ ds) (length cs + j) ≡ circuit ds j
unfolding circuit
circuit_new cs ds j = get_or-append-add cs ds j nobody

-- a place of two files: an old circuit, or a new one
pub old_or_new : {C : Type 0} (cs ds : List Circuit) (i : ℕ) → i < length (cs ++ ds) → (i < length cs → C) → ((k : ℕ) → k < length ds → i ≡ length cs + k → C) → C
old_or_new cs ds i l old new = by_le (suc i) (length cs) old (λ g. new (i - length cs) (omega (arith, length-append cs ds)) (omega arith))

-- tests that agree count the same
pub count_same : (p q : ℕ → Bool) (m : ℕ) → ((j : ℕ) → j < m → p j ≡ q j) → count p m ≡ count q m
unfolding count
count_same p q zero h = refl
count_same p q (suc m) h = rw (h m (omega arith), count_same p q m (λ j l. h j (omega arith)))

-- the load of both
pub load_append : (cs ds : List Circuit) (x : ℕ) → load (cs ++ ds) x ≡ load cs x + load ds x
unfolding load
load_append cs ds x =
    ap (count (λ j. uses (circuit (cs ++ ds) j) x)) (length-append cs ds)
    ∙ count_split (λ j. uses (circuit (cs ++ ds) j) x) (length cs) (length ds)
    ∙ omega (
      arith,
      count_same (λ j. uses (circuit (cs ++ ds) j) x) (λ j. uses (circuit cs j) x) (length cs) (λ j l. ap (λ c. uses c x) (circuit_old cs ds j l)),
      count_same (λ j. uses (circuit (cs ++ ds) (length cs + j)) x) (λ j. uses (circuit ds j) x) (length ds) (λ j l. ap (λ c. uses c x) (circuit_new cs ds j)),
    )

-- no number of the second stands twice
pub distinct_new : (cs ds : List Circuit) → Distinct (cs ++ ds) → Distinct ds
distinct_new cs ds once i j li lj e =
    let z = once (length cs + i) (length cs + j) (omega (arith, length-append cs ds)) (omega (arith, length-append cs ds)) (ap (λ c. c.number) (circuit_new cs ds i) ∙ e ∙ sym (ap (λ c. c.number) (circuit_new cs ds j))) in
    omega arith

-- nor of the first
pub distinct_old : (cs ds : List Circuit) → Distinct (cs ++ ds) → Distinct cs
distinct_old cs ds once i j li lj e =
    once i j (omega (arith, length-append cs ds)) (omega (arith, length-append cs ds)) (ap (λ c. c.number) (circuit_old cs ds i li) ∙ e ∙ sym (ap (λ c. c.number) (circuit_old cs ds j lj)))
