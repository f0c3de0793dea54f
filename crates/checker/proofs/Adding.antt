-- Laws of the length and of the floor, as the loops add them up. Assumes nothing.
use Prim.Native.Nat.{ℕ, zero, suc, ◌+◌, ◌-◌, ◌*◌, ◌≤◌}
use mathlib.Core.Path.{◌≡◌, refl, ap, ◌∙◌}
use mathlib.Core.List.{List}
use native.Mathlib.Nat.{add-zero}
use native.Mathlib.Numerals.{add-one}
use native.Mathlib.Omega.{arith}
use lib.ListN.{length, take, replicate, length-replicate}
use lib.Seq.{take_at}
use Rattle.basics.specs.Tools.{each, sum}
use Rattle.basics.proofs.Tables.{zeros_add}
use Rattle.records.specs.Bytes.{cells_of}
use Rattle.records.specs.Records.{record_at, fibre_of}
use Rattle.records.specs.declared.Circuit.{Circuit}
use Rattle.records.proofs.Encode.{cells_of_zeros}
use Rattle.method.specs.Fibres.{floor}
use Rattle.method.specs.Line.{Fibre, span_length, total}
use Rattle.method.specs.Sheet.{at, need}
use Rattle.method.proofs.Colours.{at_each}
use Rattle.register.specs.Plans.{span_of}
use Rattle.strands.proofs.Same.{floor_same}
use Rattle.checker.specs.Checked.{fibres_in, length_in}
use Rattle.checker.proofs.Reading.{map_each}

-- one fibre more at the end
total_more : (g : ℕ → Fibre) (s k : ℕ) → total (each g s (suc k)) ≡ total (each g s k) + span_length (g (s + k))
unfolding total each
total_more g s zero = let e = ap (λ (x : ℕ). span_length (g x)) (add-zero s) in omega arith
total_more g s (suc k) =
    let z : suc s + k ≡ s + suc k = omega arith in
    let e = ap (λ (x : ℕ). span_length (g x)) z in
    omega (arith, total_more g (suc s) k)

-- no fibre has no length
pub length_none : (bytes : List ℕ) → 0 ≡ length_in (fibres_in 0 bytes)
unfolding fibres_in each total
length_none bytes = refl

-- the length of i fibres, and of one more
pub length_more : (bytes : List ℕ) (i all x : ℕ) → all ≡ length_in (fibres_in i bytes) → x ≡ span_length (span_of (fibre_of (record_at bytes i))) → all + x ≡ length_in (fibres_in (i + 1) bytes)
unfolding fibres_in
length_more bytes i all x a b =
    let f : ℕ → Fibre = λ j. span_of (fibre_of (record_at bytes j)) in
    let p : length_in (fibres_in i bytes) ≡ total (each f 0 i) = ap total (map_each span_of (λ j. fibre_of (record_at bytes j)) 0 i) in
    let q : length_in (fibres_in (i + 1) bytes) ≡ total (each f 0 (i + 1)) = ap total (map_each span_of (λ j. fibre_of (record_at bytes j)) 0 (i + 1)) in
    let r : total (each f 0 (i + 1)) ≡ total (each f 0 (suc i)) = ap (λ (k : ℕ). total (each f 0 k)) (add-one i) in
    let z : 0 + i ≡ i = omega arith in
    let t = ap (λ (k : ℕ). span_length (f k)) z in
    omega (arith, total_more f 0 i)

-- cells that are c(i) add up to the floor
pub floor_is : (n w : ℕ) (cs : List Circuit) (C : List ℕ) → C ≡ each (need w cs) 1 n → sum (at C) n ≡ floor n w cs
floor_is n w cs C e = floor_same (at C) n w cs (λ x a b. ap (λ (z : List ℕ). at z x) e ∙ at_each (need w cs) n x a b)

-- the first of a list of zeros are zeros
zeros_front : (a b : ℕ) → a ≤ b → take a (replicate {A = ℕ} b 0) ≡ replicate a 0
zeros_front a b h =
    let z : b ≡ a + (b - a) = omega arith in
    ap (λ (x : ℕ). take a (replicate {A = ℕ} x 0)) z
    ∙ ap (take a) (zeros_add a (b - a))
    ∙ take_at (replicate a 0) (replicate (b - a) 0) a (length-replicate {A = ℕ} a 0)

-- the first 2 n bytes of a table of zeros are n cells that are 0
pub zeros_lent : (N n : ℕ) → 2 * n ≤ N → (length (take (2 * n) (replicate {A = ℕ} N 0)) ≡ 2 * n) × (cells_of (take (2 * n) (replicate {A = ℕ} N 0)) ≡ replicate n 0)
zeros_lent N n h =
    let e : take (2 * n) (replicate {A = ℕ} N 0) ≡ replicate (2 * n) 0 = zeros_front (2 * n) N h in
    (ap length e ∙ length-replicate {A = ℕ} (2 * n) 0, ap cells_of e ∙ cells_of_zeros n)
