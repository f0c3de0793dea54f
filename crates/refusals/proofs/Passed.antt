-- What passing each row of the table tells. Assumes nothing.
use Prim.Native.Nat.{ℕ, ◌*◌, ◌/◌, ◌%◌, ◌<◌, ◌≤◌}
use mathlib.Core.Path.{◌≡◌, refl, sym}
use mathlib.Core.Bool.{Bool, true, false, not, ◌&&◌, ◌||◌}
use mathlib.Core.Logic.{◌≢◌}
use mathlib.Core.List.{List}
use mathlib.Core.Option.{Option, none, some}
use native.Mathlib.Omega.{arith}
use lib.ListN.{length}
use lib.Dec.{leb, ltb, eqb}
use borrow.Author.Tests.{leb-true, ltb-false, eqb-true, eqb-false, le-ltb}
use Rattle.basics.proofs.Bools.{and_l, and_r, by_le, or_false_l, or_false_r}
use Rattle.basics.proofs.Searches.{any_false}
use Rattle.records.specs.Records.{record_at, circuit_of, number_in}
use Rattle.records.specs.declared.Circuit.{Circuit}
use Rattle.refusals.specs.Table.{whenever, wherever, no_end, wrong_end, bad_ends, has_number, repeats, row1, row2, row3, row4, row5, row6, row7}
use Rattle.std.specs.Prelude.{Option as Told}
use Rattle.refusals.specs.declared.Reason.{Reason}
use Rattle.refusals.specs.declared.Reason.TheVariants.{PartRecord, TooManyCircuits, Links, Wavelengths, NumberZero, WrongEnd, NumberTwice}
use Rattle.refusals.specs.declared.End.{End}
use Rattle.refusals.proofs.First.{record_none}

-- a row that applies as a whole and does not apply: its test failed
pub whenever_none : (reason : Reason) (b : Bool) → whenever reason b ≡ none → b ≡ false
whenever_none reason true e = cc
whenever_none reason false e = refl

-- a row that applies where a test fails and does not apply: the test holds
unless_none : (reason : Reason) (b : Bool) → whenever reason (not b) ≡ none → b ≡ true
unless_none reason true e = refl
unless_none reason false e = cc

-- a row that applies to a record and does not apply: there is no such record
pub wherever_none : (reason : Reason) (end_at : ℕ → Told End) (o : Option ℕ) → wherever reason end_at o ≡ none → o ≡ none
wherever_none reason end_at none e = refl
wherever_none reason end_at (some place) e = cc

-- 1: the circuit bytes are whole records
pub passed1 : (s : List ℕ) → (row1 s) ≡ none → length s ≡ 8 * (length s / 8)
passed1 s e = let z : length s % 8 ≡ 0 = eqb-true (length s % 8) 0 (unless_none PartRecord (eqb (length s % 8) 0) e) in omega arith

-- 2: there are at most 2,048 circuits
pub passed2 : (m : ℕ) → (row2 m) ≡ none → m ≤ 2048
passed2 m e = ltb-false 2048 m (whenever_none TooManyCircuits (ltb 2048 m) e)

-- a number that is tested to be 1 to the limit is
from_one : (reason : Reason) (limit x : ℕ) → whenever reason (not (leb 1 x && leb x limit)) ≡ none → (1 ≤ x) × (x ≤ limit)
from_one reason limit x e =
    let t = unless_none reason (leb 1 x && leb x limit) e in
    (leb-true 1 x (and_l _ _ t), leb-true x limit (and_r (leb 1 x) _ t))

-- 3: n is 1 to the limit
pub passed3 : (limit n : ℕ) → (row3 limit n) ≡ none → (1 ≤ n) × (n ≤ limit)
passed3 = from_one Links

-- 4: w is 1 to the limit
pub passed4 : (limit w : ℕ) → (row4 limit w) ≡ none → (1 ≤ w) × (w ≤ limit)
passed4 = from_one Wavelengths

-- 5: no circuit number is 0
pub passed5 : (s : List ℕ) (m : ℕ) → (row5 s m) ≡ none → (i : ℕ) → i < m → 1 ≤ number_in s i
passed5 s m e i h =
    let z : number_in s i ≢ 0 = eqb-false (number_in s i) 0 (record_none (λ i. eqb (number_in s i) 0) m (wherever_none NumberZero no_end _ e) i h) in
    omega arith

-- a circuit whose ends are not bad lies on the line
pub good_ends : (n : ℕ) (c : Circuit) → bad_ends n c ≡ false → (1 ≤ c.first) × (c.first ≤ c.last) × (c.last ≤ n)
unfolding bad_ends
good_ends n c e =
    let r = or_false_l (eqb c.first 0 || ltb c.last c.first) (ltb n c.last) e in
    let a : c.first ≢ 0 = eqb-false c.first 0 (or_false_l _ _ r) in
    let b : c.first ≤ c.last = ltb-false c.last c.first (or_false_r (eqb c.first 0) _ r) in
    let d : c.last ≤ n = ltb-false n c.last (or_false_r (eqb c.first 0 || ltb c.last c.first) _ e) in
    (omega arith, b, d)

-- 6: every circuit lies on the line
pub passed6 : (n : ℕ) (s : List ℕ) (m : ℕ) → (row6 n s m) ≡ none → (i : ℕ) → i < m
    → (1 ≤ (circuit_of (record_at s i)).first) × ((circuit_of (record_at s i)).first ≤ (circuit_of (record_at s i)).last) × ((circuit_of (record_at s i)).last ≤ n)
passed6 n s m e i h = good_ends n (circuit_of (record_at s i)) (record_none (λ i. bad_ends n (circuit_of (record_at s i))) m (wherever_none WrongEnd (λ x. wrong_end n (circuit_of (record_at s x))) _ e) i h)

-- a record that does not repeat has another number than each before it
pub not_before : (s : List ℕ) (j : ℕ) → repeats s j ≡ false → (i : ℕ) → i < j → number_in s i ≢ number_in s j
unfolding repeats
not_before s j e i h = eqb-false (number_in s i) (number_in s j) (any_false (has_number s (number_in s j)) j e i h)

-- 7: no circuit number stands twice
pub passed7 : (s : List ℕ) (m : ℕ) → (row7 s m) ≡ none → (i j : ℕ) → i < m → j < m → number_in s i ≡ number_in s j → i ≡ j
passed7 s m e i j a b q =
    by_le i j
    (λ l. by_le j i (λ g. omega arith) (λ g. absurd (not_before s j (record_none (repeats s) m (wherever_none NumberTwice no_end _ e) j b) i g q)))
    (λ l. absurd (not_before s i (record_none (repeats s) m (wherever_none NumberTwice no_end _ e) i a) j l (sym q)))

-- 8 to 10: a lent area has the bytes that are needed
pub passed_room : (reason : Reason) (needed has : ℕ) → whenever reason (ltb has needed) ≡ none → needed ≤ has
passed_room reason needed has e = ltb-false has needed (whenever_none reason (ltb has needed) e)

-- a test that fails leaves its row out
never : (reason : Reason) (b : Bool) → b ≡ false → whenever reason b ≡ none
never reason true e = cc
never reason false e = refl

-- 8 to 10 do not apply to a lent area that is long enough
pub passes_room : (reason : Reason) (needed has : ℕ) → needed ≤ has → whenever reason (ltb has needed) ≡ none
passes_room reason needed has h = never reason (ltb has needed) (le-ltb has needed h)
