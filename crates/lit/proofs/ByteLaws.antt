-- The two lists in bytes: a fibre record more, a new last link in the last one, and a new fibre number in an assignment. Assumes nothing.
use Prim.Native.Nat.{ℕ, zero, suc, ◌+◌, ◌-◌, ◌*◌, ◌/◌, ◌%◌, ◌≤◌, ◌<◌}
use mathlib.Core.Path.{◌≡◌, refl, sym, ap, ap₂, ◌∙◌}
use mathlib.Core.Logic.{◌≢◌}
use mathlib.Core.List.{List, [], ◌∷◌, ◌++◌, append_assoc, append-nil}
use native.Mathlib.Omega.{arith}
use lib.ListN.{length, set, take, drop, length-append, length-set, take-append-drop}
use lib.Seq.{drop-drop, drop-set-lt, drop-set-add, take-set-le, take-set-lt}
use Rattle.basics.specs.Tools.{each}
use Rattle.basics.proofs.Bools.{by_le}
use Rattle.basics.proofs.Tables.{table_is}
use Rattle.records.specs.Bytes.{set_cell}
use Rattle.records.specs.Records.{put_record, record_at}
use Rattle.records.specs.declared.Circuit.{Circuit}
use Rattle.records.proofs.Series.{put_record_more}
use Rattle.method.specs.Line.{Assignment, Fibre, Plan, circuit, nobody}
use Rattle.register.specs.Lists.{assignment_list, assignment_record, assignment_records, fibre_list, fibre_record, fibre_records}
use Rattle.register.proofs.Reading.{length_fibre_records}
use Rattle.register.proofs.Writing.{length_fibre_record}
use Rattle.lit.specs.inner.Sweeps.{spot}
use Rattle.lit.proofs.RunEnds.{longer, longer_length}

-- THE FIBRE LIST. One more record at the end
records_more : (from : ℕ) (fs : List Fibre) (f : Fibre) → fibre_records from (fs ++ (f ∷ [])) ≡ fibre_records from fs ++ fibre_record (from + length fs + 1) f
unfolding fibre_records
records_more from [] f = let z : from + 0 + 1 ≡ from + 1 = omega arith in rw z (append-nil (fibre_record (from + 1) f))
records_more from (g ∷ fs) f =
    let z : from + 1 + length fs + 1 ≡ from + suc (length fs) + 1 = omega arith in
    ap (λ (r : List ℕ). fibre_record (from + 1) g ++ r) (records_more (from + 1) fs f ∙ ap (λ (k : ℕ). fibre_records (from + 1) fs ++ fibre_record k f) z)
    ∙ sym (append_assoc (fibre_record (from + 1) g) (fibre_records (from + 1) fs) (fibre_record (from + suc (length fs) + 1) f))

-- one more is put
pub filled_more : (from k : ℕ) (fs : List Fibre) (f : Fibre) (F₀ F F' : List ℕ) → k ≡ length fs → F ≡ fibre_list from fs F₀ → F' ≡ put_record F k (fibre_record (from + k + 1) f) → F' ≡ fibre_list from (fs ++ (f ∷ [])) F₀
unfolding fibre_list
filled_more from k fs f F₀ F F' e p q =
    let n : length (fs ++ (f ∷ [])) ≡ length fs + 1 = length-append fs (f ∷ []) in
    q ∙ (λ i. put_record (p i) (e i) (fibre_record (from + e i + 1) f))
    ∙ put_record_more (fibre_records from fs) (fibre_record (from + length fs + 1) f) F₀ (length fs) (length_fibre_records from fs) (length_fibre_record (from + length fs + 1) f)
    ∙ ap₂ (λ (x : List ℕ) (y : ℕ). x ++ drop (8 * y) F₀) (sym (records_more from fs f)) (sym n)

-- a store behind a list
set_right : (r s : List ℕ) (k v : ℕ) → set (r ++ s) (length r + k) v ≡ r ++ set s k v
set_right [] s k v = let z : 0 + k ≡ k = omega arith in rw z refl
set_right (x ∷ r) s k v = let z : suc (length r) + k ≡ suc (length r + k) = omega arith in rw z (ap (λ (l : List ℕ). x ∷ l) (set_right r s k v))

-- a store behind the first 8 bytes
set_behind : (r s : List ℕ) (k v : ℕ) → length r ≡ 8 → set_cell (r ++ s) (4 + k) v ≡ r ++ set_cell s k v
unfolding set_cell
set_behind r s k v l =
    let a : 2 * (4 + k) ≡ 8 + 2 * k = omega arith in
    let b : 2 * (4 + k) + 1 ≡ 8 + (2 * k + 1) = omega arith in
    ap₂ (λ (x y : ℕ). set (set (r ++ s) x (v % 256)) y (v / 256)) (a ∙ ap (λ (z : ℕ). z + 2 * k) (sym l)) (b ∙ ap (λ (z : ℕ). z + (2 * k + 1)) (sym l))
    ∙ ap (λ (x : List ℕ). set x (length r + (2 * k + 1)) (v / 256)) (set_right r s (2 * k) (v % 256))
    ∙ set_right r (set s (2 * k) (v % 256)) (2 * k + 1) (v / 256)

-- the last record gets a new last link
last_set : (from e : ℕ) (f : Fibre) (fs : List Fibre) (R : List ℕ) → set_cell (fibre_records from (f ∷ fs) ++ R) (4 * length fs + 2) e ≡ fibre_records from (longer e (f ∷ fs)) ++ R
unfolding fibre_records longer
last_set from e f [] R = unfold set_cell fibre_record in refl
last_set from e f (g ∷ fs) R =
    let r = fibre_record (from + 1) f in
    let s = fibre_records (from + 1) (g ∷ fs) in
    let k : 4 * suc (length fs) + 2 ≡ 4 + (4 * length fs + 2) = omega arith in
    ap₂ (λ (x : List ℕ) (y : ℕ). set_cell x y e) (append_assoc r s R) k
    ∙ set_behind r (s ++ R) (4 * length fs + 2) e (length_fibre_record (from + 1) f)
    ∙ ap (λ (x : List ℕ). r ++ x) (last_set (from + 1) e g fs R)
    ∙ sym (append_assoc r (fibre_records (from + 1) (longer e (g ∷ fs))) R)

-- in a list of records, and what was behind
pub filled_longer : (from k e : ℕ) (fs : List Fibre) (F₀ F F' : List ℕ) → k ≡ length fs → 1 ≤ k → F ≡ fibre_list from fs F₀ → F' ≡ set_cell F (4 * (k - 1) + 2) e → F' ≡ fibre_list from (longer e fs) F₀
unfolding fibre_list
filled_longer from k e [] F₀ F F' q l p h = absurd (omega arith)
filled_longer from k e (f ∷ fs) F₀ F F' q l p h =
    let z : k - 1 ≡ length fs = omega arith in
    h ∙ ap₂ (λ (x : List ℕ) (y : ℕ). set_cell x (4 * y + 2) e) p z
    ∙ last_set from e f fs (drop (8 * suc (length fs)) F₀)
    ∙ ap (λ (y : ℕ). fibre_records from (longer e (f ∷ fs)) ++ drop (8 * y) F₀) (sym (longer_length e (f ∷ fs)))

-- THE ASSIGNMENT LIST, in which circuit j gets another fibre number: cell 2 of its record is set. The other records stay
pub record_other : (A : List ℕ) (i j v : ℕ) → i ≢ j → record_at (set_cell A (4 * j + 2) v) i ≡ record_at A i
unfolding set_cell
record_other A i j v h =
    by_le i j
    (λ l.
    let a : 8 * i + 8 ≤ 2 * (4 * j + 2) = omega arith in
    go i (2 * (4 * j + 2) + 1) (v / 256) (set A (2 * (4 * j + 2)) (v % 256)) (omega arith) ∙ go i (2 * (4 * j + 2)) (v % 256) A a)
    (λ l. ap (take 8) (drop-set-lt (8 * i) (set A (2 * (4 * j + 2)) (v % 256)) (2 * (4 * j + 2) + 1) (v / 256) (omega arith) ∙ drop-set-lt (8 * i) A (2 * (4 * j + 2)) (v % 256) (omega arith)))
  where
    -- a store past the record
    go : (i k v : ℕ) (B : List ℕ) → 8 * i + 8 ≤ k → record_at (set B k v) i ≡ record_at B i
    go i k v B l =
        let z : k ≡ 8 * i + (k - 8 * i) = omega arith in
        ap (λ (y : ℕ). take 8 (drop (8 * i) (set B y v))) z ∙ ap (take 8) (drop-set-add (8 * i) B (k - 8 * i) v) ∙ take-set-le 8 (drop (8 * i) B) (k - 8 * i) v (omega arith)

-- record j itself
record_same : (A : List ℕ) (j v : ℕ) → record_at (set_cell A (4 * j + 2) v) j ≡ set_cell (record_at A j) 2 v
unfolding set_cell
record_same A j v =
    let a : 2 * (4 * j + 2) ≡ 8 * j + 4 = omega arith in
    let b : 2 * (4 * j + 2) + 1 ≡ 8 * j + 5 = omega arith in
    ap₂ (λ (x y : ℕ). take 8 (drop (8 * j) (set (set A x (v % 256)) y (v / 256)))) a b
    ∙ ap (take 8) (drop-set-add (8 * j) (set A (8 * j + 4) (v % 256)) 5 (v / 256) ∙ ap (λ (l : List ℕ). set l 5 (v / 256)) (drop-set-add (8 * j) A 4 (v % 256)))
    ∙ take-set-lt 8 (set (drop (8 * j) A) 4 (v % 256)) 5 (v / 256) (omega arith)
    ∙ ap (λ (l : List ℕ). set l 5 (v / 256)) (take-set-lt 8 (drop (8 * j) A) 4 (v % 256) (omega arith))

-- what is behind the records
pub behind_kept : (A : List ℕ) (j m v : ℕ) → j < m → drop (8 * m) (set_cell A (4 * j + 2) v) ≡ drop (8 * m) A
unfolding set_cell
behind_kept A j m v l = drop-set-lt (8 * m) (set A (2 * (4 * j + 2)) (v % 256)) (2 * (4 * j + 2) + 1) (v / 256) (omega arith) ∙ drop-set-lt (8 * m) A (2 * (4 * j + 2)) (v % 256) (omega arith)

-- and its length
pub length_stored : (A : List ℕ) (k v : ℕ) → length (set_cell A k v) ≡ length A
unfolding set_cell
length_stored A k v = length-set (set A (2 * k) (v % 256)) (2 * k + 1) (v / 256) ∙ length-set A (2 * k) (v % 256)

-- cell 2 of an assignment is its fibre number
spot_set : (cs : List Circuit) (p : Plan) (j u v : ℕ) → set_cell (spot cs p j u) 2 v ≡ spot cs p j v
unfolding set_cell spot
spot_set cs p j u v = refl

-- circuit j gets number v
pub renumbered : (cs : List Circuit) (p : Plan) (A : List ℕ) (j u v : ℕ) → record_at A j ≡ spot cs p j u → record_at (set_cell A (4 * j + 2) v) j ≡ spot cs p j v
renumbered cs p A j u v h = record_same A j v ∙ ap (λ (r : List ℕ). set_cell r 2 v) h ∙ spot_set cs p j u v

-- a list is its records and what is behind
all_records : (from : ℕ) (c : ℕ → Circuit) (g : ℕ → Assignment) (A : List ℕ) (i k : ℕ) → ((j : ℕ) → i ≤ j → j < i + k → record_at A j ≡ assignment_record from (c j) (g j))
    → drop (8 * i) A ≡ assignment_records from (each c i k) (each g i k) ++ drop (8 * (i + k)) A
unfolding each assignment_records
all_records from c g A i zero h = let z : i + 0 ≡ i = omega arith in rw z refl
all_records from c g A i (suc k) h =
    let z : 8 * i + 8 ≡ 8 * suc i = omega arith in
    let y : suc i + k ≡ i + suc k = omega arith in
    let r = assignment_record from (c i) (g i) in
    sym (take-append-drop 8 (drop (8 * i) A))
    ∙ ap₂ ◌++◌ (h i (omega arith) (omega arith)) (drop-drop 8 (8 * i) A ∙ ap (λ (x : ℕ). drop x A) z ∙ all_records from c g A (suc i) k (λ j a b. h j (omega arith) (omega arith)))
    ∙ sym (append_assoc r (assignment_records from (each c (suc i) k) (each g (suc i) k)) (drop (8 * (suc i + k)) A))
    ∙ ap (λ (x : ℕ). (r ++ assignment_records from (each c (suc i) k) (each g (suc i) k)) ++ drop (8 * x) A) y

-- the whole
pub assignments_are : (from : ℕ) (cs : List Circuit) (g : ℕ → Assignment) (A₀ A : List ℕ) → ((j : ℕ) → j < length cs → record_at A j ≡ assignment_record from (circuit cs j) (g j))
    → drop (8 * length cs) A ≡ drop (8 * length cs) A₀ → A ≡ assignment_list from cs (each g 0 (length cs)) A₀
unfolding circuit assignment_list
assignments_are from cs g A₀ A h r =
    let z : 0 + length cs ≡ length cs = omega arith in
    all_records from (circuit cs) g A 0 (length cs) (λ j a b. h j (omega arith))
    ∙ ap₂ (λ (x : List Circuit) (y : List ℕ). assignment_records from x (each g 0 (length cs)) ++ y) (table_is nobody (circuit cs) cs (λ i l. refl)) (ap (λ (x : ℕ). drop (8 * x) A) z ∙ r)
