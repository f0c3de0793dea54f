-- One cell, and one record of a list, written: what the others hold. Assumes nothing.
use Prim.Native.Nat.{◌+◌, ◌*◌, ◌-◌, ◌/◌, ◌%◌, ◌<◌, ◌≤◌, ℕ}
use lib.ListN.{drop, get_or, length, length-append, length-drop, length-set, length-take, set, take}
use lib.Seq.{drop-append-add, drop-append-le, drop_at, drop-drop, ext_get_or, get_or-drop, get_or-set_other, get_or-set_same, get_or-take, length-take-le, take-append-le, take_at, take-take}
use mathlib.Core.List.{List, ◌++◌}
use mathlib.Core.Logic.{◌≢◌}
use mathlib.Core.Path.{◌∙◌, ◌≡◌, ap, sym}
use native.Mathlib.Omega.{arith}
use Rattle.basics.proofs.Bools.{by_le}
use Rattle.records.specs.Bytes.{cell, cells_of, set_cell}
use Rattle.records.specs.Records.{put_record, record_at}
use Rattle.records.proofs.CellLaws.{cell_is, cells_room, cells_of_set}

-- as many bytes
pub length_put : (b : List ℕ) (k v : ℕ) → length (set_cell b k v) ≡ length b
unfolding set_cell
length_put b k v = length-set (set b (2 * k) (v % 256)) (2 * k + 1) (v / 256) ∙ length-set b (2 * k) (v % 256)

-- the cell that is written
pub cell_same : (b : List ℕ) (k v : ℕ) → 2 * k + 1 < length b → cell (set_cell b k v) k ≡ v
cell_same b k v h =
    let r = cells_room b (k + 1) (omega arith) in
    cell_is (set_cell b k v) k (omega (arith, length_put b k v)) ∙ ap (λ l. get_or l k 0) (cells_of_set b k v) ∙ get_or-set_same (cells_of b) k v 0 (omega arith)

-- the others
pub cell_other : (b : List ℕ) (k v i : ℕ) → i ≢ k → 2 * i + 1 < length b → cell (set_cell b k v) i ≡ cell b i
cell_other b k v i n h =
    cell_is (set_cell b k v) i (omega (arith, length_put b k v)) ∙ ap (λ l. get_or l i 0) (cells_of_set b k v) ∙ get_or-set_other (cells_of b) k i v 0 n ∙ sym (cell_is b i h)

-- as many bytes
pub length_put_record : (s : List ℕ) (i : ℕ) (r : List ℕ) → 8 * i + 8 ≤ length s → length r ≡ 8 → length (put_record s i r) ≡ length s
unfolding put_record
length_put_record s i r h e =
    let a = length-append (take (8 * i) s) (r ++ drop (8 * i + 8) s) in
    let b = length-append r (drop (8 * i + 8) s) in
    let t = length-take-le (8 * i) s (omega arith) in
    let d = length-drop (8 * i + 8) s in
    omega arith

-- the record that is written
pub record_same : (s : List ℕ) (i : ℕ) (r : List ℕ) → 8 * i + 8 ≤ length s → length r ≡ 8 → record_at (put_record s i r) i ≡ r
unfolding put_record
record_same s i r h e = ap (take 8) (drop_at (take (8 * i) s) (r ++ drop (8 * i + 8) s) (8 * i) (length-take-le (8 * i) s (omega arith))) ∙ take_at r (drop (8 * i + 8) s) 8 e

-- 8 bytes within the first k are the same in all
part_of_front : (s : List ℕ) (k a : ℕ) → a + 8 ≤ k → take 8 (drop a (take k s)) ≡ take 8 (drop a s)
part_of_front s k a h =
    ext_get_or 0 (take 8 (drop a (take k s))) (take 8 (drop a s))
    (length-take 8 (drop a (take k s)) ∙ (let x = length-drop a (take k s) in let y = length-take k s in let z = length-drop a s in let w = length-take 8 (drop a s) in omega arith))
    (λ i l.
    let b = length-take 8 (drop a (take k s)) in
    get_or-take 8 (drop a (take k s)) i 0 (omega arith) ∙ get_or-drop a (take k s) i 0 ∙ get_or-take k s (a + i) 0 (omega arith) ∙ sym (get_or-take 8 (drop a s) i 0 (omega arith) ∙ get_or-drop a s i 0))

-- those before it
record_below : (s : List ℕ) (i : ℕ) (r : List ℕ) (d : ℕ) → d < i → 8 * i + 8 ≤ length s → record_at (put_record s i r) d ≡ record_at s d
unfolding put_record
record_below s i r d l h =
    let t = length-take-le (8 * i) s (omega arith) in
    let x = length-drop (8 * d) (take (8 * i) s) in
    let z : 8 * d + (8 * i - 8 * d) ≡ 8 * i = omega arith in
    ap (take 8) (drop-append-le (8 * d) (take (8 * i) s) (r ++ drop (8 * i + 8) s) (omega arith))
    ∙ take-append-le 8 (drop (8 * d) (take (8 * i) s)) (r ++ drop (8 * i + 8) s) (omega arith)
    ∙ part_of_front s (8 * i) (8 * d) (omega arith)

-- those behind it
record_above : (s : List ℕ) (i : ℕ) (r : List ℕ) (d : ℕ) → i < d → 8 * i + 8 ≤ length s → length r ≡ 8 → record_at (put_record s i r) d ≡ record_at s d
unfolding put_record
record_above s i r d l h e =
    let t = length-take-le (8 * i) s (omega arith) in
    let k = 8 * d - (8 * i + 8) in
    let a : 8 * d ≡ length (take (8 * i) s) + (8 + k) = omega arith in
    let b : 8 + k ≡ length r + k = omega arith in
    let c : 8 * i + 8 + k ≡ 8 * d = omega arith in
    ap (take 8)
    (ap (λ x. drop x (take (8 * i) s ++ (r ++ drop (8 * i + 8) s))) a ∙ drop-append-add (take (8 * i) s) (r ++ drop (8 * i + 8) s) (8 + k) ∙ ap (λ x. drop x (r ++ drop (8 * i + 8) s)) b
    ∙ drop-append-add r (drop (8 * i + 8) s) k ∙ drop-drop k (8 * i + 8) s ∙ ap (λ x. drop x s) c)

-- the others
pub record_other : (s : List ℕ) (i : ℕ) (r : List ℕ) (d : ℕ) → 8 * i + 8 ≤ length s → length r ≡ 8 → d ≢ i → record_at (put_record s i r) d ≡ record_at s d
record_other s i r d h e n = by_le d i (λ l. record_below s i r d (omega arith) h) (λ l. record_above s i r d l h e)

-- bytes before it
pub before_put : (s : List ℕ) (i : ℕ) (r : List ℕ) (a : ℕ) → a ≤ 8 * i → 8 * i + 8 ≤ length s → take a (put_record s i r) ≡ take a s
unfolding put_record
before_put s i r a l h = take-append-le a (take (8 * i) s) (r ++ drop (8 * i + 8) s) (let t = length-take-le (8 * i) s (omega arith) in omega arith) ∙ take-take a (8 * i) s l

-- bytes behind it
pub behind_put : (s : List ℕ) (i : ℕ) (r : List ℕ) (a : ℕ) → 8 * i + 8 ≤ a → 8 * i + 8 ≤ length s → length r ≡ 8 → drop a (put_record s i r) ≡ drop a s
unfolding put_record
behind_put s i r a l h e =
    let t = length-take-le (8 * i) s (omega arith) in
    let k = a - (8 * i + 8) in
    let x : a ≡ length (take (8 * i) s) + (8 + k) = omega arith in
    let y : 8 + k ≡ length r + k = omega arith in
    let z : 8 * i + 8 + k ≡ a = omega arith in
    ap (λ x. drop x (take (8 * i) s ++ (r ++ drop (8 * i + 8) s))) x ∙ drop-append-add (take (8 * i) s) (r ++ drop (8 * i + 8) s) (8 + k) ∙ ap (λ x. drop x (r ++ drop (8 * i + 8) s)) y
    ∙ drop-append-add r (drop (8 * i + 8) s) k ∙ drop-drop k (8 * i + 8) s ∙ ap (λ x. drop x s) z
