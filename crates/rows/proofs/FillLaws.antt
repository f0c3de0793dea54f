-- The work area before the first row and after the last. Assumes nothing.
use Rattle.std.proofs.Common.{◌≡◌, ℕ, ◌+◌, ◌-◌, ◌*◌, ◌≤◌, List, ◌++◌, length, take, drop, replicate, sym, ap, ◌∙◌, ap₂, length-append, length-drop, ⊎_elim, append_assoc, arith, take-append-drop, take-take, drop-drop, take_at, drop_at, ne_eqb}
use lib.ListN.{length-replicate}
use lib.Seq.{length-take-le}
use Rattle.basics.specs.Tools.{each}
use Rattle.basics.proofs.Counts.{le_top}
use Rattle.basics.proofs.Tables.{each_same, length_each, zeros_add}
use Rattle.method.specs.Sheet.{at, blue, need, most, red_to, rows, sheet}
use Rattle.method.proofs.Colours.{at_each, at_each_cases}
use Rattle.method.proofs.Placed.{all_red, few_rows}
use Rattle.records.specs.Bytes.{cells_of}
use Rattle.records.specs.Records.{circuits_in}
use Rattle.records.specs.declared.Circuit.{Circuit}
use Rattle.records.proofs.Files.{length_circuits_in}
use Rattle.records.proofs.PartCells.{cells_append, cells_drop, cells_take}
use Rattle.records.proofs.Encode.{cells_of_zeros}
use Rattle.rows.specs.Accepted.{Accepted}
use Rattle.records.specs.Area.{lasts_in, rows_in}
use Rattle.rows.specs.inner.Colours.{blue_row}
use Rattle.rows.specs.Filled.{Filled}
use Rattle.rows.specs.inner.Sheeted.{Sheeted}
use Rattle.rows.specs.inner.Loads.{Below, red_at}
use Rattle.rows.specs.inner.Loops.{Counted}
use Rattle.rows.proofs.Written.{at_front}
use Rattle.rows.proofs.RedLaws.{red_low}

-- M × w is small
pub top_low : (n w m top : ℕ) (s : List ℕ) → Accepted n w m s → top ≡ most n w (circuits_in m s) → top * w ≤ 2127
top_low n w m top s p e =
    let v = p.waves in
    omega (arith, ap (λ (z : ℕ). z * w) e, few_rows n w (circuits_in m s) (omega arith), length_circuits_in m s, p.file.few)

-- the first three parts of a list that is put together of four
parts : (n m : ℕ) (N R M S C : List ℕ) → length N ≡ n → length R ≡ n → length M ≡ m → C ≡ N ++ (R ++ (M ++ S)) → (take n C ≡ N) × (lasts_in n C ≡ R) × (rows_in n m C ≡ M)
parts n m N R M S C p q r e =
    let k : n + n ≡ 2 * n = omega arith in
    let a : drop n C ≡ R ++ (M ++ S) = ap (drop n) e ∙ drop_at N (R ++ (M ++ S)) n p in
    let b : drop (2 * n) C ≡ M ++ S = sym (ap (λ (z : ℕ). drop z C) k) ∙ sym (drop-drop n n C) ∙ ap (drop n) a ∙ drop_at R (M ++ S) n q in
    (ap (take n) e ∙ take_at N (R ++ (M ++ S)) n p, ap (take n) a ∙ take_at R (M ++ S) n q, ap (take m) b ∙ take_at M S m r)

-- all zeros
pub zeros : (n m : ℕ) (b : List ℕ) → b ≡ replicate (4 * n + 4 * m) 0 → cells_of b ≡ replicate n 0 ++ (replicate n 0 ++ (replicate m 0 ++ replicate m 0))
zeros n m b e =
    let k : 4 * n + 4 * m ≡ 2 * (n + (n + (m + m))) = omega arith in
    ap cells_of (e ∙ ap (λ (z : ℕ). replicate {A = ℕ} z 0) k) ∙ cells_of_zeros (n + (n + (m + m)))
    ∙ zeros_add n (n + (m + m)) ∙ ap (λ (z : List ℕ). replicate n 0 ++ z) (zeros_add n (m + m) ∙ ap (λ (z : List ℕ). replicate n 0 ++ z) (zeros_add m m))

-- the part that is lent for the loads is zero
pub part_zero : (n m : ℕ) (b : List ℕ) → cells_of b ≡ replicate n 0 ++ (replicate n 0 ++ (replicate m 0 ++ replicate m 0)) → cells_of (take (2 * n) b) ≡ replicate n 0
part_zero n m b e = cells_take n b ∙ ap (take n) e ∙ take_at (replicate n 0) _ n (length-replicate n 0)

-- it is back
pub back : (n m w : ℕ) (cs : List Circuit) (b ys : List ℕ) → length b ≡ 4 * n + 4 * m → cells_of b ≡ replicate n 0 ++ (replicate n 0 ++ (replicate m 0 ++ replicate m 0))
    → length ys ≡ 2 * n → cells_of ys ≡ each (need w cs) 1 n → Counted n m w cs (ys ++ drop (2 * n) b)
back n m w cs b ys r e l q =
    let Z : List ℕ = replicate n 0 ++ (replicate m 0 ++ replicate m 0) in
    record {
      long = omega (arith, length-append ys (drop (2 * n) b), length-drop (2 * n) b);
      cells = cells_append n ys (drop (2 * n) b) l ∙ ap₂ ◌++◌ q (cells_drop n b ∙ ap (drop n) e ∙ drop_at (replicate n 0) Z n (length-replicate n 0));
    }

-- the part that is lent for the last red rows has its length
pub front_long : (n m w : ℕ) (cs : List Circuit) (b : List ℕ) → Counted n m w cs b → length (take (4 * n) b) ≡ 4 * n
front_long n m w cs b y = length-take-le (4 * n) b (omega (arith, y.long))

-- it starts with the c(i)
front_needs : (n m w : ℕ) (cs : List Circuit) (b : List ℕ) → Counted n m w cs b → take n (cells_of (take (4 * n) b)) ≡ each (need w cs) 1 n
front_needs n m w cs b y =
    let k : 4 * n ≡ 2 * (2 * n) = omega arith in
    ap (λ (z : ℕ). take n (cells_of (take z b))) k ∙ ap (take n) (cells_take (2 * n) b) ∙ take-take n (2 * n) (cells_of b) (omega arith) ∙ ap (take n) y.cells
    ∙ take_at (each (need w cs) 1 n) _ n (length_each (need w cs) 1 n)

-- which are at most M
pub front_low : (n m w top : ℕ) (cs : List Circuit) (b : List ℕ) → Counted n m w cs b → top ≡ most n w cs → Below top (take n (cells_of (take (4 * n) b)))
unfolding Below most
front_low n m w top cs b y e x =
    let z = ap (λ (l : List ℕ). at l x) (front_needs n m w cs b y) in
    ⊎_elim (λ t. let t₂ = t.2 in omega (arith, le_top (need w cs) n x t.0 t.1)) (λ t. omega arith) (at_each_cases (need w cs) n x)

-- when that part is back too: the sheet before the first row
pub ready : (n m w top : ℕ) (cs : List Circuit) (b ys : List ℕ) → m ≡ length cs → Counted n m w cs b → top ≡ most n w cs → top * w ≤ 2127 → length ys ≡ 4 * n
    → take n (cells_of ys) ≡ take n (cells_of (take (4 * n) b)) → drop n (cells_of ys) ≡ each (red_at top w (cells_of (take (4 * n) b))) 1 n
    → (length (ys ++ drop (4 * n) b) ≡ 4 * n + 4 * m) × Sheeted n m w 0 cs (cells_of (ys ++ drop (4 * n) b))
unfolding sheet red_to
ready n m w top cs b ys p y q few l t d =
    let k : n + n ≡ 2 * n = omega arith in
    let k₂ : 4 * n ≡ 2 * (2 * n) = omega arith in
    let b' : List ℕ = ys ++ drop (4 * n) b in
    let C : List ℕ = cells_of b in
    let F : List ℕ = cells_of (take (4 * n) b) in
    let N : List ℕ = each (need w cs) 1 n in
    let R : List ℕ = each (red_to n w cs) 1 n in
    let M : List ℕ = replicate m 0 in
    let g : take n F ≡ N = front_needs n m w cs b y in
    let x : drop n (cells_of ys) ≡ R =
    d ∙ each_same (red_at top w F) (red_to n w cs) 1 n
    (λ i a h. ap₂ (λ (o v : ℕ). (o - v) * w) q (at_front n F i a (omega arith) ∙ ap (λ (f : List ℕ). at f i) g ∙ at_each (need w cs) n i a (omega arith))) in
    let f : drop (2 * n) C ≡ M ++ M =
    sym (ap (λ (v : ℕ). drop v C) k) ∙ sym (drop-drop n n C) ∙ ap (λ (v : List ℕ). drop n (drop n v)) y.cells ∙ ap (drop n) (drop_at N (replicate n 0 ++ (M ++ M)) n (length_each (need w cs) 1 n))
    ∙ drop_at (replicate n 0) (M ++ M) n (length-replicate n 0) in
    let e : cells_of b' ≡ N ++ (R ++ (M ++ M)) =
    cells_append (2 * n) ys (drop (4 * n) b) (omega arith)
    ∙ ap₂ ◌++◌ (sym (take-append-drop n (cells_of ys)) ∙ ap₂ ◌++◌ (t ∙ g) x) (ap (λ (v : ℕ). cells_of (drop v b)) k₂ ∙ cells_drop (2 * n) b ∙ f) ∙ append_assoc N R (M ++ M) in
    let h = parts n m N R M M (cells_of b') (length_each (need w cs) 1 n) (length_each (red_to n w cs) 1 n) (length-replicate m 0) e in
    let v : (i : ℕ) → 1 ≤ i → i ≤ n → at (lasts_in n (cells_of b')) i ≡ red_to n w cs i = λ i a o. ap (λ (s : List ℕ). at s i) h.1 ∙ at_each (red_to n w cs) n i a o in
    let low : (i : ℕ) → red_to n w cs i ≤ 2127 = λ i. red_low (most n w cs) w (need w cs i) 2127 (omega (arith, ap (λ (o : ℕ). o * w) q)) in (
      omega (arith, length-append ys (drop (4 * n) b), length-drop (4 * n) b, y.long),
      record {
        needs = h.0;
        rows = h.2 ∙ ap (λ (o : ℕ). replicate o 0) p;
        resting = record {
          blues = λ i a o.
              ne_eqb (at (lasts_in n (cells_of b')) i) blue_row (omega (arith, v i a o, low i)) ∙ sym (ne_eqb (at (sheet n w cs 0).colours i) blue (omega (arith, all_red n w cs i a o)));
          reds = λ i a o r. v i a o;
          over = λ i a o r s. omega (arith, v i a o);
        };
      },
    )

-- after the last row
pub filled_is : (n w m top : ℕ) (s work : List ℕ) → top ≡ most n w (circuits_in m s) → length work ≡ 4 * n + 4 * m → Sheeted n m w (top * w) (circuits_in m s) (cells_of work) → Filled n w m s work
unfolding rows
filled_is n w m top s work q l y =
    record { sized = l; needs = y.needs; rows = y.rows ∙ ap (λ (k : ℕ). (sheet n w (circuits_in m s) (k * w)).rows) q }
