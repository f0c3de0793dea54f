-- The lent sheet row by row, and from the last row to what phase one leaves. Assumes nothing.
use Prim.Native.Nat.{ℕ, ◌+◌, ◌-◌, ◌*◌, ◌≤◌}
use mathlib.Core.List.{List, ◌++◌, append_assoc}
use mathlib.Core.Path.{◌≡◌, ap, ap₂, ◌∙◌, sym, subst}
use native.Mathlib.Nat.{mul-le-mul_left, mul-zero}
use native.Mathlib.Omega.{arith}
use lib.ListN.{length, take, drop, replicate, take-append-drop, length-append, length-replicate}
use lib.Seq.{drop_at, drop-drop, take_at, length-take-le}
use borrow.Rule.Slice.PartMut.{put_mid, mid_of, post_of, drop_put, mid_len, same_len_mid}
use Rattle.basics.specs.Tools.{each}
use Rattle.basics.proofs.Counts.{le_top}
use Rattle.basics.proofs.Tables.{length_each}
use Rattle.records.specs.Area.{needs_in, rows_in}
use Rattle.records.specs.Bytes.{cells_of}
use Rattle.records.specs.Records.{circuits_in}
use Rattle.records.proofs.Files.{length_circuits_in}
use Rattle.method.specs.Sheet.{State, at, begun, most, need, row, rows, sheet, steps}
use Rattle.method.proofs.Colours.{at_each_cases}
use Rattle.rows.specs.Accepted.{Accepted}
use Rattle.rows.specs.Filled.{Filled}
use Rattle.rows.specs.inner.Loads.{Below}
use Rattle.rows.specs.inner.Loops.{Counted, Written}
use mathlib.Core.Logic.{⊎_elim}
use Rattle.whole_sheet.specs.Cells.{cells_to, cells, cell_count}
use Rattle.whole_sheet.specs.inner.Board.{Board, RowFilled, state_in}
use Rattle.whole_sheet.specs.inner.Tables.{KeptBehind, Sources, TableAfter, start_at}
use Rattle.whole_sheet.proofs.RowStarts.{begun_part, cells_turn, front_kept, rest_stays, sheet_turn, times_turn}

-- no c(i) is more than M
pub needs_low : (n w m top : ℕ) (s work area : List ℕ) → Sources n w m top s work area → Below top (take n (cells_of work))
unfolding Below most
needs_low n w m top s work area y x =
    let z = ap (λ (l : List ℕ). at l x) y.needs in
    let e = y.top_is in
    ⊎_elim (λ t. let t₂ = t.2 in omega (arith, le_top (need w (circuits_in m s)) n x t.0 t.1)) (λ t. omega arith) (at_each_cases (need w (circuits_in m s)) n x)

-- ROW k, with the rows before it in the lent sheet
module _ (n w m top k : ℕ) (s work area area₁ : List ℕ) (y : Sources n w m top s work area) (pos : 1 ≤ k) (few : k ≤ top * w) (t : TableAfter n w m (k - 1) s work area)
    (b : Written (start_at n w top k (cells_of work) area) (n * (k - 1) + 1) (n * (k - 1) + (n + 1)) area area₁) where
  -- it has room
  pub row_room : n * k ≤ length area
  row_room = omega (arith, mul-le-mul_left n few, y.cells_room)

  -- it begins as it should
  starts : mid_of (n * (k - 1)) (n * k - n * (k - 1)) area₁ ≡ (begun n w (circuits_in m s) k (sheet n w (circuits_in m s) (k - 1))).colours
  starts = begun_part n w (circuits_in m s) k pos top (cells_of work) area area₁ t.drawn y.top_is y.needs row_room b

  -- the lent part is a row
  pub row_board : Board n m s work (mid_of (n * (k - 1)) (n * k - n * (k - 1)) area₁)
  row_board =
      let z = times_turn n k pos in
      let l = b.long in
      let e : n * k - n * (k - 1) ≡ n = omega arith in
      record { file = y.accepted.file; room = y.room; wide = mid_len (n * (k - 1)) (n * k) area₁ (omega (arith, row_room)) ∙ e }

  module _ (work' row' : List ℕ) (f : RowFilled n m k s work (mid_of (n * (k - 1)) (n * k - n * (k - 1)) area₁) work' row') where
    -- it ends as it should
    ended : state_in n m work' row' ≡ sheet n w (circuits_in m s) k
    unfolding row begun
    ended =
        f.shows
        ∙ ap₂ (λ (c r : List ℕ). steps n (circuits_in m s) n k (record { colours = c; rows = r })) starts t.placed
        ∙ sym (sheet_turn n w (circuits_in m s) k pos)

    -- the row has its length
    wide : length row' ≡ n * k - n * (k - 1)
    wide = let z = times_turn n k pos in let e = f.wide in omega arith

    -- one row more stands in the lent sheet
    pub drawn_more : TableAfter n w m k s work' (put_mid (n * (k - 1)) (n * k - n * (k - 1)) area₁ row')
    drawn_more =
        let z = times_turn n k pos in
        let a = n * (k - 1) in
        let l = b.long in
        let A : List ℕ = take a area₁ in
        let P : List ℕ = post_of a (n * k - a) area₁ in
        let long : length (A ++ row') ≡ n * k = length-append A row' ∙ (let p = length-take-le a area₁ (omega (arith, row_room)) in let q = f.wide in omega arith) in
        record {
          placed = ap (λ (x : State). x.rows) ended;
          drawn = ap (take (n * k)) (sym (append_assoc A row' P)) ∙ take_at (A ++ row') P (n * k) long
              ∙ ap₂ ◌++◌ (front_kept n w (circuits_in m s) k pos top (cells_of work) area area₁ t.drawn y.top_is y.needs row_room b ∙ t.drawn) (ap (λ (x : State). x.colours) ended)
              ∙ sym (cells_turn n w (circuits_in m s) k pos);
        }

    -- and what is behind it stays
    pub kept_more : KeptBehind (n * k) area (put_mid (n * (k - 1)) (n * k - n * (k - 1)) area₁ row')
    kept_more =
        let z = times_turn n k pos in
        let l = b.long in
        drop_put (n * (k - 1)) (n * k) area₁ row' (omega arith) (omega (arith, row_room)) wide
        ∙ rest_stays n w (circuits_in m s) k pos top (cells_of work) area area₁ t.drawn y.top_is y.needs row_room b

    -- there is still what the next row needs
    pub sources_more : Sources n w m top s work' (put_mid (n * (k - 1)) (n * k - n * (k - 1)) area₁ row')
    sources_more =
        let l = same_len_mid (n * (k - 1)) (n * k - n * (k - 1)) area₁ row' (wide ∙ sym (mid_len (n * (k - 1)) (n * k) area₁ (let e = b.long in omega (arith, row_room)))) ∙ b.long in
        let c = y.cells_room in
        record { accepted = y.accepted; top_is = y.top_is; room = f.room; needs = f.needs ∙ y.needs; cells_room = omega arith }

-- what is behind fewer cells is also behind more
pub kept_on : (n k e : ℕ) (area area' area'' : List ℕ) → k ≤ e → KeptBehind (n * e) area area' → KeptBehind (n * k) area' area'' → KeptBehind (n * e) area area''
kept_on n k e area area' area'' h p q =
    let z = mul-le-mul_left n h in
    let d : n * k + (n * e - n * k) ≡ n * e = omega arith in
    let both : (x : List ℕ) → drop (n * e) x ≡ drop (n * e - n * k) (drop (n * k) x) = λ x. sym (drop-drop (n * e - n * k) (n * k) x ∙ ap (λ i. drop i x) d) in
    both area'' ∙ ap (drop (n * e - n * k)) q ∙ sym (both area') ∙ p

-- BEFORE THE FIRST ROW
module _ (n w m : ℕ) (s work : List ℕ) (c : Counted n m w (circuits_in m s) work) where
  -- the c(i) stand in the first part
  first_needs : needs_in n (cells_of work) ≡ each (need w (circuits_in m s)) 1 n
  first_needs = ap (take n) c.cells ∙ take_at (each (need w (circuits_in m s)) 1 n) _ n (length_each (need w (circuits_in m s)) 1 n)

  -- and every circuit waits
  first_rows : rows_in n m (cells_of work) ≡ (sheet n w (circuits_in m s) 0).rows
  unfolding sheet
  first_rows =
      let N : List ℕ = each (need w (circuits_in m s)) 1 n in
      let Z : List ℕ = replicate n 0 in
      let M : List ℕ = replicate m 0 in
      let k : n + n ≡ 2 * n = omega arith in
      let d : drop (2 * n) (cells_of work) ≡ M ++ M =
      ap (λ i. drop i (cells_of work)) (sym k) ∙ sym (drop-drop n n (cells_of work)) ∙ ap (λ (l : List ℕ). drop n (drop n l)) c.cells
      ∙ ap (drop n) (drop_at N (Z ++ (M ++ M)) n (length_each (need w (circuits_in m s)) 1 n)) ∙ drop_at Z (M ++ M) n (length-replicate n 0) in
      ap (take m) d ∙ take_at M M m (length-replicate m 0) ∙ ap (λ i. replicate {A = ℕ} i 0) (sym (length_circuits_in m s))

  -- so all is ready
  pub first_sources : (top : ℕ) (area : List ℕ) → Accepted n w m s → top ≡ most n w (circuits_in m s) → n * (most n w (circuits_in m s) * w) ≤ length area → Sources n w m top s work area
  first_sources top area a e h =
      record { accepted = a; top_is = e; room = c.long; needs = first_needs; cells_room = subst (λ x. n * (x * w) ≤ length area) (sym e) h }

  -- and no row is drawn
  pub first_table : (area : List ℕ) → TableAfter n w m 0 s work area
  unfolding cells_to
  first_table area = record { placed = first_rows; drawn = ap (λ i. take i area) (mul-zero n) }

-- AFTER THE LAST ROW
module _ (n w m top : ℕ) (s work area area' : List ℕ) (y : Sources n w m top s work area') (t : TableAfter n w m (top * w) s work area') where
  -- phase one is done
  pub all_filled : Filled n w m s work
  unfolding rows
  all_filled = record { sized = y.room; needs = y.needs; rows = t.placed ∙ ap (λ k. (sheet n w (circuits_in m s) (k * w)).rows) y.top_is }

  -- and the whole sheet is drawn
  pub all_drawn : KeptBehind (n * (top * w)) area area' → area' ≡ cells n w (circuits_in m s) ++ drop (cell_count n w (circuits_in m s)) area
  all_drawn k =
      sym (take-append-drop (n * (top * w)) area') ∙ ap₂ ◌++◌ t.drawn k
      ∙ ap (λ x. cells_to n w (circuits_in m s) (x * w) ++ drop (n * (x * w)) area) y.top_is
