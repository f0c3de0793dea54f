-- What `one_step` finds and leaves. Assumes nothing.
use Rattle.std.proofs.Common.{◌≡◌, ℕ, ◌+◌, ◌-◌, ◌*◌, ◌<◌, ◌≤◌, eqb, List, Option, None, Some, take, refl, sym, ap, ◌∙◌, subst, arith}
use borrow.Rule.Slice.PartMut.{mid_of}
use Rattle.basics.specs.Tools.{seek}
use Rattle.method.specs.Sheet.{at, open', run_from, step}
use Rattle.method.proofs.Colours.{from_past}
use Rattle.queue.specs.declared.Queue.{Queue}
use Rattle.queue.specs.Queued.{Queued, place_in, first_place}
use Rattle.records.specs.Bytes.{cells_of}
use Rattle.records.specs.Records.{circuits_in}
use Rattle.records.proofs.CellLaws.{length_cells_of}
use Rattle.records.proofs.Files.{length_circuits_in}
use Rattle.records.specs.Area.{lasts_in, rows_in}
use Rattle.rows.specs.inner.Area.{state_in, Shows, Placed}
use Rattle.rows.specs.inner.Desk.{Desk, Waiting}
use Rattle.rows.specs.inner.Choice.{fits_at}
use Rattle.rows.specs.inner.Colours.{blue_row, shown, LinkTold, plain, LastsMoved, AtRun, Around, painted}
use Rattle.rows.specs.declared.colours.Run.{Run}
use Rattle.rows.proofs.FitLaws.{chosen_there, waits_there, chosen_nobody}
use Rattle.rows.proofs.AreaLaws.{lent_lasts}
use Rattle.rows.proofs.LastLaws.{first_from, next_from}
use Rattle.rows.proofs.StepLaws.{blue_step, place_step, placed_queued}

-- the first open link, seen in the lent part
pub first_lent : (n k l : ℕ) (b : List ℕ) → l ≡ run_from n (shown n k (lasts_in n (cells_of b))) → l ≡ run_from n (shown n k (cells_of (mid_of (2 * n) (4 * n - 2 * n) b)))
first_lent n k l b e = e ∙ ap (λ (D : List ℕ). run_from n (shown n k D)) (sym (lent_lasts n b))

-- the first search in the lent part
pub seek_lent : (n k r : ℕ) (b : List ℕ) → r ≡ seek (λ x. eqb (at (shown n k (cells_of (mid_of (2 * n) (4 * n - 2 * n) b))) x) open') 1 (n + 1 - 1)
    → r ≡ run_from n (shown n k (lasts_in n (cells_of b)))
seek_lent n k r b e = first_from n r (shown n k (cells_of (mid_of (2 * n) (4 * n - 2 * n) b))) e ∙ ap (λ (D : List ℕ). run_from n (shown n k D)) (lent_lasts n b)

-- and the next one, after a step
pub next_lent : (n k l r : ℕ) (D b : List ℕ) → l ≤ n → l ≡ run_from n (shown n k D) → LastsMoved n k D (lasts_in n (cells_of b))
    → r ≡ seek (λ x. eqb (at (shown n k (cells_of (mid_of (2 * n) (4 * n - 2 * n) b))) x) open') l (n + 1 - l) → r ≡ run_from n (shown n k (lasts_in n (cells_of b)))
next_lent n k l r D b h e y q =
    next_from n k l r D (lasts_in n (cells_of b)) h e y (q ∙ ap (λ (X : List ℕ). seek (λ x. eqb (at (shown n k X) x) open') l (n + 1 - l)) (lent_lasts n b))

-- what is told where a link was sought
pub told_link : (n x l : ℕ) (told : Option ℕ) → LinkTold n x told → told ≡ Some l → (l ≡ x) × (l ≤ n)
told_link n x l told h e = subst (LinkTold n x) e h

-- and where none is told
pub told_none : (n x : ℕ) (told : Option ℕ) → LinkTold n x told → ((l : ℕ) → told ≡ Some l → ⊥) → n < x
told_none n x None h f = h
told_none n x (Some l) h f = absurd (f l refl)

module _ (n m k l : ℕ) (s work list : List ℕ) (q : Queue) (run : Run) (desk : Desk n m s work list)
    (row : AtRun n k l (lasts_in n (cells_of work)))
    (queued : Waiting n m s work list q) (found : Around n (shown n k (cells_of (mid_of (2 * n) (4 * n - 2 * n) work))) run) where
  -- the run that was found in the lent part is that of the work area
  here : Around n (shown n k (lasts_in n (cells_of work))) run
  here = subst (λ (D : List ℕ). Around n (shown n k D) run) (lent_lasts n work) found

  -- it starts on the line
  on_line : run.from ≤ n
  on_line = let e = here.starts in let l₁ = row.2 in let l₂ = row.3 in omega arith

  -- its ends and its reach
  pub bounds : (1 ≤ run.low) × (run.low ≤ run.from) × (run.from < run.past) × (run.past ≤ run.high) × (run.high ≤ n + 1)
  bounds =
      let y = here in
      let s = y.starts in
      let e = y.ends in
      let o = on_line in
      (y.to_left.pos, y.to_left.below, omega (arith, from_past n (shown n k (lasts_in n (cells_of work))) (omega arith)), y.past_high, y.on_line)

  module _ (p : ℕ) (fit : p ≡ first_place q (fits_at m run (cells_of list))) where
    -- a circuit was found: it is one of the file
    pub there : p < q.to → place_in m (cells_of list) p < m
    there h = (waits_there n m k (circuits_in m s) (cells_of work) (cells_of list) q run p desk.file.lies desk.file.distinct (length_circuits_in m s) here on_line queued fit h).0

    module _ (C' L' : List ℕ) (h : p < q.to) (done : Placed n m k p run (circuits_in m s) (cells_of work) C' (cells_of list) L') where
      -- it is out of the queue
      out : (1 ≤ q.many) × Queued m (circuits_in m s) (rows_in n m C') L' (record { from = q.from; to = q.to; many = q.many - 1 })
      out =
          let r = desk.room in
          let c = desk.columns in
          let w = length_cells_of work (2 * n + 2 * m) (omega arith) in
          let x = length_cells_of list (4 * m) (omega arith) in
          placed_queued n m k p (circuits_in m s) (cells_of work) C' (cells_of list) L' q run (omega arith) (omega arith) row.0 h
          (waits_there n m k (circuits_in m s) (cells_of work) (cells_of list) q run p desk.file.lies desk.file.distinct (length_circuits_in m s) here on_line queued fit h).1 queued done

      -- where somebody waited
      pub out_many : 1 ≤ q.many
      out_many = out.0

      -- and it is placed
      pub out_done : Shows n m k (plain n (step n (circuits_in m s) k (state_in n m k (cells_of work)))) (cells_of work) C'
          × Queued m (circuits_in m s) (rows_in n m C') L' (record { from = q.from; to = q.to; many = q.many - 1 })
      out_done = (
        place_step n m k p (circuits_in m s) (cells_of work) C' (cells_of list) L' run row.1 on_line here
            (chosen_there n m k (circuits_in m s) (cells_of work) (cells_of list) q run p desk.file.lies desk.file.distinct (length_circuits_in m s) here on_line queued fit h) done,
        out.1,
      )

    -- nobody was found: the run is blue
    pub blue_done : (C' : List ℕ) → q.to ≤ p → take n C' ≡ take n (cells_of work) → lasts_in n C' ≡ painted n run.from run.past blue_row (lasts_in n (cells_of work))
        → rows_in n m C' ≡ rows_in n m (cells_of work)
        → Shows n m k (plain n (step n (circuits_in m s) k (state_in n m k (cells_of work)))) (cells_of work) C' × Queued m (circuits_in m s) (rows_in n m C') (cells_of list) q
    blue_done C' h needs lasts rows = (
      blue_step n m k (circuits_in m s) (cells_of work) C' run row.1 on_line here
          (chosen_nobody n m k (circuits_in m s) (cells_of work) (cells_of list) q run p desk.file.lies desk.file.distinct (length_circuits_in m s) here on_line queued fit h) needs lasts rows,
      subst (λ (R : List ℕ). Queued m (circuits_in m s) R (cells_of list) q) (sym rows) queued,
    )
