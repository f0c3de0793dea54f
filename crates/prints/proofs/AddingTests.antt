-- The tests of an addition, by what was read of a folder: those of `add` in the areas that the program lends. Assumes nothing.
use Prim.Native.Nat.{ℕ, ◌+◌, ◌*◌, ◌/◌, ◌%◌, ◌≤◌}
use mathlib.Core.Path.{◌≡◌, refl, ap, ap₂, sym, ◌∙◌}
use mathlib.Core.Bool.{Bool, true, false, ◌&&◌, ◌||◌}
use mathlib.Core.List.{List, [], ◌∷◌, ◌++◌, append_assoc}
use mathlib.Core.Option.{none, some}
use native.Mathlib.Omega.{arith}
use lib.Dec.{eqb, ltb}
use lib.ListN.{length, take}
use lib.Seq.{length-take-le}
use Rattle.basics.proofs.Bools.{on}
use Rattle.basics.proofs.Tables.{each_same}
use Rattle.records.specs.Records.{assignment_of, circuits_of, fibre_of, record_at}
use Rattle.records.specs.declared.Line.{Line}
use Rattle.refusals.specs.declared.Reason.TheVariants.{FibreRoom, AssignmentRoom, WorkRoom, UnfitPlan}
use Rattle.refusals.specs.Given.{NoneApplies}
use Rattle.refusals.specs.Table.{Row, line_rows, verdict, whenever}
use Rattle.refusals.proofs.First.{verdict_row}
use Rattle.refusals.proofs.Passed.{passed2, passed3, passes_room}
use Rattle.refusals.proofs.Pieces.{none_end, none_first, none_left, none_more, none_rest, none_right}
use Rattle.register.specs.Areas.{Areas}
use Rattle.two_files.specs.Rows.{row14, two_file_rows, two_record_rows}
use Rattle.checker.specs.Checked.{assignments_in, fibres_in}
use Rattle.checker.specs.Rules.{first_broken, is_broken}
use Rattle.checker.proofs.Planned.{taken_record}
use Rattle.adder.specs.Additions.{Files, named_in}
use Rattle.adder.specs.Outcome.{judged}
use Rattle.adder.specs.Table.{add_table, old_rows, room_rows, unfit}
use Rattle.prints.specs.Adding.{both_rows, folder_rows, folder_verdict, no_plan}
use Rattle.prints.specs.inner.Lent.{Growable, old_read, records_read}

-- rows that follow others matter only where none of those applies
verdict_after : (rs rows others : List Row) (x : ℕ) → (NoneApplies rs → verdict rows x ≡ verdict others x) → verdict (rs ++ rows) x ≡ verdict (rs ++ others) x
unfolding verdict
verdict_after [] rows others x f = f none_end
verdict_after (none ∷ rs) rows others x f = verdict_after rs rows others x (λ p. f (none_more none rs refl p))
verdict_after (some r ∷ rs) rows others x f = refl

-- rows of which none applies may be left out
pub verdict_without : (rs rows : List Row) (x : ℕ) → NoneApplies rs → verdict (rs ++ rows) x ≡ verdict rows x
verdict_without [] rows x p = refl
verdict_without (row ∷ rs) rows x p = verdict_row row (rs ++ rows) x none (none_first row rs p) ∙ verdict_without rs rows x (none_rest row rs p)

-- both circuit files and the line passed: there are at most 2,048 circuits and 512 links
pub both_few : (line : Line) (s new : List ℕ) → NoneApplies (both_rows line s new) → (length s / 8 + length new / 8 ≤ 2048) × (line.links ≤ 512)
unfolding both_rows two_file_rows line_rows
both_few line s new p = (
  passed2 (length s / 8 + length new / 8) (none_first _ _ (none_rest _ _ (none_rest _ _ (none_left (two_file_rows s new) _ p)))),
  (passed3 512 line.links (none_first _ _ (none_left (line_rows line) _ (none_right (two_file_rows s new) _ p)))).1,
)

module _ (line : Line) (s new : List ℕ) (f a : ℕ) (before : Areas) (g : Growable f a before.fibres before.assigns) where
  -- the old plan, as it was read
  abbrev old : Files
  old = old_read s f before.fibres a before.assigns

  -- how many bytes were read
  pub fibre_bytes_lem : length (take f before.fibres) ≡ f
  fibre_bytes_lem = length-take-le f before.fibres (omega (arith, g.fibres_behind))

  pub assign_bytes : length (take a before.assigns) ≡ a
  assign_bytes = length-take-le a before.assigns (omega (arith, g.assigns_behind))

  -- the same records stand in the lent lists
  same_fibres : fibres_in (f / 8) before.fibres ≡ fibres_in (f / 8) (take f before.fibres)
  unfolding fibres_in
  same_fibres =
      each_same (λ i. fibre_of (record_at before.fibres i)) (λ i. fibre_of (record_at (take f before.fibres) i)) 0 (f / 8)
      (λ i l h. ap fibre_of (sym (taken_record f before.fibres i (omega arith))))

  same_assigns : assignments_in (a / 8) before.assigns ≡ assignments_in (a / 8) (take a before.assigns)
  unfolding assignments_in
  same_assigns =
      each_same (λ j. assignment_of (record_at before.assigns j)) (λ j. assignment_of (record_at (take a before.assigns) j)) 0 (a / 8)
      (λ j l h. ap assignment_of (sym (taken_record a before.assigns j (omega arith))))

  -- so the plan in them is fit exactly if that in the files is
  unfit_read : unfit line s (record { fibres = f / 8; assignments = a / 8 }) before.fibres before.assigns ≡ unfit line s (named_in old) old.fibres old.assigns
  unfolding unfit
  unfit_read =
      (λ i. ltb 2048 (f / 8) || is_broken (first_broken line (circuits_of s) (same_fibres i) (same_assigns i)))
      ∙ ap₂ (λ (x y : ℕ). ltb 2048 (x / 8) || is_broken (first_broken line (circuits_of s) (fibres_in (x / 8) (take f before.fibres)) (assignments_in (y / 8) (take a before.assigns))))
      (sym fibre_bytes_lem) (sym assign_bytes)

  -- where a list isn't whole records more fibres are named than are allowed
  unfit_so : unfit line s (records_read f a) before.fibres before.assigns ≡ no_plan line old
  unfolding no_plan records_read unfit
  unfit_so =
      on (eqb (f % 8) 0)
      (λ q.
      on (eqb (a % 8) 0)
      (λ p.
      let x : eqb (length (take f before.fibres) % 8) 0 ≡ true = ap (λ (k : ℕ). eqb (k % 8) 0) fibre_bytes_lem ∙ q in
      let y : eqb (length (take a before.assigns) % 8) 0 ≡ true = ap (λ (k : ℕ). eqb (k % 8) 0) assign_bytes ∙ p in
      rw (q, p, x, y) unfit_read)
      (λ p.
      let y : eqb (length (take a before.assigns) % 8) 0 ≡ false = ap (λ (k : ℕ). eqb (k % 8) 0) assign_bytes ∙ p in
      let x : eqb (length (take f before.fibres) % 8) 0 ≡ true = ap (λ (k : ℕ). eqb (k % 8) 0) fibre_bytes_lem ∙ q in
      rw (q, p, x, y)))
      (λ q.
      let x : eqb (length (take f before.fibres) % 8) 0 ≡ false = ap (λ (k : ℕ). eqb (k % 8) 0) fibre_bytes_lem ∙ q in
      rw (q, x))

  -- the lists have room for the records that are named and for m more
  rooms : (m : ℕ) → m ≤ 2048 → (8 * ((records_read f a).fibres + m) ≤ length before.fibres) × (8 * ((records_read f a).assignments + m) ≤ length before.assigns)
  unfolding records_read
  rooms m h =
      on (eqb (f % 8) 0 && eqb (a % 8) 0)
      (λ q. rw q (omega (arith, g.fibres_behind), omega (arith, g.assigns_behind)))
      (λ q. rw q (omega (arith, g.fibres_ample), omega (arith, g.assigns_behind)))

  module _ (work : 10240 ≤ length before.work) where
    -- so tests 8, 9 and 10 pass where those before them do
    rooms_pass : NoneApplies (both_rows line s new)
        → NoneApplies (room_rows line.links (length s / 8) (length new / 8) (records_read f a) (length before.fibres) (length before.assigns) (length before.work))
    unfolding room_rows
    rooms_pass p =
        let few = both_few line s new p in
        let k = length s / 8 in
        let m = length new / 8 in
        let r = rooms m (omega (arith, few.0)) in
        none_more _ _ (passes_room FibreRoom (8 * ((records_read f a).fibres + m)) (length before.fibres) r.0)
        (none_more _ _ (passes_room AssignmentRoom (8 * ((records_read f a).assignments + m)) (length before.assigns) r.1)
        (none_more _ _ (passes_room WorkRoom (4 * line.links + 4 * (k + m)) (length before.work) (omega (arith, few.0, few.1, work))) none_end))

    -- and the verdict is that of the folder
    pub judged_so : judged line s new (records_read f a) before ≡ folder_verdict line old new
    unfolding judged add_table folder_verdict folder_rows both_rows old_rows
    judged_so =
        let k = length s / 8 in
        let m = length new / 8 in
        let files = two_file_rows s new in
        let lines = line_rows line in
        let records = two_record_rows line.links k m s new in
        let lent = room_rows line.links k m (records_read f a) (length before.fibres) (length before.assigns) (length before.work) in
        let last : List Row = whenever UnfitPlan (unfit line s (records_read f a) before.fibres before.assigns) ∷ row14 s k new m ∷ [] in
        ap (λ (rows : List Row). verdict rows (k + m)) (sym (append_assoc files (lines ++ records) (lent ++ last) ∙ ap (λ (rows : List Row). files ++ rows) (append_assoc lines records (lent ++ last))))
        ∙ verdict_after (files ++ (lines ++ records)) (lent ++ last) (whenever UnfitPlan (no_plan line old) ∷ row14 s k new m ∷ []) (k + m)
        (λ p.
        verdict_without lent last (k + m) (rooms_pass p)
        ∙ ap (λ (b : Bool). verdict (whenever UnfitPlan b ∷ row14 s k new m ∷ []) (k + m)) unfit_so)
