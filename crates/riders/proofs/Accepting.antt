-- What the tests leave of two files, and that the verdict is told as the outcome. Assumes nothing.
use Prim.Native.Nat.{ℕ, ◌+◌, ◌-◌, ◌*◌, ◌/◌, ◌≤◌, ◌<◌}
use mathlib.Core.Path.{◌≡◌, refl, ap, ◌∙◌, sym, subst}
use mathlib.Core.List.{List, [], ◌∷◌, ◌++◌}
use mathlib.Core.Option.{none}
use native.Mathlib.Omega.{arith}
use lib.ListN.{length, length-append}
use borrow.Author.Tests.{eqb-false}
use Rattle.basics.proofs.Bools.{by_le}
use Rattle.basics.proofs.Searches.{any_false}
use Rattle.records.specs.Records.{circuit_of, circuits_in, number_in, record_at}
use Rattle.records.specs.declared.Circuit.{Circuit}
use Rattle.records.proofs.Files.{circuits_in_at, length_circuits_in}
use Rattle.method.specs.Line.{circuit, nobody, Lies}
use Rattle.refusals.specs.Given.{NoneApplies}
use Rattle.refusals.specs.Refusals.{refusal_in}
use Rattle.refusals.specs.Table.{has_number, no_end, row3, row6, tested, verdict}
use Rattle.std.specs.Prelude.{Ok, Err}
use Rattle.refusals.specs.declared.Refusal.{Refusal}
use Rattle.refusals.specs.declared.Reason.TheVariants.{NumberTaken, IndexRoom}
use Rattle.refusals.proofs.First.{verdict_passed, record_none}
use Rattle.refusals.proofs.Passed.{passed3, passed6, passed7, passed_room, wherever_none}
use Rattle.refusals.proofs.Pieces.{none_first, none_left, none_rest, none_right}
use Rattle.rows.specs.Accepted.{OnLine}
use Rattle.two_files.specs.Rows.{has_old, row14, two_file_rows, two_record_rows}
use Rattle.two_files.proofs.JoinLaws.{record_old, record_new}
use Rattle.two_files.proofs.LaterLaws.{later_out}
use Rattle.two_files.proofs.Told.{old_whole, new_whole, both_few, both_unlike, both_on_line}
use Rattle.riders.specs.Index.{Index, cells_for}
use Rattle.riders.specs.Outcome.{Answer, both_of, index_table, judged, answer_by, IfAccepted, Outcome}

-- IN THE CHAIN. The line passed: it has at most 512 links
pub line_short : (n x z y : ℕ) → tested (row3 x n) z ≡ Ok y → n ≤ x
unfolding verdict
line_short n x z y e = (passed3 x n (none_first _ _ (verdict_passed (row3 x n ∷ []) z y e).1)).1

-- the circuits of a file whose row 6 does not apply lie on the line
file_lies : (n m : ℕ) (s : List ℕ) → row6 n s m ≡ none → Lies n (circuits_in m s)
file_lies n m s e j h = let b : j < m = omega (arith, length_circuits_in m s) in rw (circuits_in_at m s j nobody b) (passed6 n s m e j b)

-- the records passed: the circuits of each file lie on the line
pub records_lie : (n k m : ℕ) (old new : List ℕ) (z y : ℕ) → 8 * k ≡ length old → verdict (two_record_rows n k m old new) z ≡ Ok y → Lies n (circuits_in k old) × Lies n (circuits_in m new)
records_lie n k m old new z y whole e =
    let r = both_on_line n k m old new (verdict_passed (two_record_rows n k m old new) z y e).1 whole in
    (file_lies n k old r.0, file_lies n m new r.1)

module _ (n : ℕ) (old new : List ℕ) (has : ℕ) (passed : NoneApplies (index_table n old new has)) where
  -- how many circuits each file has
  abbrev k : ℕ
  k = length old / 8

  abbrev m : ℕ
  m = length new / 8

  -- no test of the bytes applies
  of_files : NoneApplies (two_file_rows old new)
  unfolding index_table
  of_files = none_left (two_file_rows old new) _ passed

  -- the old file is whole records
  pub old_is_whole : 8 * k ≡ length old
  old_is_whole = old_whole old new of_files

  -- nor that of the line
  of_line : row3 512 n ≡ none
  unfolding index_table
  of_line = none_first _ _ (none_right (two_file_rows old new) _ passed)

  -- nor those of the records
  of_records : NoneApplies (two_record_rows n k m old new)
  unfolding index_table
  of_records = none_left (two_record_rows n k m old new) _ (none_rest _ _ (none_right (two_file_rows old new) _ passed))

  -- nor 14
  of_others : row14 old k new m ≡ none
  unfolding index_table
  of_others = none_first _ _ (none_right (two_record_rows n k m old new) _ (none_rest _ _ (none_right (two_file_rows old new) _ passed)))

  -- there is room
  pub room : cells_for n (both_of old new) ≤ has
  unfolding index_table
  room = passed_room IndexRoom (cells_for n (both_of old new)) has (none_first _ _ (none_rest _ _ (none_right (two_record_rows n k m old new) _ (none_rest _ _ (none_right (two_file_rows old new) _ passed)))))

  -- the number of a record of the old file
  number_old : (i : ℕ) → i < k → number_in (old ++ new) i ≡ number_in old i
  number_old i h = ap (λ (x : List ℕ). (circuit_of x).number) (record_old old new k (old_whole old new of_files) i h)

  -- of the new one
  number_new : (i : ℕ) → number_in (old ++ new) (k + i) ≡ number_in new i
  number_new i = ap (λ (x : List ℕ). (circuit_of x).number) (record_new old new k (old_whole old new of_files) i)

  -- no new record has an old number
  apart : (i j : ℕ) → i < k → j < m → number_in old i ≡ number_in new j → ⊥
  unfolding has_old
  apart i j h l e =
      let z = record_none (has_old old k new) m (wherever_none NumberTaken no_end _ (later_out k _ of_others)) j l in
      eqb-false (number_in old i) (number_in new j) (any_false (has_number old (number_in new j)) k z i h) e

  -- no number stands twice in both files
  alone : (i j : ℕ) → i < k + m → j < k + m → number_in (old ++ new) i ≡ number_in (old ++ new) j → i ≡ j
  alone i j a b e =
      let u = both_unlike n k m old new of_records in
      let at : (x : ℕ) → k ≤ x → number_in (old ++ new) x ≡ number_in new (x - k) = λ x h. (let z : x ≡ k + (x - k) = omega arith in ap (number_in (old ++ new)) z ∙ number_new (x - k)) in
      by_le k i
      (λ h. by_le k j
      (λ l. let q = passed7 new m u.in_new (i - k) (j - k) (omega arith) (omega arith) (sym (at i h) ∙ e ∙ at j l) in omega arith)
      (λ l. absurd (apart j (i - k) l (omega arith) (sym (number_old j l) ∙ sym e ∙ at i h))))
      (λ h. by_le k j
      (λ l. absurd (apart i (j - k) h (omega arith) (sym (number_old i h) ∙ e ∙ at j l)))
      (λ l. passed7 old k u.in_old i j h l (sym (number_old i h) ∙ e ∙ number_old j l)))

  -- the joined file is accepted
  pub accepted : OnLine n (k + m) (old ++ new)
  unfolding circuit
  accepted =
      let long = length_circuits_in (k + m) (old ++ new) in
      let six = both_on_line n k m old new of_records (old_whole old new of_files) in
      record {
        line = (passed3 512 n of_line).1;
        few = both_few old new of_files;
        whole = omega (arith, length-append old new, old_whole old new of_files, new_whole old new of_files);
        lies = λ j h.
            let b : j < k + m = omega arith in
            by_le k j
            (λ l. let z : j ≡ k + (j - k) = omega arith in
            rw (circuits_in_at (k + m) (old ++ new) j nobody b ∙ ap (λ (x : ℕ). circuit_of (record_at (old ++ new) x)) z ∙ ap circuit_of (record_new old new k (old_whole old new of_files) (j - k)))
            (passed6 n new m six.1 (j - k) (omega arith)))
            (λ l. rw (circuits_in_at (k + m) (old ++ new) j nobody b ∙ ap circuit_of (record_old old new k (old_whole old new of_files) j l)) (passed6 n old k six.0 j l));
        distinct = λ i j a b e.
            let x : i < k + m = omega arith in
            let y : j < k + m = omega arith in
            alone i j x y
            (ap (λ (c : Circuit). c.number) (sym (circuits_in_at (k + m) (old ++ new) i nobody x)) ∙ e ∙ ap (λ (c : Circuit). c.number) (circuits_in_at (k + m) (old ++ new) j nobody y));
      }

module _ (n : ℕ) (old new before : List ℕ) where
  -- all tests passed, so no row applies
  pub none_applies : (cells : ℕ) → judged n old new before ≡ Ok cells → (cells ≡ cells_for n (both_of old new)) × NoneApplies (index_table n old new (length before))
  unfolding judged
  none_applies cells j = verdict_passed (index_table n old new (length before)) (cells_for n (both_of old new)) cells j

  -- the index may be built
  pub may_build : (cells : ℕ) → judged n old new before ≡ Ok cells → OnLine n (length old / 8 + length new / 8) (old ++ new) × (cells_for n (both_of old new) ≤ length before)
  may_build cells j = let p = (none_applies cells j).1 in (accepted n old new (length before) p, room n old new (length before) p)

  -- a refusal changes nothing
  pub refused : (r : Refusal) (answer : Answer) → judged n old new before ≡ Err r → answer ≡ Err r → Outcome n old new before before answer
  refused r answer j e =
      record {
        answered = e ∙ sym (ap (λ (x : Answer). answer_by x (cells_for n (both_of old new))) j);
        indexed = subst (λ (x : Answer). IfAccepted (refusal_in x) (Index n (both_of old new) before before) (before ≡ before)) (sym j) refl;
      }

  -- where all tests passed the index is there
  pub built : (cells : ℕ) (after : List ℕ) → judged n old new before ≡ Ok cells → Index n (both_of old new) before after → Outcome n old new before after (Ok cells)
  built cells after j x =
      record {
        answered = ap Ok (none_applies cells j).0 ∙ sym (ap (λ (y : Answer). answer_by y (cells_for n (both_of old new))) j);
        indexed = subst (λ (y : Answer). IfAccepted (refusal_in y) (Index n (both_of old new) before after) (after ≡ before)) (sym j) x;
      }
