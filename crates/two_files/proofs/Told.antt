-- What the pieces of two files that passed tell, and which end their refusals tell. Assumes nothing.
use Prim.Native.Nat.{ℕ, ◌+◌, ◌*◌, ◌/◌, ◌≤◌}
use mathlib.Core.Path.{◌≡◌, ◌∙◌, sym}
use mathlib.Core.Logic.{◌≢◌}
use mathlib.Core.List.{List, ◌++◌}
use mathlib.Core.Option.{Option, none, some}
use native.Mathlib.Omega.{arith}
use lib.ListN.{length}
use lib.Dec.{eqb}
use Rattle.records.specs.Records.{record_at, circuit_of, number_in}
use Rattle.refusals.specs.Ends.{TellsEnd}
use Rattle.std.specs.Prelude.{None, Ok}
use Rattle.refusals.specs.Refusals.{number_of}
use Rattle.refusals.specs.declared.Refusal.{Refusal}
use Rattle.refusals.specs.declared.Reason.{Reason}
use Rattle.refusals.specs.declared.Reason.TheVariants.{NumberZero, WrongEnd, NumberTwice}
use Rattle.refusals.specs.Table.{Row, wherever, no_end, first_record, bad_ends, wrong_end, repeats, verdict, row5, row6, row7}
use Rattle.refusals.specs.Given.{NoneApplies}
use Rattle.refusals.proofs.EndLaws.{EachGives, each_end, each_more, each_tells, end_told}
use Rattle.refusals.proofs.First.{verdict_passed}
use Rattle.refusals.proofs.Passed.{passed1, passed2}
use Rattle.refusals.proofs.Pieces.{none_first, none_rest, wherever_gives}
use Rattle.two_files.specs.Rows.{later, two_file_rows, two_record_rows}
use Rattle.two_files.specs.Joint.{Unlike}
use Rattle.two_files.proofs.JoinLaws.{joined5, joined6}
use Rattle.two_files.proofs.LaterLaws.{later_out, neither}

module _ (old new : List ℕ) (f : NoneApplies (two_file_rows old new)) where
  -- the old file is whole records
  pub old_whole : 8 * (length old / 8) ≡ length old
  unfolding two_file_rows
  old_whole = sym (passed1 old (none_first _ _ f))

  -- the new file is whole records
  pub new_whole : 8 * (length new / 8) ≡ length new
  unfolding two_file_rows
  new_whole = sym (passed1 new (none_first _ _ (none_rest _ _ f)))

  -- there are at most 2,048 circuits in all
  pub both_few : length old / 8 + length new / 8 ≤ 2048
  unfolding two_file_rows
  both_few = passed2 (length old / 8 + length new / 8) (none_first _ _ (none_rest _ _ (none_rest _ _ f)))

module _ (n k m : ℕ) (old new : List ℕ) (f : NoneApplies (two_record_rows n k m old new)) where
  -- no number stands twice in either file
  pub both_unlike : Unlike old k new m
  unfolding two_record_rows
  both_unlike =
      let sevens = none_rest _ _ (none_rest _ _ f) in
      record { in_old = none_first _ _ sevens; in_new = later_out k (row7 new m) (none_first _ _ (none_rest _ _ sevens)) }

  -- no number is 0, in either file
  pub both_numbered : 8 * k ≡ length old → (row5 old k ≡ none) × (row5 new m ≡ none)
  unfolding two_record_rows
  both_numbered whole =
      let z = neither (row5 old k) (later k (row5 new m)) (sym (joined5 old new k m whole) ∙ none_first _ _ f) in
      (z.0, later_out k (row5 new m) z.1)

  -- every circuit lies on the line, in either file
  pub both_on_line : 8 * k ≡ length old → (row6 n old k ≡ none) × (row6 n new m ≡ none)
  unfolding two_record_rows
  both_on_line whole =
      let z = neither (row6 n old k) (later k (row6 n new m)) (sym (joined6 old new k m whole n) ∙ none_first _ _ (none_rest _ _ f)) in
      (z.0, later_out k (row6 n new m) z.1)

-- IN A CHAIN. A piece that passed applies nowhere
passed : (rows : List Row) (z y : ℕ) → verdict rows z ≡ Ok y → NoneApplies rows
passed rows z y e = (verdict_passed rows z y e).1

-- the files passed: the old one is whole records
pub files_old : (old new : List ℕ) (z y : ℕ) → verdict (two_file_rows old new) z ≡ Ok y → 8 * (length old / 8) ≡ length old
files_old old new z y e = old_whole old new (passed (two_file_rows old new) z y e)

-- and so is the new one
pub files_new : (old new : List ℕ) (z y : ℕ) → verdict (two_file_rows old new) z ≡ Ok y → 8 * (length new / 8) ≡ length new
files_new old new z y e = new_whole old new (passed (two_file_rows old new) z y e)

-- which is long enough for its records
pub files_room : (old new : List ℕ) (z y : ℕ) → verdict (two_file_rows old new) z ≡ Ok y → 8 * (length new / 8) ≤ length new
files_room old new z y e = let w = files_new old new z y e in omega arith

-- there are at most 2,048 circuits in all
pub files_few : (old new : List ℕ) (z y : ℕ) → verdict (two_file_rows old new) z ≡ Ok y → length old / 8 + length new / 8 ≤ 2048
files_few old new z y e = both_few old new (passed (two_file_rows old new) z y e)

-- the records passed: no number stands twice in either file
pub records_unlike : (n k m : ℕ) (old new : List ℕ) (z y : ℕ) → verdict (two_record_rows n k m old new) z ≡ Ok y → Unlike old k new m
records_unlike n k m old new z y e = both_unlike n k m old new (passed (two_record_rows n k m old new) z y e)

-- a row of the new file that is not about ends tells none
pub later_tells : (n m : ℕ) (s : List ℕ) (k : ℕ) (x : Reason) (o : Option ℕ) → number_of x ≢ 6 → (r : Refusal) → later k (wherever x no_end o) ≡ some r → TellsEnd n m s r
later_tells n m s k x (some place) z r e = let a : number_of r.reason ≡ number_of x = cc in let d : r.end ≡ None = cc in record { six = λ q. absurd (z (sym a ∙ q)); other = λ q. d }
later_tells n m s k x none z r e = cc

-- the refusals of the records tell the end of the joined file's record at their place, or none
pub two_records_tell : (n k m : ℕ) (old new : List ℕ) → EachGives (TellsEnd n (k + m) (old ++ new)) (two_record_rows n k m old new)
unfolding two_record_rows
two_records_tell n k m old new =
    let s = old ++ new in
    let P = TellsEnd n (k + m) s in
    let five = each_tells n (k + m) s NumberZero (first_record (λ i. eqb (number_in s i) 0) (k + m)) (λ z. omega arith) in
    let six : (r : Refusal) → row6 n s (k + m) ≡ some r → TellsEnd n (k + m) s r =
    λ r e. record {
      six = λ q. end_told n (k + m) s r e;
      other = λ q. absurd (q (wherever_gives WrongEnd (λ i. wrong_end n (circuit_of (record_at s i))) (first_record (λ i. bad_ends n (circuit_of (record_at s i))) (k + m)) r e));
    } in
    let seven = each_tells n (k + m) s NumberTwice (first_record (repeats old) k) (λ z. omega arith) in
    let newSeven = later_tells n (k + m) s k NumberTwice (first_record (repeats new) m) (λ z. omega arith) in
    each_more P _ _ five (each_more P _ _ six (each_more P _ _ seven (each_more P _ _ newSeven (each_end P))))
