-- Laws of 14: where no number stands twice in either file, a record of the joined file repeats an earlier one exactly if it is a new one with an old number. Assumes nothing.
use Prim.Native.Nat.{ℕ, ◌+◌, ◌-◌, ◌*◌, ◌<◌, ◌≤◌}
use mathlib.Core.Path.{◌≡◌, refl, ap, ◌∙◌, sym}
use mathlib.Core.Bool.{true}
use mathlib.Core.List.{List, ◌++◌}
use mathlib.Core.Option.{Option, none, some}
use native.Mathlib.Omega.{arith}
use lib.ListN.{length, length-append}
use lib.Dec.{eqb}
use borrow.Author.Tests.{eqb-true}
use Rattle.basics.proofs.Bools.{by_le}
use Rattle.basics.proofs.Searches.{any_both}
use Rattle.records.specs.Records.{record_at, circuit_of, number_in}
use Rattle.refusals.specs.Table.{Row, wherever, no_end, first_record, has_number, repeats, row7, tested}
use Rattle.std.specs.Prelude.{None, Result, Ok, Err}
use Rattle.refusals.specs.declared.Refusal.{Refusal}
use Rattle.refusals.specs.declared.Reason.TheVariants.{NumberTwice, NumberTaken}
use Rattle.refusals.proofs.Passed.{passed7, wherever_none}
use Rattle.two_files.specs.Rows.{later, has_old, row14}
use Rattle.two_files.specs.Joint.{or_else, Unlike}
use Rattle.two_files.proofs.JoinLaws.{record_old, record_new, joined_row}
use Rattle.two_files.proofs.LaterLaws.{later_out}

-- 14, refused at the place of this refusal
taken : Refusal → Result ℕ Refusal
taken r = Err (record { reason = NumberTaken; place = r.place; end = None })

-- 7 and 14 are refused at the same places
same_place : (k z x : ℕ) (r : Refusal) (o : Option ℕ) → tested (later k (wherever NumberTwice no_end o)) z ≡ Err r → tested (later k (wherever NumberTaken no_end o)) x ≡ taken r
unfolding taken
same_place k z x r none e = cc
same_place k z x r (some a) e = cc

-- and passed alike
same_passed : (k z x y : ℕ) (o : Option ℕ) → tested (later k (wherever NumberTwice no_end o)) z ≡ Ok y → tested (later k (wherever NumberTaken no_end o)) x ≡ Ok x
same_passed k z x y none e = refl
same_passed k z x y (some a) e = cc

-- what 14 answers, by what 7 does
abbrev pub taken_told : ℕ → Result ℕ Refusal → Result ℕ Refusal
taken_told x (Ok y) = Ok x
taken_told x (Err r) = Err (record { reason = NumberTaken; place = r.place; end = None })

-- s is both files, whatever stands behind them
module _ (s old new rest : List ℕ) (k m : ℕ) (is : s ≡ (old ++ new) ++ rest) (wholeOld : 8 * k ≡ length old) (wholeNew : 8 * m ≡ length new) where
  -- a record of s
  record_both : (i : ℕ) → i < k + m → record_at s i ≡ record_at (old ++ new) i
  record_both i h =
      let l = length-append old new in
      ap (λ (x : List ℕ). record_at x i) is ∙ record_old (old ++ new) rest (k + m) (omega arith) i h

  -- the number of an old record
  number_old : (i : ℕ) → i < k → number_in s i ≡ number_in old i
  number_old i h = ap (λ (x : List ℕ). (circuit_of x).number) (record_both i (omega arith) ∙ record_old old new k wholeOld i h)

  -- the number of a new record
  number_new : (i : ℕ) → i < m → number_in s (k + i) ≡ number_in new i
  number_new i h = ap (λ (x : List ℕ). (circuit_of x).number) (record_both (k + i) (omega arith) ∙ record_new old new k wholeOld i)

  -- an old record repeats an earlier one as in the old file
  repeats_old : (i : ℕ) → i < k → repeats s i ≡ repeats old i
  unfolding repeats
  repeats_old i h =
      any_both (has_number s (number_in s i)) (has_number old (number_in old i)) i i
      (λ j l t. (j, l, sym (same j l) ∙ t))
      (λ j l t. (j, l, same j l ∙ t))
    where
      same : (j : ℕ) → j < i → has_number s (number_in s i) j ≡ has_number old (number_in old i) j
      same j l = λ x. eqb (number_old j (omega arith) x) (number_old i h x)

  -- a new record repeats an earlier one exactly if the old file has its number
  repeats_new : row7 new m ≡ none → (i : ℕ) → i < m → repeats s (k + i) ≡ has_old old k new i
  unfolding repeats has_old
  repeats_new seven i h =
      any_both (has_number s (number_in s (k + i))) (has_number old (number_in new i)) (k + i) k
      (λ j l t. by_le k j (λ g. other j l g t) (λ g. (j, g, sym (same j g) ∙ t)))
      (λ j l t. (j, omega arith, same j l ∙ t))
    where
      same : (j : ℕ) → j < k → has_number s (number_in s (k + i)) j ≡ has_number old (number_in new i) j
      same j l = λ x. eqb (number_old j l x) (number_new i h x)

      other : (j : ℕ) → j < k + i → k ≤ j → has_number s (number_in s (k + i)) j ≡ true → (d : ℕ) × (d < k) × (has_number old (number_in new i) d ≡ true)
      other j l g t =
          let z : j ≡ k + (j - k) = omega arith in
          let e : number_in new (j - k) ≡ number_in new i =
          sym (ap (number_in s) z ∙ number_new (j - k) (omega arith)) ∙ eqb-true (number_in s j) (number_in s (k + i)) t ∙ number_new i h in
          let q : j - k ≡ i = passed7 new m seven (j - k) i (omega arith) h e in
          absurd (omega arith)

  -- so 7 of s has the places of 14
  places : Unlike old k new m → row7 s (k + m) ≡ later k (wherever NumberTwice no_end (first_record (has_old old k new) m))
  places u =
      joined_row k m (repeats s) (repeats old) (has_old old k new) repeats_old (repeats_new u.in_new) NumberTwice no_end no_end no_end (λ i h. refl) (λ i h. refl)
      ∙ ap (λ (row : Row). or_else row (later k (wherever NumberTwice no_end (first_record (has_old old k new) m)))) u.in_old

  -- 7 of s is refused: 14 is, at that place
  pub old_number : Unlike old k new m → (z x : ℕ) (r : Refusal) → tested (row7 s (k + m)) z ≡ Err r
      → tested (row14 old k new m) x ≡ Err (record { reason = NumberTaken; place = r.place; end = None })
  unfolding taken
  old_number u z x r e = same_place k z x r (first_record (has_old old k new) m) (sym (ap (λ (row : Row). tested row z) (places u)) ∙ e)

  -- 7 of s is passed: so is 14
  pub no_old_number : Unlike old k new m → (z x y : ℕ) → tested (row7 s (k + m)) z ≡ Ok y → tested (row14 old k new m) x ≡ Ok x
  no_old_number u z x y e = same_passed k z x y (first_record (has_old old k new) m) (sym (ap (λ (row : Row). tested row z) (places u)) ∙ e)

  -- so 14 answers as 7 of s does
  pub old_told : Unlike old k new m → (z x : ℕ) (t : Result ℕ Refusal) → t ≡ tested (row7 s (k + m)) z → tested (row14 old k new m) x ≡ taken_told x t
  old_told u z x (Ok y) e = no_old_number u z x y (sym e)
  old_told u z x (Err r) e = old_number u z x r (sym e)

  -- where 14 does not apply either, no number stands twice in s
  pub none_twice : Unlike old k new m → row14 old k new m ≡ none → row7 s (k + m) ≡ none
  none_twice u e =
      let first = first_record (has_old old k new) m in
      places u ∙ ap (λ (o : Option ℕ). later k (wherever NumberTwice no_end o)) (wherever_none NumberTaken no_end first (later_out k (wherever NumberTaken no_end first) e))
