-- Laws for a loop over records that stops at the first that passes. Assumes nothing.
use Prim.Native.Nat.{ℕ, suc, ◌+◌, ◌-◌, ◌<◌, ◌≤◌}
use mathlib.Core.Path.{◌≡◌, ap, ◌∙◌, sym}
use mathlib.Core.Bool.{Bool, true, false}
use mathlib.Core.List.{List}
use mathlib.Core.Option.{Option, none, some}
use native.Mathlib.Omega.{arith}
use native.Mathlib.Numerals.{add-one}
use borrow.Author.Tests.{lt-ltb, le-ltb}
use Rattle.basics.specs.Tools.{seek}
use Rattle.basics.proofs.Bools.{by_eq}
use Rattle.basics.proofs.Searches.{seek_first, seek_none}
use Rattle.records.specs.Records.{record_at, circuit_of, number_in}
use Rattle.records.specs.declared.Circuit.{Circuit}
use Rattle.std.specs.Prelude.{Option as Told, Ok, Err}
use Rattle.refusals.specs.declared.Reason.{Reason}
use Rattle.refusals.specs.declared.End.{End}
use Rattle.refusals.specs.Table.{first_record, tested, wherever}

-- the number of a record that was read
pub number_is : (s : List ℕ) (j : ℕ) (r : Circuit) → r ≡ circuit_of (record_at s j) → r.number ≡ number_in s j
number_is s j r e = ap (λ (c : Circuit). c.number) e

module _ (p : ℕ → Bool) where
  -- record j passes and none before it does: it is the first
  pub first_hit : (m j : ℕ) → j < m → p j ≡ true → ((i : ℕ) → i < j → p i ≡ false) → first_record p m ≡ some (suc j)
  unfolding first_record
  first_hit m j h t before =
      let e : seek p 0 m ≡ j = seek_first p 0 m j (omega arith) (omega arith) t (λ i a b. before i b) in
      rw (e, lt-ltb j m h)

  -- no record passes: there is no first
  pub first_end : (m : ℕ) → ((i : ℕ) → i < m → p i ≡ false) → first_record p m ≡ none
  unfolding first_record
  first_end m before =
      let e : seek p 0 m ≡ m = seek_none p 0 m (λ i a b. before i (omega arith)) ∙ omega arith in
      rw (e, le-ltb m m (omega arith))

  -- no record below j passes and j does not: no record below j + 1 passes
  pub none_more : (j : ℕ) → ((i : ℕ) → i < j → p i ≡ false) → p j ≡ false → (i : ℕ) → i < j + 1 → p i ≡ false
  none_more j before f i h = by_eq i j (λ e. rw e f) (λ e. before i (omega arith))

  -- the refusal of record j is what the test answers, if it is the first that passes
  pub refused_at : (reason : Reason) (end_at : ℕ → Told End) (m x j : ℕ) → j < m → p j ≡ true → ((i : ℕ) → i < j → p i ≡ false)
      → Err (record { reason = reason; place = j + 1; end = end_at j }) ≡ tested (wherever reason end_at (first_record p m)) x
  refused_at reason end_at m x j h t before =
      let e : suc j - 1 ≡ j = omega arith in
      (λ i. Err (record { reason = reason; place = add-one j i; end = end_at (sym e i) })) ∙ sym (ap (λ (o : Option ℕ). tested (wherever reason end_at o) x) (first_hit m j h t before))

  -- a test in which no record passes answers what it found
  pub checked_all : (reason : Reason) (end_at : ℕ → Told End) (m x j : ℕ) → m ≤ j → ((i : ℕ) → i < j → p i ≡ false) → Ok x ≡ tested (wherever reason end_at (first_record p m)) x
  checked_all reason end_at m x j h before =
      sym (ap (λ (o : Option ℕ). tested (wherever reason end_at o) x) (first_end m (λ i l. before i (omega arith))))
