-- What a caller sees, that there is one answer, and that the order of the circuits does not matter. Assumes nothing.
use Prim.Native.Nat.{ℕ, ◌+◌, ◌-◌, ◌*◌, ◌/◌, ◌%◌, ◌<◌}
use mathlib.Core.Path.{◌≡◌, refl, ap, ◌∙◌, sym, subst}
use mathlib.Core.Logic.{inl, inr}
use mathlib.Core.Bool.{cond, not, ◌&&◌}
use mathlib.Core.List.{List, [], ◌∷◌, ◌++◌}
use mathlib.Core.Option.{Option, none, some}
use native.Mathlib.Omega.{arith}
use borrow.Author.Tests.{le-ltb, lt-ltb}
use lib.Dec.{eqb, leb, ltb}
use lib.ListN.{length, take, drop}
use Rattle.basics.proofs.Bools.{by_le}
use Rattle.records.specs.Records.{circuit_of, circuits_in, number_in, record_at}
use Rattle.records.specs.declared.Circuit.{Circuit}
use Rattle.records.proofs.Files.{length_circuits_in}
use Rattle.method.specs.Demands.{Rearranged}
use Rattle.method.specs.Line.{circuit, uses}
use Rattle.method.proofs.Circuits.{circuit_in_lem}
use Rattle.refusals.specs.Ends.{TellsEnd}
use Rattle.refusals.specs.Given.{InOrder, NoneApplies}
use Rattle.refusals.specs.Refusals.{number_of, refusal_in}
use Rattle.refusals.specs.declared.Refusal.{Refusal}
use Rattle.refusals.specs.declared.Reason.{Reason}
use Rattle.refusals.specs.declared.Reason.TheVariants.{PartRecord, TooManyCircuits, Links, NumberZero, WrongEnd, NumberTwice, NumberTaken, IndexRoom}
use Rattle.refusals.specs.Table.{bad_ends, first_record, no_end, repeats, wherever, wrong_end}
use Rattle.std.specs.Prelude.{Ok, Err}
use Rattle.refusals.proofs.EndLaws.{EachGives, each_both, each_end, each_more, whole_tells}
use Rattle.refusals.proofs.First.{verdict_given, verdict_passed, verdict_passes, verdict_refused}
use Rattle.refusals.proofs.Pieces.{whenever_gives, wherever_gives}
use Rattle.two_files.specs.Rows.{has_old, later, two_file_rows, two_record_rows}
use Rattle.two_files.proofs.LaterLaws.{later_gives}
use Rattle.two_files.proofs.JoinLaws.{record_old, record_new}
use Rattle.two_files.proofs.Told.{later_tells, two_records_tell}
use Rattle.riders.specs.Index.{Riders, Index, cells_for}
use Rattle.riders.specs.Outcome.{Answer, both_of, index_table, judged, answer_by, IfAccepted, Outcome}
use Rattle.riders.specs.Seen.{RidersOf, Seen, TwoCalls, SameIndex}
use Rattle.riders.proofs.Accepting.{accepted, room, old_is_whole}
use Rattle.riders.proofs.SameLaws.{rearranged_cells, rearranged_index}
use Rattle.riders.proofs.RiderLaws.{index_pin, stretch_rides, index_is}

-- TABLE. Each refusal tells the end of the joined file's record at its place, or 0
index_tells : (n : ℕ) (old new : List ℕ) (has : ℕ) → EachGives (TellsEnd n (length old / 8 + length new / 8) (old ++ new)) (index_table n old new has)
unfolding index_table two_file_rows
index_tells n old new has =
    let k = length old / 8 in
    let m = length new / 8 in
    let s = old ++ new in
    let P : Refusal → Type 0 = TellsEnd n (k + m) s in
    let whole = whole_tells n (k + m) s in
    each_more P _ _ (whole PartRecord (not (eqb (length old % 8) 0)) (λ z. omega arith))
    (each_more P _ _ (whole PartRecord (not (eqb (length new % 8) 0)) (λ z. omega arith))
    (each_more P _ _ (whole TooManyCircuits (ltb 2048 (k + m)) (λ z. omega arith))
    (each_more P _ _ (whole Links (not (leb 1 n && leb n 512)) (λ z. omega arith))
    (each_both P (two_record_rows n k m old new) _ (two_records_tell n k m old new)
    (each_more P _ _ (later_tells n (k + m) s k NumberTaken (first_record (has_old old k new) m) (λ z. omega arith))
    (each_more P _ _ (whole IndexRoom (ltb has (cells_for n (both_of old new))) (λ z. omega arith))
    (each_end P)))))))

-- BOTH FILES. The riders among the circuits of the joined file are those of either file
riders_both : (old new : List ℕ) (k m i : ℕ) (xs : List ℕ) → k ≡ length old / 8 → m ≡ length new / 8 → 8 * k ≡ length old → Riders (circuits_in (k + m) (old ++ new)) i xs → RidersOf old new i xs
riders_both old new k m i xs ke me whole r =
    let long = length_circuits_in (k + m) (old ++ new) in
    let left : (j : ℕ) → j < k → circuit (circuits_in (k + m) (old ++ new)) j ≡ circuit_of (record_at old j) =
    λ j h. circuit_in_lem (k + m) (old ++ new) j (omega arith) ∙ ap circuit_of (record_old old new k whole j h) in
    let right : (j : ℕ) → j < m → circuit (circuits_in (k + m) (old ++ new)) (k + j) ≡ circuit_of (record_at new j) =
    λ j h. circuit_in_lem (k + m) (old ++ new) (k + j) (omega arith) ∙ ap circuit_of (record_new old new k whole j) in
    record {
      rising = r.rising;
      old_there = λ j u.
          let u₀ = u.0 in
          let e = left j (omega arith) in
          let x = r.all j (omega arith) (ap (λ (c : Circuit). uses c i) e ∙ u.1) in
          (x.0, x.1, x.2 ∙ ap (λ (c : Circuit). c.number) e);
      new_there = λ j u.
          let u₀ = u.0 in
          let e = right j (omega arith) in
          let x = r.all (k + j) (omega arith) (ap (λ (c : Circuit). uses c i) e ∙ u.1) in
          (x.0, x.1, x.2 ∙ ap (λ (c : Circuit). c.number) e);
      no_other = λ p h.
          let x = r.only p h in
          let x₁ = x.1 in
          by_le k x.0
          (λ l.
          let z : x.0 ≡ k + (x.0 - k) = omega arith in
          let e = ap (circuit (circuits_in (k + m) (old ++ new))) z ∙ right (x.0 - k) (omega arith) in
          inr (x.0 - k, (omega arith, sym (ap (λ (c : Circuit). uses c i) e) ∙ x.2), x.3 ∙ ap (λ (c : Circuit). c.number) e))
          (λ l. let e = left x.0 l in inl (x.0, (omega arith, sym (ap (λ (c : Circuit). uses c i) e) ∙ x.2), x.3 ∙ ap (λ (c : Circuit). c.number) e));
    }

-- ONE ANSWER. What holds where the files were accepted pins the buffer if each of its two cases does
pin_both : (t : Answer) (A B A' B' C : Type 0) → IfAccepted (refusal_in t) A B → IfAccepted (refusal_in t) A' B' → (A → A' → C) → (B → B' → C) → C
pin_both (Ok x) A B A' B' C a b f g = f a b
pin_both (Err r) A B A' B' C a b f g = g a b

-- two answers that meet the contract of `index_riders` are equal, with every cell
pub outcome_pins : (n : ℕ) (old new before after after' : List ℕ) (one two : Answer) → Outcome n old new before after one → Outcome n old new before after' two → (one ≡ two) × (after ≡ after')
outcome_pins n old new before after after' one two x y = (
  x.answered ∙ sym y.answered,
  pin_both (judged n old new before) _ _ _ _ _ x.indexed y.indexed (λ a b. index_pin n (both_of old new) before after after' a b) (λ a b. a ∙ sym b),
)

module _ (n : ℕ) (old new before after : List ℕ) (answer : Answer) (o : Outcome n old new before after answer) where
  -- a refusal is the verdict's, and changes nothing
  refused_so : (r : Refusal) → refusal_in answer ≡ some r → (judged n old new before ≡ Err r) × (after ≡ before)
  refused_so r e = go (judged n old new before) refl o.answered o.indexed
    where
      go : (t : Answer) → judged n old new before ≡ t → answer ≡ answer_by t (cells_for n (both_of old new)) → IfAccepted (refusal_in t) (Index n (both_of old new) before after) (after ≡ before)
          → (judged n old new before ≡ Err r) × (after ≡ before)
      go (Ok m) q a f = let z = sym (ap refusal_in a) ∙ e in absurd (let y : ◌≡◌ {A = ℕ} 0 1 = cc in omega arith)
      go (Err q) j a f = let z = sym (ap refusal_in a) ∙ e in (j ∙ (let y : ◌≡◌ {A = Answer} (Err q) (Err r) = cc in y), f)

  -- an index is there, and no row applies
  indexed_so : (cells : ℕ) → answer ≡ Ok cells → NoneApplies (index_table n old new (length before)) × (cells ≡ cells_for n (both_of old new)) × (Index n (both_of old new) before after)
  unfolding judged
  indexed_so cells e = go (judged n old new before) refl o.answered o.indexed
    where
      go : (t : Answer) → judged n old new before ≡ t → answer ≡ answer_by t (cells_for n (both_of old new)) → IfAccepted (refusal_in t) (Index n (both_of old new) before after) (after ≡ before)
          → NoneApplies (index_table n old new (length before)) × (cells ≡ cells_for n (both_of old new)) × (Index n (both_of old new) before after)
      go (Ok m) q a f =
          let z : Ok (cells_for n (both_of old new)) ≡ Ok cells = sym a ∙ e in
          ((verdict_passed (index_table n old new (length before)) (cells_for n (both_of old new)) m q).1, cc, f)
      go (Err r) q a f = let z = sym e ∙ a in absurd (let y : ◌≡◌ {A = ℕ} 0 1 = cc in omega arith)

  -- every call meets `Seen`
  pub seen : Seen n old new before after answer
  unfolding judged
  seen =
      let table = index_table n old new (length before) in
      let cells = cells_for n (both_of old new) in
      record {
        as_tabled = λ r e. verdict_refused table cells r (refused_so r e).0;
        whenever_tabled = λ r g. ap refusal_in (o.answered ∙ ap (λ (t : Answer). answer_by t cells) (verdict_given table cells r g));
        otherwise_indexed = λ f. o.answered ∙ ap (λ (t : Answer). answer_by t cells) (verdict_passes table cells f);
        end_told = λ r e. (let g = verdict_refused table cells r (refused_so r e).0 in (index_tells n old new (length before)).at g.index r g.below g.here);
        unchanged = λ r e. (refused_so r e).1;
        riders = λ c e i h l.
            let x = indexed_so c e in
            riders_both old new (length old / 8) (length new / 8) i _ refl refl (old_is_whole n old new (length before) x.0)
            (stretch_rides n (both_of old new) before after (room n old new (length before) x.0) x.2 i h l);
        the_list = λ c e.
            let x = indexed_so c e in
            ap (λ (v : ℕ). take v after) x.1
            ∙ index_is n (both_of old new) before after (accepted n old new (length before) x.0).distinct (room n old new (length before) x.0) x.2;
        kept = λ c e. (let x = indexed_so c e in subst (λ (v : ℕ). drop v after ≡ drop v before) (sym x.1) x.2.rest);
      }

-- ANY ORDER. Two calls that are both indexed leave the same index of the same circuits
pub same_index : (n : ℕ) (old new before after old' new' before' after' : List ℕ) (cells cells' : ℕ) → TwoCalls n old new before after old' new' before' after' cells cells'
    → SameIndex after after' cells cells'
same_index n old new before after old' new' before' after' cells cells' t =
    let x = indexed_so n old new before after (Ok cells) t.one cells refl in
    let y = indexed_so n old' new' before' after' (Ok cells') t.two cells' refl in
    let cs = both_of old new in
    let ds = both_of old' new' in
    let e : cells_for n ds ≡ cells_for n cs = rearranged_cells cs ds t.same n in
    let once = (accepted n old new (length before) x.0).distinct in
    let roomy = room n old' new' (length before') y.0 in
    record {
      same_many = y.1 ∙ e ∙ sym x.1;
      same_cells =
          ap (λ (v : ℕ). take v after') (y.1 ∙ e) ∙ index_is n cs before' after' once (omega (arith, roomy)) (rearranged_index cs ds t.same n before' after' y.2)
          ∙ sym (ap (λ (v : ℕ). take v after) x.1 ∙ index_is n cs before after once (room n old new (length before) x.0) x.2);
    }

-- the circuits of two files, and those of the files exchanged
exchanged : (old new : List ℕ) → 8 * (length old / 8) ≡ length old → 8 * (length new / 8) ≡ length new → Rearranged (both_of old new) (both_of new old)
exchanged old new wholeOld wholeNew =
    let k = length old / 8 in
    let m = length new / 8 in
    let long = length_circuits_in (k + m) (old ++ new) in
    let long' = length_circuits_in (m + k) (new ++ old) in
    record {
      there = λ i. cond (ltb i k) (m + i) (i - k);
      back = λ j. cond (ltb j m) (k + j) (j - m);
      to = λ i h. crossed old new k m wholeOld wholeNew i (omega arith) long';
      fro = λ j h. crossed new old m k wholeNew wholeOld j (omega arith) long;
    }
  where
    crossed : (s t : List ℕ) (a b : ℕ) → 8 * a ≡ length s → 8 * b ≡ length t → (i : ℕ) → i < a + b → length (circuits_in (b + a) (t ++ s)) ≡ b + a
        → (cond (ltb i a) (b + i) (i - a) < length (circuits_in (b + a) (t ++ s)))
        × (cond (ltb (cond (ltb i a) (b + i) (i - a)) b) (a + cond (ltb i a) (b + i) (i - a)) (cond (ltb i a) (b + i) (i - a) - b) ≡ i)
        × (circuit (circuits_in (a + b) (s ++ t)) i ≡ circuit (circuits_in (b + a) (t ++ s)) (cond (ltb i a) (b + i) (i - a)))
    crossed s t a b ws wt i h long =
        by_le a i
        (λ l.
        let e : a + (i - a) ≡ i = omega arith in
        rw (le-ltb i a l) (
          omega arith,
          rw (lt-ltb (i - a) b (omega arith)) e,
          circuit_in_lem (a + b) (s ++ t) i h ∙ ap (λ (x : ℕ). circuit_of (record_at (s ++ t) x)) (sym e) ∙ ap circuit_of (record_new s t a ws (i - a)) ∙ sym (ap circuit_of (record_old t s b wt (i - a) (omega arith)))
              ∙ sym (circuit_in_lem (b + a) (t ++ s) (i - a) (omega arith)),
        ))
        (λ l.
        let e : b + i - b ≡ i = omega arith in
        rw (lt-ltb i a l) (
          omega arith,
          rw (le-ltb (b + i) b (omega arith)) e,
          circuit_in_lem (a + b) (s ++ t) i h ∙ ap circuit_of (record_old s t a ws i l) ∙ sym (ap circuit_of (record_new t s b wt i)) ∙ sym (circuit_in_lem (b + a) (t ++ s) (b + i) (omega arith)),
        ))

-- the order of the files does not matter
pub files_exchanged : (n : ℕ) (old new before after before' after' : List ℕ) (cells cells' : ℕ) → Outcome n old new before after (Ok cells) → Outcome n new old before' after' (Ok cells')
    → SameIndex after after' cells cells'
files_exchanged n old new before after before' after' cells cells' one two =
    let x = indexed_so n old new before after (Ok cells) one cells refl in
    let y = indexed_so n new old before' after' (Ok cells') two cells' refl in
    same_index n old new before after new old before' after' cells cells'
    (record { one = one; two = two; same = exchanged old new (old_is_whole n old new (length before) x.0) (old_is_whole n new old (length before') y.0) })

-- a list of circuits is its own rearrangement
unmoved : (cs : List Circuit) → Rearranged cs cs
unmoved cs = record { there = λ i. i; back = λ i. i; to = λ i h. (h, refl, refl); fro = λ i h. (h, refl, refl) }

-- the index of two files is that of the joined one as a new file alone
pub files_joined : (n : ℕ) (old new before after before' after' : List ℕ) (cells cells' : ℕ) → Outcome n old new before after (Ok cells)
    → Outcome n [] (old ++ new) before' after' (Ok cells') → SameIndex after after' cells cells'
files_joined n old new before after before' after' cells cells' one two =
    let x = indexed_so n old new before after (Ok cells) one cells refl in
    let whole = (accepted n old new (length before) x.0).whole in
    let many : length old / 8 + length new / 8 ≡ 0 / 8 + length (old ++ new) / 8 = omega arith in
    same_index n old new before after [] (old ++ new) before' after' cells cells'
    (record { one = one; two = two; same = subst (Rearranged (both_of old new)) (ap (λ (z : ℕ). circuits_in z (old ++ new)) many) (unmoved (both_of old new)) })

-- THE ORDER OF THE TESTS. They stand in the order of R-2, with 15 after all others
pub index_in_order : (n : ℕ) (old new : List ℕ) (has : ℕ) → InOrder (1 ∷ 1 ∷ 2 ∷ 3 ∷ 5 ∷ 6 ∷ 7 ∷ 7 ∷ 14 ∷ 15 ∷ []) (index_table n old new has)
unfolding index_table two_file_rows two_record_rows
index_in_order n old new has =
    let k = length old / 8 in
    let m = length new / 8 in
    let s = old ++ new in
    let six = wherever_gives WrongEnd (λ i. wrong_end n (circuit_of (record_at s i))) (first_record (λ i. bad_ends n (circuit_of (record_at s i))) (k + m)) in (
      whenever_gives PartRecord (not (eqb (length old % 8) 0)),
      (
        whenever_gives PartRecord (not (eqb (length new % 8) 0)),
        (
          whenever_gives TooManyCircuits (ltb 2048 (k + m)),
          (
            whenever_gives Links (not (leb 1 n && leb n 512)),
            (
              wherever_gives NumberZero no_end (first_record (λ i. eqb (number_in s i) 0) (k + m)),
              (
                six,
                (
                  wherever_gives NumberTwice no_end (first_record (repeats old) k),
                  (
                    later_gives k NumberTwice (first_record (repeats new) m),
                    (later_gives k NumberTaken (first_record (has_old old k new) m), (whenever_gives IndexRoom (ltb has (cells_for n (both_of old new))), tt)),
                  ),
                ),
              ),
            ),
          ),
        ),
      ),
    )
