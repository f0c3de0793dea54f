-- Which end is wrong: the test in its order, and what it says without running through the records. Assumes nothing.
use Prim.Native.Nat.{ℕ, zero, suc, ◌+◌, ◌-◌, ◌*◌, ◌/◌, ◌%◌, ◌<◌}
use mathlib.Core.Path.{◌≡◌, refl, ap, ◌∙◌, sym}
use mathlib.Core.Bool.{Bool, true, false, not, ◌&&◌, ◌||◌}
use mathlib.Core.Logic.{inl, inr, ◌≢◌}
use mathlib.Core.List.{List, [], ◌∷◌, ◌++◌}
use mathlib.Core.Option.{Option, none, some}
use native.Mathlib.Omega.{arith}
use lib.ListN.{length}
use lib.Dec.{leb, ltb, eqb}
use borrow.Author.Tests.{eqb-true, eqb-false, ltb-true, ltb-false, eq-eqb, ne_eqb, lt-ltb, le-ltb}
use Rattle.basics.proofs.Bools.{clash, on}
use Rattle.records.specs.Records.{record_at, circuit_of, number_in}
use Rattle.records.specs.declared.Circuit.{Circuit}
use Rattle.records.specs.declared.Line.{Line}
use Rattle.grid.specs.Frequencies.{is_grid, limit_of}
use Rattle.std.specs.Prelude.{Option as Told, None, is_some}
use Rattle.refusals.specs.Refusals.{number_of}
use Rattle.refusals.specs.declared.Refusal.{Refusal}
use Rattle.refusals.specs.declared.Reason.{Reason}
use Rattle.refusals.specs.declared.Reason.TheVariants.{PartRecord, TooManyCircuits, Links, Wavelengths, NumberZero, WrongEnd, NumberTwice, FibreRoom, AssignmentRoom, WorkRoom, Grid}
use Rattle.refusals.specs.declared.End.{End}
use Rattle.refusals.specs.Table.{Row, whenever, wherever, first_record, bad_ends, wrong_end, no_end, repeats, row6, file_rows, line_rows, record_rows, circuit_rows, area_rows, plan_table}
use Rattle.refusals.specs.Given.{row_at}
use Rattle.refusals.specs.Ends.{FirstFault, Faultless, EndTold, TellsEnd}
use Rattle.refusals.proofs.First.{record_first}
use Rattle.refusals.proofs.FirstLaws.{first_hit}
use Rattle.refusals.proofs.Passed.{good_ends}
use Rattle.refusals.proofs.Pieces.{wherever_gives}

module _ (n : ℕ) (c : Circuit) where
  -- an end is told of a circuit exactly if it does not lie on the line
  pub end_bad : is_some (wrong_end n c) ≡ bad_ends n c
  unfolding wrong_end bad_ends
  end_bad =
      on (eqb c.first 0) (λ a. rw a)
      (λ a. on (ltb c.last c.first) (λ b. rw (a, b))
      (λ b. on (ltb n c.last) (λ d. rw (a, b, d)) (λ d. rw (a, b, d))))

  -- what is told of a circuit that does not lie on the line is its first fault
  told_fault : bad_ends n c ≡ true → FirstFault n c (wrong_end n c)
  unfolding wrong_end bad_ends
  told_fault h =
      on (eqb c.first 0) (λ a. inl (rw a, eqb-true _ _ a))
      (λ a. let f : c.first ≢ 0 = eqb-false _ _ a in
      on (ltb c.last c.first) (λ b. inr (inl (rw (a, b), omega arith, ltb-true _ _ b)))
      (λ b. on (ltb n c.last) (λ d. inr (inr (rw (a, b, d), omega arith, ltb-false _ _ b, ltb-true _ _ d)))
      (λ d. absurd (clash (eqb c.first 0 || ltb c.last c.first || ltb n c.last) h (rw (a, b, d))))))

-- refusal 6 tells the first record with a fault, and its first fault
pub end_told : (n m : ℕ) (s : List ℕ) (r : Refusal) → row6 n s m ≡ some r → EndTold n m s r.place r.end
end_told n m s r e = go (first_record (λ i. bad_ends n (circuit_of (record_at s i))) m) refl e
  where
    go : (o : Option ℕ) → first_record (λ i. bad_ends n (circuit_of (record_at s i))) m ≡ o → wherever WrongEnd (λ i. wrong_end n (circuit_of (record_at s i))) o ≡ some r → EndTold n m s r.place r.end
    go none f e = absurd (let z : ◌≡◌ {A = ℕ} 0 1 = cc in omega arith)
    go (some place) f e =
        let k = record_first (λ i. bad_ends n (circuit_of (record_at s i))) m place f in
        let p : r.place ≡ place = cc in
        let q : r.end ≡ wrong_end n (circuit_of (record_at s (place - 1))) = cc in
        let j : place - 1 ≡ k.0 = omega (arith, k.1) in
        record {
          index = k.0;
          there = k.2;
          placed = p ∙ k.1;
          fault = rw (q, j) (told_fault n (circuit_of (record_at s k.0)) k.3);
          before = λ i l. good_ends n (circuit_of (record_at s i)) (k.4 i l);
        }

-- the fault that a circuit has is what is told of it
fault_told : (n : ℕ) (c : Circuit) (end : Told End) → FirstFault n c end → (bad_ends n c ≡ true) × (wrong_end n c ≡ end)
unfolding wrong_end bad_ends
fault_told n c end (inl h) = let a = eq-eqb c.first 0 h.1 in (rw a, rw (a, h.0))
fault_told n c end (inr (inl h)) =
    let a = ne_eqb c.first 0 (let l = h.1 in λ z. omega arith) in
    let b = lt-ltb c.last c.first h.2 in
    (rw (a, b), rw (a, b, h.0))
fault_told n c end (inr (inr h)) =
    let a = ne_eqb c.first 0 (let l = h.1 in λ z. omega arith) in
    let b = le-ltb c.last c.first h.2 in
    let d = lt-ltb n c.last h.3 in
    (rw (a, b, d), rw (a, b, d, h.0))

-- a circuit with no fault lies on the line
faultless_good : (n : ℕ) (c : Circuit) → Faultless n c → bad_ends n c ≡ false
unfolding bad_ends
faultless_good n c h =
    rw (ne_eqb c.first 0 (let l = h.0 in λ z. omega arith), le-ltb c.last c.first h.1, le-ltb n c.last h.2)

-- and nothing else is told: no other place, no other end
pub end_only : (n m : ℕ) (s : List ℕ) (place : ℕ) (end : Told End) → EndTold n m s place end → row6 n s m ≡ some (record { reason = WrongEnd; place = place; end = end })
end_only n m s place end t =
    let f = fault_told n (circuit_of (record_at s t.index)) end t.fault in
    let e = first_hit (λ i. bad_ends n (circuit_of (record_at s i))) m t.index t.there f.0 (λ i l. faultless_good n (circuit_of (record_at s i)) (t.before i l)) in
    let j : suc t.index - 1 ≡ t.index = omega arith in
    ap (wherever WrongEnd (λ i. wrong_end n (circuit_of (record_at s i)))) e
    ∙ (λ i. some (record { reason = WrongEnd; place = sym t.placed i; end = (ap (λ (x : ℕ). wrong_end n (circuit_of (record_at s x))) j ∙ f.1) i }))

-- TABLES. Each row that applies gives a refusal of which P holds
pub record EachGives (P : Refusal → Type 0) (rows : List Row) : Type 0 where
  pub at : (i : ℕ) (r : Refusal) → i < length rows → row_at rows i ≡ some r → P r

module _ (P : Refusal → Type 0) where
  -- no row
  pub each_end : EachGives P []
  each_end = record { at = λ i r h e. absurd (omega arith) }

  -- one row more
  pub each_more : (row : Row) (rows : List Row) → ((r : Refusal) → row ≡ some r → P r) → EachGives P rows → EachGives P (row ∷ rows)
  each_more row rows f g = record { at = go }
    where
      go : (i : ℕ) (r : Refusal) → i < suc (length rows) → row_at (row ∷ rows) i ≡ some r → P r
      go zero r h e = f r e
      go (suc i) r h e = g.at i r (omega arith) e

  -- two pieces
  pub each_both : (rs rows : List Row) → EachGives P rs → EachGives P rows → EachGives P (rs ++ rows)
  each_both [] rows f g = g
  each_both (row ∷ rs) rows f g =
      each_more row (rs ++ rows) (λ r e. f.at 0 r (omega arith) e) (each_both rs rows (record { at = λ i r h e. f.at (suc i) r (omega arith) e }) g)

module _ (n m : ℕ) (s : List ℕ) where
  -- a row that applies as a whole, other than 6
  pub whole_tells : (x : Reason) (b : Bool) → number_of x ≢ 6 → (r : Refusal) → whenever x b ≡ some r → TellsEnd n m s r
  whole_tells x true z r e = let a : number_of r.reason ≡ number_of x = cc in let d : r.end ≡ None = cc in record { six = λ q. absurd (z (sym a ∙ q)); other = λ q. d }
  whole_tells x false z r e = absurd (let y : ◌≡◌ {A = ℕ} 0 1 = cc in omega arith)

  -- a row that applies to a record, other than 6
  pub each_tells : (x : Reason) (o : Option ℕ) → number_of x ≢ 6 → (r : Refusal) → wherever x no_end o ≡ some r → TellsEnd n m s r
  each_tells x (some place) z r e = let a : number_of r.reason ≡ number_of x = cc in let d : r.end ≡ None = cc in record { six = λ q. absurd (z (sym a ∙ q)); other = λ q. d }
  each_tells x none z r e = absurd (let y : ◌≡◌ {A = ℕ} 0 1 = cc in omega arith)

  -- row 6
  six_tells : (r : Refusal) → row6 n s m ≡ some r → TellsEnd n m s r
  six_tells r e = record { six = λ q. end_told n m s r e; other = λ q. absurd (q (wherever_gives WrongEnd (λ i. wrong_end n (circuit_of (record_at s i))) (first_record (λ i. bad_ends n (circuit_of (record_at s i))) m) r e)) }

-- tests 1 to 7 and 12
pub circuits_tell : (line : Line) (s : List ℕ) → EachGives (TellsEnd line.links (length s / 8) s) (circuit_rows line s)
unfolding circuit_rows file_rows line_rows record_rows
circuits_tell line s =
    let n = line.links in
    let m = length s / 8 in
    let P : Refusal → Type 0 = TellsEnd n m s in
    let whole = whole_tells n m s in
    let each = each_tells n m s in
    each_more P _ _ (whole PartRecord (not (eqb (length s % 8) 0)) (λ z. omega arith))
    (each_more P _ _ (whole TooManyCircuits (ltb 2048 m) (λ z. omega arith))
    (each_more P _ _ (whole Links (not (leb 1 n && leb n 512)) (λ z. omega arith))
    (each_more P _ _ (whole Grid (not (is_grid line.grid)) (λ z. omega arith))
    (each_more P _ _ (whole Wavelengths (not (leb 1 line.wavelengths && leb line.wavelengths (limit_of line.grid))) (λ z. omega arith))
    (each_more P _ _ (each NumberZero (first_record (λ i. eqb (number_in s i) 0) m) (λ z. omega arith))
    (each_more P _ _ (six_tells n m s)
    (each_more P _ _ (each NumberTwice (first_record (repeats s) m) (λ z. omega arith))
    (each_end P))))))))

-- the whole table of the planner
pub plan_tells : (line : Line) (s : List ℕ) (fibres assigns work : ℕ) → EachGives (TellsEnd line.links (length s / 8) s) (plan_table line s fibres assigns work)
unfolding plan_table area_rows
plan_tells line s fibres assigns work =
    let n = line.links in
    let m = length s / 8 in
    let P : Refusal → Type 0 = TellsEnd n m s in
    let whole = whole_tells n m s in
    each_both P (circuit_rows line s) _ (circuits_tell line s)
    (each_more P _ _ (whole FibreRoom (ltb fibres (8 * m)) (λ z. omega arith))
    (each_more P _ _ (whole AssignmentRoom (ltb assigns (8 * m)) (λ z. omega arith))
    (each_more P _ _ (whole WorkRoom (ltb work (4 * n + 4 * m)) (λ z. omega arith))
    (each_end P))))
