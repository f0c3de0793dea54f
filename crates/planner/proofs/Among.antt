-- A file of records that all stand in a file that passed the tests, no number twice, passes them too. Assumes nothing.
use Prim.Native.Nat.{◌%◌, ◌/◌, ◌<◌, ◌≤◌, ℕ}
use borrow.Author.Tests.{eq-eqb, ne_eqb}
use lib.Dec.{eqb}
use lib.ListN.{length}
use mathlib.Core.Bool.{Bool, not}
use mathlib.Core.List.{List}
use mathlib.Core.Option.{none}
use mathlib.Core.Path.{◌∙◌, ◌≡◌, ap, sym}
use native.Mathlib.Omega.{arith}
use Rattle.basics.proofs.Searches.{any_none}
use Rattle.records.specs.Records.{circuit_of, circuits_of, record_at, number_in}
use Rattle.records.specs.declared.Circuit.{Circuit}
use Rattle.records.specs.declared.Line.{Line}
use Rattle.records.proofs.Files.{circuits_in_at, length_circuits_in}
use Rattle.method.specs.Line.{Distinct, circuit, nobody}
use Rattle.std.specs.Prelude.{Option as Told}
use Rattle.refusals.specs.declared.Reason.{Reason}
use Rattle.refusals.specs.declared.Reason.TheVariants.{PartRecord, TooManyCircuits, NumberZero, WrongEnd, NumberTwice, FibreRoom, AssignmentRoom, WorkRoom}
use Rattle.refusals.specs.declared.End.{End}
use Rattle.refusals.specs.Given.{NoneApplies}
use Rattle.refusals.specs.Table.{bad_ends, first_record, no_end, repeats, whenever, wherever, wrong_end, file_rows, line_rows, record_rows, circuit_rows, area_rows, plan_table}
use Rattle.refusals.proofs.First.{record_none}
use Rattle.refusals.proofs.FirstLaws.{first_end}
use Rattle.refusals.proofs.Passed.{passed2, passes_room, wherever_none}
use Rattle.refusals.proofs.Pieces.{none_both, none_end, none_first, none_more, none_rest}
use Rattle.planner.proofs.Accepting.{of_circuits, of_file, of_line, of_records, rooms}

-- s' has whole records, no more than s; no number stands twice in it, and each of its circuits stands in s
pub record Among (s s' : List ℕ) : Type 0 where
  pub whole : length s' % 8 ≡ 0
  pub few : length s' / 8 ≤ length s / 8
  pub once : Distinct (circuits_of s')
  pub from : (j : ℕ) → j < length (circuits_of s') → (i : ℕ) × (i < length (circuits_of s)) × (circuit (circuits_of s') j ≡ circuit (circuits_of s) i)

module _ (line : Line) (s s' : List ℕ) (among : Among s s') (passed : NoneApplies (circuit_rows line s)) where
  -- record j of the one file stands in the other
  twin : (j : ℕ) → j < length s' / 8 → (i : ℕ) × (i < length s / 8) × (circuit_of (record_at s' j) ≡ circuit_of (record_at s i))
  unfolding circuit
  twin j h =
      let x = among.from j (omega (arith, length_circuits_in (length s' / 8) s')) in
      let b : x.0 < length s / 8 = omega (arith, x.1, length_circuits_in (length s / 8) s) in
      (x.0, b, sym (circuits_in_at (length s' / 8) s' j nobody h) ∙ x.2 ∙ circuits_in_at (length s / 8) s x.0 nobody b)

  -- what fails for every record of the one file fails for every record of the other
  none_either : (reason : Reason) (end end' : ℕ → Told End) (p : Circuit → Bool) → wherever reason end (first_record (λ i. p (circuit_of (record_at s i))) (length s / 8)) ≡ none
      → wherever reason end' (first_record (λ i. p (circuit_of (record_at s' i))) (length s' / 8)) ≡ none
  none_either reason end end' p e =
      ap (wherever reason end')
      (first_end (λ i. p (circuit_of (record_at s' i))) (length s' / 8)
      (λ j h. let t = twin j h in ap p t.2 ∙ record_none (λ i. p (circuit_of (record_at s i))) (length s / 8) (wherever_none reason end _ e) t.0 t.1))

  -- no record repeats a number
  no_repeat : first_record (repeats s') (length s' / 8) ≡ none
  unfolding repeats circuit
  no_repeat =
      let m = length s' / 8 in
      let k = length_circuits_in m s' in
      first_end (repeats s') m
      (λ j h.
      any_none (λ d. eqb (number_in s' d) (number_in s' j)) j
      (λ d l.
      ne_eqb (number_in s' d) (number_in s' j)
      (λ z.
      let t : d ≡ j =
      among.once d j (omega arith) (omega arith)
      (ap (λ c. c.number) (circuits_in_at m s' d nobody (omega arith)) ∙ z ∙ ap (λ c. c.number) (sym (circuits_in_at m s' j nobody h))) in
      omega arith)))

  -- the tests of the file
  file_passes : NoneApplies (file_rows s')
  unfolding file_rows
  file_passes =
      let p = passed2 (length s / 8) (none_first _ _ (none_rest _ _ (of_file line s passed))) in
      none_more _ _ (ap (λ (b : Bool). whenever PartRecord (not b)) (eq-eqb (length s' % 8) 0 among.whole))
      (none_more _ _ (passes_room TooManyCircuits (length s' / 8) 2048 (omega (arith, among.few))) none_end)

  -- the tests of the records
  records_pass : NoneApplies (record_rows line.links (length s' / 8) s')
  unfolding record_rows
  records_pass =
      let p = of_records line s passed in
      none_more _ _ (none_either NumberZero no_end no_end (λ c. eqb c.number 0) (none_first _ _ p))
      (none_more _ _ (none_either WrongEnd (λ x. wrong_end line.links (circuit_of (record_at s x))) (λ x. wrong_end line.links (circuit_of (record_at s' x))) (bad_ends line.links) (none_first _ _ (none_rest _ _ p)))
      (none_more _ _ (ap (wherever NumberTwice no_end) no_repeat) none_end))

  -- so tests 1 to 7 and 12
  pub circuits_pass : NoneApplies (circuit_rows line s')
  unfolding circuit_rows
  circuits_pass = none_both (file_rows s') _ file_passes (none_both (line_rows line) _ (of_line line s passed) (none_both _ _ records_pass none_end))

-- tests 1 to 7 and 12, and those of the lent areas, are all tests
pub table_passes : (line : Line) (s : List ℕ) (fibres assigns work : ℕ) → NoneApplies (circuit_rows line s) → NoneApplies (area_rows line.links (length s / 8) fibres assigns work)
    → NoneApplies (plan_table line s fibres assigns work)
unfolding plan_table
table_passes line s fibres assigns work circuits areas = none_both (circuit_rows line s) _ circuits (none_both _ _ areas none_end)

-- lent areas that are no shorter are long enough
pub areas_pass : (line : Line) (s s' : List ℕ) → Among s s' → (fibres assigns work fibres' assigns' work' : ℕ) → fibres ≤ fibres' → assigns ≤ assigns' → work ≤ work'
    → NoneApplies (plan_table line s fibres assigns work) → NoneApplies (area_rows line.links (length s' / 8) fibres' assigns' work')
unfolding area_rows
areas_pass line s s' among fibres assigns work fibres' assigns' work' a b c passed =
    let r = rooms line s fibres assigns work passed in
    let m = among.few in
    none_more _ _ (passes_room FibreRoom _ fibres' (omega (arith, r.0)))
    (none_more _ _ (passes_room AssignmentRoom _ assigns' (omega (arith, r.1)))
    (none_more _ _ (passes_room WorkRoom _ work' (omega (arith, r.2))) none_end))

-- so, with such lent areas, none of the tests applies
pub among_passes : (line : Line) (s s' : List ℕ) → Among s s' → (fibres assigns work fibres' assigns' work' : ℕ) → fibres ≤ fibres' → assigns ≤ assigns' → work ≤ work'
    → NoneApplies (plan_table line s fibres assigns work) → NoneApplies (plan_table line s' fibres' assigns' work')
among_passes line s s' among fibres assigns work fibres' assigns' work' a b c passed =
    table_passes line s' fibres' assigns' work' (circuits_pass line s s' among (of_circuits line s fibres assigns work passed))
    (areas_pass line s s' among fibres assigns work fibres' assigns' work' a b c passed)
