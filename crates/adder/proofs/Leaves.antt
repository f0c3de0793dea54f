-- What the tests of an addition leave where none of them applies. Assumes nothing.
use Prim.Native.Nat.{ℕ, ◌+◌, ◌*◌, ◌/◌, ◌<◌, ◌≤◌}
use mathlib.Core.Path.{◌≡◌, refl, ap, subst}
use mathlib.Core.Bool.{false, ◌||◌}
use mathlib.Core.List.{List, [], ◌++◌}
use mathlib.Core.Option.{Option, none, some}
use native.Mathlib.Omega.{arith}
use lib.ListN.{length, length-append, length-map}
use lib.Dec.{ltb}
use borrow.Author.Tests.{le-ltb, ltb-false}
use Rattle.basics.proofs.Bools.{or_false_l, or_false_r}
use Rattle.basics.proofs.Tables.{length_each}
use Rattle.records.specs.Records.{circuits_of, fibre_of, record_at}
use Rattle.records.specs.declared.Circuit.{Circuit}
use Rattle.records.specs.declared.Line.{Line}
use Rattle.records.proofs.Files.{circuits_in_at, length_circuits_in}
use Rattle.method.specs.Line.{Fibre, Valid, circuit, nobody}
use Rattle.refusals.specs.declared.Reason.TheVariants.{FibreRoom, AssignmentRoom, WorkRoom, UnfitPlan}
use Rattle.refusals.specs.Given.{NoneApplies}
use Rattle.refusals.specs.Table.{circuit_rows, line_rows}
use Rattle.refusals.proofs.Passed.{passed_room, passed5, passes_room, whenever_none}
use Rattle.refusals.proofs.Pieces.{none_both, none_end, none_first, none_left, none_more, none_rest, none_right}
use Rattle.register.specs.Areas.{Areas}
use Rattle.register.specs.Plans.{place_of, plan_in, span_of}
use Rattle.planner.proofs.Accepting as Tests
use Rattle.places.specs.Turns.{number}
use Rattle.places.proofs.TwoFiles.{circuit_new}
use Rattle.additions.specs.Grown.{FibresOn}
use Rattle.additions.specs.AddDemands.{AddDemand, Addable}
use Rattle.additions.proofs.AddDemands.{add_demand}
use Rattle.two_files.specs.Rows.{two_file_rows, two_record_rows}
use Rattle.two_files.proofs.Told.{both_numbered, new_whole, old_whole}
use Rattle.checker.specs.Rules.{Breach, first_broken, is_broken}
use Rattle.checker.specs.Checked.{assignments_in, fibres_in}
use Rattle.checker.proofs.Reading.{held_is, length_assignments_in, length_fibres_in}
use Rattle.checker.proofs.Planned.{span_is}
use Rattle.checker.proofs.Yes.{sound_yes, yes_sound}
use Rattle.adder.specs.Table.{add_table, old_rows, room_rows, row13, unfit}
use Rattle.adder.specs.Outcome.{old_plan}
use Rattle.adder.specs.Seen.{Fit}
use Rattle.adder.specs.declared.Named.{Named}
use Rattle.adder.proofs.Joined.{files_pass, joined_pass, lie, no_old, once, records_pass, taken}

-- no rule is broken
unbroken : (o : Option Breach) → is_broken o ≡ false → o ≡ none
unbroken none e = refl
unbroken (some b) e = cc

-- THE OLD PLAN. One that is fit passes 13
module _ (line : Line) (old : List ℕ) (named : Named) (lent : Areas) where
  pub fit_passes : Fit line old named lent → row13 line old named lent.fibres lent.assigns ≡ none
  unfolding unfit
  fit_passes f =
      rw (
        le-ltb 2048 named.fibres f.few,
        sound_yes line (circuits_of old) (fibres_in named.fibres lent.fibres) (assignments_in named.assignments lent.assigns) f.sound,
      )

  -- and no other does
  pub passes_fit : row13 line old named lent.fibres lent.assigns ≡ none → Fit line old named lent
  unfolding unfit
  passes_fit e =
      let fs = fibres_in named.fibres lent.fibres in
      let gs = assignments_in named.assignments lent.assigns in
      let o = first_broken line (circuits_of old) fs gs in
      let t = whenever_none UnfitPlan (ltb 2048 named.fibres || is_broken o) e in
      record {
        few = ltb-false 2048 named.fibres (or_false_l (ltb 2048 named.fibres) (is_broken o) t);
        sound = yes_sound line (circuits_of old) fs gs (unbroken o (or_false_r (ltb 2048 named.fibres) (is_broken o) t));
      }

  module _ (fit : Fit line old named lent) where
    -- there are as many old assignments as old circuits
    pub one_each : named.assignments ≡ length old / 8
    one_each =
        let gs = assignments_in named.assignments lent.assigns in
        omega (arith, fit.sound.valid.all_assigned, length-map gs place_of, length_assignments_in named.assignments lent.assigns, length_circuits_in (length old / 8) old)

    -- the old plan is valid
    pub old_valid : Valid line.wavelengths (circuits_of old) (old_plan named lent)
    old_valid = subst (Valid line.wavelengths (circuits_of old)) (held_is named.fibres named.assignments lent.fibres lent.assigns) fit.sound.valid

    -- its fibres lie on the line
    pub old_on_line : FibresOn line.links (old_plan named lent).fibres
    unfolding plan_in
    old_on_line q l =
        let k = named.fibres in
        let r = fit.sound.on_line q (omega (arith, length_fibres_in k lent.fibres, length_each (λ i. span_of (fibre_of (record_at lent.fibres i))) 0 k)) in
        let e = span_is k named.assignments lent.fibres lent.assigns q in
        let a = ap (λ (f : Fibre). f.first) e in
        let b = ap (λ (f : Fibre). f.last) e in
        (omega (arith, a, r.0), omega (arith, a, b, r.1), omega (arith, b, r.2))

module _ (line : Line) (old new : List ℕ) (named : Named) (lent : Areas) (passed : NoneApplies (add_table line old new named lent)) where
  -- no test of the bytes of both files applies
  pub of_files : NoneApplies (two_file_rows old new)
  unfolding add_table
  of_files = none_left (two_file_rows old new) _ passed

  -- no test of the line
  of_line : NoneApplies (line_rows line)
  unfolding add_table
  of_line = none_left (line_rows line) _ (none_right (two_file_rows old new) _ passed)

  -- the table behind them
  from_records : NoneApplies (two_record_rows line.links (length old / 8) (length new / 8) old new
      ++ (room_rows line.links (length old / 8) (length new / 8) named (length lent.fibres) (length lent.assigns) (length lent.work)
      ++ (old_rows line old new named lent.fibres lent.assigns ++ [])))
  unfolding add_table
  from_records = none_right (line_rows line) _ (none_right (two_file_rows old new) _ passed)

  -- no test of the records of both files
  of_records : NoneApplies (two_record_rows line.links (length old / 8) (length new / 8) old new)
  of_records = none_left (two_record_rows line.links (length old / 8) (length new / 8) old new) _ from_records

  -- no test of the lent areas
  of_rooms : NoneApplies (room_rows line.links (length old / 8) (length new / 8) named (length lent.fibres) (length lent.assigns) (length lent.work))
  of_rooms = none_left (room_rows line.links _ _ named _ _ _) _ (none_right (two_record_rows line.links (length old / 8) (length new / 8) old new) _ from_records)

  -- no test of the old plan and of the numbers of both files
  of_old : NoneApplies (old_rows line old new named lent.fibres lent.assigns)
  of_old =
      none_left (old_rows line old new named lent.fibres lent.assigns) _
      (none_right (room_rows line.links (length old / 8) (length new / 8) named (length lent.fibres) (length lent.assigns) (length lent.work)) _
      (none_right (two_record_rows line.links (length old / 8) (length new / 8) old new) _ from_records))

  -- both files are whole records
  pub old_records : 8 * (length old / 8) ≡ length old
  old_records = old_whole old new of_files

  pub new_records : 8 * (length new / 8) ≡ length new
  new_records = new_whole old new of_files

  -- the old plan is fit
  pub fit : Fit line old named lent
  unfolding old_rows
  fit = passes_fit line old named lent (none_first _ _ of_old)

  -- the joined file passes the tests of one file
  pub both_pass : NoneApplies (circuit_rows line (old ++ new))
  unfolding old_rows
  both_pass = joined_pass old new old_records new_records line of_files of_line of_records (none_first _ _ (none_rest _ _ of_old))

  -- the lent areas are long enough
  pub rooms : (8 * (named.fibres + length new / 8) ≤ length lent.fibres) × (8 * (length old / 8 + length new / 8) ≤ length lent.assigns)
      × (4 * line.links + 4 * (length old / 8 + length new / 8) ≤ length lent.work)
  unfolding room_rows
  rooms =
      let m = length new / 8 in
      let nine = passed_room AssignmentRoom (8 * (named.assignments + m)) (length lent.assigns) (none_first _ _ (none_rest _ _ of_rooms)) in (
        passed_room FibreRoom (8 * (named.fibres + m)) (length lent.fibres) (none_first _ _ of_rooms),
        omega (arith, one_each line old named lent fit),
        passed_room WorkRoom (4 * line.links + 4 * (length old / 8 + m)) (length lent.work) (none_first _ _ (none_rest _ _ (none_rest _ _ of_rooms))),
      )

  -- no new number is 0
  pub from_one : (j : ℕ) → j < length (circuits_of new) → 1 ≤ number (circuits_of new) j
  unfolding circuit
  from_one j h =
      let m = length new / 8 in
      let b : j < m = omega (arith, length_circuits_in m new) in
      let five = (both_numbered line.links (length old / 8) m old new of_records old_records).1 in
      omega (arith, ap (λ (c : Circuit). c.number) (circuits_in_at m new j nobody b), passed5 new m five j b)

  -- the new circuits may be added
  pub addable : Addable line.links line.wavelengths (circuits_of old) (old_plan named lent) (circuits_of new)
  unfolding circuit
  addable =
      let cs = circuits_of old in
      let ds = circuits_of new in
      record {
        waves = (taken old new old_records new_records line both_pass).waves.0;
        old_valid = old_valid line old named lent fit;
        lies = λ j h.
            rw (← circuit_new cs ds j) (lie old new old_records new_records line both_pass (length cs + j) (omega (arith, length-append cs ds)));
        once = once old new old_records new_records line both_pass;
        from_one = from_one;
      }

  -- and all that is promised of their addition holds
  pub due : AddDemand line.links line.wavelengths (circuits_of old) (old_plan named lent) (circuits_of new)
  due = add_demand line.links line.wavelengths (circuits_of old) (old_plan named lent) (circuits_of new) addable

-- AND THE OTHER WAY: what passes the tests
pub add_passes : (line : Line) (old new : List ℕ) (named : Named) (lent : Areas) → 8 * (length old / 8) ≡ length old → 8 * (length new / 8) ≡ length new
    → NoneApplies (circuit_rows line (old ++ new)) → Fit line old named lent
    → 8 * (named.fibres + length new / 8) ≤ length lent.fibres → 8 * (length old / 8 + length new / 8) ≤ length lent.assigns
    → 4 * line.links + 4 * (length old / 8 + length new / 8) ≤ length lent.work → NoneApplies (add_table line old new named lent)
unfolding add_table room_rows old_rows
add_passes line old new named lent a b p f x y z =
    let m = length new / 8 in
    none_both (two_file_rows old new) _ (files_pass old new a b line p)
    (none_both (line_rows line) _ (Tests.of_line line (old ++ new) p)
    (none_both (two_record_rows line.links (length old / 8) m old new) _ (records_pass old new a b line p)
    (none_more _ _ (passes_room FibreRoom (8 * (named.fibres + m)) (length lent.fibres) x)
    (none_more _ _ (passes_room AssignmentRoom (8 * (named.assignments + m)) (length lent.assigns) (omega (arith, one_each line old named lent f)))
    (none_more _ _ (passes_room WorkRoom (4 * line.links + 4 * (length old / 8 + m)) (length lent.work) z)
    (none_more _ _ (fit_passes line old named lent f)
    (none_more _ _ (no_old old new a b line p) none_end)))))))
