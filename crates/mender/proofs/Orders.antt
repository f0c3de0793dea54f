-- Two calls of `mend` with the same register in another file order give the same. Assumes nothing.
use Prim.Native.Nat.{ℕ, ◌*◌, ◌/◌, ◌+◌, ◌<◌}
use mathlib.Core.Path.{◌≡◌, ap, ap₂, ◌∙◌, sym, subst}
use mathlib.Core.List.{List, ◌++◌}
use native.Mathlib.Omega.{arith}
use lib.ListN.{drop, get_or, length, take}
use lib.Seq.{take_at}
use Rattle.basics.proofs.Tables.{each_same}
use Rattle.records.specs.Records.{assignment_bytes, assignment_of, circuits_of, fibre_of, record_at}
use Rattle.records.specs.declared.Circuit.{Circuit}
use Rattle.records.specs.declared.FibreRecord.{FibreRecord}
use Rattle.records.specs.declared.Line.{Line}
use Rattle.records.proofs.Files.{length_circuits_in}
use Rattle.method.specs.Demands.{SamePlan}
use Rattle.method.specs.Line.{Fibre, assigned, circuit, nobody}
use Rattle.method.proofs.Rearranged.{rearranged_once}
use Rattle.refusals.specs.Given.{NoneApplies}
use Rattle.register.specs.Lists.{assignment_record, fibre_records}
use Rattle.register.specs.Plans.{plan_in, span_of}
use Rattle.register.specs.declared.Counts.{Counts}
use Rattle.planner.proofs.Accepting as Tests
use Rattle.planner.proofs.Among.{Among, circuits_pass}
use Rattle.planner.proofs.Demands.{number_read}
use Rattle.checker.specs.Rules.{fibre_rules}
use Rattle.checker.specs.Sound.{NoneFaulty}
use Rattle.checker.specs.Checked.{fibres_in}
use Rattle.checker.proofs.Planned.{taken_record}
use Rattle.checker.proofs.Reading.{assignments_in_at}
use Rattle.mending.specs.Mending as Lists
use Rattle.mending.specs.Mending.{no_record, record_of}
use Rattle.mending.specs.MendDemands.{Permuted}
use Rattle.mender.specs.Report.{Lent, report_bytes}
use Rattle.mender.specs.Table.{mend_table}
use Rattle.mender.specs.Outcome.{Outcome, damaged, mended_to, old_fibres, Answer, mended_with}
use Rattle.mender.specs.Seen.{FibresFit}
use Rattle.mender.specs.Mendings.{SameMending, TwoMendings}
use Rattle.mender.proofs.Leaves.{due, fibre_room, fit, mend_passes, mendable, of_circuits, one_each, report_room, work_room}
use Rattle.mender.proofs.Reading.{records_are}
use Rattle.mender.proofs.Answers.{added, added_room, all_fibres, assignment_at_lem, counts_are, lines_are, made_so, numbers, passed_mended, passed_so, report_is, report_long}

-- WHAT A CALL LEAVES AT THE START OF ITS FIBRE LIST AND OF ITS REPORT
module _ (line : Line) (s : List ℕ) (many : ℕ) (before after : Lent) (answer : Answer) (o : Outcome line s many before after answer)
    (counts : Counts) (lines : ℕ) (e : answer ≡ mended_with counts lines) where
  -- the old fibre records and those that are added
  fibre_start : take (8 * counts.fibres) after.fibres ≡ take (8 * many) before.fibres ++ fibre_records many (added line s many before)
  fibre_start =
      ap (λ (k : ℕ). take (8 * k) after.fibres) (all_fibres line s many before after answer o counts lines e)
      ∙ records_are many (added line s many before) before.fibres after.fibres (added_room line s many before (passed_so line s many before after answer o counts lines e))
      (ap (λ (x : Lent). x.fibres) (made_so line s many before after answer o counts lines e))

  -- the lines of the report
  report_start : take (12 * lines) after.report ≡ report_bytes (mended_to line s many before).report
  report_start =
      ap (take (12 * lines)) (report_is line s many before after answer o counts lines e)
      ∙ take_at (report_bytes (mended_to line s many before).report) (drop (12 * lines) before.report) (12 * lines) (report_long line s many before after answer o counts lines e)

-- TWO CALLS
module _ (line : Line) (many : ℕ) (s s' : List ℕ) (before after before' after' : Lent) (answer answer' : Answer)
    (calls : TwoMendings line many s s' before after before' after' answer answer') (counts : Counts) (lines : ℕ) (e : answer ≡ mended_with counts lines) where
  -- the circuits of both
  abbrev cs : List Circuit
  cs = circuits_of s

  abbrev cs' : List Circuit
  cs' = circuits_of s'

  -- what the first call's tests left
  passed : NoneApplies (mend_table line s many before)
  passed = passed_so line s many before after answer calls.one counts lines e

  -- a fibre record is the same
  fibre_same : (i : ℕ) → i < many → record_at before'.fibres i ≡ record_at before.fibres i
  fibre_same i h =
      sym (taken_record (8 * many) before'.fibres i (omega arith)) ∙ ap (λ (x : List ℕ). record_at x i) calls.fibres_same
      ∙ taken_record (8 * many) before.fibres i (omega arith)

  -- so the fibres are
  records_alike : fibres_in many before.fibres ≡ fibres_in many before'.fibres
  unfolding fibres_in
  records_alike = each_same _ _ 0 many (λ i a b. ap fibre_of (sym (fibre_same i (omega arith))))

  fibres_alike : old_fibres many before' ≡ old_fibres many before
  unfolding plan_in
  fibres_alike = each_same (λ i. span_of (fibre_of (record_at before'.fibres i))) (λ i. span_of (fibre_of (record_at before.fibres i))) 0 many
      (λ i a b. ap (λ (r : List ℕ). span_of (fibre_of r)) (fibre_same i (omega arith)))

  -- the second call's circuits are those of the first
  among : Among s s'
  among =
      record {
        whole = omega (arith, calls.long, (Tests.accepted line s (of_circuits line s many before passed)).file.whole);
        few = omega (arith, calls.long);
        once = rearranged_once cs cs' (mendable line s many before passed).once calls.same;
        from = λ j l. (let x = calls.same.fro j l in (calls.same.back j, x.0, x.2));
      }

  -- its tests pass too
  passed' : NoneApplies (mend_table line s' many before')
  passed' =
      let n = line.links in
      let f = fit line s many before passed in
      let fit' : FibresFit n many before'.fibres = record { few = f.few; sound = subst (λ (fs : List FibreRecord). NoneFaulty (fibre_rules n fs) many) records_alike f.sound } in
      mend_passes line s' many before' (circuits_pass line s s' among (of_circuits line s many before passed))
      (omega (arith, calls.long, calls.rooms.0, fibre_room line s many before passed))
      (omega (arith, calls.long, calls.rooms.3, work_room line s many before passed))
      (omega (arith, calls.long, calls.rooms.1, one_each line s many before passed))
      fit'
      (omega (arith, calls.long, calls.rooms.2, report_room line s many before passed))

  -- the register is the same in another order
  permuted : Permuted cs (damaged s before) cs' (damaged s' before')
  unfolding record_of
  permuted =
      record {
        circuits = calls.same;
        record_same = λ i h.
            let a : i < length s / 8 = omega (arith, length_circuits_in (length s / 8) s) in
            let b : calls.same.there i < length s' / 8 = omega (arith, (calls.same.to i h).0, length_circuits_in (length s' / 8) s') in
            assignments_in_at (length s / 8) before.assigns i no_record a ∙ ap assignment_of (sym (calls.records_same i a))
            ∙ sym (assignments_in_at (length s' / 8) before'.assigns (calls.same.there i) no_record b);
      }

  -- so the plans are the same
  alike : SamePlan line.links line.wavelengths cs cs' (mended_to line s many before).plan (mended_to line s' many before').plan
  alike =
      let n = line.links in
      let w = line.wavelengths in
      subst (λ (fs : List Fibre). SamePlan n w cs cs' (mended_to line s many before).plan (Lists.mend n w fs cs' (damaged s' before')).plan) (sym fibres_alike)
      ((due line s many before passed).any_order cs' (damaged s' before') permuted)

  -- and the reports
  reports_alike : (mended_to line s many before).report ≡ (mended_to line s' many before').report
  reports_alike =
      (due line s many before passed).any_report cs' (damaged s' before') permuted
      ∙ ap (λ (fs : List Fibre). (Lists.mend line.links line.wavelengths fs cs' (damaged s' before')).report) (sym fibres_alike)

  -- the second call is mended, with the same numbers
  mended_too : answer' ≡ mended_with counts lines
  mended_too =
      let d = due line s many before passed in
      let d' = due line s' many before' passed' in
      let p = d'.fibres_are ∙ ap length (sym alike.fibres_same) ∙ sym d.fibres_are in
      let q = d'.total_is ∙ sym alike.total_same ∙ sym d.total_is in
      let r = d'.floor_is ∙ sym alike.floor_same ∙ sym d.floor_is in
      let same : numbers line s' many before' ≡ numbers line s many before = λ i. record { fibres = p i; total = q i; floor = r i } in
      passed_mended line s' many before' after' answer' calls.two passed'
      ∙ ap₂ mended_with
      (same ∙ sym (counts_are line s many before after answer calls.one counts lines e))
      (d'.lines_are ∙ ap length (sym reports_alike) ∙ sym d.lines_are ∙ sym (lines_are line s many before after answer calls.one counts lines e))

  -- and leaves the same fibre records, the same report, and the same assignment record for each circuit
  pub same_mending : SameMending s s' after after' counts lines answer'
  unfolding assigned circuit assignment_record
  same_mending =
      record {
        same_answer = mended_too;
        same_fibres =
            fibre_start line s' many before' after' answer' calls.two counts lines mended_too
            ∙ (λ i. calls.fibres_same i ++ fibre_records many (drop many (sym alike.fibres_same i)))
            ∙ sym (fibre_start line s many before after answer calls.one counts lines e);
        same_report =
            report_start line s' many before' after' answer' calls.two counts lines mended_too
            ∙ ap report_bytes (sym reports_alike)
            ∙ sym (report_start line s many before after answer calls.one counts lines e);
        same_assignment = λ i j a b q.
            let number : (get_or cs i nobody).number ≡ (get_or cs' j nobody).number = number_read s i a ∙ q ∙ sym (number_read s' j b) in
            let given_same = alike.assigned_same i j (omega (arith, length_circuits_in (length s / 8) s)) (omega (arith, length_circuits_in (length s' / 8) s')) number in
            sym
            (assignment_at_lem line s many before passed after (made_so line s many before after answer calls.one counts lines e) i a
            ∙ (λ x. assignment_bytes (record { circuit = number x; fibre = 0 + (given_same x).fibre; wavelength = (given_same x).wavelength }))
            ∙ sym (assignment_at_lem line s' many before' passed' after' (made_so line s' many before' after' answer' calls.two counts lines mended_too) j b));
      }
