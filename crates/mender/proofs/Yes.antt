-- The check says yes to what a call of `mend` leaves, with its total and floor. Assumes nothing.
use Prim.Native.Nat.{ℕ, ◌*◌, ◌/◌, ◌≤◌}
use mathlib.Core.Path.{◌≡◌, refl, ap, ap₂, ◌∙◌, sym, subst}
use mathlib.Core.List.{List}
use native.Mathlib.Omega.{arith}
use lib.ListN.{length, take}
use lib.Seq.{take_all}
use Rattle.std.specs.Prelude.{Ok}
use Rattle.records.specs.Records.{circuits_of}
use Rattle.records.specs.declared.Line.{Line}
use Rattle.register.specs.declared.Counts.{Counts}
use Rattle.planner.proofs.Accepting as Tests
use Rattle.additions.specs.Grown.{FibresOn}
use Rattle.checker.specs.Sound.{Sound}
use Rattle.checker.specs.Checked.{assignments_in, checked, fibres_in}
use Rattle.checker.specs.declared.Finding.TheVariants.{Yes}
use Rattle.checker.proofs.Planned.{records_sound, records_yes}
use Rattle.mending.specs.Mending.{Mend}
use Rattle.mender.specs.Report.{Lent}
use Rattle.mender.specs.Outcome.{Outcome, mended_with}
use Rattle.mender.specs.Seen.{Seen2}
use Rattle.mender.proofs.Leaves.{due, fit_on_line, of_circuits, one_each}
use Rattle.mender.proofs.Answers.{added_room, all_fibres, holds, made_so, passed_so, seen_2}
use Rattle.mender.proofs.Reading.{as_long}

module _ (line : Line) (s : List ℕ) (many : ℕ) (before after : Lent) (counts : Counts) (lines : ℕ) (o : Outcome line s many before after (mended_with counts lines)) where
  -- what is promised of the call
  two : Seen2 line s many before after counts lines
  two = seen_2 line s many before after (mended_with counts lines) o counts lines refl

  -- the records that it leaves are sound
  pub left_sound : Sound line (circuits_of s) (fibres_in counts.fibres after.fibres) (assignments_in (length s / 8) after.assigns)
  left_sound =
      let passed = passed_so line s many before after (mended_with counts lines) o counts lines refl in
      let on = (due line s many before passed).on_line (fit_on_line line.links many before.fibres two.passed.fit before.assigns) in
      records_sound line s counts.fibres after.fibres after.assigns two.numbered
      (subst (λ (M : Mend). FibresOn line.links M.plan.fibres) (sym (holds line s many before after (mended_with counts lines) o counts lines refl)) on)
      two.in_file_order two.valid

  -- the fibre list has room for its records
  pub fibres_long : 8 * counts.fibres ≤ length after.fibres
  fibres_long =
      let passed = passed_so line s many before after (mended_with counts lines) o counts lines refl in
      let added = all_fibres line s many before after (mended_with counts lines) o counts lines refl in
      let room = added_room line s many before passed in
      let l = as_long many _ before.fibres after.fibres room (ap (λ (x : Lent). x.fibres) (made_so line s many before after (mended_with counts lines) o counts lines refl)) in
      omega arith

  -- so what is left gets a yes
  pub mended_yes : checked line s (take (8 * counts.fibres) after.fibres) after.assigns ≡ Ok (Yes counts.total counts.floor)
  mended_yes =
      let passed = passed_so line s many before after (mended_with counts lines) o counts lines refl in
      let circuits = of_circuits line s many before passed in
      let file = (Tests.accepted line s circuits).file in
      let long : length after.assigns ≡ length s = omega (arith, two.assigns_long, one_each line s many before passed, file.whole) in
      let few : counts.fibres ≤ 4096 = omega (arith, two.few_fibres, two.few_lines, two.passed.fit.few, file.few) in
      ap (checked line s (take (8 * counts.fibres) after.fibres)) (sym (take_all (length s) after.assigns (omega arith)))
      ∙ records_yes line s counts.fibres after.fibres after.assigns circuits few fibres_long (omega arith) left_sound
      ∙ ap₂ (λ (x y : ℕ). Ok (Yes x y)) (sym two.the_total) (sym two.the_floor)
