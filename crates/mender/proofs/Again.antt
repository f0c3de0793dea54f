-- A register to which the check says yes is left as it is, and so mending twice is mending once. Assumes nothing.
use Prim.Native.Nat.{ℕ, ◌*◌, ◌/◌, ◌<◌, ◌≤◌}
use mathlib.Core.Path.{◌≡◌, refl, ap, ap₂, ◌∙◌, sym, subst}
use mathlib.Core.Bool.{false}
use mathlib.Core.List.{List, [], map}
use native.Mathlib.Omega.{arith}
use lib.ListN.{drop, drop_of_length-le, length, take, take-append-drop}
use lib.Seq.{length-take-le}
use Rattle.std.specs.Prelude.{Ok}
use Rattle.basics.specs.Tools.{any, each}
use Rattle.basics.proofs.Tables.{each_same}
use Rattle.records.specs.Records.{assignment_bytes, assignment_of, circuits_of, fibre_of, record_at}
use Rattle.records.specs.declared.Circuit.{Circuit}
use Rattle.records.specs.declared.FibreRecord.{FibreRecord}
use Rattle.records.specs.declared.Line.{Line}
use Rattle.records.proofs.Files.{length_circuits_in}
use Rattle.records.proofs.Inverse.{assignment_read_written}
use Rattle.method.specs.Line.{Assignment, Fibre, Plan, Valid, total}
use Rattle.refusals.specs.Given.{NoneApplies}
use Rattle.register.specs.Lists.{behind, fibre_list, fibre_records}
use Rattle.register.specs.Plans.{place_of, plan_in, span_of}
use Rattle.register.specs.declared.Counts.{Counts}
use Rattle.checker.specs.Rules.{fibre_rules, plan_held}
use Rattle.checker.specs.Sound.{NoneFaulty, Sound}
use Rattle.checker.specs.Checked.{assignments_in, assignments_of, checked, fibres_in, fibres_of, says}
use Rattle.checker.specs.Seen.{SaidYes}
use Rattle.checker.specs.declared.Finding.TheVariants.{Yes}
use Rattle.checker.proofs.Answers as Checker
use Rattle.checker.proofs.First.{unbroken}
use Rattle.checker.proofs.Passing as Checks
use Rattle.checker.proofs.Planned.{taken_record}
use Rattle.checker.proofs.Reading.{assignments_in_at, held_is, length_assignments_in, length_fibres_in}
use Rattle.checker.proofs.Yes.{sound_yes}
use Rattle.mending.specs.Mending.{Mend, mended_records, no_record, record_of}
use Rattle.mending.specs.Mended.{reported}
use Rattle.mending.specs.MendDemands.{NamesItsOwn, nothing_reported, plan_found}
use Rattle.mender.specs.Report.{Lent, report_bytes, report_list}
use Rattle.mender.specs.Table.{mend_table}
use Rattle.mender.specs.Outcome.{Outcome, damaged, mended_to, old_fibres, Answer, mended_with}
use Rattle.mender.specs.Seen.{FibresFit, Room}
use Rattle.mender.specs.Mendings.{NothingMended, SecondCall, SoundCall}
use Rattle.mender.proofs.Leaves.{due, many_fibres, mend_passes}
use Rattle.mender.proofs.Reading.{by_records}
use Rattle.mender.proofs.Answers.{bytes_kept, made_so, numbers, passed_mended, passed_so, record_bytes, record_kept, seen_2}
use Rattle.mender.proofs.Yes.{mended_yes}

-- no fibre behind the old ones: the list is as it was
nothing_behind : (many : ℕ) (fibres : List ℕ) → behind (8 * many) (fibre_list many []) fibres ≡ fibres
unfolding behind fibre_list fibre_records
nothing_behind many fibres = take-append-drop (8 * many) fibres

-- no line: the report buffer is as it was
nothing_told : (report : List ℕ) → report_list [] report ≡ report
unfolding report_list report_bytes
nothing_told report = refl

-- who is reported where nothing is
none_told : (p : Plan) (s : List ℕ) (j : ℕ) → reported (circuits_of s) (nothing_reported p) j ≡ false
unfolding reported any
none_told p s j = refl

-- A CALL ON A REGISTER TO WHICH THE CHECK SAYS YES, each record of which is what the assignment in it is written as
module _ (line : Line) (s : List ℕ) (many : ℕ) (before : Lent) (few : many ≤ 2048) (room : Room line.links (length s / 8) many before) (told its_floor : ℕ)
    (yes : checked line s (take (8 * many) before.fibres) before.assigns ≡ Ok (Yes told its_floor)) where
  -- how many circuits
  abbrev m : ℕ
  m = length s / 8

  -- the circuits
  abbrev cs : List Circuit
  cs = circuits_of s

  -- the bytes of the fibres
  abbrev fibre_bytes_lem : List ℕ
  fibre_bytes_lem = take (8 * many) before.fibres

  -- what a yes says
  said : SaidYes line s fibre_bytes_lem before.assigns told its_floor
  said = (Checker.seen line s fibre_bytes_lem before.assigns (checked line s fibre_bytes_lem before.assigns) refl).yes_says told its_floor (ap says yes)

  -- how many fibres are named
  many_named : length fibre_bytes_lem / 8 ≡ many
  many_named = let l = length-take-le (8 * many) before.fibres (omega (arith, room.fibres)) in omega arith

  -- no rule is broken
  kept : NoneFaulty (fibre_rules line.links (fibres_of fibre_bytes_lem)) (length (fibres_of fibre_bytes_lem)) × (length (assignments_of before.assigns) ≡ length cs)
  kept =
      let fs = fibres_of fibre_bytes_lem in
      let gs = assignments_of before.assigns in
      let u = unbroken line cs fs gs (sound_yes line cs fs gs said.all_kept) in
      (u.0, u.1)

  -- how many assignments there are
  many_given : length before.assigns / 8 ≡ m
  many_given = sym (length_assignments_in (length before.assigns / 8) before.assigns) ∙ kept.1 ∙ length_circuits_in m s

  assigns_long : length before.assigns ≡ 8 * m
  assigns_long =
      let w = (Checks.assigns_whole line s (length fibre_bytes_lem) (length before.assigns) said.not_refused).0 in
      let g = many_given in
      omega arith

  -- the records of those bytes are those of the lists
  fibres_are : fibres_of fibre_bytes_lem ≡ fibres_in many before.fibres
  unfolding fibres_in
  fibres_are =
      ap (λ (k : ℕ). fibres_in k fibre_bytes_lem) many_named
      ∙ each_same _ _ 0 many (λ i a b. ap fibre_of (taken_record (8 * many) before.fibres i (omega arith)))

  assigns_are : assignments_of before.assigns ≡ damaged s before
  assigns_are = ap (λ (k : ℕ). assignments_in k before.assigns) many_given

  -- which are sound
  sound : Sound line cs (fibres_in many before.fibres) (damaged s before)
  sound =
      subst (Sound line cs (fibres_in many before.fibres)) assigns_are
      (subst (λ (fs : List FibreRecord). Sound line cs fs (assignments_of before.assigns)) fibres_are said.all_kept)

  -- the fibres are fit
  fit : FibresFit line.links many before.fibres
  fit =
      record {
        few = few;
        sound = λ i h.
            subst (λ (fs : List FibreRecord). NoneFaulty (fibre_rules line.links fs) (length fs)) fibres_are kept.0 i
            (omega (arith, length_fibres_in many before.fibres));
      }

  -- so no test applies
  pub passed : NoneApplies (mend_table line s many before)
  passed =
      let circuits = Checks.of_circuits line s (length fibre_bytes_lem) (length before.assigns) said.not_refused in
      mend_passes line s many before circuits room.fibres room.work assigns_long fit room.report

  -- each record names its circuit
  named : NamesItsOwn cs (damaged s before)
  unfolding record_of
  named j l = sound.in_file_order j l

  -- the plan that is found is the one that the records hold
  found_is : plan_held (fibres_in many before.fibres) (damaged s before) ≡ plan_found (old_fibres many before) cs (damaged s before)
  unfolding plan_in plan_found record_of
  found_is =
      held_is many m before.fibres before.assigns
      ∙ ap (λ (gs : List Assignment). let p : Plan = record { fibres = old_fibres many before; assignments = gs } in p)
      (each_same (λ j. place_of (assignment_of (record_at before.assigns j))) (λ j. place_of (record_of (damaged s before) j)) 0 m
      (λ j a b. ap place_of (sym (assignments_in_at m before.assigns j no_record (omega arith))))
      ∙ ap (each (λ j. place_of (record_of (damaged s before) j)) 0) (sym (length_circuits_in m s)))

  -- and nothing is mended
  pub idle : mended_to line s many before ≡ nothing_reported (plan_found (old_fibres many before) cs (damaged s before))
  idle = (due line s many before passed).sound_stays named (subst (Valid line.wavelengths cs) found_is sound.valid)

  -- the fibres are the old ones
  same_plan : (mended_to line s many before).plan.fibres ≡ old_fibres many before
  unfolding plan_found
  same_plan = ap (λ (M : Mend). M.plan.fibres) idle

  -- which are as many as are named
  many_old : length (old_fibres many before) ≡ many
  many_old = many_fibres many 0 before.fibres before.assigns

  -- and as long as was told
  told_is : total (old_fibres many before) ≡ told
  told_is =
      let fibres : Plan → List Fibre = λ p. p.fibres in
      sym
      (said.the_length
      ∙ ap total
      (sym (ap fibres (held_is (length fibre_bytes_lem / 8) (length before.assigns / 8) fibre_bytes_lem before.assigns))
      ∙ ap (map span_of) fibres_are
      ∙ ap fibres (held_is many 0 before.fibres before.assigns)))

  -- the numbers are those of the register
  numbers_are : numbers line s many before ≡ record { fibres = many; total = told; floor = its_floor }
  numbers_are =
      let d = due line s many before passed in
      let p = d.fibres_are ∙ ap length same_plan ∙ many_old in
      let q = d.total_is ∙ ap total same_plan ∙ told_is in
      let r = d.floor_is ∙ sym said.the_floor in
      λ i. record { fibres = p i; total = q i; floor = r i }

  module _ (after : Lent) (answer : Answer) (call : Outcome line s many before after answer)
      (written : (j : ℕ) → j < m → assignment_bytes (assignment_of (record_at before.assigns j)) ≡ record_at before.assigns j) where
    -- the answer has them, and no line
    no_lines : answer ≡ mended_with (record { fibres = many; total = told; floor = its_floor }) 0
    no_lines =
        passed_mended line s many before after answer call passed
        ∙ ap₂ mended_with numbers_are ((due line s many before passed).lines_are ∙ ap (λ (M : Mend). length M.report) idle)

    -- and nothing changes
    pub left_alone : NothingMended before after (record { fibres = many; total = told; floor = its_floor }) answer
    left_alone =
        let made = mended_to line s many before in
        let so = made_so line s many before after answer call (record { fibres = many; total = told; floor = its_floor }) 0 no_lines in
        let two = seen_2 line s many before after answer call (record { fibres = many; total = told; floor = its_floor }) 0 no_lines in
        let none-added : drop many made.plan.fibres ≡ [] = ap (drop many) same_plan ∙ drop_of_length-le (old_fibres many before) {i = many} (omega (arith, many_old)) in
        record {
          no_lines = no_lines;
          same_fibres =
              ap (λ (x : Lent). x.fibres) so ∙ ap (λ (fs : List Fibre). behind (8 * many) (fibre_list many fs) before.fibres) none-added ∙ nothing_behind many before.fibres;
          same_assigns =
              by_records m after.assigns before.assigns (two.assigns_long ∙ assigns_long) assigns_long
              (λ j h. record_kept line s many before passed after so j h (ap (λ (M : Mend). reported cs M j) idle ∙ none_told _ s j) ∙ written j h);
          same_report = ap (λ (x : Lent). x.report) so ∙ ap (λ (M : Mend). report_list M.report before.report) idle ∙ nothing_told before.report;
        }

-- A SOUND REGISTER IS LEFT AS IT IS
pub sound_stays : (line : Line) (s : List ℕ) (many : ℕ) (before after : Lent) (answer : Answer) (told its_floor : ℕ) → SoundCall line s many before after answer told its_floor
    → NothingMended before after (record { fibres = many; total = told; floor = its_floor }) answer
sound_stays line s many before after answer told its_floor c =
    left_alone line s many before c.few c.room told its_floor c.said_yes after answer c.call
    (bytes_kept before.assigns (length s / 8) (assigns_long line s many before c.few c.room told its_floor c.said_yes) c.bytes)

-- MENDING TWICE IS MENDING ONCE
pub again : (line : Line) (s : List ℕ) (many : ℕ) (before after before' after' : Lent) (counts : Counts) (lines : ℕ) (answer' : Answer)
    → SecondCall line s many before after before' after' counts lines answer' → NothingMended before' after' counts answer'
again line s many before after before' after' counts lines answer' c =
    let passed = passed_so line s many before after (mended_with counts lines) c.one counts lines refl in
    let so = made_so line s many before after (mended_with counts lines) c.one counts lines refl in
    let records = mended_records line.links line.wavelengths (old_fibres many before) (circuits_of s) (damaged s before) in
    left_alone line s counts.fibres before' c.few c.room counts.total counts.floor
    ((λ i. checked line s (c.fibres_left i) (c.assigns_left i)) ∙ mended_yes line s many before after counts lines c.one)
    after' answer' c.two
    (λ j h.
    let e : record_at before'.assigns j ≡ assignment_bytes (record_of records j) =
    ap (λ (x : List ℕ). record_at x j) c.assigns_left ∙ record_bytes line s many before passed after so j h in
    ap (λ (r : List ℕ). assignment_bytes (assignment_of r)) e ∙ ap assignment_bytes (assignment_read_written (record_of records j)) ∙ sym e)
