-- Records that are sound get a yes, and so does every plan that `plan` writes, with its own total and floor. Assumes nothing.
use Prim.Native.Nat.{ℕ, ◌+◌, ◌*◌, ◌/◌, ◌<◌, ◌≤◌}
use mathlib.Core.Path.{◌≡◌, refl, ap, ap₂, ◌∙◌, sym, subst}
use mathlib.Core.List.{List}
use mathlib.Core.Option.{Option}
use native.Mathlib.Omega.{arith}
use lib.ListN.{length, get_or, length-append, get_or-map, take, drop}
use lib.Seq.{length-take-le, take-take}
use Rattle.basics.proofs.Tables.{each_same, length_each, part_kept}
use Rattle.records.specs.Records.{record_at, circuits_of, fibre_of, assignment_of}
use Rattle.records.specs.declared.FibreRecord.{FibreRecord}
use Rattle.records.specs.declared.AssignmentRecord.{AssignmentRecord}
use Rattle.records.specs.declared.Line.{Line}
use Rattle.records.proofs.Files.{circuits_in_at, length_circuits_in}
use Rattle.method.specs.Line.{Fibre, Plan, Valid, circuit, no_fibre, nobody, total}
use Rattle.method.specs.Fibres.{floor}
use Rattle.refusals.specs.Given.{NoneApplies}
use Rattle.refusals.specs.Table.{circuit_rows}
use Rattle.register.specs.Areas.{Areas}
use Rattle.register.specs.Lists.{fibre_records, assignment_records, assignment_list}
use Rattle.register.specs.Plans.{InFileOrder, Numbered, plan_in, span_of}
use Rattle.register.specs.declared.Counts.{Counts}
use Rattle.register.proofs.Reading.{length_assignment_records, length_fibre_records}
use Rattle.rows.specs.Accepted.{Accepted}
use Rattle.std.specs.Prelude.{Ok}
use Rattle.planner.specs.Outcome.{Outcome, plan_of}
use Rattle.planner.specs.Seen.{Seen2, Seen3}
use Rattle.planner.proofs.Accepting as Tests
use Rattle.planner.proofs.Demands.{fibre_count, fibres_are, planned_so, seen_2, seen_3}
use Rattle.checker.specs.Rules.{Breach, fibre_at}
use Rattle.checker.specs.Sound.{Sound}
use Rattle.checker.specs.Checked.{assignments_in, assignments_of, checked, fibres_in, fibres_of, finding_by, found, length_in}
use Rattle.checker.specs.Seen.{written_assignments, written_fibres}
use Rattle.checker.specs.declared.Finding.TheVariants.{Yes}
use Rattle.checker.proofs.Answers.{tests_pass}
use Rattle.checker.proofs.Passing.{check_passes}
use Rattle.checker.proofs.Reading.{assignments_in_at, fibres_in_at, held_is, length_fibres_in}
use Rattle.checker.proofs.Yes.{sound_yes}

-- a record within the first k bytes is that of the whole list
pub taken_record : (k : ℕ) (bytes : List ℕ) (i : ℕ) → 8 * i + 8 ≤ k → record_at (take k bytes) i ≡ record_at bytes i
taken_record k bytes i h = part_kept (8 * i) 8 (take k bytes) bytes (take-take (8 * i + 8) k bytes h)

-- so the first k records are those of the whole list
taken_fibres : (k : ℕ) (bytes : List ℕ) → fibres_in k (take (8 * k) bytes) ≡ fibres_in k bytes
unfolding fibres_in
taken_fibres k bytes = each_same _ _ 0 k (λ i a b. ap fibre_of (taken_record (8 * k) bytes i (omega arith)))

taken_assignments : (m : ℕ) (bytes : List ℕ) → assignments_in m (take (8 * m) bytes) ≡ assignments_in m bytes
unfolding assignments_in
taken_assignments m bytes = each_same _ _ 0 m (λ j a b. ap assignment_of (taken_record (8 * m) bytes j (omega arith)))

-- fibre record i is fibre i of the plan that two lists hold
pub span_is : (k m : ℕ) (fibres assigns : List ℕ) (i : ℕ) → span_of (fibre_at (fibres_in k fibres) i) ≡ get_or (plan_in k m fibres assigns).fibres i no_fibre
span_is k m fibres assigns i = sym (get_or-map span_of (fibres_in k fibres) i _) ∙ ap (λ (p : Plan). get_or p.fibres i no_fibre) (held_is k m fibres assigns)

-- THE RECORDS AT THE START OF TWO LISTS: k fibres, and an assignment for each circuit of file s
module _ (line : Line) (s : List ℕ) (k : ℕ) (fibres assigns : List ℕ) where
  -- how many circuits
  abbrev m : ℕ
  m = length s / 8

  -- the plan that they hold
  abbrev written : Plan
  written = plan_in k m fibres assigns

  -- how many fibres it has
  pub many_written : length written.fibres ≡ k
  unfolding plan_in
  many_written = length_each (λ i. span_of (fibre_of (record_at fibres i))) 0 k

  -- they are sound if they are numbered, lie on the line, stand in file order, and are a valid plan
  pub records_sound : Numbered k fibres
      → ((q : ℕ) → q < length written.fibres
      → (1 ≤ (get_or written.fibres q no_fibre).first) × ((get_or written.fibres q no_fibre).first ≤ (get_or written.fibres q no_fibre).last) × ((get_or written.fibres q no_fibre).last ≤ line.links))
      → InFileOrder m s assigns → Valid line.wavelengths (circuits_of s) written → Sound line (circuits_of s) (fibres_in k fibres) (assignments_in m assigns)
  unfolding circuit
  records_sound numbered on_line ordered valid =
      record {
        numbered = λ i l.
            let b : i < k = omega (arith, length_fibres_in k fibres) in
            ap (λ (f : FibreRecord). f.number) (fibres_in_at k fibres i _ b) ∙ numbered i b;
        on_line = λ i l.
            let r = on_line i (omega (arith, length_fibres_in k fibres, many_written)) in
            let e = span_is k m fibres assigns i in
            let p = ap (λ (f : Fibre). f.first) e in
            let q = ap (λ (f : Fibre). f.last) e in
            (omega (arith, p, r.0), omega (arith, p, q, r.1), omega (arith, q, r.2));
        in_file_order = λ j l.
            let b : j < m = omega (arith, length_circuits_in m s) in
            ap (λ (a : AssignmentRecord). a.circuit) (assignments_in_at m assigns j _ b) ∙ ordered j b ∙ sym (ap (λ c. c.number) (circuits_in_at m s j nobody b));
        valid = subst (Valid line.wavelengths (circuits_of s)) (sym (held_is k m fibres assigns)) valid;
      }

  -- sound records of circuits that pass their tests get a yes, with the plan's length and the floor
  pub records_yes : NoneApplies (circuit_rows line s) → k ≤ 4096 → 8 * k ≤ length fibres → length s ≤ length assigns
      → Sound line (circuits_of s) (fibres_in k fibres) (assignments_in m assigns)
      → checked line s (take (8 * k) fibres) (take (length s) assigns) ≡ Ok (Yes (total written.fibres) (floor line.links line.wavelengths (circuits_of s)))
  unfolding found
  records_yes passed few fibre_room assign_room sound =
      let file = (Tests.accepted line s passed).file in
      let cs = circuits_of s in
      let fs = fibres_in k fibres in
      let gs = assignments_in m assigns in
      let fibre_bytes_lem = take (8 * k) fibres in
      let assign_bytes = take (length s) assigns in
      let f : length fibre_bytes_lem ≡ 8 * k = length-take-le (8 * k) fibres fibre_room in
      let g : length assign_bytes ≡ 8 * m = length-take-le (length s) assigns assign_room ∙ file.whole in
      let fibres-in : fibres_of fibre_bytes_lem ≡ fs =
      ap (λ (x : ℕ). fibres_in x fibre_bytes_lem) (let z : length fibre_bytes_lem / 8 ≡ k = omega arith in z) ∙ taken_fibres k fibres in
      let assigns-in : assignments_of assign_bytes ≡ gs =
      ap (λ (x : ℕ). assignments_in x assign_bytes) (let z : length assign_bytes / 8 ≡ m = omega arith in z)
      ∙ ap (λ (x : ℕ). assignments_in m (take x assigns)) file.whole ∙ taken_assignments m assigns in
      tests_pass line s fibre_bytes_lem assign_bytes (check_passes line s passed k m (length fibre_bytes_lem) (length assign_bytes) few file.few f g)
      ∙ ap₂ (λ (x : List FibreRecord) (y : List AssignmentRecord). Ok (found line cs x y)) fibres-in assigns-in
      ∙ ap (λ (b : Option Breach). Ok (finding_by b (length_in fs) (floor line.links line.wavelengths cs))) (sound_yes line cs fs gs sound)
      ∙ ap (λ (p : Plan). Ok (Yes (total p.fibres) (floor line.links line.wavelengths cs))) (held_is k m fibres assigns)

-- WHAT `plan` WRITES
module _ (line : Line) (s : List ℕ) (before after : Areas) (counts : Counts) (o : Outcome line s before after (Ok counts)) where
  -- the tests of the circuits passed
  passed : NoneApplies (circuit_rows line s)
  passed = Tests.of_circuits line s _ _ _ (planned_so line s before after (Ok counts) o counts refl).0

  -- what they left
  took : Accepted line.links line.wavelengths (length s / 8) s
  took = Tests.accepted line s passed

  -- demands 2 and 3
  two : Seen2 line s before after counts
  two = seen_2 line s before after (Ok counts) o counts refl

  three : Seen3 line s before after counts
  three = seen_3 line s before after (Ok counts) o counts refl

  -- the fibre list is long enough for the records
  pub fibres_long : 8 * counts.fibres ≤ length after.fibres
  fibres_long =
      let laid = (plan_of line s).fibres in
      omega (
        arith,
        ap length (fibres_are line s before after (Ok counts) o counts refl),
        length-append (fibre_records 0 laid) (drop (8 * counts.fibres) before.fibres),
        length_fibre_records 0 laid,
        fibre_count line s before after (Ok counts) o counts refl,
      )

  -- and so is the assignment list
  pub assigns_long : length s ≤ length after.assigns
  unfolding assignment_list
  assigns_long =
      let cs = circuits_of s in
      let gs = (plan_of line s).assignments in
      omega (
        arith,
        ap length (planned_so line s before after (Ok counts) o counts refl).3,
        length-append (assignment_records 0 cs gs) (drop (8 * length cs) before.assigns),
        length_assignment_records 0 cs gs (Tests.promised line s passed).rules.valid.all_assigned,
        length_circuits_in (length s / 8) s,
        took.file.whole,
      )

  -- they are sound
  written_sound : Sound line (circuits_of s) (fibres_in counts.fibres after.fibres) (assignments_in (length s / 8) after.assigns)
  written_sound = records_sound line s counts.fibres after.fibres after.assigns two.numbered two.rules.fibres_on_line two.in_file_order two.valid

  -- so what `plan` writes gets a yes, with its total and its floor
  pub planned_yes : checked line s (written_fibres counts after) (written_assignments s after) ≡ Ok (Yes counts.total counts.floor)
  planned_yes =
      let few : counts.fibres ≤ 4096 = omega (arith, took.file.few, three.few_fibres) in
      records_yes line s counts.fibres after.fibres after.assigns passed few fibres_long assigns_long written_sound
      ∙ ap₂ (λ (x y : ℕ). Ok (Yes x y)) (sym two.the_total) (sym two.the_floor)
