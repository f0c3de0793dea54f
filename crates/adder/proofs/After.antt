-- Plans that calls of `plan` and `add` left, one after the other: how many fibres they have, and what the check says of them. Assumes nothing.
use Prim.Native.Nat.{ℕ, suc, min, ◌+◌, ◌*◌, ◌/◌, ◌≤◌}
use mathlib.Core.Path.{◌≡◌, refl, ap, ap₂, ◌∙◌, sym, subst}
use mathlib.Core.List.{List, ◌++◌}
use native.Mathlib.Omega.{arith}
use lib.ListN.{length, length-append, take}
use lib.Seq.{length-take-le, take-length, take-take}
use Rattle.records.specs.Records.{circuits_of}
use Rattle.records.specs.declared.Circuit.{Circuit}
use Rattle.records.specs.declared.Line.{Line}
use Rattle.method.specs.Line.{Plan, Valid, total}
use Rattle.method.specs.Fibres.{floor}
use Rattle.refusals.specs.Given.{NoneApplies}
use Rattle.register.specs.Areas.{Areas}
use Rattle.register.specs.Lists.{counts_of}
use Rattle.register.specs.Plans.{plan_in}
use Rattle.register.specs.declared.Counts.{Counts}
use Rattle.additions.specs.Grown.{FibresOn, Grown, Within}
use Rattle.additions.specs.Grown as Growth
use Rattle.additions.specs.Adding.{add_counts}
use Rattle.additions.proofs.Grown.{grown_within}
use Rattle.planner.specs.Outcome as Planner
use Rattle.std.specs.Prelude.{Ok}
use Rattle.planner.proofs.Accepting as Tests
use Rattle.planner.proofs.Demands as Demands
use Rattle.checker.specs.Checked.{checked}
use Rattle.checker.specs.Seen.{written_assignments, written_fibres}
use Rattle.checker.specs.declared.Finding.TheVariants.{Yes}
use Rattle.checker.proofs.Planned.{planned_yes, records_sound, records_yes}
use Rattle.checker.proofs.Planned as Checker
use Rattle.adder.specs.Table.{add_table}
use Rattle.adder.specs.Outcome.{Outcome, grown_plan, old_plan}
use Rattle.adder.specs.Seen.{Seen2}
use Rattle.adder.specs.Additions.{After, Begins, Files, added, files_left, named_in, plan_of_files, planned}
use Rattle.adder.specs.declared.Named.{Named}
use Rattle.adder.proofs.Reading.{same_start}
use Rattle.adder.proofs.Leaves.{addable, both_pass, due, new_records, old_records}
use Rattle.adder.proofs.Joined.{circuits_joined}
use Rattle.adder.proofs.Written.{grown_on_line, long_enough, read_back}
use Rattle.adder.proofs.Answers.{planned_so, seen_2}

-- the files that are left hold the plan that the lists held
left_plan_lem : (s : List ℕ) (m : ℕ) (counts : Counts) (lent : Areas) → length s ≡ 8 * m → 8 * counts.fibres ≤ length lent.fibres → length s ≤ length lent.assigns
    → plan_of_files (files_left s counts lent) ≡ plan_in counts.fibres m lent.fibres lent.assigns
left_plan_lem s m counts lent e f g =
    let k = counts.fibres in
    let fibres = take (8 * k) lent.fibres in
    let assigns = take (length s) lent.assigns in
    let a : length fibres / 8 ≡ k = omega (arith, length-take-le (8 * k) lent.fibres f) in
    let b : length assigns / 8 ≡ m = omega (arith, length-take-le (length s) lent.assigns g) in
    (λ i. plan_in (a i) (b i) fibres assigns)
    ∙ same_start k m (8 * k) (length s) fibres lent.fibres assigns lent.assigns (omega arith) (omega arith)
    (take-take (8 * k) (8 * k) lent.fibres (omega arith)) (take-take (length s) (length s) lent.assigns (omega arith))

-- lists that begin with the records of a plan hold it
begun_plan : (kept : Files) (lent : Areas) → Begins kept lent → old_plan (named_in kept) lent ≡ plan_of_files kept
begun_plan kept lent b =
    same_start (length kept.fibres / 8) (length kept.assigns / 8) (length kept.fibres) (length kept.assigns) lent.fibres kept.fibres lent.assigns kept.assigns
    (omega arith) (omega arith) (b.fibres ∙ sym (take-length kept.fibres)) (b.assigns ∙ sym (take-length kept.assigns))

-- ONE CALL of `add` that is planned, whoever made the old plan
module _ (line : Line) (old new : List ℕ) (named : Named) (before after : Areas) (counts : Counts) (o : Outcome line old new named before after (Ok counts)) where
  -- no test applies
  passed : NoneApplies (add_table line old new named before)
  passed = (planned_so line old new named before after (Ok counts) o counts refl).0

  -- demand 2
  two : Seen2 line old new named before after counts
  two = seen_2 line old new named before after (Ok counts) o counts refl

  -- the joined file is whole records
  joined_whole : length (old ++ new) ≡ 8 * (length old / 8 + length new / 8)
  joined_whole = omega (arith, length-append old new, old_records line old new named before passed, new_records line old new named before passed)

  -- there are as many as are counted
  many : length (old ++ new) / 8 ≡ length old / 8 + length new / 8
  many = omega (arith, joined_whole)

  -- the plan that the lists hold is the grown plan
  holds_grown : plan_in counts.fibres (length (old ++ new) / 8) after.fibres after.assigns ≡ grown_plan line old new named before
  unfolding add_counts counts_of
  holds_grown =
      let q = planned_so line old new named before after (Ok counts) o counts refl in
      (λ i. plan_in (q.1 i).fibres (many i) (q.2 i).fibres (q.2 i).assigns) ∙ read_back line old new named before passed

  -- the lists are long enough for their records
  fibres_long : 8 * counts.fibres ≤ length after.fibres
  unfolding add_counts counts_of
  fibres_long =
      let q = planned_so line old new named before after (Ok counts) o counts refl in
      omega (arith, ap (λ (c : Counts). c.fibres) q.1, ap (λ (a : Areas). length a.fibres) q.2, (long_enough line old new named before passed).0)

  assigns_long : length (old ++ new) ≤ length after.assigns
  assigns_long =
      let q = planned_so line old new named before after (Ok counts) o counts refl in
      omega (arith, ap (λ (a : Areas). length a.assigns) q.2, (long_enough line old new named before passed).1, length-append old new)

  -- WHAT AN ADDITION WRITES GETS A YES, with its total and its floor
  pub added_yes : checked line (old ++ new) (written_fibres counts after) (written_assignments (old ++ new) after) ≡ Ok (Yes counts.total counts.floor)
  added_yes =
      let s = old ++ new in
      let lie = both_pass line old new named before passed in
      let few : counts.fibres ≤ 4096 = omega (arith, two.few_fibres, two.passes.fit.few, (Tests.accepted line s lie).file.few, many) in
      let held : plan_in counts.fibres (length s / 8) after.fibres after.assigns ≡ plan_in counts.fibres (length old / 8 + length new / 8) after.fibres after.assigns =
      λ i. plan_in counts.fibres (many i) after.fibres after.assigns in
      records_yes line s counts.fibres after.fibres after.assigns lie few fibres_long assigns_long
      (records_sound line s counts.fibres after.fibres after.assigns two.numbered
      (subst (λ (q : Plan). FibresOn line.links q.fibres) (sym holds_grown) (grown_on_line line old new named before passed))
      (λ j h. two.in_file_order j (omega (arith, many)))
      (subst (Valid line.wavelengths (circuits_of s)) (sym held) two.valid))
      ∙ ap₂ (λ (x y : ℕ). Ok (Yes x y)) (ap (λ (q : Plan). total q.fibres) held ∙ sym two.the_total) (sym two.the_floor)

  -- the files that it leaves hold the grown plan
  leaves_grown : plan_of_files (files_left (old ++ new) counts after) ≡ grown_plan line old new named before
  leaves_grown = left_plan_lem (old ++ new) (length (old ++ new) / 8) counts after (omega (arith, joined_whole)) fibres_long assigns_long ∙ holds_grown

-- ONE CALL of `plan`: the files that it leaves hold R-1's plan
leaves_planned : (line : Line) (s : List ℕ) (before after : Areas) (counts : Counts) → Planner.Outcome line s before after (Ok counts)
    → plan_of_files (files_left s counts after) ≡ Planner.plan_of line s
leaves_planned line s before after counts o =
    let took = Tests.accepted line s (Tests.of_circuits line s _ _ _ (Demands.planned_so line s before after (Ok counts) o counts refl).0) in
    left_plan_lem s (length s / 8) counts after took.file.whole (Checker.fibres_long line s before after counts o) (Checker.assigns_long line s before after counts o)
    ∙ (Demands.seen_2 line s before after (Ok counts) o counts refl).the_plan

-- CALLS ONE AFTER THE OTHER grow a plan of R-1
grown : {k w : ℕ} {line : Line} {kept : Files} → After k w line kept → Grown k w (circuits_of kept.circuits) (plan_of_files kept)
grown (planned line s before after counts o) =
    let took = Tests.accepted line s (Tests.of_circuits line s _ _ _ (Demands.planned_so line s before after (Ok counts) o counts refl).0) in
    subst (Grown 0 line.wavelengths (circuits_of s)) (sym (leaves_planned line s before after counts o))
    (Growth.planned line.links line.wavelengths (circuits_of s) took.waves.0 took.file.lies)
grown (added {k = k} {w = w} {kept = kept} earlier line new before after counts b o) =
    let old = kept.circuits in
    let named = named_in kept in
    let p = passed line old new named before after counts o in
    let a = addable line old new named before p in
    let e = begun_plan kept before b in
    let here : Grown (suc k) (min w line.wavelengths) (circuits_of old ++ circuits_of new) (grown_plan line old new named before) =
    Growth.added (subst (Grown k w (circuits_of old)) (sym e) (grown earlier)) line.links line.wavelengths (circuits_of new) a.waves a.lies a.old_valid in
    subst (Grown (suc k) (min w line.wavelengths) (circuits_of (old ++ new))) (sym (leaves_grown line old new named before after counts o))
    (subst (λ (cs : List Circuit). Grown (suc k) (min w line.wavelengths) cs (grown_plan line old new named before))
    (sym (circuits_joined old new (old_records line old new named before p) (new_records line old new named before p))) here)

-- so demand 3 holds as R-2 has it
pub after_within : {k w : ℕ} {line : Line} {kept : Files} → After k w line kept → Within k w (circuits_of kept.circuits) (plan_of_files kept)
after_within calls = grown_within (grown calls)

-- and the check says yes to every plan that `plan` or an addition wrote
pub after_yes : {k w : ℕ} {line : Line} {kept : Files} → After k w line kept
    → checked line kept.circuits kept.fibres kept.assigns ≡ Ok (Yes (total (plan_of_files kept).fibres) (floor line.links line.wavelengths (circuits_of kept.circuits)))
after_yes (planned line s before after counts o) =
    let two = Demands.seen_2 line s before after (Ok counts) o counts refl in
    planned_yes line s before after counts o
    ∙ ap₂ (λ (x y : ℕ). Ok (Yes x y)) (two.the_total ∙ ap (λ (q : Plan). total q.fibres) (two.the_plan ∙ sym (leaves_planned line s before after counts o))) two.the_floor
after_yes (added {kept = kept} earlier line new before after counts b o) =
    let old = kept.circuits in
    let named = named_in kept in
    let two = seen_2 line old new named before after (Ok counts) o counts refl in
    let d = due line old new named before (passed line old new named before after counts o) in
    added_yes line old new named before after counts o
    ∙ ap₂ (λ (x y : ℕ). Ok (Yes x y))
    (ap (λ (c : Counts). c.total) (planned_so line old new named before after (Ok counts) o counts refl).1 ∙ d.total_is
    ∙ ap (λ (q : Plan). total q.fibres) (sym (leaves_grown line old new named before after counts o)))
    two.the_floor
