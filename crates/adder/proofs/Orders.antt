-- Two calls of `add` with the same records in another order give the same sheet. Assumes nothing.
use Prim.Native.Nat.{ℕ, ◌+◌, ◌*◌, ◌/◌, ◌<◌}
use mathlib.Core.Path.{◌≡◌, refl, ap, ap₂, ◌∙◌, sym, subst}
use mathlib.Core.List.{List, ◌++◌}
use native.Mathlib.Omega.{arith}
use lib.ListN.{drop, length, length-append, take}
use Rattle.basics.proofs.Tables.{length_each}
use Rattle.records.specs.Records.{assignment_of, circuits_of, fibre_of, number_in, record_at}
use Rattle.records.specs.declared.AssignmentRecord.{AssignmentRecord}
use Rattle.records.specs.declared.Circuit.{Circuit}
use Rattle.records.specs.declared.FibreRecord.{FibreRecord}
use Rattle.records.specs.declared.Line.{Line}
use Rattle.records.proofs.Files.{length_circuits_in}
use Rattle.method.specs.Demands.{Rearranged, SamePlan}
use Rattle.method.specs.Line.{Distinct, Fibre, Plan, Valid, assigned, circuit}
use Rattle.method.proofs.Rearranged.{rearranged_once}
use Rattle.refusals.specs.Given.{NoneApplies}
use Rattle.refusals.specs.Table.{circuit_rows}
use Rattle.register.specs.Areas.{Areas}
use Rattle.register.specs.Lists.{assignment_record, counts_of, fibre_records}
use Rattle.register.specs.Plans.{place_of, plan_in}
use Rattle.register.specs.declared.Counts.{Counts}
use Rattle.register.proofs.Reading.{assigned_in}
use Rattle.places.specs.Turns.{number}
use Rattle.places.proofs.RisingLaws.{twin_of}
use Rattle.places.proofs.TwoFiles.{old_or_new}
use Rattle.additions.specs.AddDemands.{Permuted}
use Rattle.additions.specs.Adding.{add_counts}
use Rattle.additions.specs.Grown.{FibresOn}
use Rattle.planner.specs.Seen.{SameSheet}
use Rattle.planner.specs.Outcome.{Answer}
use Rattle.std.specs.Prelude.{Ok}
use Rattle.planner.proofs.Accepting as Tests
use Rattle.planner.proofs.Among.{Among, circuits_pass}
use Rattle.planner.proofs.Demands.{number_read}
use Rattle.checker.specs.Sound.{Sound}
use Rattle.checker.specs.Checked.{assignments_in, fibres_in}
use Rattle.checker.proofs.Planned.{records_sound}
use Rattle.checker.proofs.Reading.{assignments_in_at, fibres_in_at, length_fibres_in}
use Rattle.adder.specs.Table.{add_table}
use Rattle.adder.specs.Outcome.{grown_numbers, grown_plan, old_plan}
use Rattle.adder.specs.Seen.{Fit}
use Rattle.adder.specs.Additions.{TwoAdditions}
use Rattle.adder.specs.declared.Named.{Named}
use Rattle.adder.proofs.Joined.{circuits_joined}
use Rattle.adder.proofs.Leaves.{add_passes, both_pass, due, fit, new_records, old_on_line, old_records, old_valid, one_each, rooms}
use Rattle.adder.proofs.Reading.{same_record, same_start}
use Rattle.adder.proofs.Rearranging.{both_rearranged, new_there, old_there, permuted_valid}
use Rattle.adder.proofs.Written.{assignment_new, fibres_start, grown_areas, old_assignment}
use Rattle.adder.proofs.Answers.{planned_so, seen_1}

module _ (line : Line) (named : Named) (old new old' new' : List ℕ) (before after before' after' : Areas) (answer answer' : Answer)
    (calls : TwoAdditions line named old new old' new' before after before' after' answer answer') (counts : Counts) (e : answer ≡ Ok counts) where
  -- what the first call's tests left
  passed : NoneApplies (add_table line old new named before)
  passed = (planned_so line old new named before after answer calls.one counts e).0

  -- its old plan is fit
  sound : Fit line old named before
  sound = fit line old new named before passed

  -- there are as many assignments as old circuits
  given_old : named.assignments ≡ length old / 8
  given_old = one_each line old named before sound

  -- whole records in each file
  whole : 8 * (length old / 8) ≡ length old
  whole = old_records line old new named before passed

  whole_new : 8 * (length new / 8) ≡ length new
  whole_new = new_records line old new named before passed

  whole' : 8 * (length old' / 8) ≡ length old'
  whole' = omega (arith, whole, calls.old_long)

  whole_new' : 8 * (length new' / 8) ≡ length new'
  whole_new' = omega (arith, whole_new, calls.new_long)

  -- both files, rearranged
  both : Rearranged (circuits_of old ++ circuits_of new) (circuits_of old' ++ circuits_of new')
  both = both_rearranged (circuits_of old) (circuits_of new) (circuits_of old') (circuits_of new') calls.old_same calls.new_same

  joined : Rearranged (circuits_of (old ++ new)) (circuits_of (old' ++ new'))
  joined =
      subst (Rearranged (circuits_of (old ++ new))) (sym (circuits_joined old' new' whole' whole_new'))
      (subst (λ (cs : List Circuit). Rearranged cs (circuits_of old' ++ circuits_of new')) (sym (circuits_joined old new whole whole_new)) both)

  -- no number of both stands twice
  once : Distinct (circuits_of (old ++ new))
  once = (Tests.accepted line (old ++ new) (both_pass line old new named before passed)).file.distinct

  -- the second call's records are those of the first
  among : Among (old ++ new) (old' ++ new')
  among =
      let l = length-append old new in
      let l' = length-append old' new' in
      let a = calls.old_long in
      let b = calls.new_long in
      record {
        whole = omega (arith, whole, whole_new);
        few = omega arith;
        once = rearranged_once (circuits_of (old ++ new)) (circuits_of (old' ++ new')) once joined;
        from = λ j h. (let x = joined.fro j h in (joined.back j, x.0, x.2));
      }

  -- so they pass the tests
  both_pass' : NoneApplies (circuit_rows line (old' ++ new'))
  both_pass' = circuits_pass line (old ++ new) (old' ++ new') among (both_pass line old new named before passed)

  -- the old fibre records are the same
  fibre_same : (i : ℕ) → i < named.fibres → record_at before'.fibres i ≡ record_at before.fibres i
  fibre_same i h = same_record (8 * named.fibres) before'.fibres before.fibres calls.fibres_same i (omega arith)

  -- the old assignment records are permuted like the circuits
  assignment_same : (j : ℕ) → j < length old' / 8 → record_at before'.assigns j ≡ record_at before.assigns (calls.old_same.back j)
  assignment_same j h =
      let x = calls.old_same.fro j (omega (arith, length_circuits_in (length old' / 8) old')) in
      let b = x.0 in
      ap (record_at before'.assigns) (sym x.1) ∙ calls.assignments_same (calls.old_same.back j) (omega (arith, length_circuits_in (length old / 8) old))

  -- so the old plan is the same, permuted
  permuted : Permuted (circuits_of old) (old_plan named before) (circuits_of old') (old_plan named before')
  unfolding plan_in
  permuted =
      let k = length_circuits_in (length old / 8) old in
      let k' = length_circuits_in (length old' / 8) old' in
      let a = named.assignments in
      record {
        records = calls.old_same;
        fibres_same =
            ap (λ (q : Plan). q.fibres)
            (same_start named.fibres 0 (8 * named.fibres) 0 before.fibres before'.fibres before.assigns before.assigns (omega arith) (omega arith) (sym calls.fibres_same) refl);
        one_each = omega (arith, length_each (λ j. place_of (assignment_of (record_at before'.assigns j))) 0 a, given_old, calls.old_long);
        assigned_same = λ i h.
            let b = (calls.old_same.to i h).0 in
            assigned_in named.fibres a before.fibres before.assigns i (omega (arith, given_old))
            ∙ ap (λ (r : List ℕ). place_of (assignment_of r)) (sym (calls.assignments_same i (omega arith)))
            ∙ sym (assigned_in named.fibres a before'.fibres before'.assigns (calls.old_same.there i) (omega (arith, given_old, calls.old_long)));
      }

  -- and as fit as the first
  sound' : Fit line old' named before'
  unfolding circuit
  sound' =
      let k = named.fibres in
      let a = named.assignments in
      let m' = length old' / 8 in
      let z : a ≡ m' = omega (arith, given_old, calls.old_long) in
      let counted = length_circuits_in (length old / 8) old in
      let counted' = length_circuits_in m' old' in
      let held : plan_in k a before'.fibres before'.assigns ≡ plan_in k m' before'.fibres before'.assigns = λ i. plan_in k (z i) before'.fibres before'.assigns in
      record {
        few = sound.few;
        sound = subst (λ (x : ℕ). Sound line (circuits_of old') (fibres_in k before'.fibres) (assignments_in x before'.assigns)) (sym z)
            (records_sound line old' k before'.fibres before'.assigns
            (λ i h.
            ap (λ (r : List ℕ). (fibre_of r).number) (fibre_same i h) ∙ sym (ap (λ (f : FibreRecord). f.number) (fibres_in_at k before.fibres i _ h))
            ∙ sound.sound.numbered i (omega (arith, length_fibres_in k before.fibres)))
            (subst (λ (q : Plan). FibresOn line.links q.fibres) held (subst (FibresOn line.links) permuted.fibres_same (old_on_line line old named before sound)))
            (λ j h.
            let x = calls.old_same.fro j (omega arith) in
            let b = x.0 in
            ap (λ (r : List ℕ). (assignment_of r).circuit) (assignment_same j h)
            ∙ sym (ap (λ (g : AssignmentRecord). g.circuit) (assignments_in_at a before.assigns (calls.old_same.back j) _ (omega (arith, given_old))))
            ∙ sound.sound.in_file_order (calls.old_same.back j) x.0
            ∙ ap (λ (c : Circuit). c.number) (sym x.2) ∙ number_read old' j h)
            (subst (Valid line.wavelengths (circuits_of old')) held
            (permuted_valid line.wavelengths (circuits_of old) (old_plan named before) (circuits_of old') (old_plan named before') permuted (old_valid line old named before sound))));
      }

  -- so the second call's tests leave it too
  passed' : NoneApplies (add_table line old' new' named before')
  passed' =
      let r = rooms line old new named before passed in
      let a = calls.old_long in
      let b = calls.new_long in
      add_passes line old' new' named before' whole' whole_new' both_pass' sound'
      (omega (arith, r.0, calls.rooms.0)) (omega (arith, r.1, calls.rooms.1)) (omega (arith, r.2, calls.rooms.2))

  -- the grown plans
  abbrev P : Plan
  P = grown_plan line old new named before

  abbrev P' : Plan
  P' = grown_plan line old' new' named before'

  -- are the same
  alike : SamePlan line.links line.wavelengths (circuits_of old ++ circuits_of new) (circuits_of old' ++ circuits_of new') P P'
  alike = (due line old new named before passed).any_order (circuits_of old') (old_plan named before') (circuits_of new') permuted calls.new_same

  -- with the same numbers
  numbers_same : grown_numbers line old new named before ≡ grown_numbers line old' new' named before'
  unfolding add_counts counts_of
  numbers_same = λ i. record { fibres = length (alike.fibres_same i); total = alike.total_same i; floor = alike.floor_same i }

  -- so the second call is planned, with the same answer
  planned_too : answer' ≡ Ok counts
  planned_too =
      let p = (seen_1 line old' new' named before' after' answer' calls.two).otherwise_planned passed' in
      p.1
      ∙ ap Ok
      ((planned_so line old' new' named before' after' answer' calls.two p.0 p.1).1
      ∙ sym numbers_same ∙ sym (planned_so line old new named before after answer calls.one counts e).1)

  -- the areas that each leaves
  left : after ≡ grown_areas line old new named before
  left = (planned_so line old new named before after answer calls.one counts e).2

  left' : after' ≡ grown_areas line old' new' named before'
  left' = (planned_so line old' new' named before' after' answer' calls.two counts planned_too).2

  -- the same fibre records
  fibres_alike : take (8 * counts.fibres) after'.fibres ≡ take (8 * counts.fibres) after.fibres
  unfolding add_counts counts_of
  fibres_alike =
      let q = ap (λ (c : Counts). c.fibres) (planned_so line old new named before after answer calls.one counts e).1 in
      let k = named.fibres in
      (λ i. take (8 * (q ∙ ap length alike.fibres_same) i) (left' i).fibres)
      ∙ fibres_start line old' new' named before' passed'
      ∙ ap₂ (λ (s : List ℕ) (fs : List Fibre). s ++ fibre_records k (drop k fs)) calls.fibres_same (sym alike.fibres_same)
      ∙ sym ((λ i. take (8 * q i) (left i).fibres) ∙ fibres_start line old new named before passed)

  -- the same assignment record where circuit i went
  assignment_there : (i : ℕ) → i < length (circuits_of old ++ circuits_of new) → record_at after'.assigns (both.there i) ≡ record_at after.assigns i
  unfolding both
  assignment_there i h =
      let cs = circuits_of old in
      let ds = circuits_of new in
      let cs' = circuits_of old' in
      let ds' = circuits_of new' in
      let k = length_circuits_in (length old / 8) old in
      let k' = length_circuits_in (length old' / 8) old' in
      let m = length_circuits_in (length new / 8) new in
      let m' = length_circuits_in (length new' / 8) new' in
      old_or_new cs ds i h
      (λ l.
      let b = (calls.old_same.to i l).0 in
      (λ x. record_at (left' x).assigns (old_there cs ds cs' ds' calls.old_same calls.new_same i l x))
      ∙ old_assignment line old' new' named before' passed' (calls.old_same.there i) (omega arith)
      ∙ calls.assignments_same i (omega arith)
      ∙ sym (ap (λ (a : Areas). record_at a.assigns i) left ∙ old_assignment line old new named before passed i (omega arith)))
      (λ t l q.
      let y = calls.new_same.to t l in
      let b = y.0 in
      let t' = calls.new_same.there t in
      let z : both.there i ≡ length old' / 8 + t' = ap both.there q ∙ new_there cs ds cs' ds' calls.old_same calls.new_same t ∙ ap (λ (x : ℕ). x + t') k' in
      let d : i ≡ length old / 8 + t = q ∙ ap (λ (x : ℕ). x + t) k in
      let x = both.to i h in
      let given = alike.assigned_same i (both.there i) h x.0 (ap (λ (c : Circuit). c.number) x.2) in
      (λ x. record_at (left' x).assigns (z x))
      ∙ assignment_new line old' new' named before' passed' t' (omega arith)
      ∙ ap₂ (assignment_record 0) (sym y.2) (ap (assigned P') (sym z) ∙ sym given ∙ ap (assigned P) d)
      ∙ sym ((λ x. record_at (left x).assigns (d x)) ∙ assignment_new line old new named before passed t (omega arith)))

  -- THE SAME SHEET
  pub same_addition : SameSheet (old ++ new) (old' ++ new') after after' counts answer'
  same_addition =
      record {
        same_answer = planned_too;
        same_fibres = fibres_alike;
        same_assignment = λ i j a b q.
            let s = old ++ new in
            let s' = old' ++ new' in
            let n = length_circuits_in (length s / 8) s in
            let n' = length_circuits_in (length s' / 8) s' in
            let c = circuits_joined old new whole whole_new in
            let c' = circuits_joined old' new' whole' whole_new' in
            let h : i < length (circuits_of old ++ circuits_of new) = omega (arith, ap length c) in
            let h' : j < length (circuits_of old' ++ circuits_of new') = omega (arith, ap length c') in
            let same : number (circuits_of old ++ circuits_of new) i ≡ number (circuits_of old' ++ circuits_of new') j =
            ap (λ (cs : List Circuit). number cs i) (sym c) ∙ numbers_read s i a ∙ q ∙ sym (numbers_read s' j b) ∙ ap (λ (cs : List Circuit). number cs j) c' in
            let t = twin_of (circuits_of old ++ circuits_of new) (circuits_of old' ++ circuits_of new') (subst Distinct c once) both i j h h' same in
            ap (record_at after'.assigns) t.is ∙ assignment_there i h;
      }
    where
      numbers_read : (r : List ℕ) (i : ℕ) → i < length r / 8 → number (circuits_of r) i ≡ number_in r i
      numbers_read r i h = unfold circuit in number_read r i h
