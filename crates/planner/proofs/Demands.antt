-- Every outcome of `plan` meets the demands. Assumes nothing.
use Prim.Native.Nat.{◌*◌, ◌+◌, ◌/◌, ◌<◌, suc, ℕ}
use lib.ListN.{drop, get_or, length, length-replicate, replicate, take}
use lib.Seq.{drop_at, take_at}
use mathlib.Core.List.{List, ◌++◌}
use mathlib.Core.Option.{some}
use mathlib.Core.Path.{◌∙◌, ◌≡◌, ap, refl, subst, sym}
use native.Mathlib.Omega.{arith}
use Rattle.std.specs.Prelude.{Ok, Err, Result}
use Rattle.records.specs.Records.{assignment_bytes, circuits_of, number_in, record_at}
use Rattle.records.specs.declared.Line.{Line}
use Rattle.records.proofs.Files.{circuits_in_at, length_circuits_in}
use Rattle.method.specs.Demands.{SamePlan}
use Rattle.method.specs.Fibres.{floor, plan}
use Rattle.method.specs.Line.{Plan, Valid, assigned, circuit, fibres_over, no_fibre, nobody, total, unassigned}
use Rattle.method.specs.LitDemands.{LitDemand, LitRules, lit_fibres}
use Rattle.method.proofs.Rearranged.{rearranged_once}
use Rattle.refusals.specs.Given.{NoneApplies}
use Rattle.refusals.specs.Refusals.{refusal_in}
use Rattle.refusals.specs.declared.Refusal.{Refusal}
use Rattle.refusals.proofs.EndLaws.{plan_tells}
use Rattle.refusals.proofs.First.{verdict_given, verdict_passed, verdict_passes, verdict_refused}
use Rattle.register.specs.Areas.{Areas, zeroed_to}
use Rattle.register.specs.Lists.{assignment_list, assignment_record, assignment_records, counts_of, fibre_list, fibre_record, fibre_records}
use Rattle.register.specs.Plans.{plan_in}
use Rattle.register.specs.declared.Counts.{Counts}
use Rattle.register.proofs.Reading.{assignment_read, assignment_record_lem, fibre_read, fibre_record_lem, length_assignment_records, length_fibre_records, plan_read}
use Rattle.rows.specs.Accepted.{Accepted}
use Rattle.planner.specs.Outcome.{Answer, Outcome, answer_by, if_accepted, judged, numbers_of, plan_of, table_for}
use Rattle.planner.specs.Seen.{SameSheet, Seen, Seen1, Seen2, Seen3, TwoOrders, held}
use Rattle.planner.proofs.Accepting.{accepted, of_circuits, promised}
use Rattle.planner.proofs.Among.{Among, among_passes}

-- the plan and its numbers are the same on every grid
pub grid_idle : (n w a b : ℕ) (s : List ℕ) → let one : Line = record { links = n; wavelengths = w; grid = a } in let two : Line = record { links = n; wavelengths = w; grid = b } in (plan_of one s ≡ plan_of two s) × (numbers_of one s ≡ numbers_of two s)
grid_idle n w a b s = (refl, refl)

module _ (line : Line) (s : List ℕ) (before after : Areas) (answer : Answer) (o : Outcome line s before after answer) where
  -- a refusal is the verdict's, and changes nothing
  refused_so : (r : Refusal) → refusal_in answer ≡ some r → (judged line s before ≡ Err r) × (after ≡ before)
  refused_so r e = go (judged line s before) refl o.answered o.listed o.assigned o.cleared
    where
      go : (t : Result ℕ Refusal) → judged line s before ≡ t → answer ≡ answer_by t (numbers_of line s)
          → after.fibres ≡ if_accepted t (fibre_list 0 (plan_of line s).fibres before.fibres) before.fibres
          → after.assigns ≡ if_accepted t (assignment_list 0 (circuits_of s) (plan_of line s).assignments before.assigns) before.assigns
          → after.work ≡ if_accepted t (zeroed_to (4 * line.links + 4 * (length s / 8)) before.work) before.work
          → (judged line s before ≡ Err r) × (after ≡ before)
      go (Ok m) q a f g h = let z = sym (ap refusal_in a) ∙ e in cc
      go (Err w) q a f g h =
          let z = sym (ap refusal_in a) ∙ e in
          (q ∙ (let y : w ≡ r = cc in ap Err y), λ i. record { fibres = f i; assigns = g i; work = h i })

  -- a planned answer has the plan's numbers, and the lists are written
  pub planned_so : (counts : Counts) → answer ≡ Ok counts
      → NoneApplies (table_for line s before) × (counts ≡ numbers_of line s) × (after.fibres ≡ fibre_list 0 (plan_of line s).fibres before.fibres)
      × (after.assigns ≡ assignment_list 0 (circuits_of s) (plan_of line s).assignments before.assigns)
      × (after.work ≡ zeroed_to (4 * line.links + 4 * (length s / 8)) before.work)
  unfolding judged
  planned_so counts e = go (judged line s before) refl o.answered o.listed o.assigned o.cleared
    where
      go : (t : Result ℕ Refusal) → judged line s before ≡ t → answer ≡ answer_by t (numbers_of line s)
          → after.fibres ≡ if_accepted t (fibre_list 0 (plan_of line s).fibres before.fibres) before.fibres
          → after.assigns ≡ if_accepted t (assignment_list 0 (circuits_of s) (plan_of line s).assignments before.assigns) before.assigns
          → after.work ≡ if_accepted t (zeroed_to (4 * line.links + 4 * (length s / 8)) before.work) before.work
          → NoneApplies (table_for line s before) × (counts ≡ numbers_of line s) × (after.fibres ≡ fibre_list 0 (plan_of line s).fibres before.fibres)
          × (after.assigns ≡ assignment_list 0 (circuits_of s) (plan_of line s).assignments before.assigns)
          × (after.work ≡ zeroed_to (4 * line.links + 4 * (length s / 8)) before.work)
      go (Ok m) q a f g h =
          let z : ◌≡◌ {A = Answer} (Ok (numbers_of line s)) (Ok counts) = sym a ∙ e in
          ((verdict_passed (table_for line s before) (length s / 8) m q).1, cc, f, g, h)
      go (Err w) q a f g h = let z = sym e ∙ a in cc

  -- demand 1
  pub seen_1 : Seen1 line s before after answer
  unfolding judged
  seen_1 =
      record {
        as_tabled = λ r e. verdict_refused (table_for line s before) (length s / 8) r (refused_so r e).0;
        whenever_tabled = λ r g. ap refusal_in (o.answered ∙ ap (λ (t : Result ℕ Refusal). answer_by t (numbers_of line s)) (verdict_given (table_for line s before) (length s / 8) r g));
        otherwise_planned = λ f. (numbers_of line s, o.answered ∙ ap (λ (t : Result ℕ Refusal). answer_by t (numbers_of line s)) (verdict_passes (table_for line s before) (length s / 8) f));
        end_told = λ r e. (let g = verdict_refused (table_for line s before) (length s / 8) r (refused_so r e).0 in (plan_tells line s _ _ _).at g.index r g.below g.here);
        unchanged = λ r e. (refused_so r e).1;
      }

  module _ (counts : Counts) (e : answer ≡ Ok counts) where
    -- what the tests left
    took : Accepted line.links line.wavelengths (length s / 8) s
    took = accepted line s (of_circuits line s _ _ _ (planned_so counts e).0)

    -- what is promised of the plan
    due : LitDemand line.links line.wavelengths (circuits_of s)
    due = promised line s (of_circuits line s _ _ _ (planned_so counts e).0)

    -- how many circuits
    many : length (circuits_of s) ≡ length s / 8
    many = length_circuits_in (length s / 8) s

    -- each has an assignment
    many_given : length (plan_of line s).assignments ≡ length (circuits_of s)
    many_given = due.rules.valid.all_assigned

    -- how many fibres
    pub fibre_count : counts.fibres ≡ length (plan_of line s).fibres
    unfolding counts_of
    fibre_count = ap (λ (c : Counts). c.fibres) (planned_so counts e).1

    -- the lists hold the plan
    read_back : held line s before after counts ≡ plan_of line s
    read_back =
        let p = planned_so counts e in
        (λ i. plan_in (fibre_count i) (sym many i) (p.2 i) (p.3 i)) ∙ plan_read (plan_of line s) (circuits_of s) before.fibres before.assigns many_given

    -- the total is that of the plan
    total_is : counts.total ≡ total (plan_of line s).fibres
    unfolding counts_of
    total_is = ap (λ (c : Counts). c.total) (planned_so counts e).1

    -- the floor is that of the circuits
    floor_is : counts.floor ≡ floor line.links line.wavelengths (circuits_of s)
    unfolding counts_of
    floor_is = ap (λ (c : Counts). c.floor) (planned_so counts e).1

    -- the fibre list starts with the records of the fibres
    pub fibres_are : after.fibres ≡ fibre_records 0 (plan_of line s).fibres ++ drop (8 * counts.fibres) before.fibres
    unfolding fibre_list
    fibres_are = (planned_so counts e).2 ∙ ap (λ (k : ℕ). fibre_records 0 (plan_of line s).fibres ++ drop (8 * k) before.fibres) (sym fibre_count)

    -- the assignment list with those of what the circuits are given
    assigns_are : after.assigns ≡ assignment_records 0 (circuits_of s) (plan_of line s).assignments ++ drop (length s) before.assigns
    unfolding assignment_list
    assigns_are =
        let k : 8 * length (circuits_of s) ≡ length s = omega (arith, many, took.file.whole) in
        (planned_so counts e).3 ∙ ap (λ (x : ℕ). assignment_records 0 (circuits_of s) (plan_of line s).assignments ++ drop x before.assigns) k

    -- the work area with zeros
    work_is : after.work ≡ replicate (4 * line.links + 4 * (length s / 8)) 0 ++ drop (4 * line.links + 4 * (length s / 8)) before.work
    unfolding zeroed_to
    work_is = (planned_so counts e).4

    -- record i of the fibre list
    fibre_at_lem : (i : ℕ) → i < counts.fibres → record_at after.fibres i ≡ fibre_record (0 + suc i) (get_or (plan_of line s).fibres i no_fibre)
    fibre_at_lem i h =
        ap (λ (x : List ℕ). record_at x i) fibres_are
        ∙ fibre_record_lem 0 (plan_of line s).fibres (drop (8 * counts.fibres) before.fibres) i (omega (arith, fibre_count))

    -- record j of the assignment list
    pub assignment_at_lem : (j : ℕ) → j < length s / 8 → record_at after.assigns j ≡ assignment_record 0 (get_or (circuits_of s) j nobody) (get_or (plan_of line s).assignments j unassigned)
    assignment_at_lem j h =
        ap (λ (x : List ℕ). record_at x j) assigns_are
        ∙ assignment_record_lem 0 (circuits_of s) (plan_of line s).assignments (drop (length s) before.assigns) j many_given (omega (arith, many))

    -- demand 2
    pub seen_2 : Seen2 line s before after counts
    unfolding counts_of
    seen_2 =
        let cs = circuits_of s in
        let p = plan_of line s in
        let k = 4 * line.links + 4 * (length s / 8) in
        record {
          the_plan = read_back;
          valid = subst (Valid line.wavelengths cs) (sym read_back) due.rules.valid;
          rules = subst (LitRules line.links line.wavelengths cs (plan line.links line.wavelengths cs)) (sym read_back) due.rules;
          numbered = λ i h. (fibre_read (0 + suc i) (get_or p.fibres i no_fibre) (record_at after.fibres i) (fibre_at_lem i h)).0 ∙ omega arith;
          in_file_order = λ j h.
              (assignment_read (get_or cs j nobody) (get_or p.assignments j unassigned) (record_at after.assigns j) (assignment_at_lem j h)).0
              ∙ ap (λ c. c.number) (circuits_in_at (length s / 8) s j nobody h);
          the_total = total_is ∙ sym (ap (λ (q : Plan). total q.fibres) read_back);
          the_floor = floor_is;
          fibres_kept =
              ap (drop (8 * counts.fibres)) fibres_are
              ∙ drop_at (fibre_records 0 p.fibres) (drop (8 * counts.fibres) before.fibres) (8 * counts.fibres) (omega (arith, length_fibre_records 0 p.fibres, fibre_count));
          assigns_kept =
              ap (drop (length s)) assigns_are
              ∙ drop_at (assignment_records 0 cs p.assignments) (drop (length s) before.assigns) (length s)
              (omega (arith, length_assignment_records 0 cs p.assignments many_given, many, took.file.whole));
          work_zeroed = ap (take k) work_is ∙ take_at (replicate k 0) (drop k before.work) k (length-replicate k 0);
          work_kept = ap (drop k) work_is ∙ drop_at (replicate k 0) (drop k before.work) k (length-replicate k 0);
        }

    -- demand 3
    pub seen_3 : Seen3 line s before after counts
    unfolding lit_fibres
    seen_3 =
        let over : (i : ℕ) → fibres_over (held line s before after counts).fibres i ≡ fibres_over (plan_of line s).fibres i = λ i. ap (λ (q : Plan). fibres_over q.fibres i) read_back in
        record {
          twice_over = λ p v i a b. omega (arith, over i, due.twice_over p v i a b);
          twice_total = λ p v. omega (arith, total_is, due.twice_total p v);
          over_few = λ i a b. omega (arith, over i, due.over_few i a b);
          total_few = omega (arith, total_is, floor_is, due.total_few);
          few_fibres = omega (arith, fibre_count, due.few_fibres, many);
        }

-- every call of `plan` meets the demands
pub seen : (line : Line) (s : List ℕ) (before after : Areas) (answer : Answer) → Outcome line s before after answer → Seen line s before after answer
seen line s before after answer o =
    record {
      demand_1 = seen_1 line s before after answer o;
      demand_2 = seen_2 line s before after answer o;
      demand_3 = seen_3 line s before after answer o;
    }

-- the number of a circuit, read and listed
pub number_read : (r : List ℕ) (i : ℕ) → i < length r / 8 → (get_or (circuits_of r) i nobody).number ≡ number_in r i
number_read r i h = ap (λ c. c.number) (circuits_in_at (length r / 8) r i nobody h)

-- TWO CALLS with the same records in another file order, and lent areas of the same lengths
module _ (line : Line) (s s' : List ℕ) (before after before' after' : Areas) (answer answer' : Answer) (orders : TwoOrders line s s' before after before' after' answer answer')
    (counts : Counts) (e : answer ≡ Ok counts) where
  -- what the first call's tests left
  passed : NoneApplies (table_for line s before)
  passed = (planned_so line s before after answer orders.one counts e).0

  -- the plans are the same
  alike : SamePlan line.links line.wavelengths (circuits_of s) (circuits_of s') (plan_of line s) (plan_of line s')
  alike =
      let p = of_circuits line s _ _ _ passed in
      (promised line s p).any_order (circuits_of s') (accepted line s p).file.distinct orders.same

  -- the second call's records are those of the first
  among : Among s s'
  among =
      let a = accepted line s (of_circuits line s _ _ _ passed) in
      record {
        whole = omega (arith, orders.long, a.file.whole);
        few = omega (arith, orders.long);
        once = rearranged_once (circuits_of s) (circuits_of s') a.file.distinct orders.same;
        from = λ j l. (let x = orders.same.fro j l in (orders.same.back j, x.0, x.2));
      }

  -- the second call's tests leave it too
  passed' : NoneApplies (table_for line s' before')
  passed' =
      among_passes line s s' among _ _ _ _ _ _ (omega (arith, orders.rooms.0)) (omega (arith, orders.rooms.1)) (omega (arith, orders.rooms.2)) passed

  -- so it is planned, with the same numbers
  planned_too : answer' ≡ Ok counts
  unfolding counts_of
  planned_too =
      let p = (seen_1 line s' before' after' answer' orders.two).otherwise_planned passed' in
      let numbers : numbers_of line s ≡ numbers_of line s' =
      λ i. record { fibres = length (alike.fibres_same i); total = alike.total_same i; floor = alike.floor_same i } in
      p.1
      ∙ ap Ok
      ((planned_so line s' before' after' answer' orders.two p.0 p.1).1
      ∙ sym numbers
      ∙ sym (planned_so line s before after answer orders.one counts e).1)

  -- and with the same fibre records, and the same assignment record for each circuit
  pub same_sheet : SameSheet s s' after after' counts answer'
  unfolding assigned circuit assignment_record
  same_sheet =
      let fs = (plan_of line s).fibres in
      let fs' = (plan_of line s').fibres in
      let many_fibres = fibre_count line s before after answer orders.one counts e in
      let many-fibres' = fibre_count line s' before' after' answer' orders.two counts planned_too in
      record {
        same_answer = planned_too;
        same_fibres =
            ap (take (8 * counts.fibres)) (fibres_are line s' before' after' answer' orders.two counts planned_too)
            ∙ take_at (fibre_records 0 fs') _ (8 * counts.fibres) (omega (arith, length_fibre_records 0 fs', many-fibres'))
            ∙ ap (fibre_records 0) (sym alike.fibres_same)
            ∙ sym
            (ap (take (8 * counts.fibres)) (fibres_are line s before after answer orders.one counts e)
            ∙ take_at (fibre_records 0 fs) _ (8 * counts.fibres) (omega (arith, length_fibre_records 0 fs, many_fibres)));
        same_assignment = λ i j a b q.
            let number : (get_or (circuits_of s) i nobody).number ≡ (get_or (circuits_of s') j nobody).number = number_read s i a ∙ q ∙ sym (number_read s' j b) in
            let given_same = alike.assigned_same i j (omega (arith, length_circuits_in (length s / 8) s)) (omega (arith, length_circuits_in (length s' / 8) s')) number in
            sym
            (assignment_at_lem line s before after answer orders.one counts e i a
            ∙ (λ x. assignment_bytes (record { circuit = number x; fibre = 0 + (given_same x).fibre; wavelength = (given_same x).wavelength }))
            ∙ sym (assignment_at_lem line s' before' after' answer' orders.two counts planned_too j b));
      }
