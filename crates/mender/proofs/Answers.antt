-- Every outcome of `mend`, for what a caller sees. Assumes nothing.
use Prim.Native.Nat.{ℕ, ◌+◌, ◌*◌, ◌/◌, ◌<◌, ◌≤◌}
use mathlib.Core.Path.{◌≡◌, refl, ap, ap₂, ◌∙◌, sym, subst}
use mathlib.Core.Bool.{false}
use mathlib.Core.List.{List, [], ◌++◌, append-nil}
use mathlib.Core.Option.{some}
use native.Mathlib.Omega.{arith}
use lib.ListN.{drop, get_or, length, length-append, length-replicate, replicate, take}
use lib.Seq.{drop_at, drop-nil, take_at}
use Rattle.std.specs.Prelude.{Result, Ok, Err}
use Rattle.basics.proofs.Counts.{count_below}
use Rattle.records.specs.Records.{assignment_bytes, assignment_of, circuits_of, record_at}
use Rattle.records.specs.declared.Line.{Line}
use Rattle.records.proofs.Files.{circuits_in_at, length_circuits_in, length_record_at, record_at_bytes}
use Rattle.records.proofs.Inverse.{assignment_written_read}
use Rattle.method.specs.Line.{Assignment, Fibre, Plan, Valid, assigned, circuit, nobody, total, unassigned}
use Rattle.refusals.specs.Given.{NoneApplies}
use Rattle.refusals.specs.Refusals.{refusal_in}
use Rattle.refusals.specs.Table.{Row}
use Rattle.refusals.specs.declared.Refusal.{Refusal}
use Rattle.refusals.proofs.First.{verdict_given, verdict_passed, verdict_passes, verdict_refused}
use Rattle.register.specs.Areas.{zeroed_to}
use Rattle.register.specs.Lists.{assignment_list, assignment_record, assignment_records, behind, fibre_list}
use Rattle.register.specs.Plans.{Numbered, plan_in}
use Rattle.register.specs.declared.Counts.{Counts}
use Rattle.register.proofs.Reading.{assignment_read, assignment_record_lem, length_assignment_records, plan_read}
use Rattle.planner.specs.Outcome.{if_accepted}
use Rattle.checker.proofs.Reading.{assignments_in_at}
use Rattle.mending.specs.Mending.{Mend, ReportLine, mend_counts, mend_lines, mended_records, no_record, record_of}
use Rattle.mending.specs.Mended as Lists
use Rattle.mending.specs.Mended.{reported}
use Rattle.mending.specs.MendDemands.{MendDemand}
use Rattle.mending.proofs.Sound.{record_is}
use Rattle.mender.specs.Report.{Lent, lent_areas, report_bytes, report_in, report_list}
use Rattle.mender.specs.Table.{mend_table}
use Rattle.mender.specs.declared.Mended.{Mended}
use Rattle.mender.specs.Outcome.{Outcome, answer_by, damaged, judged, mended_to, old_fibres, Answer, mended_with}
use Rattle.mender.specs.Seen.{Bytes, Passes, Seen, Seen1, Seen2, held}
use Rattle.mender.proofs.Leaves.{due, fibre_room, fit, fit_numbered, fit_passes, many_fibres, mend_passes, mend_tells, mend_tells_fibre, of_circuits, one_each, passes_fit, report_room, work_room}
use Rattle.mender.proofs.Reading.{fibres_read, length_report_bytes, numbered_on, olds_stay, report_read, rest_is}

-- a record of bytes is what the assignment in it is written as
pub bytes_kept : (area : List ℕ) (m : ℕ) → length area ≡ 8 * m → Bytes area → (j : ℕ) → j < m → assignment_bytes (assignment_of (record_at area j)) ≡ record_at area j
bytes_kept area m l bytes j h = assignment_written_read (record_at area j) (length_record_at area j (omega arith)) (record_at_bytes area j bytes)

-- AN ANSWER BY A VERDICT t, with lent areas that are changed to `made` only where it accepts
module _ (t : Result ℕ Refusal) (numbers counts : Counts) (long lines : ℕ) (answer : Answer) (before made after : Lent) (answered : answer ≡ answer_by t numbers long)
    (listed : after.fibres ≡ if_accepted t made.fibres before.fibres) (assigned : after.assigns ≡ if_accepted t made.assigns before.assigns)
    (reported : after.report ≡ if_accepted t made.report before.report) (cleared : after.work ≡ if_accepted t made.work before.work) where
  -- a refusal is the verdict's, and changes nothing
  refused_by : (r : Refusal) → refusal_in answer ≡ some r → (t ≡ Err r) × (after ≡ before)
  refused_by r e = go t answered listed assigned reported cleared
    where
      go : (t : Result ℕ Refusal) → answer ≡ answer_by t numbers long → after.fibres ≡ if_accepted t made.fibres before.fibres
          → after.assigns ≡ if_accepted t made.assigns before.assigns
          → after.report ≡ if_accepted t made.report before.report → after.work ≡ if_accepted t made.work before.work → (t ≡ Err r) × (after ≡ before)
      go (Ok m) a f g d h = let z = sym (ap refusal_in a) ∙ e in cc
      go (Err q) a f g d h = let z = sym (ap refusal_in a) ∙ e in (let y : q ≡ r = cc in ap Err y, λ i. lent_areas (f i) (g i) (d i) (h i))

  -- where it is mended the verdict accepts, the numbers are those, and the areas are so made
  mended_by : answer ≡ mended_with counts lines → (m : ℕ) × (t ≡ Ok m) × (counts ≡ numbers) × (lines ≡ long) × (after ≡ made)
  mended_by e = go t answered listed assigned reported cleared
    where
      go : (t : Result ℕ Refusal) → answer ≡ answer_by t numbers long → after.fibres ≡ if_accepted t made.fibres before.fibres
          → after.assigns ≡ if_accepted t made.assigns before.assigns
          → after.report ≡ if_accepted t made.report before.report → after.work ≡ if_accepted t made.work before.work
          → (m : ℕ) × (t ≡ Ok m) × (counts ≡ numbers) × (lines ≡ long) × (after ≡ made)
      go (Ok m) a f g d h =
          let one : Mended = record { counts = numbers; lines = long } in
          let two : Mended = record { counts = counts; lines = lines } in
          let z : ◌≡◌ {A = Answer} (Ok one) (Ok two) = sym a ∙ e in
          let y : two ≡ one = cc in
          (m, refl, ap (λ (x : Mended). x.counts) y, ap (λ (x : Mended). x.lines) y, λ i. lent_areas (f i) (g i) (d i) (h i))
      go (Err q) a f g d h = let z = sym e ∙ a in cc

module _ (line : Line) (s : List ℕ) (many : ℕ) (before : Lent) where
  -- the table of refusals
  abbrev table : List Row
  table = mend_table line s many before

  -- how many circuits
  abbrev m : ℕ
  m = length s / 8

  -- the plan and the report
  abbrev made : Mend
  made = mended_to line s many before

  -- the three numbers
  abbrev pub numbers : Counts
  numbers = mend_counts line.links line.wavelengths (old_fibres many before) (circuits_of s) (damaged s before)

  -- how many lines
  abbrev pub long : ℕ
  long = mend_lines line.links line.wavelengths (old_fibres many before) (circuits_of s) (damaged s before)

  -- the fibres that are added
  abbrev pub added : List Fibre
  added = drop many made.plan.fibres

  -- the areas of a register that is mended
  abbrev mended_areas : Lent
  mended_areas =
      lent_areas (behind (8 * many) (fibre_list many added) before.fibres) (assignment_records 0 (circuits_of s) made.plan.assignments) (report_list made.report before.report)
      (zeroed_to (4 * line.links + 4 * m) before.work)

  -- what passes meets no test
  passes_none : (after : Lent) → Passes line s many before after → NoneApplies table
  passes_none after p = mend_passes line s many before p.circuits p.room.fibres p.room.work p.one_each p.fit p.room.report

  -- and the other way
  none_passes : (after : Lent) → NoneApplies table → Passes line s many before after
  none_passes after f =
      record {
        circuits = of_circuits line s many before f;
        room = record { fibres = fibre_room line s many before f; work = work_room line s many before f; report = report_room line s many before f };
        one_each = one_each line s many before f;
        fit = fit line s many before f;
      }

  module _ (after : Lent) (answer : Answer) (o : Outcome line s many before after answer) where
    -- a refusal is the verdict's, and changes nothing
    refused_so : (r : Refusal) → refusal_in answer ≡ some r → (judged line s many before ≡ Err r) × (after ≡ before)
    refused_so = refused_by _ numbers numbers long long answer before mended_areas after o.answered o.listed o.assigned o.reported o.cleared

    -- a mended answer has the numbers of the mending, and the areas are written
    pub mended_so : (counts : Counts) (lines : ℕ) → answer ≡ mended_with counts lines → NoneApplies table × (counts ≡ numbers) × (lines ≡ long) × (after ≡ mended_areas)
    unfolding judged
    mended_so counts lines e =
        let p = mended_by _ numbers counts long lines answer before mended_areas after o.answered o.listed o.assigned o.reported o.cleared e in
        ((verdict_passed table m p.0 p.1).1, p.2, p.3, p.4)

    -- what passes the tests is mended
    pub passed_mended : NoneApplies table → answer ≡ mended_with numbers long
    unfolding judged
    passed_mended f = o.answered ∙ ap (λ (t : Result ℕ Refusal). answer_by t numbers long) (verdict_passes table m f)

    -- demand 1
    pub seen_1 : Seen1 line s many before after answer
    unfolding judged
    seen_1 =
        record {
          as_tabled = λ r e. verdict_refused table m r (refused_so r e).0;
          whenever_tabled = λ r g. ap refusal_in (o.answered ∙ ap (λ (t : Result ℕ Refusal). answer_by t numbers long) (verdict_given table m r g));
          otherwise_mended = λ f. (numbers, long, passed_mended f);
          passes_mended = λ p. (numbers, long, passed_mended (passes_none after p));
          end_told = λ r e. (let g = verdict_refused table m r (refused_so r e).0 in (mend_tells line s many before).at g.index r g.below g.here);
          fibre_told = λ r e. (let g = verdict_refused table m r (refused_so r e).0 in (mend_tells_fibre line s many before).at g.index r g.below g.here);
          unchanged = λ r e. (refused_so r e).1;
          fit_passes = fit_passes line.links many before.fibres;
          passes_fit = passes_fit line.links many before.fibres;
        }

  module _ (passed : NoneApplies table) where
    -- what is promised
    abbrev promised : MendDemand line.links line.wavelengths (old_fibres many before) (circuits_of s) (damaged s before)
    promised = due line s many before passed

    -- how many circuits there are
    many_circuits : length (circuits_of s) ≡ m
    many_circuits = length_circuits_in m s

    -- each has an assignment
    one_given : length made.plan.assignments ≡ length (circuits_of s)
    one_given = promised.valid.all_assigned

    -- how many fibres there were
    many_old : length (old_fibres many before) ≡ many
    many_old = many_fibres many 0 before.fibres before.assigns

    -- the fibres are the old ones and those that are added
    pub old_and_added : made.plan.fibres ≡ old_fibres many before ++ added
    old_and_added =
        let new = promised.mended.fibres_after in
        new ∙ ap (λ (fs : List Fibre). old_fibres many before ++ fs) (sym (ap (drop many) new ∙ drop_at (old_fibres many before) _ many many_old))

    -- how many there are
    pub fibre_count : numbers.fibres ≡ many + length added
    fibre_count = promised.fibres_are ∙ ap length old_and_added ∙ omega (arith, length-append (old_fibres many before) added, many_old)

    -- at most one line for each circuit
    pub lines_few : long ≤ m
    lines_few =
        omega (arith, promised.lines_are, promised.one_line_each, count_below (reported (circuits_of s) made) (length (circuits_of s)), many_circuits)

    -- and at most one new fibre for each line
    added_few : length added ≤ long
    added_few = omega (arith, promised.few_fibres, promised.lines_are, promised.fibres_are, fibre_count, many_old)

    -- there is room for them
    pub added_room : 8 * (many + length added) ≤ length before.fibres
    added_room = omega (arith, fibre_room line s many before passed, added_few, lines_few)

    -- assignment record j of a list that is so made
    pub assignment_at_lem : (after : Lent) → after ≡ mended_areas → (j : ℕ) → j < m
        → record_at after.assigns j ≡ assignment_record 0 (get_or (circuits_of s) j nobody) (get_or made.plan.assignments j unassigned)
    assignment_at_lem after so j h =
        ap (λ (x : Lent). record_at x.assigns j) so
        ∙ ap (λ (x : List ℕ). record_at x j) (sym (append-nil (assignment_records 0 (circuits_of s) made.plan.assignments)))
        ∙ assignment_record_lem 0 (circuits_of s) made.plan.assignments [] j one_given (omega (arith, many_circuits))

    -- it is the bytes of the mended record
    pub record_bytes : (after : Lent) → after ≡ mended_areas → (j : ℕ) → j < m
        → record_at after.assigns j ≡ assignment_bytes (record_of (mended_records line.links line.wavelengths (old_fibres many before) (circuits_of s) (damaged s before)) j)
    unfolding assignment_record circuit assigned
    record_bytes after so j h =
        let g = get_or made.plan.assignments j unassigned in
        let z : 0 + g.fibre ≡ g.fibre = omega arith in
        assignment_at_lem after so j h
        ∙ ap (λ (q : ℕ). assignment_bytes (record { circuit = (get_or (circuits_of s) j nobody).number; fibre = q; wavelength = g.wavelength })) z
        ∙ ap assignment_bytes (sym (record_is (circuits_of s) made.plan j (omega (arith, many_circuits))))

    -- that of a circuit that is not reported is what was found, written
    pub record_kept : (after : Lent) → after ≡ mended_areas → (j : ℕ) → j < m → reported (circuits_of s) made j ≡ false
        → record_at after.assigns j ≡ assignment_bytes (assignment_of (record_at before.assigns j))
    unfolding record_of
    record_kept after so j h e =
        record_bytes after so j h ∙ ap assignment_bytes (promised.record_kept j (omega (arith, many_circuits)) e ∙ assignments_in_at m before.assigns j no_record h)

    module _ (after : Lent) (so : after ≡ mended_areas) where
      -- the fibre list is made of the old records and of those that are added
      abbrev listed : after.fibres ≡ behind (8 * many) (fibre_list many added) before.fibres
      listed = ap (λ (x : Lent). x.fibres) so

      -- the assignment list is the records of the plan
      assigns_are : after.assigns ≡ assignment_list 0 (circuits_of s) made.plan.assignments []
      unfolding assignment_list
      assigns_are =
          ap (λ (x : Lent). x.assigns) so
          ∙ sym (append-nil (assignment_records 0 (circuits_of s) made.plan.assignments))
          ∙ ap (λ (x : List ℕ). assignment_records 0 (circuits_of s) made.plan.assignments ++ x) (sym (drop-nil (8 * length (circuits_of s))))

      -- the two lists hold the plan
      plan_read_back : plan_in (many + length added) m after.fibres after.assigns ≡ made.plan
      unfolding plan_in
      plan_read_back =
          ap₂ (λ (x : List Fibre) (y : List Assignment). let p : Plan = record { fibres = x; assignments = y } in p)
          (fibres_read many added before.fibres after.fibres added_room listed m after.assigns before.assigns ∙ sym old_and_added)
          (ap (λ (p : Plan). p.assignments)
          (ap₂ (λ (k : ℕ) (x : List ℕ). plan_in 0 k [] x) (sym many_circuits) assigns_are)
          ∙ ap (λ (p : Plan). p.assignments) (plan_read made.plan (circuits_of s) [] [] one_given))

      -- and with the report the mending
      pub read_back : (counts : Counts) (lines : ℕ) → counts ≡ numbers → lines ≡ long → held line s many before after counts lines ≡ made
      read_back counts lines e l =
          ap₂ (λ (p : Plan) (r : List ReportLine). let x : Mend = record { plan = p; report = r } in x)
          (ap (λ (k : ℕ). plan_in k m after.fibres after.assigns) (ap (λ (c : Counts). c.fibres) e ∙ fibre_count) ∙ plan_read_back)
          (ap₂ report_in (l ∙ promised.lines_are) (ap (λ (x : Lent). x.report) so) ∙ report_read made.report before.report)

  module _ (after : Lent) (answer : Answer) (o : Outcome line s many before after answer) (counts : Counts) (lines : ℕ) (e : answer ≡ mended_with counts lines) where
    -- no test applies
    pub passed_so : NoneApplies table
    passed_so = (mended_so after answer o counts lines e).0

    -- the numbers are those of the mending
    pub counts_are : counts ≡ numbers
    counts_are = (mended_so after answer o counts lines e).1

    -- and so are the lines
    pub lines_are : lines ≡ long
    lines_are = (mended_so after answer o counts lines e).2

    -- the areas are written
    pub made_so : after ≡ mended_areas
    made_so = (mended_so after answer o counts lines e).3

    -- how many fibres there are
    pub all_fibres : counts.fibres ≡ many + length added
    all_fibres = ap (λ (c : Counts). c.fibres) counts_are ∙ fibre_count passed_so

    -- what the lists and the report hold
    pub holds : held line s many before after counts lines ≡ made
    holds = read_back passed_so after made_so counts lines counts_are lines_are

    -- the report is its lines, and the rest as it was
    pub report_is : after.report ≡ report_bytes made.report ++ drop (12 * lines) before.report
    unfolding report_list
    report_is =
        ap (λ (x : Lent). x.report) made_so
        ∙ ap (λ (k : ℕ). report_bytes made.report ++ drop (12 * k) before.report) (sym (lines_are ∙ (promised passed_so).lines_are))

    -- its lines have 12 bytes each
    pub report_long : length (report_bytes made.report) ≡ 12 * lines
    report_long = omega (arith, length_report_bytes made.report, lines_are, (promised passed_so).lines_are)

    -- the work area has zeros
    work_is : after.work ≡ replicate (4 * line.links + 4 * m) 0 ++ drop (4 * line.links + 4 * m) before.work
    unfolding zeroed_to
    work_is = ap (λ (x : Lent). x.work) made_so

    -- demand 2
    pub seen_2 : Seen2 line s many before after counts lines
    seen_2 =
        let p = passed_so in
        let cs = circuits_of s in
        let due = promised p in
        let room = added_room p in
        let fibres_listed = ap (λ (x : Lent). x.fibres) made_so in
        let k = 4 * line.links + 4 * m in
        record {
          passed = none_passes after p;
          mended = subst (Lists.Mended line.links line.wavelengths (old_fibres many before) cs (damaged s before)) (sym holds) due.mended;
          valid = subst (λ (M : Mend). Valid line.wavelengths cs M.plan) (sym holds) due.valid;
          numbered =
              subst (λ (x : ℕ). Numbered x after.fibres) (sym all_fibres)
              (numbered_on many added before.fibres after.fibres room fibres_listed (fit_numbered line.links many before.fibres (fit line s many before p)));
          in_file_order = λ j h.
              (assignment_read (get_or cs j nobody) (get_or made.plan.assignments j unassigned) (record_at after.assigns j) (assignment_at_lem p after made_so j h)).0
              ∙ ap (λ c. c.number) (circuits_in_at m s j nobody h);
          old_fibres_stay = olds_stay many added before.fibres after.fibres room fibres_listed;
          kept_stay = λ bytes j h not-told.
              record_kept p after made_so j h (ap (λ (M : Mend). reported cs M j) (sym holds) ∙ not-told)
              ∙ bytes_kept before.assigns m (one_each line s many before p) bytes j h;
          the_total = ap (λ (c : Counts). c.total) counts_are ∙ due.total_is ∙ sym (ap (λ (M : Mend). total M.plan.fibres) holds);
          the_floor = ap (λ (c : Counts). c.floor) counts_are ∙ due.floor_is;
          few_lines = omega (arith, lines_are, lines_few p);
          few_fibres = omega (arith, all_fibres, lines_are, added_few p);
          assigns_long =
              ap (λ (x : Lent). length x.assigns) made_so ∙ length_assignment_records 0 cs made.plan.assignments (one_given p)
              ∙ omega (arith, many_circuits p, one_each line s many before p);
          fibres_kept =
              ap (λ (x : ℕ). drop (8 * x) after.fibres) all_fibres ∙ rest_is many added before.fibres after.fibres room fibres_listed
              ∙ ap (λ (x : ℕ). drop (8 * x) before.fibres) (sym all_fibres);
          report_kept = ap (drop (12 * lines)) report_is ∙ drop_at (report_bytes made.report) (drop (12 * lines) before.report) (12 * lines) report_long;
          work_zeroed = ap (take k) work_is ∙ take_at (replicate k 0) (drop k before.work) k (length-replicate k 0);
          work_kept = ap (drop k) work_is ∙ drop_at (replicate k 0) (drop k before.work) k (length-replicate k 0);
        }

-- every call of `mend` meets what is promised
pub seen : (line : Line) (s : List ℕ) (many : ℕ) (before after : Lent) (answer : Answer) → Outcome line s many before after answer → Seen line s many before after answer
seen line s many before after answer o =
    record {
      demand_1 = seen_1 line s many before after answer o;
      demand_2 = seen_2 line s many before after answer o;
    }
