-- What an addition that is planned leaves in the lent areas. Assumes nothing.
use Prim.Native.Nat.{ℕ, suc, ◌+◌, ◌-◌, ◌*◌, ◌/◌, ◌<◌, ◌≤◌}
use mathlib.Core.Path.{◌≡◌, ap, ap₂, ◌∙◌, sym, subst}
use mathlib.Core.List.{List, ◌++◌}
use native.Mathlib.Omega.{arith}
use lib.ListN.{drop, get_or, length, length-append, length-replicate, replicate, take}
use lib.Seq.{drop_at, get_or-drop, take_at}
use Rattle.basics.proofs.Bools.{by_le}
use Rattle.basics.proofs.Tables.{length_each}
use Rattle.records.specs.Records.{assignment_of, circuit_of, circuits_of, fibre_of, number_in, record_at}
use Rattle.records.specs.declared.AssignmentRecord.{AssignmentRecord}
use Rattle.records.specs.declared.Circuit.{Circuit}
use Rattle.records.specs.declared.FibreRecord.{FibreRecord}
use Rattle.records.specs.declared.Line.{Line}
use Rattle.records.proofs.Files.{length_circuits_in}
use Rattle.method.specs.Line.{Assignment, Fibre, Plan, Valid, assigned, circuit, nobody, total, unassigned}
use Rattle.method.specs.Fibres.{floor}
use Rattle.refusals.specs.Given.{NoneApplies}
use Rattle.register.specs.Areas.{Areas, areas, zeroed_to}
use Rattle.register.specs.Lists.{assignment_record, assignment_records, counts_of, fibre_records}
use Rattle.register.specs.Plans.{InFileOrder, Numbered, place_of, plan_in, span_of}
use Rattle.register.proofs.Reading.{assignment_read, fibre_read, length_assignment_records, length_fibre_records}
use Rattle.additions.specs.Added.{Added}
use Rattle.additions.specs.Adding.{add_counts}
use Rattle.additions.specs.Grown.{FibresOn}
use Rattle.planner.proofs.Demands.{number_read}
use Rattle.checker.proofs.Reading.{assignments_in_at, fibres_in_at, length_fibres_in}
use Rattle.two_files.proofs.JoinLaws.{record_new, record_old}
use Rattle.adder.specs.Table.{add_table}
use Rattle.adder.specs.Outcome.{grown_assignments, grown_fibres, grown_numbers, grown_plan, old_plan}
use Rattle.adder.specs.Seen.{Seen2}
use Rattle.adder.specs.declared.Named.{Named}
use Rattle.adder.proofs.Joined.{circuits_joined}
use Rattle.adder.proofs.Leaves.{both_pass, due, fit, new_records, old_on_line, old_records, one_each, rooms}
use Rattle.adder.proofs.Reading.{assigns_behind, both_room, both_start, fibres_behind, new_assignment, new_fibre_lem, old_record, old_stay, plan_behind, rest_stays}
use Rattle.adder.proofs.Reading as Behind

-- the lent areas, where it is planned
abbrev pub grown_areas : Line → List ℕ → List ℕ → Named → Areas → Areas
grown_areas line old new named lent =
    areas (grown_fibres line old new named lent) (grown_assignments line old new named lent) (zeroed_to (4 * line.links + 4 * (length old / 8 + length new / 8)) lent.work)

module _ (line : Line) (old new : List ℕ) (named : Named) (before : Areas) (passed : NoneApplies (add_table line old new named before)) where
  -- the old plan, and the grown one
  abbrev p : Plan
  p = old_plan named before

  abbrev P : Plan
  P = grown_plan line old new named before

  -- the new fibres, and what the new circuits are given
  abbrev pub new_fibres : List Fibre
  new_fibres = drop named.fibres P.fibres

  abbrev pub new_given : List Assignment
  new_given = drop named.assignments P.assignments

  -- how many fibres and assignments the old plan has
  many_old : length p.fibres ≡ named.fibres
  unfolding plan_in
  many_old = length_each (λ i. span_of (fibre_of (record_at before.fibres i))) 0 named.fibres

  given_old : length p.assignments ≡ named.assignments
  unfolding plan_in
  given_old = length_each (λ j. place_of (assignment_of (record_at before.assigns j))) 0 named.assignments

  -- the grown plan is the addition
  abbrev is_added : Added line.links line.wavelengths (circuits_of old) p (circuits_of new) P
  is_added = (due line old new named before passed).added

  -- its fibres are the old ones and the new ones
  fibres_split : P.fibres ≡ p.fibres ++ new_fibres
  fibres_split =
      is_added.fibres_after
      ∙ ap (λ (fs : List Fibre). p.fibres ++ fs) (sym (ap (drop named.fibres) is_added.fibres_after ∙ drop_at p.fibres _ named.fibres many_old))

  -- its assignments are the old ones and the new ones
  new_given_lem : new_given ≡ is_added.news
  new_given_lem = ap (drop named.assignments) is_added.assignments_after ∙ drop_at p.assignments is_added.news named.assignments given_old

  given_split : P.assignments ≡ p.assignments ++ new_given
  given_split = is_added.assignments_after ∙ ap (λ (gs : List Assignment). p.assignments ++ gs) (sym new_given_lem)

  -- one for each new circuit
  sized : length new_given ≡ length (circuits_of new)
  sized = ap length new_given_lem ∙ is_added.one_each

  -- how many fibres there are
  many_all : length P.fibres ≡ named.fibres + length new_fibres
  many_all = omega (arith, ap length fibres_split, length-append p.fibres new_fibres, many_old)

  -- there is room for them
  fibre_room : 8 * named.fibres + length (fibre_records named.fibres new_fibres) ≤ length before.fibres
  fibre_room =
      omega (
        arith,
        (rooms line old new named before passed).0,
        (due line old new named before passed).few_fibres,
        many_all,
        many_old,
        length_fibre_records named.fibres new_fibres,
        length_circuits_in (length new / 8) new,
      )

  assign_room : 8 * named.assignments + length (assignment_records 0 (circuits_of new) new_given) ≤ length before.assigns
  assign_room =
      omega (
        arith,
        (rooms line old new named before passed).1,
        one_each line old named before (fit line old new named before passed),
        length_assignment_records 0 (circuits_of new) new_given sized,
        length_circuits_in (length new / 8) new,
      )

  -- the fibre list: old records, new ones, and the rest
  fibres_are : grown_fibres line old new named before ≡ Behind.after named.fibres before.fibres (fibre_records named.fibres new_fibres) fibre_room
  fibres_are = fibres_behind named.fibres new_fibres before.fibres

  -- and the assignment list
  assigns_are : grown_assignments line old new named before ≡ Behind.after named.assignments before.assigns (assignment_records 0 (circuits_of new) new_given) assign_room
  assigns_are = assigns_behind named.assignments (circuits_of new) new_given before.assigns sized

  -- together they hold the grown plan
  pub read_back : plan_in (length P.fibres) (length old / 8 + length new / 8) (grown_fibres line old new named before) (grown_assignments line old new named before) ≡ P
  read_back =
      let z : length old / 8 + length new / 8 ≡ named.assignments + length (circuits_of new) =
      omega (arith, one_each line old named before (fit line old new named before passed), length_circuits_in (length new / 8) new) in
      (λ i. plan_in (many_all i) (z i) (fibres_are i) (assigns_are i))
      ∙ plan_behind named.fibres named.assignments new_fibres (circuits_of new) new_given before.fibres before.assigns sized fibre_room assign_room
      ∙ sym (ap₂ (λ (x : List Fibre) (y : List Assignment). let q : Plan = record { fibres = x; assignments = y } in q) fibres_split given_split)

  -- the fibres are numbered 1, 2, ..
  numbered : Numbered (length P.fibres) (grown_fibres line old new named before)
  numbered i h =
      let k = named.fibres in
      let fs = before.fibres in
      let recs = fibre_records k new_fibres in
      ap (λ (s : List ℕ). (fibre_of (record_at s i)).number) fibres_are
      ∙ by_le (suc i) k
      (λ l.
      ap (λ (r : List ℕ). (fibre_of r).number) (old_record k fs recs fibre_room i l)
      ∙ sym (ap (λ (f : FibreRecord). f.number) (fibres_in_at k fs i _ l))
      ∙ (fit line old new named before passed).sound.numbered i (omega (arith, length_fibres_in k fs)))
      (λ l.
      let z : i ≡ k + (i - k) = omega arith in
      let e : k + suc (i - k) ≡ suc i = omega arith in
      ap (λ (x : ℕ). (fibre_of (record_at (Behind.after k fs recs fibre_room) x)).number) z
      ∙ (fibre_read (k + suc (i - k)) _ _
      (new_fibre_lem k named.assignments new_fibres (circuits_of new) new_given fs before.assigns sized fibre_room assign_room (i - k) (omega (arith, many_all)))).0
      ∙ e)

  -- the assignments stand in the order of both files
  in_file_order : InFileOrder (length old / 8 + length new / 8) (old ++ new) (grown_assignments line old new named before)
  unfolding circuit
  in_file_order j h =
      let k = length old / 8 in
      let a = named.assignments in
      let gs = before.assigns in
      let recs = assignment_records 0 (circuits_of new) new_given in
      let sound = fit line old new named before passed in
      let same = one_each line old named before sound in
      let whole = old_records line old new named before passed in
      ap (λ (s : List ℕ). (assignment_of (record_at s j)).circuit) assigns_are
      ∙ by_le (suc j) k
      (λ l.
      ap (λ (r : List ℕ). (assignment_of r).circuit) (old_record a gs recs assign_room j (omega arith))
      ∙ sym (ap (λ (g : AssignmentRecord). g.circuit) (assignments_in_at a gs j _ (omega arith)))
      ∙ sound.sound.in_file_order j (omega (arith, length_circuits_in k old))
      ∙ number_read old j l
      ∙ ap (λ (r : List ℕ). (circuit_of r).number) (sym (record_old old new k whole j l)))
      (λ l.
      let d : ℕ = j - k in
      let b : d < length new / 8 = omega arith in
      let z : j ≡ a + d = omega arith in
      let y : j ≡ k + d = omega arith in
      ap (λ (x : ℕ). (assignment_of (record_at (Behind.after a gs recs assign_room) x)).circuit) z
      ∙ (assignment_read _ _ _
      (new_assignment named.fibres a new_fibres (circuits_of new) new_given before.fibres gs sized fibre_room assign_room d (omega (arith, length_circuits_in (length new / 8) new)))).0
      ∙ number_read new d b
      ∙ ap (λ (r : List ℕ). (circuit_of r).number) (sym (record_new old new k whole d))
      ∙ ap (number_in (old ++ new)) (sym y))

  -- the records of the fibre list
  pub fibres_start : take (8 * length P.fibres) (grown_fibres line old new named before) ≡ take (8 * named.fibres) before.fibres ++ fibre_records named.fibres new_fibres
  fibres_start =
      let recs = fibre_records named.fibres new_fibres in
      let e : 8 * length P.fibres ≡ 8 * named.fibres + length recs = omega (arith, many_all, length_fibre_records named.fibres new_fibres) in
      (λ i. take (e i) (fibres_are i)) ∙ both_start named.fibres before.fibres recs fibre_room

  -- the assignment record of an old circuit
  pub old_assignment : (i : ℕ) → i < length old / 8 → record_at (grown_assignments line old new named before) i ≡ record_at before.assigns i
  old_assignment i h =
      ap (λ (s : List ℕ). record_at s i) assigns_are
      ∙ old_record named.assignments before.assigns (assignment_records 0 (circuits_of new) new_given) assign_room i
      (omega (arith, one_each line old named before (fit line old new named before passed)))

  -- and of a new one
  pub assignment_new : (t : ℕ) → t < length new / 8
      → record_at (grown_assignments line old new named before) (length old / 8 + t) ≡ assignment_record 0 (circuit (circuits_of new) t) (assigned P (length old / 8 + t))
  unfolding circuit assigned
  assignment_new t h =
      let e = one_each line old named before (fit line old new named before passed) in
      (λ i. record_at (assigns_are i) (sym e i + t))
      ∙ new_assignment named.fibres named.assignments new_fibres (circuits_of new) new_given before.fibres before.assigns sized fibre_room assign_room t
      (omega (arith, length_circuits_in (length new / 8) new))
      ∙ ap (assignment_record 0 (get_or (circuits_of new) t nobody))
      (get_or-drop named.assignments P.assignments t unassigned ∙ ap (λ (x : ℕ). get_or P.assignments (x + t) unassigned) e)

  -- the lists are long enough for their records
  pub long_enough : (8 * length P.fibres ≤ length (grown_fibres line old new named before)) × (length old + length new ≤ length (grown_assignments line old new named before))
  long_enough =
      let recs = fibre_records named.fibres new_fibres in
      let given = assignment_records 0 (circuits_of new) new_given in (
        omega (arith, ap length fibres_are, both_room named.fibres before.fibres recs fibre_room, many_all, length_fibre_records named.fibres new_fibres),
        omega (
          arith,
          ap length assigns_are,
          both_room named.assignments before.assigns given assign_room,
          length_assignment_records 0 (circuits_of new) new_given sized,
          one_each line old named before (fit line old new named before passed),
          length_circuits_in (length new / 8) new,
          old_records line old new named before passed,
          new_records line old new named before passed,
        ),
      )

  -- the fibres lie on the line
  pub grown_on_line : FibresOn line.links P.fibres
  grown_on_line = (due line old new named before passed).on_line (old_on_line line old named before (fit line old new named before passed))

  -- demand 2
  pub seen_grown : Seen2 line old new named before (grown_areas line old new named before) (grown_numbers line old new named before)
  unfolding add_counts counts_of zeroed_to
  seen_grown =
      let n = line.links in
      let w = line.wavelengths in
      let cs = circuits_of old in
      let ds = circuits_of new in
      let k = named.fibres in
      let a = named.assignments in
      let recs = fibre_records k new_fibres in
      let given = assignment_records 0 ds new_given in
      let d = due line old new named before passed in
      let o = old_records line old new named before passed in
      let q = new_records line old new named before passed in
      let same = one_each line old named before (fit line old new named before passed) in
      let many = length_circuits_in (length new / 8) new in
      let zeros = 4 * n + 4 * (length old / 8 + length new / 8) in
      let e : length old ≡ 8 * a = omega arith in
      let f : 8 * length P.fibres ≡ 8 * k + length recs = omega (arith, many_all, length_fibre_records k new_fibres) in
      let g : length old + length new ≡ 8 * a + length given = omega (arith, length_assignment_records 0 ds new_given sized) in
      record {
        passes = record {
          old_whole = o;
          new_whole = q;
          joined = both_pass line old new named before passed;
          fit = fit line old new named before passed;
          fibre_room = (rooms line old new named before passed).0;
          assignment_room = (rooms line old new named before passed).1;
          work_room = (rooms line old new named before passed).2;
        };
        added = subst (Added n w cs p ds) (sym read_back) d.added;
        valid = subst (Valid w (circuits_of (old ++ new))) (sym read_back) (subst (λ (es : List Circuit). Valid w es P) (sym (circuits_joined old new o q)) d.valid);
        numbered = numbered;
        in_file_order = in_file_order;
        old_fibres_stay = ap (take (8 * k)) fibres_are ∙ old_stay k before.fibres recs fibre_room;
        old_assignments_stay =
            ap (λ (x : ℕ). take x (grown_assignments line old new named before)) e ∙ ap (take (8 * a)) assigns_are ∙ old_stay a before.assigns given assign_room
            ∙ ap (λ (x : ℕ). take x before.assigns) (sym e);
        the_total = ap (λ (r : Plan). total r.fibres) (sym read_back);
        the_floor = ap (floor n w) (sym (circuits_joined old new o q));
        few_fibres = omega (arith, d.few_fibres, many_old);
        fibres_kept =
            ap (λ (x : ℕ). drop x (grown_fibres line old new named before)) f ∙ ap (drop (8 * k + length recs)) fibres_are ∙ rest_stays k before.fibres recs fibre_room
            ∙ ap (λ (x : ℕ). drop x before.fibres) (sym f);
        assigns_kept =
            ap (λ (x : ℕ). drop x (grown_assignments line old new named before)) g ∙ ap (drop (8 * a + length given)) assigns_are ∙ rest_stays a before.assigns given assign_room
            ∙ ap (λ (x : ℕ). drop x before.assigns) (sym g);
        work_zeroed = take_at (replicate zeros 0) (drop zeros before.work) zeros (length-replicate zeros 0);
        work_kept = drop_at (replicate zeros 0) (drop zeros before.work) zeros (length-replicate zeros 0);
      }
