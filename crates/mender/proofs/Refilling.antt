-- The second pass: who has a turn, and what the records say then. Assumes nothing.
use Prim.Native.Nat.{ℕ, ◌+◌, ◌*◌, ◌<◌, ◌≤◌}
use mathlib.Core.Path.{◌≡◌, refl, ap, ◌∙◌, subst, sym}
use mathlib.Core.Bool.{Bool, true, false, not}
use mathlib.Core.Logic.{◌≢◌}
use mathlib.Core.List.{List, [], ◌∷◌, map}
use native.Mathlib.Nat.{zero-add}
use native.Mathlib.Omega.{arith}
use borrow.Author.Tests.{eqb-true}
use lib.ListN.{get_or, length, length-replicate, replicate}
use Rattle.basics.proofs.Bools.{by_le, clash, on}
use Rattle.basics.proofs.Tables.{is_each}
use Rattle.records.specs.Records.{assignment_of, circuits_in, put_record, record_at}
use Rattle.records.specs.declared.AssignmentRecord.{AssignmentRecord}
use Rattle.records.specs.declared.Circuit.{Circuit}
use Rattle.records.proofs.Files.{length_circuits_in}
use Rattle.records.proofs.Inverse.{assignment_read_written}
use Rattle.records.proofs.RecordLaws.{length_put_record, record_other}
use Rattle.method.specs.Line.{Assignment, Fibre, circuit, unassigned}
use Rattle.method.proofs.Circuits.{circuit_in_lem}
use Rattle.register.specs.Plans.{place_of}
use Rattle.places.specs.Places.{given_to}
use Rattle.places.specs.Turns.{by_number, number}
use Rattle.places.proofs.RisingLaws.{Each, each_at, each_imp, rise_at, rising_are, rising_rise, turn_of_lem}
use Rattle.places.proofs.TurnLaws.{turn_length, turn_other}
use Rattle.additions.specs.Adding.{finds, give, unplaced}
use Rattle.checker.specs.Checked.{assignments_in}
use Rattle.mending.specs.Mending.{keeps, kept, refilled}
use Rattle.mending.proofs.Keeping.{before, is_kept, keepable_fits, kept_exactly}
use Rattle.placing.specs.Riding.{Among, spans_of}
use Rattle.placing.specs.Turns.{InTurn, given_bytes, recorded}
use Rattle.placing.proofs.Orderly.{among_at}
use Rattle.placing.proofs.Written.{recorded_at, recorded_keeps}
use Rattle.parts.specs.Left.{said_behind}
use Rattle.mender.specs.Report.{report_list}
use Rattle.mender.specs.inner.Lines.{begun_line}
use Rattle.mender.specs.inner.Steps.{Refilled, Register, kept_of, lost, may_stay}
use Rattle.mender.proofs.Sifting.{record_read}

-- the record of a circuit that has no turn stays
recorded_other : (ds : List Circuit) (b : ℕ) (gs : List Assignment) (m : ℕ) (js s : List ℕ) (d : ℕ) → Each (λ j. (j < m) × (j ≢ d)) js → 8 * (b + m) ≤ length s
    → record_at (recorded ds b gs js s) (b + d) ≡ record_at s (b + d)
unfolding recorded
recorded_other ds b gs m [] s d e room = refl
recorded_other ds b gs m (j ∷ js) s d e room =
    let below = e.0.0 in
    let r = given_bytes ds j (given_to gs j) in
    let n = length_put_record s (b + j) r (omega arith) refl in
    let apart : b + d ≢ b + j = λ z. e.0.1 (omega arith) in
    recorded_other ds b gs m js (put_record s (b + j) r) d e.1 (omega arith) ∙ record_other s (b + j) r (b + d) (omega arith) refl apart

module _ (n w m many : ℕ) (s fibres assigns : List ℕ) (reg : Register n w m many s fibres assigns) where
  -- the circuits
  abbrev cs : List Circuit
  cs = circuits_in m s

  -- the fibres
  abbrev fs : List Fibre
  fs = spans_of many fibres

  -- the records
  abbrev rs : List AssignmentRecord
  rs = assignments_in m assigns

  -- what those have that are kept
  abbrev K : List Assignment
  K = kept_of w m many s fibres assigns

  -- the others
  abbrev L : List ℕ
  L = lost w m many s fibres assigns

  -- numbers from 1 on
  from_one : (j : ℕ) → j < length cs → 1 ≤ number cs j
  from_one j l = reg.from_one j (omega (arith, length_circuits_in m s))

  -- and first links too
  pub first_from_one : (j : ℕ) → j < m → 1 ≤ (circuit cs j).first
  unfolding circuit
  first_from_one j l = (reg.accepted.file.lies j (omega (arith, length_circuits_in m s))).0

  -- one for each circuit
  pub length_kept : length K ≡ m
  unfolding kept
  length_kept = turn_length (keeps w fs cs rs) (by_number (λ j. true) cs) (replicate (length cs) unassigned) ∙ length-replicate (length cs) unassigned ∙ length_circuits_in m s

  -- the others are circuits of the file that have no place
  lost_each : Each (λ j. (j < length cs) × (unplaced K j ≡ true)) L
  lost_each = rising_are (unplaced K) cs (length cs) 0

  pub lost_there : (t : ℕ) → t < length L → get_or L t 0 < m
  lost_there t l = let a = (each_at (λ j. (j < length cs) × (unplaced K j ≡ true)) L lost_each t l).0 in omega (arith, length_circuits_in m s)

  -- each has its turn once
  pub lost_in_turn : InTurn m K L
  unfolding unplaced
  lost_in_turn =
      record {
        there = lost_there;
        waiting = λ t l. eqb-true (given_to K (get_or L t 0)).fibre 0 (each_at (λ j. (j < length cs) × (unplaced K j ≡ true)) L lost_each t l).1;
        once = λ p q a b e.
            let x = ap (number cs) e in
            let up = rise_at cs 0 L (rising_rise (unplaced K) cs (length cs) 0) in
            by_le q p
            (λ h. by_le p q (λ g. omega arith) (λ g. absurd (let y = up q p g a in omega arith)))
            (λ h. absurd (let y = up p q h b in omega arith));
      }

  -- BOTH PASSES. What all have then
  abbrev G : List Assignment
  G = refilled w fs cs rs

  length_refilled : length G ≡ m
  unfolding refilled give
  length_refilled = turn_length (finds fs w [] cs) L K ∙ length_kept

  module _ (assigns' : List ℕ) (is : assigns' ≡ recorded cs 0 (give fs w [] cs L K) L assigns) where
    -- all have their turns within the file
    lost_below : Each (λ j. j < m) L
    lost_below = each_imp {P = λ j. (j < length cs) × (unplaced K j ≡ true)} (λ j a. (let a₀ = a.0 in omega (arith, length_circuits_in m s))) L lost_each

    -- there is room
    room : 8 * (0 + m) ≤ length assigns
    room = omega (arith, reg.one_each)

    -- who has a turn: its record says what it is given
    turn_said : (j : ℕ) → j < m → unplaced K j ≡ true → record_at assigns' (0 + j) ≡ given_bytes cs j (given_to G j)
    unfolding refilled
    turn_said j l e =
        let b : j < length cs = omega (arith, length_circuits_in m s) in
        let y = turn_of_lem (unplaced K) cs reg.accepted.file.distinct j b e (from_one j b) in
        ap (λ x. record_at x (0 + j)) is
        ∙ recorded_at cs 0 G m L assigns lost_below room j l (subst (λ x. Among x L) y.2 (among_at L y.0 y.1))

    -- who is kept: its record stays
    kept_said : (j : ℕ) → j < m → unplaced K j ≡ false → record_at assigns' (0 + j) ≡ record_at assigns (0 + j)
    unfolding refilled
    kept_said j l e =
        ap (λ x. record_at x (0 + j)) is
        ∙ recorded_other cs 0 G m L assigns j
        (each_imp {P = λ i. (i < length cs) × (unplaced K i ≡ true)} {Q = λ i. (i < m) × (i ≢ j)}
        (λ i a. (let a₀ = a.0 in omega (arith, length_circuits_in m s), λ q. clash (unplaced K j) (ap (unplaced K) (sym q) ∙ a.1) e)) L lost_each) room

    -- and it has what it had
    kept_stays : (j : ℕ) → j < m → unplaced K j ≡ false → given_to G j ≡ place_of (assignment_of (record_at assigns j))
    unfolding refilled give
    kept_stays j l e =
        let b : j < length cs = omega (arith, length_circuits_in m s) in
        turn_other (finds fs w [] cs) L K j
        (each_imp {P = λ i. (i < length cs) × (unplaced K i ≡ true)} {Q = λ i. i ≢ j} (λ i a q. clash (unplaced K j) (ap (unplaced K) (sym q) ∙ a.1) e) L lost_each)
        ∙ is_kept w fs cs rs reg.accepted.file.distinct from_one j b e ∙ ap place_of (record_read m assigns j l)

    -- it names its circuit
    kept_named : (j : ℕ) → j < m → unplaced K j ≡ false → (assignment_of (record_at assigns j)).circuit ≡ number cs j
    kept_named j l e =
        let b : j < length cs = omega (arith, length_circuits_in m s) in
        let once = reg.accepted.file.distinct in
        let yes = go (may_stay w m many s fibres assigns (before w fs cs rs once from_one j) j) (sym (kept_exactly w fs cs rs once from_one j b) ∙ e) in
        sym (ap (λ (r : AssignmentRecord). r.circuit) (record_read m assigns j l)) ∙ (keepable_fits w fs cs rs (before w fs cs rs once from_one j) j yes).0
      where
        go : (b : Bool) → not b ≡ false → b ≡ true
        go true e = refl
        go false e = clash true refl e

    -- so each record says what its circuit has, and names it
    record_says : (j : ℕ) → j < m → (place_of (assignment_of (record_at assigns' j)) ≡ given_to G j) × ((assignment_of (record_at assigns' j)).circuit ≡ number cs j)
    record_says j l =
        let z : 0 + j ≡ j = zero-add j in
        on (unplaced K j)
        (λ e.
        let g = given_to G j in
        let a : AssignmentRecord = record { circuit = number cs j; fibre = g.fibre; wavelength = g.wavelength } in
        let r : assignment_of (record_at assigns' j) ≡ a = ap (λ x. assignment_of (record_at assigns' x)) (sym z) ∙ ap assignment_of (turn_said j l e) ∙ assignment_read_written a in
        (ap place_of r, ap (λ (x : AssignmentRecord). x.circuit) r))
        (λ e.
        let r : record_at assigns' j ≡ record_at assigns j = ap (record_at assigns') (sym z) ∙ kept_said j l e ∙ ap (record_at assigns) z in
        (ap (λ x. place_of (assignment_of x)) r ∙ sym (kept_stays j l e), ap (λ x. (assignment_of x).circuit) r ∙ kept_named j l e))

    -- the second pass is done
    pub refilled_all : (report report' : List ℕ) (k : ℕ) → k ≡ length L → k ≤ m → report' ≡ report_list (map (begun_line s assigns) L) report
        → Refilled w m many s fibres assigns assigns' report report' k
    unfolding said_behind given_to
    refilled_all report report' k long few begun =
        record {
          many_lost = long;
          few_lost = few;
          begun = begun;
          sized = ap length is
              ∙ recorded_keeps cs 0 (give fs w [] cs L K) (λ t. length t ≡ length assigns) m L assigns lost_below room
              (λ t j l q y. length_put_record t (0 + j) (given_bytes cs j (given_to (give fs w [] cs L K) j)) (omega (arith, room, q)) refl ∙ y) refl;
          said = sym (is_each (λ j. place_of (assignment_of (record_at assigns' (0 + j)))) 0 m unassigned G length_refilled
              (λ j l. sym (ap (λ x. place_of (assignment_of (record_at assigns' x))) (zero-add (0 + j) ∙ zero-add j) ∙ (record_says j l).0)));
          named = λ j l. (record_says j l).1 ∙ ap (λ (c : Circuit). c.number) (circuit_in_lem m s j l);
        }
