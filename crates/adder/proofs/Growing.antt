-- What the steps of `grow` ask, and what they leave is the addition. Assumes nothing.
use Prim.Native.Nat.{◌*◌, ◌+◌, ◌-◌, ◌<◌, ◌≤◌, suc, ℕ}
use lib.ListN.{drop, get_or, length, length-append, length-drop, length-replicate, replicate, take, take-append-drop}
use lib.Seq.{drop_at, drop-drop, take_at}
use mathlib.Core.Bool.{true}
use mathlib.Core.List.{List, [], ◌++◌, ◌∷◌, append_assoc}
use mathlib.Core.Path.{◌∙◌, ◌≡◌, ap, ap₂, refl, subst, sym}
use borrow.Rule.Slice.PartMut.{mid_of, post_of, put_mid}
use native.Mathlib.Nat.{zero-add}
use native.Mathlib.Omega.{arith}
use Rattle.additions.proofs.Settling.{length_settled}
use Rattle.additions.specs.Adding.{add, add_counts, finds, give, left_plan, places_found, settled_all, unplaced}
use Rattle.basics.proofs.Counts.{count_below}
use Rattle.basics.proofs.Tables.{get_d_each, is_each, length_each}
use Rattle.basics.specs.Tools.{each}
use Rattle.checker.proofs.Reading.{map_each}
use Rattle.checker.specs.Checked.{fibres_in, length_in}
use Rattle.method.proofs.Circuits.{circuit_in_lem}
use Rattle.method.proofs.LitDemands.{lit_demand}
use Rattle.method.specs.Fibres.{floor}
use Rattle.method.specs.LitDemands.{LitDemand, lit_fibres}
use Rattle.method.specs.Line.{Assignment, Fibre, Plan, circuit, no_fibre, nobody, span_length, total, unassigned}
use Rattle.parts.specs.Left.{LeftAsked, LeftSettled, said_behind}
use Rattle.places.proofs.Parts.{length_picked, part_lies, picked_part}
use Rattle.places.proofs.TurnLaws.{turn_length}
use Rattle.places.specs.Parts.{picked}
use Rattle.places.specs.Places.{given_to, riders}
use Rattle.places.specs.Turns.{by_number, number}
use Rattle.placing.proofs.RideAll.{valid_given}
use Rattle.placing.specs.Riding.{GivenAll}
use Rattle.placing.specs.Turns.{AllWritten}
use Rattle.records.proofs.Files.{length_circuits_in, record_at_bytes}
use Rattle.records.proofs.Inverse.{assignment_read_written, le16_fits}
use Rattle.records.specs.Records.{assignment_bytes, assignment_of, circuits_in, fibre_of, record_at}
use Rattle.records.specs.declared.AssignmentRecord.{AssignmentRecord}
use Rattle.records.specs.declared.Circuit.{Circuit}
use Rattle.register.specs.Areas.{areas, zeroed_to}
use Rattle.register.specs.Lists.{assignment_list, assignment_record, assignment_records, behind, counts_of, fibre_list}
use Rattle.register.specs.Plans.{place_of, plan_in, span_of}
use Rattle.register.specs.declared.Counts.{Counts}
use Rattle.adder.specs.inner.Growing.{Grew, GrowAsked}

-- a part from byte 0 to e, lent and come back
pub front_back : (e : ℕ) (xs ys : List ℕ) → length ys ≡ e - 0 → mid_of 0 (e - 0) (put_mid 0 (e - 0) xs ys) ≡ ys
front_back e xs ys l = take_at ys (post_of 0 (e - 0) xs) (e - 0) l

-- there is room for it again
pub front_room : (e : ℕ) (xs ys : List ℕ) → length ys ≡ e → e ≤ length (put_mid 0 (e - 0) xs ys)
front_room e xs ys l = subst (λ z. e ≤ z) (sym (length-append ys (post_of 0 (e - 0) xs))) (omega arith)

-- LENGTHS. The length of fibres none of which is longer than 65,536
total_low : (fs : List Fibre) → ((i : ℕ) → i < length fs → span_length (get_or fs i no_fibre) ≤ 65536) → total fs ≤ 65536 * length fs
unfolding total
total_low [] h = omega arith
total_low (f ∷ fs) h =
    let a = h 0 (omega arith) in
    let b = total_low fs (λ i l. h (suc i) (omega arith)) in
    omega arith

-- of two lists
total_both : (fs gs : List Fibre) → total (fs ++ gs) ≡ total fs + total gs
unfolding total
total_both [] gs = omega arith
total_both (f ∷ fs) gs = omega (arith, total_both fs gs)

-- of the records of old fibres, as the check adds them up
old_total : (many k : ℕ) (F A : List ℕ) → length_in (fibres_in many F) ≡ total (plan_in many k F A).fibres
unfolding plan_in fibres_in
old_total many k F A = ap total (map_each span_of (λ i. fibre_of (record_at F i)) 0 many)

-- which are short enough to be added
pub old_short : (many : ℕ) (F : List ℕ) → ((i : ℕ) → get_or F i 0 < 256) → length_in (fibres_in many F) ≤ 65536 * many
unfolding plan_in span_length
old_short many F bytes =
    let f : ℕ → Fibre = λ i. span_of (fibre_of (record_at F i)) in
    let n = length_each f 0 many in
    let e = old_total many 0 F [] in
    let low = total_low (each f 0 many)
    (λ i l.
    let r = record_at F i in
    let q : get_or (each f 0 many) i no_fibre ≡ f i = get_d_each f 0 many i no_fibre (omega arith) ∙ ap f (zero-add i) in
    let a = le16_fits r (record_at_bytes F i bytes) 4 in
    rw q (omega (arith, a))) in
    omega (arith, e, low, n)

-- RECORDS one after the other, read from a list, are its start
records_start : (cs : List Circuit) (gs : List Assignment) (t : List ℕ) → length gs ≡ length cs → 8 * length cs ≤ length t
    → ((j : ℕ) → j < length cs → record_at t j ≡ assignment_record 0 (get_or cs j nobody) (get_or gs j unassigned)) → t ≡ assignment_records 0 cs gs ++ drop (8 * length cs) t
unfolding assignment_records
records_start [] gs t e room h = refl
records_start (c ∷ cs) [] t e room h = absurd (omega arith)
records_start (c ∷ cs) (g ∷ gs) t e room h =
    let n = length-drop 8 t in
    let z : 8 + 8 * length cs ≡ 8 * suc (length cs) = omega arith in
    let ih = records_start cs gs (drop 8 t) (omega arith) (omega arith)
    (λ j l. let y : 8 + 8 * j ≡ 8 * suc j = omega arith in ap (take 8) (drop-drop (8 * j) 8 t ∙ ap (λ x. drop x t) y) ∙ h (suc j) (omega arith)) in
    sym (take-append-drop 8 t) ∙ ap₂ ◌++◌ (h 0 (omega arith)) (ih ∙ ap (λ x. assignment_records 0 cs gs ++ x) (drop-drop (8 * length cs) 8 t ∙ ap (λ x. drop x t) z))
    ∙ sym (append_assoc (assignment_record 0 c g) (assignment_records 0 cs gs) (drop (8 * suc (length cs)) t))

-- WHAT IS WRITTEN, record by record, is the list behind the old records
pub written_list : (cs : List Circuit) (b : ℕ) (gs : List Assignment) (s s' : List ℕ) → length gs ≡ length cs → 8 * (b + length cs) ≤ length s → AllWritten cs b gs s s'
    → s' ≡ behind (8 * b) (assignment_list 0 cs gs) s
unfolding behind assignment_list assignment_record circuit given_to
written_list cs b gs s s' e room h =
    let n = h.sized in
    let l = length-drop (8 * b) s' in
    let y : 8 * b + 8 * length cs ≡ 8 * (b + length cs) = omega arith in
    let far : (t : List ℕ) → drop (8 * length cs) (drop (8 * b) t) ≡ drop (8 * (b + length cs)) t = λ t. drop-drop (8 * length cs) (8 * b) t ∙ ap (λ x. drop x t) y in
    sym (take-append-drop (8 * b) s')
    ∙ ap₂ ◌++◌ h.olds
    (records_start cs gs (drop (8 * b) s') e (omega arith)
    (λ j q.
    let z : 8 * b + 8 * j ≡ 8 * (b + j) = omega arith in
    ap (take 8) (drop-drop (8 * j) (8 * b) s' ∙ ap (λ x. drop x s') z) ∙ h.news j q
    ∙ ap (λ x. assignment_bytes (record { circuit = (get_or cs j nobody).number; fibre = x; wavelength = (get_or gs j unassigned).wavelength })) (sym (zero-add (get_or gs j unassigned).fibre)))
    ∙ ap (λ x. assignment_records 0 cs gs ++ x) (far s' ∙ h.rest ∙ sym (far s)))

-- and once more: only the last records count
pub written_again : (cs : List Circuit) (b : ℕ) (gs hs : List Assignment) (s s' s'' : List ℕ) → AllWritten cs b gs s s' → AllWritten cs b hs s' s'' → AllWritten cs b hs s s''
written_again cs b gs hs s s' s'' h g = record { sized = g.sized ∙ h.sized; olds = g.olds ∙ h.olds; news = g.news; rest = g.rest ∙ h.rest }

-- the records say just what was given
said_written : (s : List ℕ) (m b : ℕ) (gs : List Assignment) (A A' : List ℕ) → length gs ≡ m → AllWritten (circuits_in m s) b gs A A' → said_behind b m A' ≡ gs
unfolding said_behind given_to
said_written s m b gs A A' e h =
    let n = length_circuits_in m s in
    sym (is_each (λ j. place_of (assignment_of (record_at A' (b + j)))) 0 m unassigned gs e
    (λ j l.
    let g = get_or gs j unassigned in
    sym (ap (λ r. place_of (assignment_of r)) (h.news j (omega arith))
    ∙ ap place_of (assignment_read_written (record { circuit = number (circuits_in m s) j; fibre = g.fibre; wavelength = g.wavelength })))
    ∙ ap (λ x. place_of (assignment_of (record_at A' (b + x)))) (sym (zero-add j))))

-- how many places were asked
length_found : (w : ℕ) (cs : List Circuit) (p : Plan) (ds : List Circuit) → length (places_found w cs p ds) ≡ length ds
unfolding places_found give
length_found w cs p ds = turn_length (finds p.fibres w (riders cs p.assignments) ds) (by_number (λ j. true) ds) (replicate (length ds) unassigned) ∙ length-replicate (length ds) unassigned

-- three numbers
abbrev numbers : ℕ → ℕ → ℕ → Counts
numbers fibres total floor = record { fibres = fibres; total = total; floor = floor }

-- THE STEPS of `grow`
module _ (n w k m many : ℕ) (old new F A W : List ℕ) (h : GrowAsked n w k m many old new (areas F A W)) where
  -- both files, and the old plan
  abbrev cs : List Circuit
  cs = circuits_in k old

  abbrev ds : List Circuit
  ds = circuits_in m new

  abbrev p : Plan
  p = plan_in many k F A

  -- the old plan has so many fibres and assignments
  old_fibres_lem : length p.fibres ≡ many
  unfolding plan_in
  old_fibres_lem = length_each (λ i. span_of (fibre_of (record_at F i))) 0 many

  old_assigned : length p.assignments ≡ k
  unfolding plan_in
  old_assigned = length_each (λ j. place_of (assignment_of (record_at A j))) 0 k

  -- what `place_new` asks of it
  pub old_given : GivenAll many k A
  old_given = let waves = h.olds.waves.1 in valid_given many k w F A cs (length_circuits_in k old) (omega arith) h.old_valid

  pub from_first : (j : ℕ) → j < m → 1 ≤ (circuit ds j).first
  unfolding circuit
  from_first j l = (h.news.file.lies j (omega (arith, length_circuits_in m new))).0

  -- the places that were found
  abbrev found : List Assignment
  found = places_found w cs p ds

  module _ (A₁ W₁ : List ℕ) (y : AllWritten ds k found A A₁) where
    -- the records say which
    found_said : said_behind k m A₁ ≡ found
    found_said = said_written new m k found A A₁ (length_found w cs p ds ∙ length_circuits_in m new) y

    -- what `plan_left` is asked
    pub left_asked : length W₁ ≡ length W → LeftAsked n w many k m new (areas F A₁ W₁)
    left_asked long =
        let c = length_circuits_in m new in
        let s = y.sized in
        record {
          accepted = h.news;
          few = h.few;
          few_fibres = h.few_fibres;
          named = λ j l.
              ap (λ r. (assignment_of r).circuit) (y.news j (omega arith))
              ∙ ap (λ (a : AssignmentRecord). a.circuit) (assignment_read_written (record { circuit = number ds j; fibre = (given_to found j).fibre; wavelength = (given_to found j).wavelength }))
              ∙ ap (λ (x : Circuit). x.number) (circuit_in_lem m new j l);
          fibre_room = h.fibre_room;
          assign_room = let r = h.assign_room in omega arith;
          work_room = let r = h.work_room in omega arith;
        }

    -- the new fibres
    abbrev fresh : List Fibre
    fresh = (left_plan n w ds found).fibres

    -- their plan keeps what is promised of R-1
    new_demand : LitDemand n w (picked (unplaced found) ds)
    new_demand = lit_demand n w (picked (unplaced found) ds) (part_lies (picked_part (unplaced found) ds) n h.news.file.lies) h.news.waves.0

    -- they are at most as many as the new circuits, and not long
    fresh_few : length fresh ≤ m
    unfolding left_plan lit_fibres
    fresh_few = omega (arith, new_demand.few_fibres, length_picked (unplaced found) ds, count_below (unplaced found) (length ds), length_circuits_in m new)

    fresh_short : total fresh ≤ 65536 * length fresh
    unfolding left_plan span_length
    fresh_short =
        total_low fresh
        (λ i l.
        let on_line = (new_demand.rules.fibres_on_line i l).2 in
        let line = h.news.file.line in
        omega arith)

    module _ (F' A' W' : List ℕ) (counts : Counts) (g : LeftSettled n w many k m new (areas F A₁ W₁) (areas F' A' W') counts) where
      -- the counts of the new fibres
      counted_new : counts ≡ counts_of (left_plan n w ds found) (floor n w (picked (unplaced found) ds))
      counted_new = g.counted ∙ ap (λ x. counts_of (left_plan n w ds x) (floor n w (picked (unplaced x) ds))) found_said

      new_many : counts.fibres ≡ length fresh
      unfolding counts_of
      new_many = ap (λ (c : Counts). c.fibres) counted_new

      new_long : counts.total ≡ total fresh
      unfolding counts_of
      new_long = ap (λ (c : Counts). c.total) counted_new

      -- so the sums fit
      pub few_new : counts.fibres ≤ 2048
      few_new = let few = h.few in omega (arith, new_many, fresh_few)

      pub short_new : counts.total ≤ 134217728
      short_new = let few = h.few in omega (arith, new_long, fresh_short, fresh_few)

      -- WHAT IS LEFT is the addition
      pub grew : (span low : ℕ) (sum : Counts) → span ≡ length_in (fibres_in many F) → low ≡ floor n w (cs ++ ds) → drop (4 * n + 4 * (k + m)) W₁ ≡ drop (4 * n + 4 * (k + m)) W
          → sum ≡ numbers (many + counts.fibres) (span + counts.total) low → Grew n w k m many old new (areas F A W) (areas F' A' W') sum
      unfolding add add_counts counts_of zeroed_to
      grew span low sum long is-floor rest is_sum =
          let c = length_circuits_in m new in
          let settled = settled_all n w p.fibres ds found in
          let last : AllWritten ds k settled A₁ A' = subst (λ x. AllWritten ds k (settled_all n w p.fibres ds x) A₁ A') found_said (g.written p.fibres old_fibres_lem) in
          let w' : AllWritten ds k settled A A' = written_again ds k found settled A A₁ A' y last in
          let t : span ≡ total p.fibres = long ∙ old_total many k F A in
          record {
            counted = is_sum
                ∙ ap₂ (λ x z. numbers x z low)
                (ap₂ ◌+◌ (sym old_fibres_lem) new_many ∙ sym (length-append p.fibres fresh)) (ap₂ ◌+◌ t new_long ∙ sym (total_both p.fibres fresh))
                ∙ ap (numbers (length (p.fibres ++ fresh)) (total (p.fibres ++ fresh))) is-floor;
            listed = g.listed ∙ ap (λ x. behind (8 * many) (fibre_list many x) F) (ap (λ x. (left_plan n w ds x).fibres) found_said ∙ sym (drop_at p.fibres fresh many old_fibres_lem));
            assigned = written_list ds k settled A A' (length_settled n w p.fibres ds found) (let r = h.assign_room in omega arith) w'
                ∙ ap (λ x. behind (8 * k) (assignment_list 0 ds x) A) (sym (drop_at p.assignments settled k old_assigned));
            cleared = g.cleared ∙ ap (λ x. replicate (4 * n + 4 * (k + m)) 0 ++ x) rest;
          }
