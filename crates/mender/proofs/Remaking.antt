-- What the steps behind both passes ask, and what they leave is the mending. Assumes nothing.
use Prim.Native.Nat.{ℕ, suc, ◌+◌, ◌*◌, ◌<◌, ◌≤◌}
use mathlib.Core.Path.{◌≡◌, refl, ap, ap₂, ◌∙◌, subst, sym}
use mathlib.Core.List.{List, [], ◌∷◌, ◌++◌, append-nil, map}
use native.Mathlib.Nat.{zero-add}
use native.Mathlib.Omega.{arith}
use lib.ListN.{drop, get_or, length, length-append, length-map, replicate}
use lib.Seq.{drop_at}
use Rattle.basics.specs.Tools.{each}
use Rattle.basics.proofs.Counts.{count_below}
use Rattle.basics.proofs.Tables.{get_d_each, length_each}
use Rattle.records.specs.Records.{assignment_bytes, assignment_of, circuits_in, fibre_of, number_in, record_at}
use Rattle.records.specs.declared.AssignmentRecord.{AssignmentRecord}
use Rattle.records.specs.declared.Circuit.{Circuit}
use Rattle.records.proofs.Files.{length_circuits_in, record_at_bytes}
use Rattle.records.proofs.Inverse.{assignment_read_written, le16_fits}
use Rattle.method.specs.Fibres.{floor}
use Rattle.method.specs.LitDemands.{LitDemand, lit_fibres}
use Rattle.method.specs.Line.{Assignment, Fibre, circuit, no_fibre, nobody, span_length, total, unassigned}
use Rattle.method.proofs.Circuits.{circuit_in_lem}
use Rattle.method.proofs.LitDemands.{lit_demand}
use Rattle.register.specs.Areas.{areas, zeroed_to}
use Rattle.register.specs.Lists.{assignment_record, assignment_records, behind, counts_of, fibre_list}
use Rattle.register.specs.Plans.{place_of, plan_in, span_of}
use Rattle.register.specs.declared.Counts.{Counts}
use Rattle.register.proofs.Reading.{assignment_record_lem, length_assignment_records}
use Rattle.places.specs.Parts.{picked}
use Rattle.places.specs.Places.{given_to}
use Rattle.places.specs.Turns.{number}
use Rattle.places.proofs.Parts.{length_picked, part_lies, picked_part}
use Rattle.places.proofs.RisingLaws.{Each, each_of}
use Rattle.additions.specs.Adding.{left_plan, settled_all, unplaced}
use Rattle.additions.proofs.Settling.{length_settled}
use Rattle.checker.specs.Checked.{assignments_in, fibres_in, length_in}
use Rattle.checker.proofs.Reading.{map_each}
use Rattle.mending.specs.Mending.{ReportLine, line_of, mend, mend_counts, mend_lines, mended_plan, record_of, refilled}
use Rattle.placing.specs.Riding.{spans_of}
use Rattle.placing.specs.Turns.{AllWritten}
use Rattle.parts.specs.Left.{LeftAsked, LeftSettled, said_behind}
use Rattle.mender.specs.Report.{lent_areas, report_bytes, report_list}
use Rattle.mender.specs.declared.Mended.{Mended}
use Rattle.mender.specs.inner.Lines.{begun_line, filled_line}
use Rattle.mender.specs.inner.Steps.{MendAsked, Refilled, Remade, lost}
use Rattle.mender.proofs.Leaves.{many_fibres}
use Rattle.mender.proofs.Reading.{by_records}
use Rattle.mender.proofs.Refilling.{lost_there}
use Rattle.mender.proofs.Sifting.{record_read}

-- LENGTHS. Of fibres none of which is longer than 65,536
total_low : (fs : List Fibre) → ((i : ℕ) → i < length fs → span_length (get_or fs i no_fibre) ≤ 65536) → total fs ≤ 65536 * length fs
unfolding total
total_low [] h = omega arith
total_low (f ∷ fs) h =
    let a = h 0 (omega arith) in
    let b = total_low fs (λ i l. h (suc i) (omega arith)) in
    omega arith

-- of two lists
total_both : (fs gs : List Fibre) → total (fs ++ gs) ≡ total fs + total gs
unfolding total
total_both [] gs = omega arith
total_both (f ∷ fs) gs = omega (arith, total_both fs gs)

-- of the records of old fibres, as the check adds them up
old_total : (many : ℕ) (F A : List ℕ) → length_in (fibres_in many F) ≡ total (plan_in many 0 F A).fibres
unfolding plan_in fibres_in
old_total many F A = ap total (map_each span_of (λ i. fibre_of (record_at F i)) 0 many)

-- which are short enough to be added
pub old_short : (many : ℕ) (F : List ℕ) → ((i : ℕ) → get_or F i 0 < 256) → length_in (fibres_in many F) ≤ 65536 * many
unfolding plan_in span_length
old_short many F bytes =
    let f : ℕ → Fibre = λ i. span_of (fibre_of (record_at F i)) in
    let n = length_each f 0 many in
    let e = old_total many F [] in
    let low = total_low (each f 0 many)
    (λ i l.
    let r = record_at F i in
    let q : get_or (each f 0 many) i no_fibre ≡ f i = get_d_each f 0 many i no_fibre (omega arith) ∙ ap f (zero-add i) in
    let a = le16_fits r (record_at_bytes F i bytes) 4 in
    rw q (omega (arith, a))) in
    omega (arith, e, low, n)

-- lines that are the same for each of some places are the same
map_same : (f g : ℕ → ReportLine) (js : List ℕ) → Each (λ j. f j ≡ g j) js → map f js ≡ map g js
map_same f g [] e = refl
map_same f g (j ∷ js) e = ap₂ (λ (x : ReportLine) (l : List ReportLine). x ∷ l) e.0 (map_same f g js e.1)

-- three numbers
abbrev numbers : ℕ → ℕ → ℕ → Counts
numbers fibres total floor = record { fibres = fibres; total = total; floor = floor }

-- THE STEPS of `remake`
module _ (n w m many : ℕ) (s F A R W : List ℕ) (h : MendAsked n w m many s (lent_areas F A R W)) (A₁ R₁ W₁ : List ℕ) (lines : ℕ) (y : Refilled w m many s F A A₁ R R₁ lines) where
  -- the circuits
  abbrev cs : List Circuit
  cs = circuits_in m s

  -- the old fibres
  abbrev fs : List Fibre
  fs = (plan_in many 0 F A).fibres

  -- the damaged records
  abbrev rs : List AssignmentRecord
  rs = assignments_in m A

  -- what all have on the old fibres
  abbrev G : List Assignment
  G = refilled w fs cs rs

  -- those that are not kept
  abbrev L : List ℕ
  L = lost w m many s F A

  said : said_behind 0 m A₁ ≡ G
  unfolding spans_of plan_in
  said = y.said

  -- what `plan_left` is asked
  pub left_asked : length W₁ ≡ length W → LeftAsked n w many 0 m s (areas F A₁ W₁)
  left_asked long =
      let reg = h.register in
      let z : 0 + m ≡ m = zero-add m in
      let one = reg.one_each in
      let sized = y.sized in
      let few = reg.accepted.file.few in
      record {
        accepted = reg.accepted;
        few = omega arith;
        few_fibres = reg.few_fibres;
        named = λ j l. ap (λ x. (assignment_of (record_at A₁ x)).circuit) (zero-add j) ∙ y.named j l;
        fibre_room = h.fibre_room;
        assign_room = omega arith;
        work_room = let r = h.work_room in omega arith;
      }

  -- the new fibres
  abbrev fresh : List Fibre
  fresh = (left_plan n w cs G).fibres

  -- their plan keeps what is promised of R-1
  new_demand : LitDemand n w (picked (unplaced G) cs)
  new_demand =
      let a = h.register.accepted in
      lit_demand n w (picked (unplaced G) cs) (part_lies (picked_part (unplaced G) cs) n a.file.lies) a.waves.0

  -- they are at most as many as the circuits, and not long
  fresh_few : length fresh ≤ m
  unfolding left_plan lit_fibres
  fresh_few = omega (arith, new_demand.few_fibres, length_picked (unplaced G) cs, count_below (unplaced G) (length cs), length_circuits_in m s)

  fresh_short : total fresh ≤ 65536 * length fresh
  unfolding left_plan span_length
  fresh_short =
      total_low fresh
      (λ i l.
      let on_line = (new_demand.rules.fibres_on_line i l).2 in
      let line = h.register.accepted.file.line in
      omega arith)

  module _ (F' A' W' : List ℕ) (counts : Counts) (g : LeftSettled n w many 0 m s (areas F A₁ W₁) (areas F' A' W') counts) where
    -- the counts of the new fibres
    counted_new : counts ≡ counts_of (left_plan n w cs G) (floor n w (picked (unplaced G) cs))
    counted_new = g.counted ∙ ap (λ x. counts_of (left_plan n w cs x) (floor n w (picked (unplaced x) cs))) said

    new_many : counts.fibres ≡ length fresh
    unfolding counts_of
    new_many = ap (λ (c : Counts). c.fibres) counted_new

    new_long : counts.total ≡ total fresh
    unfolding counts_of
    new_long = ap (λ (c : Counts). c.total) counted_new

    -- so the sums fit
    pub few_new : counts.fibres ≤ 2048
    few_new = let few = h.register.accepted.file.few in omega (arith, new_many, fresh_few)

    pub short_new : counts.total ≤ 134217728
    short_new = let few = h.register.accepted.file.few in omega (arith, new_long, fresh_short, fresh_few)

    -- what all have in the end
    abbrev S : List Assignment
    S = settled_all n w fs cs G

    all_written : AllWritten cs 0 S A₁ A'
    all_written = subst (λ x. AllWritten cs 0 (settled_all n w fs cs x) A₁ A') said (g.written fs (many_fibres many 0 F A))

    -- the record of circuit j
    record_in : (j : ℕ) → j < m → record_at A' j ≡ assignment_bytes (record { circuit = number cs j; fibre = (given_to S j).fibre; wavelength = (given_to S j).wavelength })
    record_in j l = ap (record_at A') (sym (zero-add j)) ∙ all_written.news j (omega (arith, length_circuits_in m s))

    length_A' : length A' ≡ 8 * m
    length_A' = all_written.sized ∙ y.sized ∙ h.register.one_each

    -- all records
    records_are : A' ≡ assignment_records 0 cs S
    unfolding assignment_record circuit given_to
    records_are =
        let c = length_circuits_in m s in
        let e = length_settled n w fs cs G in
        by_records m A' (assignment_records 0 cs S) length_A' (length_assignment_records 0 cs S e ∙ ap (λ (x : ℕ). 8 * x) c)
        (λ j l.
        record_in j l
        ∙ sym (ap (λ (x : List ℕ). record_at x j) (sym (append-nil (assignment_records 0 cs S))) ∙ assignment_record_lem 0 cs S [] j e (omega arith)
        ∙ ap (λ (x : ℕ). assignment_bytes (record { circuit = (get_or cs j nobody).number; fibre = x; wavelength = (get_or S j unassigned).wavelength }))
        (zero-add (get_or S j unassigned).fibre)))

    -- A LINE that is filled in is the line of its circuit
    line_is : (j : ℕ) → j < m → filled_line s A A' j ≡ line_of n w fs cs rs j
    unfolding line_of mended_plan
    line_is j l =
        let a : AssignmentRecord = record { circuit = number cs j; fibre = (given_to S j).fibre; wavelength = (given_to S j).wavelength } in
        let p : number_in s j ≡ number cs j = sym (ap (λ (c : Circuit). c.number) (circuit_in_lem m s j l)) in
        let q : place_of (assignment_of (record_at A j)) ≡ place_of (record_of rs j) = ap place_of (sym (record_read m A j l)) in
        let r : place_of (assignment_of (record_at A' j)) ≡ given_to S j = ap (λ x. place_of (assignment_of x)) (record_in j l) ∙ ap place_of (assignment_read_written a) in
        λ i. record { number = p i; found = q i; given = r i }

    -- what the lines that were begun ask
    pub lines_begun : (length L ≡ lines) × ((t : ℕ) → t < lines → 8 * get_or L t 0 + 8 ≤ length A')
        × (R₁ ≡ report_bytes (map (begun_line s A) L) ++ drop (12 * length (map (begun_line s A) L)) R)
    unfolding report_list
    lines_begun = (
      sym y.many_lost,
      (λ t l. let e = y.many_lost in let b = lost_there n w m many s F A h.register t (omega arith) in omega (arith, length_A')),
      y.begun,
    )

    -- WHAT IS LEFT is the mending
    pub all_remade : (R' : List ℕ) (span low : ℕ) → span ≡ length_in (fibres_in many F) → low ≡ floor n w cs → drop (4 * n + 4 * m) W₁ ≡ drop (4 * n + 4 * m) W
        → R' ≡ report_bytes (map (filled_line s A A') L) ++ drop (12 * length (map (begun_line s A) L)) R
        → Remade n w m many s (lent_areas F A R W) (lent_areas F' A' R' W') (let t : Mended = record { counts = numbers (many + counts.fibres) (span + counts.total) low; lines = lines } in t)
    unfolding mend mended_plan mend_counts mend_lines counts_of zeroed_to report_list spans_of plan_in
    all_remade R' span low long is-floor rest is-report =
        let old = many_fibres many 0 F A in
        let t : span ≡ total fs = long ∙ old_total many F A in
        let z : 0 + m ≡ m = zero-add m in
        let same : map (filled_line s A A') L ≡ map (line_of n w fs cs rs) L =
        map_same (filled_line s A A') (line_of n w fs cs rs) L
        (each_of (λ j. filled_line s A A' j ≡ line_of n w fs cs rs j) L (λ t l. line_is (get_or L t 0) (lost_there n w m many s F A h.register t l))) in
        let many-lines : lines ≡ length (map (line_of n w fs cs rs) L) = y.many_lost ∙ sym (length-map L (line_of n w fs cs rs)) in
        record {
          counted =
              ap₂ (λ x v. numbers x v low) (ap₂ ◌+◌ (sym old) new_many ∙ sym (length-append fs fresh)) (ap₂ ◌+◌ t new_long ∙ sym (total_both fs fresh))
              ∙ ap (numbers (length (fs ++ fresh)) (total (fs ++ fresh))) is-floor;
          lined = many-lines;
          listed = g.listed ∙ ap (λ x. behind (8 * many) (fibre_list many x) F) (ap (λ x. (left_plan n w cs x).fibres) said ∙ sym (drop_at fs fresh many old));
          assigned = records_are;
          reported = is-report
              ∙ ap₂ (λ x v. report_bytes x ++ drop (12 * v) R) same (length-map L (begun_line s A) ∙ sym (length-map L (line_of n w fs cs rs)));
          cleared = g.cleared ∙ ap (λ x. replicate (4 * n + 4 * x) 0 ++ drop (4 * n + 4 * x) W₁) z ∙ ap (λ x. replicate (4 * n + 4 * m) 0 ++ x) rest;
        }
