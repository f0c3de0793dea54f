-- What the tests of mending leave where none of them applies, and what passes them. Assumes nothing.
use Prim.Native.Nat.{ℕ, suc, ◌+◌, ◌-◌, ◌*◌, ◌/◌, ◌<◌, ◌≤◌}
use mathlib.Core.Path.{◌≡◌, refl, ap, ◌∙◌, subst, sym}
use mathlib.Core.Bool.{Bool, true, false, cond}
use mathlib.Core.Logic.{◌≢◌, inl, inr}
use mathlib.Core.List.{List, [], ◌∷◌}
use mathlib.Core.Option.{Option, none, some}
use native.Mathlib.Omega.{arith}
use lib.ListN.{get_or, length}
use lib.Dec.{eqb, ltb}
use borrow.Author.Tests.{eq-eqb, eqb-false, eqb-true, le-ltb, ltb-false, ltb-true, not-false}
use Rattle.basics.proofs.Tables.{length_each}
use Rattle.records.specs.Records.{circuits_of, fibre_of, number_in, record_at}
use Rattle.records.specs.declared.FibreRecord.{FibreRecord}
use Rattle.records.specs.declared.Line.{Line}
use Rattle.records.proofs.Files.{circuits_in_at, length_circuits_in}
use Rattle.method.specs.Line.{Fibre, circuit, nobody}
use Rattle.refusals.specs.declared.Reason.TheVariants.{NumberZero, FibreRoom, WorkRoom, PartList, UnfitFibres, ReportRoom}
use Rattle.refusals.specs.Refusals.{number_of}
use Rattle.refusals.specs.declared.Refusal.{Refusal}
use Rattle.refusals.specs.Table.{Row, area_rows, bad_ends, circuit_rows, file_rows, first_record, line_rows, no_end, plan_table, record_rows, whenever, wherever}
use Rattle.refusals.specs.Given.{InOrder, NoneApplies}
use Rattle.refusals.specs.Ends.{TellsEnd}
use Rattle.refusals.proofs.EndLaws.{EachGives, circuits_tell, each_both, each_end, each_more, each_tells, whole_tells}
use Rattle.refusals.proofs.First.{record_none}
use Rattle.refusals.proofs.FirstLaws.{first_end}
use Rattle.refusals.proofs.Passed.{good_ends, passed_room, passes_room, wherever_none}
use Rattle.refusals.proofs.Pieces.{in_order_both, none_both, none_end, none_first, none_left, none_more, none_rest, none_right, plan_in_order, whenever_gives, wherever_gives}
use Rattle.register.specs.Plans.{Numbered, plan_in, span_of}
use Rattle.planner.proofs.Accepting as Tests
use Rattle.places.specs.Turns.{number}
use Rattle.places.proofs.RisingLaws.{Each}
use Rattle.additions.specs.Grown.{FibresOn}
use Rattle.checker.specs.Rules.{Breach, breach_at, faulty, fibre_at, fibre_rules, first_fault, lowest_broken, no_fibre_record}
use Rattle.checker.specs.Sound.{FirstFault}
use Rattle.checker.specs.Checked.{fibres_in}
use Rattle.checker.proofs.Faults.{first_faulty, is_sound, lowest_none, none_lowest, rising_numbered, sound_is}
use Rattle.checker.proofs.First.{fibres_rise}
use Rattle.checker.proofs.Planned.{span_is}
use Rattle.checker.proofs.Reading.{fibres_in_at}
use Rattle.mending.specs.MendDemands.{MendDemand, Mendable}
use Rattle.mending.proofs.MendDemands.{mend_demand}
use Rattle.mender.specs.Report.{Lent}
use Rattle.mender.specs.Table.{lent_rows, mend_table, row16, row20}
use Rattle.mender.specs.Outcome.{damaged, old_fibres}
use Rattle.mender.specs.Seen.{FibreTold, FibresFit}

-- 16 is not told, so there is one record a circuit
passed16 : (m has : ℕ) → row16 m has ≡ none → has ≡ 8 * m
passed16 m has e = eqb-true has (8 * m) (go (eqb has (8 * m)) e)
  where
    go : (b : Bool) → wherever PartList no_end (cond b none (some 2)) ≡ none → b ≡ true
    go true e = refl
    go false e = cc

-- the plan of `many` fibre records has as many fibres
pub many_fibres : (many m : ℕ) (fibres assigns : List ℕ) → length (plan_in many m fibres assigns).fibres ≡ many
unfolding plan_in
many_fibres many m fibres assigns = length_each (λ i. span_of (fibre_of (record_at fibres i))) 0 many

-- rows that give lower numbers do not give 20
others : (P : Refusal → Type 0) (xs : List ℕ) (rows : List Row) → InOrder xs rows → Each (λ x. x < 20) xs → EachGives (λ r. number_of r.reason ≡ 20 → P r) rows
others P [] [] o h = each_end _
others P [] (row ∷ rows) o h = absurd o
others P (x ∷ xs) [] o h = absurd o
others P (x ∷ xs) (row ∷ rows) o h = each_more _ row rows (λ r e z. absurd (omega (arith, h.0, o.0 r e, z))) (others P xs rows o.1 h.1)

-- THE FIBRES. Those that are fit pass 20
module _ (n many : ℕ) (fibres : List ℕ) where
  pub fit_passes : FibresFit n many fibres → row20 n many fibres ≡ none
  fit_passes f =
      rw (le-ltb 2048 many f.few, first_end (λ i. faulty (fibre_rules n (fibres_in many fibres) i)) many (λ i h. sound_is _ (none_lowest _ (f.sound i h))))

  -- and no others do
  pub passes_fit : row20 n many fibres ≡ none → FibresFit n many fibres
  passes_fit e = go (ltb 2048 many) refl e
    where
      go : (b : Bool) → ltb 2048 many ≡ b → cond b (whenever UnfitFibres true) (wherever UnfitFibres no_end (first_record (λ i. faulty (fibre_rules n (fibres_in many fibres) i)) many)) ≡ none
          → FibresFit n many fibres
      go true q e = absurd (let z : ◌≡◌ {A = ℕ} 0 1 = cc in omega arith)
      go false q e =
          record {
            few = ltb-false 2048 many q;
            sound = λ i h.
                let rs = fibre_rules n (fibres_in many fibres) in
                lowest_none (rs i) (rising_numbered (rs i) (fibres_rise n (fibres_in many fibres) i))
                (is_sound (rs i) (record_none (λ i. faulty (rs i)) many (wherever_none UnfitFibres no_end _ e) i h));
          }

  -- what 20 tells of those that are not fit
  pub told_fibre : (r : Refusal) → row20 n many fibres ≡ some r → FibreTold n many fibres r.place
  unfolding first_fault
  told_fibre r e = go (ltb 2048 many) refl e
    where
      found : (o : Option ℕ) → first_record (λ i. faulty (fibre_rules n (fibres_in many fibres) i)) many ≡ o → wherever UnfitFibres no_end o ≡ some r
          → (b : Breach) × (b.place ≡ r.place) × FirstFault (fibre_rules n (fibres_in many fibres)) many b
      found none f e = absurd (let z : ◌≡◌ {A = ℕ} 0 1 = cc in omega arith)
      found (some place) f e =
          let rules = fibre_rules n (fibres_in many fibres) in
          let b : Breach = record { rule = lowest_broken (rules (place - 1)); place = place } in
          let p : place ≡ r.place = cc in
          (b, p, first_faulty rules (fibres_rise n (fibres_in many fibres)) many b (ap (breach_at rules) f))

      go : (b : Bool) → ltb 2048 many ≡ b → cond b (whenever UnfitFibres true) (wherever UnfitFibres no_end (first_record (λ i. faulty (fibre_rules n (fibres_in many fibres) i)) many)) ≡ some r
          → FibreTold n many fibres r.place
      go true q e = let p : r.place ≡ 0 = cc in inl (ltb-true 2048 many q, p)
      go false q e = let y = found _ refl e in inr (ltb-false 2048 many q, y.0, y.1, y.2)

  module _ (fit : FibresFit n many fibres) where
    -- they are numbered 1, 2, ..
    pub fit_numbered : Numbered many fibres
    fit_numbered i h =
        let f = fibre_at (fibres_in many fibres) i in
        sym (ap (λ (x : FibreRecord). x.number) (fibres_in_at many fibres i no_fibre_record h))
        ∙ eqb-true f.number (suc i) (not-false (eqb f.number (suc i)) (fit.sound i h 0))

    -- and lie on the line
    pub fit_on_line : (assigns : List ℕ) → FibresOn n (plan_in many 0 fibres assigns).fibres
    unfolding bad_ends
    fit_on_line assigns i h =
        let f = fibre_at (fibres_in many fibres) i in
        subst (λ (x : Fibre). (1 ≤ x.first) × (x.first ≤ x.last) × (x.last ≤ n)) (span_is many 0 fibres assigns i)
        (good_ends n (record { number = 0; first = f.first; last = f.last }) (fit.sound i (omega (arith, many_fibres many 0 fibres assigns)) 1))

module _ (line : Line) (s : List ℕ) (many : ℕ) (lent : Lent) where
  -- how many circuits
  abbrev m : ℕ
  m = length s / 8

  module _ (passed : NoneApplies (mend_table line s many lent)) where
    -- no test of the circuits applies
    pub of_circuits : NoneApplies (circuit_rows line s)
    unfolding mend_table
    of_circuits = none_left (circuit_rows line s) _ passed

    -- no test of the lent lists and areas
    of_lent : NoneApplies (lent_rows line.links m many lent)
    unfolding mend_table
    of_lent = none_left (lent_rows line.links m many lent) _ (none_right (circuit_rows line s) _ passed)

    -- there is room behind the fibres
    pub fibre_room : 8 * (many + m) ≤ length lent.fibres
    unfolding lent_rows
    fibre_room = passed_room FibreRoom (8 * (many + m)) (length lent.fibres) (none_first _ _ of_lent)

    -- in the work area
    pub work_room : 4 * line.links + 4 * m ≤ length lent.work
    unfolding lent_rows
    work_room = passed_room WorkRoom (4 * line.links + 4 * m) (length lent.work) (none_first _ _ (none_rest _ _ of_lent))

    -- there is one assignment record for each circuit
    pub one_each : length lent.assigns ≡ 8 * m
    unfolding lent_rows
    one_each = passed16 m (length lent.assigns) (none_first _ _ (none_rest _ _ (none_rest _ _ of_lent)))

    -- the fibres are fit
    pub fit : FibresFit line.links many lent.fibres
    unfolding lent_rows
    fit = passes_fit line.links many lent.fibres (none_first _ _ (none_rest _ _ (none_rest _ _ (none_rest _ _ of_lent))))

    -- and the report has room for a line for each circuit
    pub report_room : 12 * m ≤ length lent.report
    unfolding lent_rows
    report_room = passed_room ReportRoom (12 * m) (length lent.report) (none_first _ _ (none_rest _ _ (none_rest _ _ (none_rest _ _ (none_rest _ _ of_lent)))))

    -- no circuit number is 0
    from_one : (j : ℕ) → j < length (circuits_of s) → 1 ≤ number (circuits_of s) j
    unfolding circuit record_rows
    from_one j h =
        let b : j < m = omega (arith, length_circuits_in m s) in
        let five = none_first _ _ (Tests.of_records line s of_circuits) in
        let z : number_in s j ≢ 0 = eqb-false (number_in s j) 0 (record_none (λ i. eqb (number_in s i) 0) m (wherever_none NumberZero no_end _ five) j b) in
        let e : (get_or (circuits_of s) j nobody).number ≡ number_in s j = ap (λ c. c.number) (circuits_in_at m s j nobody b) in
        omega arith

    -- the register may be mended
    pub mendable : Mendable line.links line.wavelengths (circuits_of s)
    mendable =
        let a = Tests.accepted line s of_circuits in
        record { waves = a.waves.0; lies = a.file.lies; once = a.file.distinct; from_one = from_one }

    -- and all that is promised of its mending holds
    pub due : MendDemand line.links line.wavelengths (old_fibres many lent) (circuits_of s) (damaged s lent)
    due = mend_demand line.links line.wavelengths (old_fibres many lent) (circuits_of s) (damaged s lent) mendable

  -- AND THE OTHER WAY: what passes the tests
  pub mend_passes : NoneApplies (circuit_rows line s) → 8 * (many + m) ≤ length lent.fibres → 4 * line.links + 4 * m ≤ length lent.work → length lent.assigns ≡ 8 * m
      → FibresFit line.links many lent.fibres → 12 * m ≤ length lent.report → NoneApplies (mend_table line s many lent)
  unfolding mend_table lent_rows
  mend_passes p x y z f r =
      none_both (circuit_rows line s) _ p
      (none_more _ _ (passes_room FibreRoom (8 * (many + m)) (length lent.fibres) x)
      (none_more _ _ (passes_room WorkRoom (4 * line.links + 4 * m) (length lent.work) y)
      (none_more _ _ (ap (λ (b : Bool). wherever PartList no_end (cond b none (some 2))) (eq-eqb (length lent.assigns) (8 * m) z))
      (none_more _ _ (fit_passes line.links many lent.fibres f)
      (none_more _ _ (passes_room ReportRoom (12 * m) (length lent.report) r) none_end)))))

  -- 20 tells no end
  twenty_tells : (b : Bool) (o : Option ℕ) (r : Refusal) → cond b (whenever UnfitFibres true) (wherever UnfitFibres no_end o) ≡ some r → TellsEnd line.links m s r
  twenty_tells true o = whole_tells line.links m s UnfitFibres true (λ z. omega arith)
  twenty_tells false o = each_tells line.links m s UnfitFibres o (λ z. omega arith)

  -- refusal 6 tells the wrong end as that of `plan` does, and no other refusal tells one
  pub mend_tells : EachGives (TellsEnd line.links m s) (mend_table line s many lent)
  unfolding mend_table lent_rows
  mend_tells =
      let n = line.links in
      let P : Refusal → Type 0 = TellsEnd n m s in
      let whole = whole_tells n m s in
      each_both P (circuit_rows line s) _ (circuits_tell line s)
      (each_more P _ _ (whole FibreRoom (ltb (length lent.fibres) (8 * (many + m))) (λ z. omega arith))
      (each_more P _ _ (whole WorkRoom (ltb (length lent.work) (4 * n + 4 * m)) (λ z. omega arith))
      (each_more P _ _ (each_tells n m s PartList (cond (eqb (length lent.assigns) (8 * m)) none (some 2)) (λ z. omega arith))
      (each_more P _ _ (twenty_tells (ltb 2048 many) (first_record (λ i. faulty (fibre_rules n (fibres_in many lent.fibres) i)) many))
      (each_more P _ _ (whole ReportRoom (ltb (length lent.report) (12 * m)) (λ z. omega arith))
      (each_end P))))))

  -- 20 gives 20
  twenty_gives : (b : Bool) (o : Option ℕ) (r : Refusal) → cond b (whenever UnfitFibres true) (wherever UnfitFibres no_end o) ≡ some r → number_of r.reason ≡ 20
  twenty_gives true o = whenever_gives UnfitFibres true
  twenty_gives false o = wherever_gives UnfitFibres no_end o

  -- the lent lists and areas
  lent_in_order : InOrder (8 ∷ 10 ∷ 16 ∷ 20 ∷ 23 ∷ []) (lent_rows line.links m many lent)
  unfolding lent_rows
  lent_in_order =
      let n = line.links in
      let eight = whenever_gives FibreRoom (ltb (length lent.fibres) (8 * (many + m))) in
      let ten = whenever_gives WorkRoom (ltb (length lent.work) (4 * n + 4 * m)) in
      let sixteen = wherever_gives PartList no_end (cond (eqb (length lent.assigns) (8 * m)) none (some 2)) in
      let twenty = twenty_gives (ltb 2048 many) (first_record (λ i. faulty (fibre_rules n (fibres_in many lent.fibres) i)) many) in
      (eight, (ten, (sixteen, (twenty, (whenever_gives ReportRoom (ltb (length lent.report) (12 * m)), tt)))))

  -- those of the circuits
  circuits_in_order : InOrder (1 ∷ 2 ∷ 3 ∷ 12 ∷ 4 ∷ 5 ∷ 6 ∷ 7 ∷ []) (circuit_rows line s)
  unfolding plan_table circuit_rows file_rows line_rows record_rows area_rows
  circuits_in_order =
      let p = plan_in_order line s 0 0 0 in
      let q = p.1.1.1.1 in
      (p.0, (p.1.0, (p.1.1.0, (p.1.1.1.0, (q.0, (q.1.0, (q.1.1.0, (q.1.1.1.0, tt))))))))

  -- the tests stand in this order: those of `plan` for the circuits, then those of the lent lists and areas
  pub mend_in_order : InOrder (1 ∷ 2 ∷ 3 ∷ 12 ∷ 4 ∷ 5 ∷ 6 ∷ 7 ∷ 8 ∷ 10 ∷ 16 ∷ 20 ∷ 23 ∷ []) (mend_table line s many lent)
  unfolding mend_table lent_rows
  mend_in_order =
      in_order_both (1 ∷ 2 ∷ 3 ∷ 12 ∷ 4 ∷ 5 ∷ 6 ∷ 7 ∷ []) (8 ∷ 10 ∷ 16 ∷ 20 ∷ 23 ∷ []) (circuit_rows line s) (lent_rows line.links m many lent)
      circuits_in_order lent_in_order

  -- where 20 is given, it tells its fibre
  pub mend_tells_fibre : EachGives (λ r. number_of r.reason ≡ 20 → FibreTold line.links many lent.fibres r.place) (mend_table line s many lent)
  unfolding mend_table lent_rows
  mend_tells_fibre =
      let P : Refusal → Type 0 = λ r. FibreTold line.links many lent.fibres r.place in
      let Q : Refusal → Type 0 = λ r. number_of r.reason ≡ 20 → P r in
      let o = lent_in_order in
      each_both Q (circuit_rows line s) _
      (others P (1 ∷ 2 ∷ 3 ∷ 12 ∷ 4 ∷ 5 ∷ 6 ∷ 7 ∷ []) (circuit_rows line s) circuits_in_order
      (omega arith, (omega arith, (omega arith, (omega arith, (omega arith, (omega arith, (omega arith, (omega arith, tt)))))))))
      (each_both Q (_ ∷ _ ∷ _ ∷ []) _ (others P (8 ∷ 10 ∷ 16 ∷ []) _ (o.0, (o.1.0, (o.1.1.0, tt))) (omega arith, (omega arith, (omega arith, tt))))
      (each_more Q _ _ (λ r e z. told_fibre line.links many lent.fibres r e)
      (each_more Q _ _ (λ r e z. absurd (omega (arith, o.1.1.1.1.0 r e, z))) (each_end Q))))
