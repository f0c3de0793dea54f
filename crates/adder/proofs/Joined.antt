-- Two files and the joined file: its circuits are those of both, and its tests pass exactly if those of two files do. Assumes nothing.
use Prim.Native.Nat.{ℕ, ◌+◌, ◌*◌, ◌/◌, ◌%◌, ◌≤◌}
use mathlib.Core.Path.{◌≡◌, ap, ◌∙◌, sym, subst}
use mathlib.Core.Bool.{Bool, not}
use mathlib.Core.List.{List, [], ◌++◌, append-nil}
use mathlib.Core.Option.{Option, none}
use native.Mathlib.Omega.{arith}
use lib.ListN.{length, length-append}
use lib.Dec.{eqb}
use borrow.Author.Tests.{eq-eqb, ne_eqb}
use Rattle.basics.proofs.Searches.{any_none}
use Rattle.records.specs.Records.{circuit_of, circuits_in, circuits_of, number_in}
use Rattle.records.specs.declared.Circuit.{Circuit}
use Rattle.records.specs.declared.Line.{Line}
use Rattle.records.proofs.Files.{length_circuits_in}
use Rattle.method.specs.Line.{Distinct, Lies, circuit}
use Rattle.refusals.specs.declared.Reason.TheVariants.{PartRecord, TooManyCircuits, NumberTaken}
use Rattle.refusals.specs.Given.{NoneApplies}
use Rattle.refusals.specs.Table.{circuit_rows, file_rows, has_number, line_rows, no_end, record_rows, row5, row6, row7, whenever, wherever}
use Rattle.refusals.proofs.FirstLaws.{first_end}
use Rattle.refusals.proofs.Passed.{passed7, passes_room}
use Rattle.refusals.proofs.Pieces.{none_both, none_end, none_first, none_more, none_rest}
use Rattle.rows.specs.Accepted.{Accepted}
use Rattle.planner.proofs.Accepting as Tests
use Rattle.planner.proofs.Among.{Among, circuits_pass}
use Rattle.places.proofs.TwoFiles.{circuit_new, circuit_old, distinct_new, distinct_old}
use Rattle.two_files.specs.Rows.{has_old, later, row14, two_file_rows, two_record_rows}
use Rattle.two_files.proofs.JoinLaws.{joined_circuits, record_new, record_old}
use Rattle.two_files.proofs.OldLaws.{none_twice}
use Rattle.two_files.proofs.Told.{both_few, both_unlike}

-- a file of whole records passes 1
whole_passes : (s : List ℕ) (m : ℕ) → 8 * m ≡ length s → whenever PartRecord (not (eqb (length s % 8) 0)) ≡ none
whole_passes s m e = let z : length s % 8 ≡ 0 = omega arith in ap (λ (b : Bool). whenever PartRecord (not b)) (eq-eqb (length s % 8) 0 z)

-- a file of m records that pass, with a line that does, passes the tests of circuits
pub file_passes : (line : Line) (s : List ℕ) (m : ℕ) → 8 * m ≡ length s → m ≤ 2048 → NoneApplies (line_rows line)
    → row5 s m ≡ none → row6 line.links s m ≡ none → row7 s m ≡ none → NoneApplies (circuit_rows line s)
unfolding circuit_rows file_rows record_rows
file_passes line s m whole few drawn five six seven =
    let e : length s / 8 ≡ m = omega arith in
    none_both (file_rows s) _ (none_more _ _ (whole_passes s m whole) (none_more _ _ (passes_room TooManyCircuits (length s / 8) 2048 (omega arith)) none_end))
    (none_both (line_rows line) _ drawn
    (none_both (record_rows line.links (length s / 8) s) []
    (none_more _ _ (ap (row5 s) e ∙ five) (none_more _ _ (ap (row6 line.links s) e ∙ six) (none_more _ _ (ap (row7 s) e ∙ seven) none_end)))
    none_end))

module _ (old new : List ℕ) (old_records : 8 * (length old / 8) ≡ length old) (new_records : 8 * (length new / 8) ≡ length new) where
  -- how many circuits there are in both files
  joined_many : length (old ++ new) / 8 ≡ length old / 8 + length new / 8
  joined_many = let l = length-append old new in omega arith

  -- the circuits of the joined file are those of both
  pub circuits_joined : circuits_of (old ++ new) ≡ circuits_of old ++ circuits_of new
  circuits_joined = ap (λ (x : ℕ). circuits_in x (old ++ new)) joined_many ∙ joined_circuits old new (length old / 8) (length new / 8) old_records

  -- THE JOINED FILE PASSES the tests of one file
  pub joined_pass : (line : Line) → NoneApplies (two_file_rows old new) → NoneApplies (line_rows line) → NoneApplies (two_record_rows line.links (length old / 8) (length new / 8) old new)
      → row14 old (length old / 8) new (length new / 8) ≡ none → NoneApplies (circuit_rows line (old ++ new))
  unfolding two_record_rows
  joined_pass line files drawn records fourteen =
      let k = length old / 8 in
      let m = length new / 8 in
      let unlike = both_unlike line.links k m old new records in
      file_passes line (old ++ new) (k + m) (omega (arith, length-append old new)) (both_few old new files) drawn
      (none_first _ _ records) (none_first _ _ (none_rest _ _ records))
      (none_twice (old ++ new) old new [] k m (sym (append-nil (old ++ new))) old_records new_records unlike fourteen)

  -- AND THE OTHER WAY. The joined file passed
  module _ (line : Line) (passed : NoneApplies (circuit_rows line (old ++ new))) where
    -- what its tests left
    pub taken : Accepted line.links line.wavelengths (length (old ++ new) / 8) (old ++ new)
    taken = Tests.accepted line (old ++ new) passed

    -- no number of both files stands twice
    pub once : Distinct (circuits_of old ++ circuits_of new)
    once = subst Distinct circuits_joined taken.file.distinct

    -- every circuit of both lies on the line
    pub lie : Lies line.links (circuits_of old ++ circuits_of new)
    lie = subst (Lies line.links) circuits_joined taken.file.lies

    -- a circuit of either file stands in the joined one
    old_among : Among (old ++ new) old
    old_among =
        let cs = circuits_of old in
        let ds = circuits_of new in
        let l = length-append old new in
        record {
          whole = omega arith;
          few = omega (arith, joined_many);
          once = distinct_old cs ds once;
          from = λ j h. (
            j,
            omega (arith, joined_many, length_circuits_in (length old / 8) old, length_circuits_in (length (old ++ new) / 8) (old ++ new)),
            sym (ap (λ (es : List Circuit). circuit es j) circuits_joined ∙ circuit_old cs ds j h),
          );
        }

    new_among : Among (old ++ new) new
    new_among =
        let cs = circuits_of old in
        let ds = circuits_of new in
        record {
          whole = omega arith;
          few = omega (arith, joined_many);
          once = distinct_new cs ds once;
          from = λ j h. (
            length cs + j,
            omega (arith, joined_many, length_circuits_in (length old / 8) old, length_circuits_in (length new / 8) new, length_circuits_in (length (old ++ new) / 8) (old ++ new)),
            sym (ap (λ (es : List Circuit). circuit es (length cs + j)) circuits_joined ∙ circuit_new cs ds j),
          );
        }

    -- so each file passes alone
    pub old_pass : NoneApplies (circuit_rows line old)
    old_pass = circuits_pass line (old ++ new) old old_among passed

    pub new_pass : NoneApplies (circuit_rows line new)
    new_pass = circuits_pass line (old ++ new) new new_among passed

    -- 14 does not apply
    pub no_old : row14 old (length old / 8) new (length new / 8) ≡ none
    unfolding has_old record_rows
    no_old =
        let k = length old / 8 in
        let m = length new / 8 in
        let s = old ++ new in
        let seven : row7 s (k + m) ≡ none = ap (row7 s) (sym joined_many) ∙ none_first _ _ (none_rest _ _ (none_rest _ _ (Tests.of_records line s passed))) in
        ap (λ (o : Option ℕ). later k (wherever NumberTaken no_end o))
        (first_end (has_old old k new) m
        (λ j h.
        any_none (has_number old (number_in new j)) k
        (λ i l.
        ne_eqb (number_in old i) (number_in new j)
        (λ z.
        let t : i ≡ k + j =
        passed7 s (k + m) seven i (k + j) (omega arith) (omega arith)
        (ap (λ (r : List ℕ). (circuit_of r).number) (record_old old new k old_records i l) ∙ z
        ∙ sym (ap (λ (r : List ℕ). (circuit_of r).number) (record_new old new k old_records j))) in
        omega arith))))

    -- nor do the tests of the bytes of both
    pub files_pass : NoneApplies (two_file_rows old new)
    unfolding two_file_rows
    files_pass =
        let few = taken.file.few in
        none_more _ _ (whole_passes old (length old / 8) old_records)
        (none_more _ _ (whole_passes new (length new / 8) new_records)
        (none_more _ _ (passes_room TooManyCircuits (length old / 8 + length new / 8) 2048 (omega (arith, joined_many))) none_end))

    -- nor those of their records
    pub records_pass : NoneApplies (two_record_rows line.links (length old / 8) (length new / 8) old new)
    unfolding two_record_rows record_rows
    records_pass =
        let s = old ++ new in
        let k = sym joined_many in
        let both = Tests.of_records line s passed in
        let sevens : (r : List ℕ) → NoneApplies (circuit_rows line r) → row7 r (length r / 8) ≡ none = λ r p. none_first _ _ (none_rest _ _ (none_rest _ _ (Tests.of_records line r p))) in
        none_more _ _ (ap (row5 s) k ∙ none_first _ _ both)
        (none_more _ _ (ap (row6 line.links s) k ∙ none_first _ _ (none_rest _ _ both))
        (none_more _ _ (sevens old old_pass)
        (none_more _ _ (ap (later (length old / 8)) (sevens new new_pass)) none_end)))
