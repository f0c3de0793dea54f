-- Laws of the joined file: its records are those of the old file and then those of the new one, and so are its first faults. Assumes nothing.
use Prim.Native.Nat.{ℕ, suc, ◌+◌, ◌-◌, ◌*◌, ◌<◌, ◌≤◌}
use mathlib.Core.Path.{◌≡◌, refl, ap, ◌∙◌, sym}
use mathlib.Core.Bool.{Bool, true, false}
use mathlib.Core.List.{List, [], ◌++◌}
use mathlib.Core.Option.{Option, none, some}
use native.Mathlib.Omega.{arith}
use lib.ListN.{length, take, drop, get_or, length-append, length-drop, get_or-append}
use lib.Seq.{take-append-le, drop-append-le, drop-append-add, get_or-append-add, ext_get_or}
use lib.Dec.{eqb}
use Rattle.basics.proofs.Bools.{by_le}
use Rattle.records.specs.Records.{record_at, circuit_of, circuits_in, number_in}
use Rattle.records.specs.declared.Circuit.{Circuit}
use Rattle.records.proofs.Files.{circuits_in_at, length_circuits_in}
use Rattle.std.specs.Prelude.{Option as Told}
use Rattle.refusals.specs.declared.Refusal.{Refusal}
use Rattle.refusals.specs.declared.Reason.{Reason}
use Rattle.refusals.specs.declared.Reason.TheVariants.{NumberZero, WrongEnd}
use Rattle.refusals.specs.declared.End.{End}
use Rattle.refusals.specs.Table.{wherever, no_end, first_record, bad_ends, wrong_end, row5, row6}
use Rattle.refusals.proofs.First.{record_first, record_none}
use Rattle.refusals.proofs.FirstLaws.{first_hit, first_end}
use Rattle.two_files.specs.Rows.{later}
use Rattle.two_files.specs.Joint.{or_else}

-- a record of the old file
pub record_old : (old new : List ℕ) (k : ℕ) → 8 * k ≡ length old → (i : ℕ) → i < k → record_at (old ++ new) i ≡ record_at old i
record_old old new k e i h =
    let l = length-drop (8 * i) old in
    ap (take 8) (drop-append-le (8 * i) old new (omega arith)) ∙ take-append-le 8 (drop (8 * i) old) new (omega arith)

-- a record of the new file
pub record_new : (old new : List ℕ) (k : ℕ) → 8 * k ≡ length old → (i : ℕ) → record_at (old ++ new) (k + i) ≡ record_at new i
record_new old new k e i =
    let z : 8 * (k + i) ≡ length old + 8 * i = omega arith in
    ap (λ (x : ℕ). take 8 (drop x (old ++ new))) z ∙ ap (take 8) (drop-append-add old new (8 * i))

-- two files of k and of m records, in each of which a test is told
module _ (k m : ℕ) (p q r : ℕ → Bool) (left : (i : ℕ) → i < k → p i ≡ q i) (right : (i : ℕ) → i < m → p (k + i) ≡ r i) where
  -- none of the old records passes: none of the joined ones below k does
  none_left : ((i : ℕ) → i < k → q i ≡ false) → (i : ℕ) → i < k → p i ≡ false
  none_left f i h = left i h ∙ f i h

  -- and if none of the first j new ones does, none below k + j
  none_to : (j : ℕ) → j ≤ m → ((i : ℕ) → i < k → q i ≡ false) → ((i : ℕ) → i < j → r i ≡ false) → (i : ℕ) → i < k + j → p i ≡ false
  none_to j b f g i h =
      by_le k i
      (λ l. let z : i ≡ k + (i - k) = omega arith in ap p z ∙ right (i - k) (omega arith) ∙ g (i - k) (omega arith))
      (λ l. none_left f i (omega arith))

  -- the first of the joined records that passes is the first old one, or else the first new one, counted on
  pub joined_row : (reason : Reason) (ends endsOld endsNew : ℕ → Told End) → ((i : ℕ) → i < k → ends i ≡ endsOld i) → ((i : ℕ) → i < m → ends (k + i) ≡ endsNew i)
      → wherever reason ends (first_record p (k + m)) ≡ or_else (wherever reason endsOld (first_record q k)) (later k (wherever reason endsNew (first_record r m)))
  joined_row reason ends endsOld endsNew a b = go (first_record q k) refl
    where
      row : (j : ℕ) (end : Told End) → ends j ≡ end → j < k + m → p j ≡ true → ((i : ℕ) → i < j → p i ≡ false) → (place : ℕ) → place ≡ suc j
          → wherever reason ends (first_record p (k + m)) ≡ some (record { reason = reason; place = place; end = end })
      row j end e h t before place s =
          let z : suc j - 1 ≡ j = omega arith in
          ap (wherever reason ends) (first_hit p (k + m) j h t before)
          ∙ ap (λ (x : Refusal). some x) (λ i. record { reason = reason; place = sym s i; end = (ap ends z ∙ e) i })

      new : ((i : ℕ) → i < k → q i ≡ false) → (o : Option ℕ) → first_record r m ≡ o
          → wherever reason ends (first_record p (k + m)) ≡ later k (wherever reason endsNew (first_record r m))
      new f none e = rw e (ap (wherever reason ends) (first_end p (k + m) (none_to m (omega arith) f (record_none r m e))))
      new f (some place) e =
          let g = record_first r m place e in
          let j = g.0 in
          let s = g.1 in
          let h = g.2 in
          let z : j ≡ place - 1 = omega arith in
          rw e
          (row (k + j) (endsNew (place - 1)) (b j h ∙ ap endsNew z) (omega arith) (right j h ∙ g.3) (none_to j (omega arith) f g.4) (k + place) (omega arith))

      go : (o : Option ℕ) → first_record q k ≡ o
          → wherever reason ends (first_record p (k + m)) ≡ or_else (wherever reason endsOld (first_record q k)) (later k (wherever reason endsNew (first_record r m)))
      go none e = rw e (new (record_none q k e) (first_record r m) refl)
      go (some place) e =
          let g = record_first q k place e in
          let j = g.0 in
          let s = g.1 in
          let h = g.2 in
          let z : j ≡ place - 1 = omega arith in
          rw e
          (row j (endsOld (place - 1)) (a j h ∙ ap endsOld z) (omega arith) (left j h ∙ g.3) (λ i l. left i (omega arith) ∙ g.4 i l) place s)

module _ (old new : List ℕ) (k m : ℕ) (whole : 8 * k ≡ length old) where
  -- 5 of the joined file is that of the old file, or else that of the new one, counted on
  pub joined5 : row5 (old ++ new) (k + m) ≡ or_else (row5 old k) (later k (row5 new m))
  joined5 =
      joined_row k m (λ i. eqb (number_in (old ++ new) i) 0) (λ i. eqb (number_in old i) 0) (λ i. eqb (number_in new i) 0)
      (λ i h. ap (λ (x : List ℕ). eqb (circuit_of x).number 0) (record_old old new k whole i h))
      (λ i h. ap (λ (x : List ℕ). eqb (circuit_of x).number 0) (record_new old new k whole i))
      NumberZero no_end no_end no_end (λ i h. refl) (λ i h. refl)

  -- and so is 6, with the end that is wrong
  pub joined6 : (n : ℕ) → row6 n (old ++ new) (k + m) ≡ or_else (row6 n old k) (later k (row6 n new m))
  joined6 n =
      joined_row k m
      (λ i. bad_ends n (circuit_of (record_at (old ++ new) i))) (λ i. bad_ends n (circuit_of (record_at old i))) (λ i. bad_ends n (circuit_of (record_at new i)))
      (λ i h. ap (λ (x : List ℕ). bad_ends n (circuit_of x)) (record_old old new k whole i h))
      (λ i h. ap (λ (x : List ℕ). bad_ends n (circuit_of x)) (record_new old new k whole i))
      WrongEnd
      (λ i. wrong_end n (circuit_of (record_at (old ++ new) i))) (λ i. wrong_end n (circuit_of (record_at old i))) (λ i. wrong_end n (circuit_of (record_at new i)))
      (λ i h. ap (λ (x : List ℕ). wrong_end n (circuit_of x)) (record_old old new k whole i h))
      (λ i h. ap (λ (x : List ℕ). wrong_end n (circuit_of x)) (record_new old new k whole i))

  -- the circuits of the joined file are those of the old file, and then those of the new one
  pub joined_circuits : circuits_in (k + m) (old ++ new) ≡ circuits_in k old ++ circuits_in m new
  joined_circuits =
      let none : Circuit = circuit_of [] in
      let cs = circuits_in k old in
      let ds = circuits_in m new in
      let a = length_circuits_in k old in
      let b = length_circuits_in m new in
      let e = length_circuits_in (k + m) (old ++ new) in
      ext_get_or none (circuits_in (k + m) (old ++ new)) (cs ++ ds) (omega (arith, length-append cs ds))
      (λ i h.
      let l : i < k + m = omega arith in
      circuits_in_at (k + m) (old ++ new) i none l
      ∙ by_le k i
      (λ g.
      let z : i ≡ k + (i - k) = omega arith in
      let y : length cs + (i - k) ≡ i = omega arith in
      ap (λ (x : ℕ). circuit_of (record_at (old ++ new) x)) z ∙ ap circuit_of (record_new old new k whole (i - k)) ∙ sym (circuits_in_at m new (i - k) none (omega arith))
      ∙ sym (get_or-append-add cs ds (i - k) none) ∙ ap (λ (x : ℕ). get_or (cs ++ ds) x none) y)
      (λ g. ap circuit_of (record_old old new k whole i g) ∙ sym (circuits_in_at k old i none g) ∙ sym (get_or-append cs ds none i (omega arith))))
