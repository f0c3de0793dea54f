-- Records behind old records, read back: the old plan and what follows it. Assumes nothing.
use Prim.Native.Nat.{ℕ, zero, suc, ◌+◌, ◌*◌, ◌<◌, ◌≤◌}
use mathlib.Core.Path.{◌≡◌, refl, ap, ap₂, ◌∙◌, sym}
use mathlib.Core.List.{List, ◌∷◌, ◌++◌, append_assoc}
use native.Mathlib.Nat.{add-zero, suc-add, zero-add}
use native.Mathlib.Omega.{arith}
use lib.ListN.{drop, get_or, length, length-append, take}
use lib.Seq.{drop_at, drop-drop, length-take-le, take_at}
use Rattle.basics.specs.Tools.{each}
use Rattle.basics.proofs.Tables.{each_same, is_each}
use Rattle.records.specs.Records.{assignment_of, fibre_of, record_at}
use Rattle.records.specs.declared.Circuit.{Circuit}
use Rattle.method.specs.Line.{Assignment, Fibre, Plan, no_fibre, nobody, unassigned}
use Rattle.register.specs.Lists.{assignment_list, assignment_record, assignment_records, behind, fibre_list, fibre_record, fibre_records}
use Rattle.register.specs.Plans.{place_of, plan_in, span_of}
use Rattle.register.proofs.Reading.{assignment_read, assignment_record_lem, fibre_read, fibre_record_lem, length_assignment_records, length_fibre_records}
use Rattle.two_files.proofs.JoinLaws.{record_new, record_old}
use Rattle.checker.proofs.Planned.{taken_record}

-- a table of a + b entries is one of a and then one of b
each_split : {A : Type 0} (f : ℕ → A) (s a b : ℕ) → each f s (a + b) ≡ each f s a ++ each f (s + a) b
unfolding each
each_split f s zero b = ap₂ (each f) (sym (add-zero s)) (zero-add b)
each_split f s (suc a) b =
    let z : s + suc a ≡ suc s + a = omega arith in
    ap (each f s) (suc-add a b) ∙ ap (λ xs. f s ∷ xs) (each_split f (suc s) a b ∙ ap (λ (x : ℕ). each f (suc s) a ++ each f x b) (sym z))

-- LISTS THAT START ALIKE have the same records there
pub same_record : (a : ℕ) (s t : List ℕ) → take a s ≡ take a t → (i : ℕ) → 8 * i + 8 ≤ a → record_at s i ≡ record_at t i
same_record a s t e i h = sym (taken_record a s i h) ∙ ap (λ (r : List ℕ). record_at r i) e ∙ taken_record a t i h

-- and so the same plan of k fibre records and m assignment records
pub same_start : (k m a b : ℕ) (fibres fibres' assigns assigns' : List ℕ) → 8 * k ≤ a → 8 * m ≤ b → take a fibres ≡ take a fibres' → take b assigns ≡ take b assigns'
    → plan_in k m fibres assigns ≡ plan_in k m fibres' assigns'
unfolding plan_in
same_start k m a b fibres fibres' assigns assigns' x y e f =
    ap₂ (λ (s : List Fibre) (t : List Assignment). let q : Plan = record { fibres = s; assignments = t } in q)
    (each_same (λ i. span_of (fibre_of (record_at fibres i))) (λ i. span_of (fibre_of (record_at fibres' i))) 0 k
    (λ i l h. ap (λ (r : List ℕ). span_of (fibre_of r)) (same_record a fibres fibres' e i (omega arith))))
    (each_same (λ j. place_of (assignment_of (record_at assigns j))) (λ j. place_of (assignment_of (record_at assigns' j))) 0 m
    (λ j l h. ap (λ (r : List ℕ). place_of (assignment_of r)) (same_record b assigns assigns' f j (omega arith))))

-- LISTS OF WHICH THE FIRST k RECORDS STAY, then come written ones
module _ (k : ℕ) (s written : List ℕ) (room : 8 * k + length written ≤ length s) where
  -- the old records, what was written, and the rest
  abbrev pub after : List ℕ
  after = take (8 * k) s ++ (written ++ drop (8 * k + length written) s)

  -- how long the old records are
  front : length (take (8 * k) s) ≡ 8 * k
  front = length-take-le (8 * k) s (omega arith)

  -- no old record changes a byte
  pub old_stay : take (8 * k) after ≡ take (8 * k) s
  old_stay = take_at (take (8 * k) s) _ (8 * k) front

  -- an old record
  pub old_record : (i : ℕ) → i < k → record_at after i ≡ record_at s i
  old_record i h = record_old (take (8 * k) s) (written ++ drop (8 * k + length written) s) k (sym front) i h ∙ taken_record (8 * k) s i (omega arith)

  -- a written one
  written_record : (i : ℕ) → record_at after (k + i) ≡ record_at (written ++ drop (8 * k + length written) s) i
  written_record i = record_new (take (8 * k) s) (written ++ drop (8 * k + length written) s) k (sym front) i

  -- both together are the start of the list
  pub both_start : take (8 * k + length written) after ≡ take (8 * k) s ++ written
  both_start =
      let l = length-append (take (8 * k) s) written in
      ap (take (8 * k + length written)) (sym (append_assoc (take (8 * k) s) written (drop (8 * k + length written) s)))
      ∙ take_at (take (8 * k) s ++ written) (drop (8 * k + length written) s) (8 * k + length written) (omega (arith, front))

  -- the rest is as it was
  pub rest_stays : drop (8 * k + length written) after ≡ drop (8 * k + length written) s
  rest_stays =
      let l = length-append (take (8 * k) s) written in
      ap (drop (8 * k + length written)) (sym (append_assoc (take (8 * k) s) written (drop (8 * k + length written) s)))
      ∙ drop_at (take (8 * k) s ++ written) (drop (8 * k + length written) s) (8 * k + length written) (omega (arith, front))

  -- it is long enough for both
  pub both_room : 8 * k + length written ≤ length after
  both_room =
      omega (arith, front, length-append (take (8 * k) s) (written ++ drop (8 * k + length written) s), length-append written (drop (8 * k + length written) s))

-- the fibre list with fibres fs behind k old ones
pub fibres_behind : (k : ℕ) (fs : List Fibre) (s : List ℕ) → behind (8 * k) (fibre_list k fs) s ≡ take (8 * k) s ++ (fibre_records k fs ++ drop (8 * k + length (fibre_records k fs)) s)
unfolding behind fibre_list
fibres_behind k fs s =
    ap (λ (r : List ℕ). take (8 * k) s ++ (fibre_records k fs ++ r))
    (drop-drop (8 * length fs) (8 * k) s ∙ ap (λ (x : ℕ). drop (8 * k + x) s) (sym (length_fibre_records k fs)))

-- the assignment list with those of circuits ds behind k old ones
pub assigns_behind : (k : ℕ) (ds : List Circuit) (gs : List Assignment) (s : List ℕ) → length gs ≡ length ds
    → behind (8 * k) (assignment_list 0 ds gs) s ≡ take (8 * k) s ++ (assignment_records 0 ds gs ++ drop (8 * k + length (assignment_records 0 ds gs)) s)
unfolding behind assignment_list
assigns_behind k ds gs s e =
    ap (λ (r : List ℕ). take (8 * k) s ++ (assignment_records 0 ds gs ++ r))
    (drop-drop (8 * length ds) (8 * k) s ∙ ap (λ (x : ℕ). drop (8 * k + x) s) (sym (length_assignment_records 0 ds gs e)))

-- what is read of a table of records, old ones and then written ones
read_both : {A : Type 0} (f : List ℕ → A) (d : A) (k : ℕ) (s written : List ℕ) (room : 8 * k + length written ≤ length s) (xs : List A)
    → ((i : ℕ) → i < length xs → f (record_at (written ++ drop (8 * k + length written) s) i) ≡ get_or xs i d)
    → each (λ i. f (record_at (after k s written room) i)) 0 (k + length xs) ≡ each (λ i. f (record_at s i)) 0 k ++ xs
read_both f d k s written room xs h =
    each_split (λ i. f (record_at (after k s written room) i)) 0 k (length xs)
    ∙ ap₂ ◌++◌
    (each_same (λ i. f (record_at (after k s written room) i)) (λ i. f (record_at s i)) 0 k (λ i a b. ap f (old_record k s written room i (omega arith))))
    (ap (λ (x : ℕ). each (λ i. f (record_at (after k s written room) i)) x (length xs)) (zero-add k)
    ∙ sym (is_each (λ i. f (record_at (after k s written room) i)) k (length xs) d xs refl (λ i l. sym (ap f (written_record k s written room i) ∙ h i l))))

-- THE TWO LISTS: k old fibres and then fs, a old assignments and then gs, those of the circuits ds
module _ (k a : ℕ) (fs : List Fibre) (ds : List Circuit) (gs : List Assignment) (fibres assigns : List ℕ) (sized : length gs ≡ length ds)
    (fibre_room : 8 * k + length (fibre_records k fs) ≤ length fibres) (assign_room : 8 * a + length (assignment_records 0 ds gs) ≤ length assigns) where
  -- a new fibre record is the fibre, numbered on
  pub new_fibre_lem : (i : ℕ) → i < length fs → record_at (after k fibres (fibre_records k fs) fibre_room) (k + i) ≡ fibre_record (k + suc i) (get_or fs i no_fibre)
  new_fibre_lem i h = written_record k fibres (fibre_records k fs) fibre_room i ∙ fibre_record_lem k fs _ i h

  -- a new assignment record is what the circuit is given
  pub new_assignment : (j : ℕ) → j < length ds
      → record_at (after a assigns (assignment_records 0 ds gs) assign_room) (a + j) ≡ assignment_record 0 (get_or ds j nobody) (get_or gs j unassigned)
  new_assignment j h = written_record a assigns (assignment_records 0 ds gs) assign_room j ∙ assignment_record_lem 0 ds gs _ j sized h

  -- the plan that they hold is the old one and what follows it
  pub plan_behind : plan_in (k + length fs) (a + length ds) (after k fibres (fibre_records k fs) fibre_room) (after a assigns (assignment_records 0 ds gs) assign_room)
      ≡ record { fibres = (plan_in k a fibres assigns).fibres ++ fs; assignments = (plan_in k a fibres assigns).assignments ++ gs }
  unfolding plan_in
  plan_behind =
      ap₂ (λ (x : List Fibre) (y : List Assignment). let q : Plan = record { fibres = x; assignments = y } in q)
      (read_both (λ r. span_of (fibre_of r)) no_fibre k fibres (fibre_records k fs) fibre_room fs (λ i h. (fibre_read (k + suc i) (get_or fs i no_fibre) _ (fibre_record_lem k fs _ i h)).1))
      (ap (λ (x : ℕ). each (λ j. place_of (assignment_of (record_at (after a assigns (assignment_records 0 ds gs) assign_room) j))) 0 (a + x)) (sym sized)
      ∙ read_both (λ r. place_of (assignment_of r)) unassigned a assigns (assignment_records 0 ds gs) assign_room gs
      (λ j h. (assignment_read (get_or ds j nobody) (get_or gs j unassigned) _ (assignment_record_lem 0 ds gs _ j sized (omega arith))).1))
