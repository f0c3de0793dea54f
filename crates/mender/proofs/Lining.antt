-- The lines of the report, begun one after the other, and filled in. Assumes nothing.
use Prim.Native.Nat.{ℕ, zero, suc, ◌+◌, ◌*◌, ◌/◌, ◌%◌, ◌<◌, ◌≤◌}
use mathlib.Core.Path.{◌≡◌, refl, ap, ap₂, ◌∙◌, sym}
use mathlib.Core.Bool.{Bool, cond, false, true}
use mathlib.Core.List.{List, [], ◌∷◌, ◌++◌, append_assoc, append-nil, map}
use native.Mathlib.Nat.{zero-add}
use native.Mathlib.Omega.{arith}
use lib.ListN.{length, get_or, take, drop, set, length-append, length-map, length-set}
use lib.Seq.{get_or-append-add, get_or-set_same, take-set-le, take-suc}
use Rattle.basics.proofs.Bools.{on}
use Rattle.records.specs.Bytes.{cell, cells_of, set_cell}
use Rattle.records.specs.Records.{assignment_bytes, assignment_of, put_record, record_at}
use Rattle.records.specs.declared.AssignmentRecord.{AssignmentRecord}
use Rattle.records.proofs.CellLaws.{cells_room, cells_of_set}
use Rattle.records.proofs.Inverse.{le16_bytes16}
use Rattle.records.proofs.Parts.{block_more, written_out}
use Rattle.register.specs.Plans.{place_of}
use Rattle.mending.specs.Mending.{ReportLine}
use Rattle.mender.specs.Report.{line_bytes, report_bytes}
use Rattle.mender.specs.inner.Lines.{begun_line, begun_with, filled_in, filled_line, passing, put_line}
use Rattle.mender.proofs.Reading.{length_report_bytes}

-- A LINE BEGUN, by three stores into 12 bytes
pub line_written : (r r₁ r₂ r₃ : List ℕ) (a : AssignmentRecord) (j : ℕ) → length r ≡ 12 → r₁ ≡ put_record r 0 (assignment_bytes a) → r₂ ≡ set_cell r₁ 4 j → r₃ ≡ set_cell r₂ 5 0
    → r₃ ≡ line_bytes (begun_with a j)
unfolding put_record set_cell
line_written r r₁ r₂ r₃ a j h p₁ p₂ p₃ =
    p₃ ∙ ap (λ (l : List ℕ). set_cell l 5 0) (p₂ ∙ ap (λ (l : List ℕ). set_cell l 4 j) p₁)
    ∙ ap (λ (l : List ℕ). set_cell (set_cell (put_record l 0 (assignment_bytes a)) 4 j) 5 0) (written_out 12 r h)

-- STORES BEHIND A FRONT
set_behind : (A X : List ℕ) (n k v : ℕ) → n ≡ length A + k → set (A ++ X) n v ≡ A ++ set X k v
set_behind [] X n k v e = ap (λ (x : ℕ). set X x v) (e ∙ zero-add k)
set_behind (a ∷ A) X n k v e =
    let z : n ≡ suc (length A + k) = e ∙ omega arith in
    ap (λ (x : ℕ). set (a ∷ (A ++ X)) x v) z ∙ ap (λ (r : List ℕ). a ∷ r) (set_behind A X (length A + k) k v refl)

-- of a cell
cell_behind : (A X : List ℕ) (k i v : ℕ) → 2 * k ≡ length A + 2 * i → set_cell (A ++ X) k v ≡ A ++ set_cell X i v
unfolding set_cell
cell_behind A X k i v e =
    ap (λ (x : List ℕ). set x (2 * k + 1) (v / 256)) (set_behind A X (2 * k) (2 * i) (v % 256) e)
    ∙ set_behind A (set X (2 * i) (v % 256)) (2 * k + 1) (2 * i + 1) (v / 256) (omega arith)

-- A LINE FILLED IN, behind others
line_filled : (assigns A B : List ℕ) (t : ℕ) (l : ReportLine) → length A ≡ 12 * t
    → filled_in assigns t (A ++ (line_bytes l ++ B))
    ≡ A ++ (line_bytes (record { number = l.number; found = l.found; given = place_of (assignment_of (record_at assigns l.given.fibre)) }) ++ B)
unfolding filled_in cell set_cell
line_filled assigns A B t l e =
    let X = line_bytes l ++ B in
    let R = A ++ X in
    let its : ℕ → AssignmentRecord = λ j. assignment_of (record_at assigns j) in
    let p : 2 * (6 * t + 4) ≡ length A + 8 = omega arith in
    let q : 2 * (6 * t + 4) + 1 ≡ length A + 9 = omega arith in
    let c : cell R (6 * t + 4) ≡ l.given.fibre =
    ap₂ (λ x y. x + 256 * y) (ap (λ i. get_or R i 0) p ∙ get_or-append-add A X 8 0) (ap (λ i. get_or R i 0) q ∙ get_or-append-add A X 9 0) ∙ le16_bytes16 l.given.fibre in
    let f = (its l.given.fibre).fibre in
    let v = (its l.given.fibre).wavelength in
    ap (λ j. set_cell (set_cell R (6 * t + 4) (its j).fibre) (6 * t + 4 + 1) (its j).wavelength) c
    ∙ ap (λ x. set_cell x (6 * t + 4 + 1) v) (cell_behind A X (6 * t + 4) 4 f (omega arith))
    ∙ cell_behind A (set_cell X 4 f) (6 * t + 4 + 1) 5 v (omega arith)

-- LISTS OF LINES
report_both : (ls ms : List ReportLine) → report_bytes (ls ++ ms) ≡ report_bytes ls ++ report_bytes ms
unfolding report_bytes
report_both [] ms = refl
report_both (l ∷ ls) ms = ap (λ (x : List ℕ). line_bytes l ++ x) (report_both ls ms) ∙ sym (append_assoc (line_bytes l) (report_bytes ls) (report_bytes ms))

map_more : (f : ℕ → ReportLine) (js : List ℕ) (j : ℕ) → map f (js ++ (j ∷ [])) ≡ map f js ++ (f j ∷ [])
map_more f [] j = refl
map_more f (i ∷ js) j = ap (λ (x : List ReportLine). f i ∷ x) (map_more f js j)

-- one line more at the end
report_more : (f : ℕ → ReportLine) (js : List ℕ) (j : ℕ) → report_bytes (map f (js ++ (j ∷ []))) ≡ report_bytes (map f js) ++ line_bytes (f j)
unfolding report_bytes
report_more f js j =
    ap report_bytes (map_more f js j) ∙ report_both (map f js) (f j ∷ []) ∙ ap (λ (x : List ℕ). report_bytes (map f js) ++ x) (append-nil (line_bytes (f j)))

-- a list from its place t on
pub drop_here : (js : List ℕ) (t : ℕ) → t < length js → drop t js ≡ get_or js t 0 ∷ drop (t + 1) js
drop_here js t h = let z : suc t ≡ t + 1 = omega arith in go js t h ∙ ap (λ (x : ℕ). get_or js t 0 ∷ drop x js) z
  where
    go : (js : List ℕ) (t : ℕ) → t < length js → drop t js ≡ get_or js t 0 ∷ drop (suc t) js
    go [] t h = absurd (omega arith)
    go (j ∷ js) zero h = refl
    go (j ∷ js) (suc t) h = go js t (omega arith)

-- FILLING IN. The first t lines are filled in
module _ (s before after js rest : List ℕ) where
  abbrev pub Filling : ℕ → List ℕ → Type 0
  Filling t report = report ≡ report_bytes (map (filled_line s before after) (take t js)) ++ (report_bytes (map (begun_line s before) (drop t js)) ++ rest)

  -- they have as many bytes
  front_long : (t : ℕ) → t ≤ length js → length (report_bytes (map (filled_line s before after) (take t js))) ≡ 12 * t
  front_long t h = length_report_bytes (map (filled_line s before after) (take t js)) ∙ ap (λ (x : ℕ). 12 * x) (length-map (take t js) (filled_line s before after) ∙ short js t h)
    where
      short : (xs : List ℕ) (t : ℕ) → t ≤ length xs → length (take t xs) ≡ t
      short xs zero h = refl
      short [] (suc t) h = absurd (omega arith)
      short (x ∷ xs) (suc t) h = ap suc (short xs t (omega arith))

  -- before line t those that are filled in, and from it on those that are begun
  lines_from : (t : ℕ) → t < length js → report_bytes (map (begun_line s before) (drop t js)) ++ rest
      ≡ line_bytes (begun_line s before (get_or js t 0)) ++ (report_bytes (map (begun_line s before) (drop (t + 1) js)) ++ rest)
  unfolding report_bytes
  lines_from t h =
      let f = begun_line s before in
      ap (λ x. report_bytes (map f x) ++ rest) (drop_here js t h) ∙ append_assoc (line_bytes (f (get_or js t 0))) (report_bytes (map f (drop (t + 1) js))) rest

  -- the place that stands in line t
  pub filling_place : (t : ℕ) (report : List ℕ) → t < length js → Filling t report → cell report (6 * t + 4) ≡ get_or js t 0
  unfolding cell
  filling_place t report h e =
      let A = report_bytes (map (filled_line s before after) (take t js)) in
      let l = begun_line s before (get_or js t 0) in
      let X = line_bytes l ++ (report_bytes (map (begun_line s before) (drop (t + 1) js)) ++ rest) in
      let n = front_long t (omega arith) in
      let p : 2 * (6 * t + 4) ≡ length A + 8 = omega arith in
      let q : 2 * (6 * t + 4) + 1 ≡ length A + 9 = omega arith in
      ap (λ r. cell r (6 * t + 4)) (e ∙ ap (λ x. A ++ x) (lines_from t h))
      ∙ ap₂ (λ x y. x + 256 * y) (ap (λ i. get_or (A ++ X) i 0) p ∙ get_or-append-add A X 8 0) (ap (λ i. get_or (A ++ X) i 0) q ∙ get_or-append-add A X 9 0)
      ∙ le16_bytes16 (get_or js t 0)

  -- line t is there
  pub filling_room : (t : ℕ) (report : List ℕ) → t < length js → Filling t report → 12 * t + 12 ≤ length report
  filling_room t report h e =
      let A = report_bytes (map (filled_line s before after) (take t js)) in
      let l = line_bytes (begun_line s before (get_or js t 0)) in
      let r = report_bytes (map (begun_line s before) (drop (t + 1) js)) ++ rest in
      let n = front_long t (omega arith) in
      omega (arith, ap length (e ∙ ap (λ x. A ++ x) (lines_from t h)), length-append A (l ++ r), length-append l r)

  -- one line more
  pub filling_more : (t : ℕ) (report report' : List ℕ) → t < length js → Filling t report → report' ≡ filled_in after t report → Filling (t + 1) report'
  filling_more t report report' h e d =
      let A = report_bytes (map (filled_line s before after) (take t js)) in
      let j = get_or js t 0 in
      let B = report_bytes (map (begun_line s before) (drop (t + 1) js)) ++ rest in
      let n = front_long t (omega arith) in
      let z : suc t ≡ t + 1 = omega arith in
      d ∙ ap (filled_in after t) (e ∙ ap (λ x. A ++ x) (lines_from t h)) ∙ line_filled after A B t (begun_line s before j) n
      ∙ sym (append_assoc A (line_bytes (filled_line s before after j)) B)
      ∙ ap (λ x. x ++ B) (sym (report_more (filled_line s before after) (take t js) j))
      ∙ ap (λ x. report_bytes (map (filled_line s before after) x) ++ B) (sym (take-suc js t 0 h) ∙ ap (λ x. take x js) z)

-- THOSE THAT PASS, one asked more
passing_more : (who : ℕ → Bool) (js : List ℕ) (j : ℕ) → passing who (js ++ (j ∷ [])) ≡ passing who js ++ cond (who j) (j ∷ []) []
unfolding passing
passing_more who [] j = refl
passing_more who (i ∷ js) j =
    on (who i)
    (λ e. rw e (ap (λ (x : List ℕ). i ∷ x) (passing_more who js j)))
    (λ e. rw e (passing_more who js j))

-- of the first t places those that pass are noted: k of them, in the first k cells, and their lines are begun
pub record Noting (who : ℕ → Bool) (f : ℕ → ReportLine) (P : List ℕ) (t k : ℕ) (turns report₀ report : List ℕ) : Type 0 where
  pub many : k ≡ length (passing who (take t P))
  pub few : k ≤ t
  pub noted : take k (cells_of turns) ≡ passing who (take t P)
  pub begun : report ≡ report_bytes (map f (passing who (take t P))) ++ drop (12 * k) report₀

-- none is noted yet
pub noting_none : (who : ℕ → Bool) (f : ℕ → ReportLine) (P turns report : List ℕ) → Noting who f P 0 0 turns report report
unfolding passing report_bytes
noting_none who f P turns report = record { many = refl; few = omega arith; noted = refl; begun = refl }

-- ONE MORE IS ASKED, circuit j
module _ (who : ℕ → Bool) (f : ℕ → ReportLine) (P : List ℕ) (t k j : ℕ) (turns report₀ report : List ℕ) (h : t < length P) (e : j ≡ get_or P t 0) (g : Noting who f P t k turns report₀ report) where
  next : passing who (take (t + 1) P) ≡ passing who (take t P) ++ cond (who j) (j ∷ []) []
  next =
      let z : suc t ≡ t + 1 = omega arith in
      ap (λ x. passing who (take x P)) (sym z) ∙ ap (passing who) (take-suc P t 0 h ∙ ap (λ x. take t P ++ (x ∷ [])) (sym e)) ∙ passing_more who (take t P) j

  -- it waits, and is noted
  pub noting_line : who j ≡ true → 2 * k + 2 ≤ length turns → Noting who f P (t + 1) (k + 1) (set_cell turns k j) report₀ (put_line report k (line_bytes (f j)))
  unfolding put_line
  noting_line w room =
      let done = passing who (take t P) in
      let C = cells_of turns in
      let here : k < length C = omega (arith, cells_room turns (k + 1) (omega arith)) in
      let few = g.few in
      let next₁ : passing who (take (t + 1) P) ≡ done ++ (j ∷ []) = next ∙ ap (λ b. done ++ cond b (j ∷ []) []) w in
      let c₁ : cells_of (set_cell turns k j) ≡ set C k j = cells_of_set turns k j in
      let y : suc k ≡ k + 1 = omega arith in
      let x : 12 * k + 12 ≡ 12 * (k + 1) = omega arith in
      let A = report_bytes (map f done) in
      let n : length A ≡ 12 * k = length_report_bytes (map f done) ∙ ap (λ i. 12 * i) (length-map done f ∙ sym g.many) in
      record {
        many = omega (arith, ap length next₁, length-append done (j ∷ []), g.many);
        few = omega arith;
        noted = ap₂ take (sym y) c₁ ∙ take-suc (set C k j) k 0 (omega (arith, length-set C k j))
            ∙ ap₂ (λ a v. a ++ (v ∷ [])) (take-set-le k C k j (omega arith) ∙ g.noted) (get_or-set_same C k j 0 here) ∙ sym next₁;
        begun = ap (λ a. take (12 * k) a ++ (line_bytes (f j) ++ drop (12 * k + 12) a)) g.begun
            ∙ block_more A (line_bytes (f j)) report₀ (12 * k) (12 * k + 12) n refl
            ∙ ap₂ (λ a i. a ++ drop i report₀) (sym (report_more f done j) ∙ ap (λ i. report_bytes (map f i)) (sym next₁)) x;
      }

  -- it does not
  pub noting_kept : who j ≡ false → Noting who f P (t + 1) k turns report₀ report
  noting_kept w =
      let few = g.few in
      let next₁ : passing who (take (t + 1) P) ≡ passing who (take t P) = next ∙ ap (λ b. passing who (take t P) ++ cond b (j ∷ []) []) w ∙ append-nil (passing who (take t P)) in
      record {
        many = g.many ∙ ap length (sym next₁);
        few = omega arith;
        noted = g.noted ∙ sym next₁;
        begun = g.begun ∙ ap (λ a. report_bytes (map f a) ++ drop (12 * k) report₀) (sym next₁);
      }

-- in both cases
pub noting_more : (who : ℕ → Bool) (f : ℕ → ReportLine) (P : List ℕ) (t k r j : ℕ) (turns turns' report₀ report report' : List ℕ)
    → t < length P → j ≡ get_or P t 0 → 2 * k + 2 ≤ length turns → r ≡ cond (who j) (k + 1) k → turns' ≡ cond (who j) (set_cell turns k j) turns → report' ≡ cond (who j) (put_line report k (line_bytes (f j))) report
    → Noting who f P t k turns report₀ report → Noting who f P (t + 1) r turns' report₀ report'
noting_more who f P t k r j turns turns' report₀ report report' h e room is-r is-turns is-report g =
    on (who j)
    (λ yes. rw (is-r, is-turns, is-report, yes) (noting_line who f P t k j turns report₀ report h e g yes room))
    (λ no. rw (is-r, is-turns, is-report, no) (noting_kept who f P t k j turns report₀ report h e g no))
