-- The circuits that have no place, planned as a part of their file: what `plan_part` is asked, and what it leaves is what `plan_left` leaves. Assumes nothing.
use Prim.Native.Nat.{◌%◌, ◌*◌, ◌+◌, ◌-◌, ◌/◌, ◌<◌, ◌≤◌, ℕ}
use lib.ListN.{drop, drop_of_length-le, get_or, length, length-drop, length-replicate, replicate, take}
use lib.Seq.{drop-append-add, drop-drop, take_all}
use mathlib.Core.Bool.{Bool}
use mathlib.Core.List.{List, ◌++◌, append-nil}
use mathlib.Core.Logic.{◌⊎◌, inl, inr, ⊎_elim}
use mathlib.Core.Path.{◌∙◌, ◌≡◌, ap, ap₂, refl, subst, sym}
use borrow.Rule.Slice.PartMut.{mid_of, put_mid}
use native.Mathlib.Nat.{le_refl, sub-zero}
use native.Mathlib.Omega.{arith}
use Rattle.additions.proofs.Settling.{settled_is, settled_new, settled_old}
use Rattle.additions.specs.Adding.{left_plan, onward, settled_all, unplaced}
use Rattle.basics.proofs.Bools.{clash, on}
use Rattle.basics.proofs.Counts.{count_below}
use Rattle.basics.proofs.Tables.{drop_same, take_same}
use Rattle.basics.specs.Tools.{count}
use Rattle.method.proofs.Circuits.{circuit_in_lem}
use Rattle.method.specs.Line.{Assignment, Distinct, Fibre, Lies, assigned, circuit}
use Rattle.method.specs.Lit.{lit_plan}
use Rattle.places.proofs.Parts.{part_distinct, part_lies, picked_at, picked_part}
use Rattle.places.specs.Parts.{picked, those}
use Rattle.places.specs.Places.{given_to}
use Rattle.placing.proofs.OneTurn.{given_bytes_lem}
use Rattle.placing.specs.Turns.{AllWritten, given_bytes}
use Rattle.records.proofs.Files.{length_circuits_in, length_record_at, record_at_bytes}
use Rattle.records.proofs.Inverse.{assignment_written_read}
use Rattle.records.proofs.PartCells.{cells_mid}
use Rattle.records.specs.Bytes.{cells_of}
use Rattle.records.specs.Records.{assignment_of, circuits_in, circuits_of, record_at}
use Rattle.records.specs.declared.Circuit.{Circuit}
use Rattle.register.specs.Areas.{areas, zeroed_to}
use Rattle.register.specs.Lists.{assignment_record, behind, fibre_list}
use Rattle.register.specs.Plans.{place_of}
use Rattle.register.specs.declared.Counts.{Counts}
use Rattle.parts.proofs.Choosing.{chosen_picked, length_passing, other_record, passing_places, passing_record}
use Rattle.parts.proofs.Noting.{said_at}
use Rattle.parts.proofs.Pinned.{byte_in}
use Rattle.parts.specs.Left.{LeftAsked, LeftSettled, said_behind}
use Rattle.parts.specs.Part.{PartAsked, PartSettled, PlacesOf, Scattered, chosen}

-- the places that are lent on: the first k cells of the table
pub places_lent : (js table : List ℕ) (k : ℕ) → take k (cells_of table) ≡ js → cells_of (take (2 * k) table) ≡ js
places_lent js table k e = ap (λ x. cells_of (take x table)) (sym (sub-zero (2 * k))) ∙ cells_mid 0 (2 * k - 0) 0 k table refl (sub-zero (2 * k)) ∙ e

-- a list from byte a on, lent on
pub tail_lent : (a : ℕ) (xs : List ℕ) → mid_of a (length xs - a) xs ≡ drop a xs
tail_lent a xs = take_all (length xs - a) (drop a xs) (rw length-drop (le_refl (length xs - a)))

-- and come back
pub tail_put : (a : ℕ) (xs ys : List ℕ) → put_mid a (length xs - a) xs ys ≡ take a xs ++ ys
tail_put a xs ys =
    ap (λ z. take a xs ++ z) (ap (λ z. ys ++ z) (drop_of_length-le (drop a xs) {i = length xs - a} (rw length-drop (le_refl (length xs - a)))) ∙ append-nil ys)

-- zeroed, and then zeroed further
pub zeroed_further : (a z : ℕ) (work work' : List ℕ) → a ≤ z → work' ≡ zeroed_to a work → replicate z 0 ++ drop z work' ≡ zeroed_to z work
unfolding zeroed_to
zeroed_further a z work work' l e =
    let n = length-replicate {A = ℕ} a 0 in
    let y : z ≡ length (replicate {A = ℕ} a 0) + (z - a) = omega arith in
    let x : a + (z - a) ≡ z = omega arith in
    ap (λ t. replicate z 0 ++ t)
    (ap (drop z) e ∙ ap (λ t. drop t (replicate a 0 ++ drop a work)) y ∙ drop-append-add (replicate a 0) (drop a work) (z - a) ∙ drop-drop (z - a) a work ∙ ap (λ t. drop t work) x)

-- bytes of the same record are the same
byte_same : (s s' : List ℕ) (i : ℕ) → record_at s' (i / 8) ≡ record_at s (i / 8) → get_or s' i 0 ≡ get_or s i 0
byte_same s s' i e = byte_in s' i ∙ ap (λ r. get_or r (i % 8) 0) e ∙ sym (byte_in s i)

module _ (n w many b m : ℕ) (s F A W : List ℕ) (h : LeftAsked n w many b m s (areas F A W)) where
  -- the circuits, what they have, who of them has no place, and the part
  abbrev cs : List Circuit
  cs = circuits_in m s

  abbrev gs : List Assignment
  gs = said_behind b m A

  abbrev p : ℕ → Bool
  p = unplaced gs

  -- the file has m circuits
  file_is : circuits_of s ≡ cs
  file_is = let e = h.accepted.file.whole in let z : length s / 8 ≡ m = omega arith in ap (λ x. circuits_in x s) z

  -- its circuits at these places are the part
  part_is : (js : List ℕ) → js ≡ those p m → chosen (circuits_of s) js ≡ picked p cs
  part_is js e = ap₂ chosen file_is (e ∙ ap (those p) (sym (length_circuits_in m s))) ∙ chosen_picked p cs

  -- WHAT `plan_part` IS ASKED
  pub part_asked : (k : ℕ) (places F' : List ℕ) → k ≡ count p m → length places ≡ 2 * k → cells_of places ≡ those p m → length F' ≡ length F - 8 * many
      → PartAsked n w k many b s places (areas F' A W)
  part_asked k places F' e long listed rest =
      let few = h.few in
      let few_fibres = h.few_fibres in
      let below = count_below p m in
      let whole = h.accepted.file.whole in
      let z : length s / 8 ≡ m = omega arith in
      let c = length_circuits_in m s in
      let q = part_is (cells_of places) listed in
      let a = h.fibre_room in
      let b' = h.assign_room in
      let d = h.work_room in
      record {
        line = h.accepted.file.line;
        waves = h.accepted.waves;
        few = omega arith;
        listed = long;
        lies = subst (Lies n) (sym q) (part_lies (picked_part p cs) n h.accepted.file.lies);
        distinct = subst Distinct (sym q) (part_distinct (picked_part p cs) h.accepted.file.distinct);
        rooms = record {
          places = subst (λ js. PlacesOf (length s / 8) js) (sym (listed ∙ ap (those p) (sym c))) (subst (λ x. PlacesOf x (those p (length cs))) (c ∙ sym z) (passing_places p cs));
          base = omega arith;
          fibre_room = omega arith;
          assign_room = omega arith;
          work_room = omega arith;
          number_room = omega arith;
        };
      }

  -- WHAT IS LEFT of the assignment list, where the records of the part were put at their places
  module _ (A' : List ℕ) (bytes : (i : ℕ) → get_or A i 0 < 256)
      (y : Scattered b (length (those p (length cs))) (those p (length cs)) (λ t. assignment_record many (circuit (picked p cs) t) (assigned (lit_plan n w (picked p cs)) t)) A A') where
    -- a record of none of these circuits stays
    other_stays : (i : ℕ) → (i < b) ⊎ (b + m ≤ i) → record_at A' i ≡ record_at A i
    other_stays i out =
        other_record p cs b (λ t. assignment_record many (circuit (picked p cs) t) (assigned (lit_plan n w (picked p cs)) t)) A A' y i
        (λ j l e q. let c = length_circuits_in m s in ⊎_elim (λ x. absurd (omega arith)) (λ x. absurd (omega arith)) out)

    -- each circuit's record says what it has in the end
    record_says : (fs : List Fibre) → length fs ≡ many → (j : ℕ) → j < length cs → record_at A' (b + j) ≡ given_bytes cs j (given_to (settled_all n w fs cs gs) j)
    unfolding assignment_record left_plan
    record_says fs long j l =
        let c = length_circuits_in m s in
        let room = h.assign_room in
        let l' : j < m = omega arith in
        on (p j)
        (λ e.
        let a = assigned (lit_plan n w (picked p cs)) (count p j) in
        let g : given_to (settled_all n w fs cs gs) j ≡ onward many a = settled_is n w fs cs gs j l ∙ settled_new n w fs cs gs j e ∙ ap (λ x. onward x a) long in
        passing_record p cs b (λ t. assignment_record many (circuit (picked p cs) t) (assigned (lit_plan n w (picked p cs)) t)) A A' y j l e
        ∙ given_bytes_lem cs j (given_to (settled_all n w fs cs gs) j) _ _ _ (ap (λ x. x.number) (picked_at p cs j l e)) (sym (ap (λ x. x.fibre) g)) (sym (ap (λ x. x.wavelength) g)))
        (λ e.
        let r = record_at A (b + j) in
        let g : given_to (settled_all n w fs cs gs) j ≡ place_of (assignment_of r) = settled_is n w fs cs gs j l ∙ settled_old n w fs cs gs j e ∙ said_at b m A j l' in
        other_record p cs b (λ t. assignment_record many (circuit (picked p cs) t) (assigned (lit_plan n w (picked p cs)) t)) A A' y (b + j)
        (λ i li ei q. let z : i ≡ j = omega arith in clash (p j) (sym (ap p z) ∙ ei) e)
        ∙ sym (assignment_written_read r (length_record_at A (b + j) (omega arith)) (record_at_bytes A (b + j) bytes))
        ∙ given_bytes_lem cs j (given_to (settled_all n w fs cs gs) j) _ _ _ (h.named j l' ∙ sym (ap (λ x. x.number) (circuit_in_lem m s j l')))
        (sym (ap (λ x. x.fibre) g)) (sym (ap (λ x. x.wavelength) g)))

    -- all of it
    pub all_written : (fs : List Fibre) → length fs ≡ many → AllWritten cs b (settled_all n w fs cs gs) A A'
    all_written fs long =
        let c = length_circuits_in m s in
        record {
          sized = y.sized;
          olds = take_same 0 (8 * b) A' A y.sized (λ i l. byte_same A A' i (other_stays (i / 8) (inl (omega arith))));
          news = record_says fs long;
          rest = drop_same 0 (8 * (b + length cs)) A' A y.sized (λ i l. byte_same A A' i (other_stays (i / 8) (inr (omega arith))));
        }

  -- WHAT IS LEFT of all
  pub left_settled : (js F' F'' F₂ A' W' W₂ : List ℕ) (counts : Counts) → ((i : ℕ) → get_or A i 0 < 256) → js ≡ those p m
      → F' ≡ drop (8 * many) F → F₂ ≡ take (8 * many) F ++ F''
      → W₂ ≡ replicate (4 * n + 4 * (b + m)) 0 ++ drop (4 * n + 4 * (b + m)) W'
      → PartSettled n w many b (chosen (circuits_of s) js) js (areas F' A W) (areas F'' A' W') counts → LeftSettled n w many b m s (areas F A W) (areas F₂ A' W₂) counts
  unfolding behind left_plan
  left_settled js F' F'' F₂ A' W' W₂ counts bytes e lent back cleared g =
      let c = length_circuits_in m s in
      let q = part_is js e in
      let below = count_below p m in
      let long = length_passing p cs in
      let js-are : js ≡ those p (length cs) = e ∙ ap (those p) (sym c) in
      let many-are : length js ≡ count p m = ap length js-are ∙ long ∙ ap (count p) c in
      let g' : PartSettled n w many b (picked p cs) (those p (length cs)) (areas F' A W) (areas F'' A' W') counts
      = subst (λ x. PartSettled n w many b (picked p cs) x (areas F' A W) (areas F'' A' W') counts) js-are (subst (λ x. PartSettled n w many b x js (areas F' A W) (areas F'' A' W') counts) q g) in
      record {
        counted = g'.counted;
        listed = back ∙ ap (λ x. take (8 * many) F ++ x) (g'.listed ∙ ap (fibre_list many (lit_plan n w (picked p cs)).fibres) lent);
        written = all_written A' bytes g'.assigned_each;
        cleared = cleared ∙ zeroed_further (4 * n + 4 * length js) (4 * n + 4 * (b + m)) W W' (omega arith) g.cleared;
      }
