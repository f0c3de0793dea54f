-- Two plans on the same fibres of which no circuits clash are one valid plan. Assumes nothing.
use Prim.Native.Nat.{◌+◌, ◌<◌, ℕ}
use lib.ListN.{get_or-append, get_or, length, length-append}
use lib.Seq.{get_or-append-add}
use mathlib.Core.Bool.{true}
use mathlib.Core.List.{List, ◌++◌}
use mathlib.Core.Logic.{◌≢◌}
use mathlib.Core.Path.{◌∙◌, ◌≡◌, ap, sym}
use native.Mathlib.Omega.{arith}
use Rattle.records.specs.declared.Circuit.{Circuit}
use Rattle.method.specs.Line.{Assignment, Fibre, Plan, Valid, assigned, circuit, fibre_under, overlap, unassigned}
use Rattle.method.proofs.Links.{overlap_sym}
use Rattle.places.proofs.TwoFiles.{circuit_new, circuit_old, old_or_new}

module _ (w : ℕ) (fs : List Fibre) (cs : List Circuit) (ps : List Assignment) (ds : List Circuit) (gs : List Assignment) where
  -- the two plans, and both in one
  abbrev former : Plan
  former = record { fibres = fs; assignments = ps }

  abbrev latter : Plan
  latter = record { fibres = fs; assignments = gs }

  abbrev both : Plan
  both = record { fibres = fs; assignments = ps ++ gs }

  -- no circuits of the two that overlap share fibre and wavelength
  abbrev pub NoClash : Type 0
  NoClash = (i j : ℕ) → i < length cs → j < length ds → overlap (circuit cs i) (circuit ds j) ≡ true
      → (assigned former i).fibre ≡ (assigned latter j).fibre → (assigned former i).wavelength ≢ (assigned latter j).wavelength

  module _ (a : Valid w cs former) (b : Valid w ds latter) (apart : NoClash) where
    -- who is of the former has what it had
    pub both_old : (i : ℕ) → i < length cs → assigned both i ≡ assigned former i
    unfolding assigned
    both_old i l = get_or-append ps gs unassigned i (omega (arith, a.all_assigned))

    -- and so has who is of the latter
    pub both_new : (i k : ℕ) → i ≡ length cs + k → assigned both i ≡ assigned latter k
    unfolding assigned
    both_new i k e = ap (λ x. get_or (ps ++ gs) x unassigned) (let z : i ≡ length ps + k = omega (arith, a.all_assigned) in z) ∙ get_or-append-add ps gs k unassigned

    -- its circuit
    new_circuit : (i k : ℕ) → i ≡ length cs + k → circuit (cs ++ ds) i ≡ circuit ds k
    new_circuit i k e = ap (circuit (cs ++ ds)) e ∙ circuit_new cs ds k

    -- two circuits that do not clash, by what they are and have
    moved : (i j : ℕ) {c d : Circuit} {g k : Assignment} → circuit (cs ++ ds) i ≡ c → assigned both i ≡ g → circuit (cs ++ ds) j ≡ d → assigned both j ≡ k
        → (overlap c d ≡ true → g.fibre ≡ k.fibre → g.wavelength ≢ k.wavelength)
        → overlap (circuit (cs ++ ds) i) (circuit (cs ++ ds) j) ≡ true → (assigned both i).fibre ≡ (assigned both j).fibre → (assigned both i).wavelength ≢ (assigned both j).wavelength
    moved i j p q r t h = rw (p, q, r, t) h

    -- THE TWO ARE ONE
    pub joined : Valid w (cs ++ ds) both
    unfolding fibre_under
    joined =
        record {
          all_assigned = omega (arith, length-append ps gs, length-append cs ds, a.all_assigned, b.all_assigned);
          numbered = λ i l. old_or_new cs ds i l (λ h. rw (both_old i h) (a.numbered i h)) (λ k h e. rw (both_new i k e) (b.numbered k h));
          within = λ i l. old_or_new cs ds i l (λ h. rw (both_old i h, circuit_old cs ds i h) (a.within i h)) (λ k h e. rw (both_new i k e, new_circuit i k e) (b.within k h));
          wavelength_in = λ i l. old_or_new cs ds i l (λ h. rw (both_old i h) (a.wavelength_in i h)) (λ k h e. rw (both_new i k e) (b.wavelength_in k h));
          apart = λ i j li lj q.
              old_or_new cs ds i li
              (λ hi.
              old_or_new cs ds j lj
              (λ hj. moved i j (circuit_old cs ds i hi) (both_old i hi) (circuit_old cs ds j hj) (both_old j hj) (a.apart i j hi hj q))
              (λ k hk e. moved i j (circuit_old cs ds i hi) (both_old i hi) (new_circuit j k e) (both_new j k e) (apart i k hi hk)))
              (λ k hk e.
              old_or_new cs ds j lj
              (λ hj. moved i j (new_circuit i k e) (both_new i k e) (circuit_old cs ds j hj) (both_old j hj) (λ o f v. apart j k hj hk (overlap_sym _ _ o) (sym f) (sym v)))
              (λ m hm e'. moved i j (new_circuit i k e) (both_new i k e) (new_circuit j m e') (both_new j m e') (b.apart k m hk hm (λ z. q (omega arith)))));
        }
