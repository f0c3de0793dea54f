-- The order of the file does not matter for mending. Assumes nothing.
use Prim.Native.Nat.{◌<◌, ◌≤◌, ℕ}
use lib.Dec.{eqb}
use lib.ListN.{length, replicate}
use mathlib.Core.Bool.{Bool, ◌&&◌, cond, true}
use mathlib.Core.List.{List, [], ◌++◌, ◌∷◌, map}
use mathlib.Core.Path.{◌∙◌, ◌≡◌, ap, ap₂, refl, sym}
use native.Mathlib.Omega.{arith}
use Rattle.records.specs.declared.AssignmentRecord.{AssignmentRecord}
use Rattle.records.specs.declared.Circuit.{Circuit}
use Rattle.method.specs.Demands.{Rearranged, SamePlan}
use Rattle.method.specs.Line.{Assignment, Distinct, Fibre, Lies, assigned, circuit, total, unassigned}
use Rattle.register.specs.Plans.{place_of}
use Rattle.places.specs.Places.{free, given_to, riders}
use Rattle.places.specs.Turns.{by_number}
use Rattle.places.proofs.Parts.{rearranged_self}
use Rattle.places.proofs.PlaceLaws.{free_any_order}
use Rattle.places.proofs.RiderLaws.{same_riders}
use Rattle.places.proofs.RisingLaws.{Twin, Twins, twin_of, twin_same}
use Rattle.places.proofs.TurnLaws.{SamePlaces, same_turns, turns_alike}
use Rattle.additions.specs.Adding.{settled, unplaced}
use Rattle.additions.proofs.Orders.{floor_both, give_same, left_fibres, none_same, settled_same}
use Rattle.mending.specs.Mending.{ReportLine, keepable, keeps, kept, line_of, mend, mended_plan, record_of, refilled, sound}
use Rattle.mending.specs.MendDemands.{Permuted}
use Rattle.mending.proofs.Mended.{mend_given}

module _ (n w : ℕ) (fs : List Fibre) (cs : List Circuit) (rs : List AssignmentRecord) (pos : 1 ≤ w) (lies : Lies n cs) (once : Distinct cs)
    (ds : List Circuit) (ss : List AssignmentRecord) (permuted : Permuted cs rs ds ss) where
  -- where each circuit stands in the other file
  abbrev h : Rearranged cs ds
  h = permuted.circuits

  -- the same record for the same circuit
  record_same : (i j : ℕ) → Twin cs ds once h i j → record_of rs i ≡ record_of ss j
  record_same i j t = permuted.record_same i t.in_cs ∙ ap (record_of ss) (sym t.is)

  -- beside the same riders it is kept, or not
  keepable_same : (gs hs : List Assignment) → SamePlaces cs ds h gs hs → (i j : ℕ) → Twin cs ds once h i j → keepable w fs cs rs gs i ≡ keepable w fs ds ss hs j
  unfolding keepable
  keepable_same gs hs a i j t =
      ap₂ ◌&&◌ (ap₂ (sound w fs) (twin_same cs ds once h i j t) (record_same i j t))
      (free_any_order (riders cs gs) (riders ds hs) (same_riders cs ds gs hs h a.same) (circuit cs i) (record_of rs i).fibre (record_of rs i).wavelength
      ∙ ap₂ (λ (r : AssignmentRecord) (c : Circuit). free (riders ds hs) c r.fibre r.wavelength) (record_same i j t) (twin_same cs ds once h i j t))

  -- so the same are kept
  kept_same : SamePlaces cs ds h (kept w fs cs rs) (kept w fs ds ss)
  unfolding kept
  kept_same =
      turns_alike cs ds once h (keeps w fs cs rs) (keeps w fs ds ss) keeps_same (by_number (λ j. true) cs) (by_number (λ j. true) ds)
      (same_turns cs ds once h (λ j. true) (λ j. true) (λ i l. refl)) (replicate (length cs) unassigned) (replicate (length ds) unassigned) (none_same cs ds once h)
    where
      keeps_same : (gs hs : List Assignment) → SamePlaces cs ds h gs hs → (i j : ℕ) → Twin cs ds once h i j → keeps w fs cs rs gs i ≡ keeps w fs ds ss hs j
      keeps_same gs hs a i j t = unfold keeps in ap₂ (λ (b : Bool) (r : AssignmentRecord). cond b (place_of r) unassigned) (keepable_same gs hs a i j t) (record_same i j t)

  -- the same are not
  unkept_same : (i : ℕ) → i < length cs → unplaced (kept w fs cs rs) i ≡ unplaced (kept w fs ds ss) (h.there i)
  unfolding unplaced
  unkept_same i l = ap (λ (g : Assignment). eqb g.fibre 0) (kept_same.same i l)

  -- they come in the same order
  turns : Twins cs ds once h (by_number (unplaced (kept w fs cs rs)) cs) (by_number (unplaced (kept w fs ds ss)) ds)
  turns = same_turns cs ds once h (unplaced (kept w fs cs rs)) (unplaced (kept w fs ds ss)) unkept_same

  -- and find the same places
  refilled_same : SamePlaces cs ds h (refilled w fs cs rs) (refilled w fs ds ss)
  unfolding refilled
  refilled_same =
      give_same cs ds once h fs w [] [] (record { to = λ d l. absurd (omega arith); fro = λ d l. absurd (omega arith) })
      (by_number (unplaced (kept w fs cs rs)) cs) (by_number (unplaced (kept w fs ds ss)) ds) turns (kept w fs cs rs) (kept w fs ds ss) kept_same

  -- the other file lies on the line too
  lies_too : Lies n ds
  unfolding circuit
  lies_too j l = let t = h.fro j l in rw t.2 (lies (h.back j) t.0)

  -- so each is given the same
  given_same : (i j : ℕ) → Twin cs ds once h i j → assigned (mend n w fs cs rs).plan i ≡ assigned (mend n w fs ds ss).plan j
  given_same i j t =
      mend_given n w fs cs rs pos lies i t.in_cs
      ∙ settled_same cs ds once h n w pos lies fs (refilled w fs cs rs) (refilled w fs ds ss) refilled_same i t.in_cs
      ∙ ap (settled n w fs ds (refilled w fs ds ss)) (sym t.is)
      ∙ sym (mend_given n w fs ds ss pos lies_too j t.in_ds)

  -- and has the same line
  line_same : (i j : ℕ) → Twin cs ds once h i j → line_of n w fs cs rs i ≡ line_of n w fs ds ss j
  unfolding line_of
  line_same i j t = made (ap (λ c. c.number) (twin_same cs ds once h i j t)) (ap place_of (record_same i j t)) (unfold mend assigned given_to in given_same i j t)
    where
      made : {a b : ℕ} {f g : Assignment} {x y : Assignment} → a ≡ b → f ≡ g → x ≡ y → ◌≡◌ {A = ReportLine} (record { number = a; found = f; given = x }) (record { number = b; found = g; given = y })
      made {b = b} {f = f} {g = g} {x = x} p q r =
          ap (λ (z : ℕ). let l : ReportLine = record { number = z; found = f; given = x } in l) p
          ∙ ap₂ (λ (u v : Assignment). let l : ReportLine = record { number = b; found = u; given = v } in l) q r

  -- line by line
  lines_same : (is js : List ℕ) → Twins cs ds once h is js → map (line_of n w fs cs rs) is ≡ map (line_of n w fs ds ss) js
  lines_same [] [] t = refl
  lines_same [] (j ∷ js) t = absurd t
  lines_same (i ∷ is) [] t = absurd t
  lines_same (i ∷ is) (j ∷ js) t = ap₂ ◌∷◌ (line_same i j t.0) (lines_same is js t.1)

  -- THE SAME REPORT
  pub mend_any_report : (mend n w fs cs rs).report ≡ (mend n w fs ds ss).report
  unfolding mend
  mend_any_report = lines_same (by_number (unplaced (kept w fs cs rs)) cs) (by_number (unplaced (kept w fs ds ss)) ds) turns

  -- the same fibres
  fibres_same : (mend n w fs cs rs).plan.fibres ≡ (mend n w fs ds ss).plan.fibres
  unfolding mend mended_plan
  fibres_same = ap (λ l. fs ++ l) (left_fibres cs ds once h n w pos lies fs (refilled w fs cs rs) (refilled w fs ds ss) refilled_same)

  -- THE SAME PLAN
  pub mend_any_order : SamePlan n w cs ds (mend n w fs cs rs).plan (mend n w fs ds ss).plan
  mend_any_order =
      record {
        fibres_same = fibres_same;
        total_same = ap total fibres_same;
        floor_same = floor_both n w [] cs [] ds (rearranged_self []) h;
        assigned_same = λ i j a b e. given_same i j (twin_of cs ds once h i j a b e);
      }
