-- Circuits chosen by their places: what a caller knows of the whole file holds of the part; and those that pass a test, with their records. Assumes nothing.
use Prim.Native.Nat.{ℕ, ◌+◌, ◌<◌}
use lib.ListN.{get_or, length, length-map}
use mathlib.Core.Bool.{Bool, true}
use mathlib.Core.List.{List}
use mathlib.Core.Logic.{◌≢◌}
use mathlib.Core.Path.{◌≡◌, ap, ◌∙◌, refl, sym}
use native.Mathlib.Omega.{arith}
use Rattle.basics.specs.Tools.{count}
use Rattle.basics.proofs.Counts.{count_rank}
use Rattle.records.specs.Records.{record_at}
use Rattle.records.specs.declared.Circuit.{Circuit}
use Rattle.method.specs.Line.{Distinct, Lies, circuit}
use Rattle.places.specs.Parts.{picked, those}
use Rattle.places.proofs.Parts.{get_d_map, length_picked, those_are, those_at}
use Rattle.parts.specs.Part.{Once, PlacesOf, Scattered, chosen}

module _ (cs : List Circuit) (js : List ℕ) (there : PlacesOf (length cs) js) where
  -- they lie on the line
  pub chosen_lies : (n : ℕ) → Lies n cs → Lies n (chosen cs js)
  unfolding circuit
  chosen_lies n lies t l =
      let l' = length-map js (circuit cs) in
      rw (get_d_map (circuit cs) js t (omega arith)) (lies (get_or js t 0) (there t (omega arith)))

  -- places that differ have numbers that differ
  pub chosen_distinct : Distinct cs → Once (length js) js → Distinct (chosen cs js)
  unfolding circuit
  chosen_distinct distinct once t r lt lr e =
      let l = length-map js (circuit cs) in
      once t r (omega arith) (omega arith)
      (distinct (get_or js t 0) (get_or js r 0) (there t (omega arith)) (there r (omega arith))
      (ap (λ (c : Circuit). c.number) (sym (get_d_map (circuit cs) js t (omega arith))) ∙ e ∙ ap (λ (c : Circuit). c.number) (get_d_map (circuit cs) js r (omega arith))))

-- THOSE THAT PASS A TEST, by their places in the order of the file
module _ (p : ℕ → Bool) (cs : List Circuit) where
  -- they are the file of those that pass
  pub chosen_picked : chosen cs (those p (length cs)) ≡ picked p cs
  unfolding picked
  chosen_picked = refl

  -- as many as pass
  pub length_passing : length (those p (length cs)) ≡ count p (length cs)
  unfolding picked
  length_passing = sym (length-map (those p (length cs)) (circuit cs)) ∙ length_picked p cs

  -- they are places of the file
  pub passing_places : PlacesOf (length cs) (those p (length cs))
  passing_places t l = (those_are p (length cs) t (omega (arith, length_passing))).0

  -- records that are put at these places
  module _ (b : ℕ) (f : ℕ → List ℕ) (s s' : List ℕ) (h : Scattered b (length (those p (length cs))) (those p (length cs)) f s s') where
    -- one that passes has the record that counts those before it
    pub passing_record : (j : ℕ) → j < length cs → p j ≡ true → record_at s' (b + j) ≡ f (count p j)
    passing_record j l e = ap (λ x. record_at s' (b + x)) (sym (those_at p (length cs) j l e)) ∙ h.put (count p j) (omega (arith, length_passing, count_rank p j (length cs) l e))

    -- all other records are as they were
    pub other_record : (i : ℕ) → ((j : ℕ) → j < length cs → p j ≡ true → i ≢ b + j) → record_at s' i ≡ record_at s i
    other_record i away =
        h.kept i (λ t l. let z = those_are p (length cs) t (omega (arith, length_passing)) in away (get_or (those p (length cs)) t 0) z.0 z.1)
