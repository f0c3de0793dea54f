-- A record is sound for its circuit exactly if none of R-7's rules 4 to 7 is broken. Assumes nothing.
use Prim.Native.Nat.{ℕ, ◌-◌}
use mathlib.Core.Path.{◌≡◌, refl, ap, ◌∙◌, sym}
use mathlib.Core.Bool.{Bool, true, false, not, ◌&&◌}
use mathlib.Core.List.{List, [], ◌∷◌, map}
use native.Mathlib.Omega.{arith}
use lib.Dec.{eqb, leb}
use lib.ListN.{length, length-map, get_or-map}
use Rattle.basics.proofs.Bools.{clash}
use Rattle.records.specs.declared.AssignmentRecord.{AssignmentRecord}
use Rattle.records.specs.declared.Circuit.{Circuit}
use Rattle.records.specs.declared.FibreRecord.{FibreRecord}
use Rattle.register.specs.Plans.{span_of}
use Rattle.places.specs.Places.{spans}
use Rattle.checker.specs.Rules.{Rule, faulty, fibre_at, lowest_broken, no_fibre_record, own_rules}
use Rattle.checker.specs.Sound.{NoneBroken}
use Rattle.checker.proofs.Faults.{is_sound, lowest_none, none_lowest, rising_numbered, sound_is}
use Rattle.mending.specs.Mending.{sound}

-- a rule that is broken where a test fails
abbrev unless : ℕ → Bool → Rule
unless number test = record { number = number; broken = not test }

-- four tests all hold exactly if none of such rules is broken
none_of_four : (a b c d : Bool) → a && b && c && d ≡ not (faulty (unless 4 a ∷ unless 5 b ∷ unless 6 c ∷ unless 7 d ∷ []))
unfolding lowest_broken
none_of_four false b c d = refl
none_of_four true false c d = refl
none_of_four true true false d = refl
none_of_four true true true false = refl
none_of_four true true true true = refl

module _ (w : ℕ) (fs : List FibreRecord) (c : Circuit) (r : AssignmentRecord) where
  -- rules 4 to 7 for record r at the place of circuit c
  abbrev pub own : List Rule
  own = own_rules w (length fs) c r (fibre_at fs (r.fibre - 1))

  -- soundness is the test that none of them is broken
  pub sound_by_rules : sound w (map span_of fs) c r ≡ not (faulty own)
  unfolding sound spans
  sound_by_rules =
      let f = fibre_at fs (r.fibre - 1) in
      (λ i.
      eqb r.circuit c.number
      && (leb 1 r.fibre && leb r.fibre (length-map fs span_of i))
      && spans (get_or-map span_of fs (r.fibre - 1) no_fibre_record i) c
      && (leb 1 r.wavelength && leb r.wavelength w))
      ∙ none_of_four (eqb r.circuit c.number) (leb 1 r.fibre && leb r.fibre (length fs)) (leb f.first c.first && leb c.last f.last)
      (leb 1 r.wavelength && leb r.wavelength w)

  -- a sound record breaks none
  pub sound_keeps : sound w (map span_of fs) c r ≡ true → NoneBroken own
  sound_keeps e =
      lowest_none own (rising_numbered own (omega arith, (omega arith, (omega arith, (omega arith, tt)))))
      (is_sound own (go (faulty own) (sym sound_by_rules ∙ e)))
    where
      go : (b : Bool) → not b ≡ true → b ≡ false
      go true e = clash false e refl
      go false e = refl

  -- and one that breaks none is sound
  pub keeps_sound : NoneBroken own → sound w (map span_of fs) c r ≡ true
  keeps_sound h = sound_by_rules ∙ ap not (sound_is own (none_lowest own h))
