-- Worked cases of rule 8, by computation. Assumes nothing.
use Prim.Native.Nat.{ℕ}
use mathlib.Core.Path.{◌≡◌, refl}
use mathlib.Core.List.{List, [], ◌∷◌, ◌++◌}
use Rattle.basics.specs.Tools.{any, seek}
use Rattle.method.specs.Line.{overlap}
use Rattle.clashes.specs.Clashes.{clash, clashes_in}

-- the record of a circuit or an assignment: its number, and its two ends, or its fibre and wavelength
abbrev rec : ℕ → ℕ → ℕ → List ℕ
rec number a b = number ∷ 0 ∷ 0 ∷ 0 ∷ a ∷ 0 ∷ b ∷ 0 ∷ []

-- circuits [3, 4], [1, 2], [2, 3]: the third shares link 2 with the second and link 3 with the first, and these two share none
abbrev three : List ℕ
three = rec 1 3 4 ++ (rec 2 1 2 ++ rec 3 2 3)

-- all on fibre 1 with wavelength 1: the third is the first that clashes with an earlier one, though the second begins before the first
pub one_place : seek (clashes_in three (rec 1 1 1 ++ (rec 2 1 1 ++ rec 3 1 1))) 0 3 ≡ 2
unfolding seek clashes_in clash overlap any
one_place = refl

-- the third with wavelength 2: none clashes
pub other_wavelength : seek (clashes_in three (rec 1 1 1 ++ (rec 2 1 1 ++ rec 3 1 2))) 0 3 ≡ 3
unfolding seek clashes_in clash overlap any
other_wavelength = refl

-- the third on fibre 2: none clashes
pub other_fibre : seek (clashes_in three (rec 1 1 1 ++ (rec 2 1 1 ++ rec 3 2 1))) 0 3 ≡ 3
unfolding seek clashes_in clash overlap any
other_fibre = refl
