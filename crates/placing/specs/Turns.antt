-- Circuits in turn: the records that are written, and who rides then. What a reader must believe.
-- Assumes nothing.
use Rattle.std.specs.Prelude.{◌+◌, ◌*◌, ◌<◌, ℕ, drop, get_or, length, take, List, [], ◌++◌, ◌∷◌, ◌≡◌}
use Rattle.records.specs.Records.{assignment_bytes, put_record, record_at}
use Rattle.records.specs.declared.Circuit.{Circuit}
use Rattle.method.specs.Line.{Assignment, Fibre}
use Rattle.places.specs.Places.{Rider, given_to, riders}
use Rattle.places.specs.Turns.{number}
use Rattle.additions.specs.Adding.{give}
use Rattle.placing.specs.Riding.{Riding}

-- the bytes of the assignment record of circuit j, which is given g
abbrev pub given_bytes : List Circuit → ℕ → Assignment → List ℕ
given_bytes ds j g = assignment_bytes (record { circuit = number ds j; fibre = g.fibre; wavelength = g.wavelength })

-- a list of assignment records in which those of the circuits at places js, behind b others, say what gs gives them; all else stays
unfoldable pub recorded : List Circuit → ℕ → List Assignment → List ℕ → List ℕ → List ℕ
recorded ds b gs [] s = s
recorded ds b gs (j ∷ js) s = recorded ds b gs js (put_record s (b + j) (given_bytes ds j (given_to gs j)))

-- js are places of circuits that have no fibre by gs, each once
pub record InTurn (m : ℕ) (gs : List Assignment) (js : List ℕ) : Type 0 where
  pub there : (t : ℕ) → t < length js → get_or js t 0 < m
  pub waiting : (t : ℕ) → t < length js → (given_to gs (get_or js t 0)).fibre ≡ 0
  pub once : (s t : ℕ) → s < length js → t < length js → get_or js s 0 ≡ get_or js t 0 → s ≡ t

-- the circuits at places js were placed in turn: their records say what they are given, and who has a place rides there
pub record PlacedAll (many w : ℕ) (old : List Rider) (ds : List Circuit) (fs : List Fibre) (gs : List Assignment) (js s₀ ends assigns heads next : List ℕ) : Type 0 where
  pub said : assigns ≡ recorded ds (length old) (give fs w old ds js gs) js s₀
  pub rides : Riding many (old ++ riders ds (give fs w old ds js gs)) ends assigns heads next

-- the records of the circuits ds, behind b others, say what gs gives them, in the order of the file; no other byte changes
pub record AllWritten (ds : List Circuit) (b : ℕ) (gs : List Assignment) (s s' : List ℕ) : Type 0 where
  pub sized : length s' ≡ length s
  pub olds : take (8 * b) s' ≡ take (8 * b) s
  pub news : (j : ℕ) → j < length ds → record_at s' (b + j) ≡ given_bytes ds j (given_to gs j)
  pub rest : drop (8 * (b + length ds)) s' ≡ drop (8 * (b + length ds)) s
