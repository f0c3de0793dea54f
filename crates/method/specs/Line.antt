-- What the planner plans: circuits, fibres, plans, and when a plan is valid. What a reader must believe.
-- Links are 1 to n. A circuit is known by its place in the file, counted from 0; a fibre by its number, its place in the list counted from 1.
-- Assumes nothing.
use Rattle.std.specs.Prelude.{ℕ, suc, ◌+◌, ◌-◌, ◌≤◌, ◌<◌, Bool, true, ◌&&◌, cond, ◌≡◌, ◌≢◌, List, [], ◌∷◌, length, get_or, leb}
use Rattle.records.specs.declared.Circuit.{Circuit}

-- CIRCUITS. Past the end of a file stands nobody, who uses no link
abbrev pub nobody : Circuit
nobody = record { number = 0; first = 1; last = 0 }

-- the circuit at place j of the file
unfoldable pub circuit : List Circuit → ℕ → Circuit
circuit cs j = get_or cs j nobody

-- a circuit [a, b] uses links a, a + 1, .., b
unfoldable pub uses : Circuit → ℕ → Bool
uses c i = leb c.first i && leb i c.last

-- two circuits overlap if they share a link; for circuits that lie on the line: if each begins no later than the other ends
unfoldable pub overlap : Circuit → Circuit → Bool
overlap c d = leb c.first d.last && leb d.first c.last

-- each circuit lies on the line of n links: what refusal 6 leaves
abbrev pub Lies : ℕ → List Circuit → Type 0
Lies n cs = (j : ℕ) → j < length cs → (1 ≤ (get_or cs j nobody).first) × ((get_or cs j nobody).first ≤ (get_or cs j nobody).last) × ((get_or cs j nobody).last ≤ n)

-- no circuit number stands twice: what refusal 7 leaves
abbrev pub Distinct : List Circuit → Type 0
Distinct cs = (i j : ℕ) → i < length cs → j < length cs → (circuit cs i).number ≡ (circuit cs j).number → i ≡ j

-- FIBRES. A fibre spans links first to last
pub record Fibre : Type 0 where
  pub first : ℕ
  pub last : ℕ
  pub layer : ℕ

-- what stands past the end of a list of fibres: it spans no link
abbrev pub no_fibre : Fibre
no_fibre = record { first = 1; last = 0; layer = 0 }

-- whether a fibre passes over link i
unfoldable pub over : Fibre → ℕ → Bool
over f i = leb f.first i && leb i f.last

-- the number of links that a fibre spans
unfoldable pub span_length : Fibre → ℕ
span_length f = suc f.last - f.first

-- the length of a list of fibres: the sum of the numbers of links spanned
unfoldable pub total : List Fibre → ℕ
total [] = 0
total (f ∷ fs) = span_length f + total fs

-- how many fibres of a list pass a test
unfoldable pub tally : (Fibre → Bool) → List Fibre → ℕ
tally p [] = 0
tally p (f ∷ fs) = cond (p f) 1 0 + tally p fs

-- how many fibres of a list pass over link i
unfoldable pub fibres_over : List Fibre → ℕ → ℕ
fibres_over fs i = tally (λ f. over f i) fs

-- PLANS. What a circuit is given: one fibre, by its number, and one wavelength
pub record Assignment : Type 0 where
  pub fibre : ℕ
  pub wavelength : ℕ

-- a plan is a list of fibres and, for each circuit in the order of the file, one fibre and one wavelength
pub record Plan : Type 0 where
  pub fibres : List Fibre
  pub assignments : List Assignment

-- what stands past the end of a list of assignments
abbrev pub unassigned : Assignment
unassigned = record { fibre = 0; wavelength = 0 }

-- what plan p gives to circuit j
unfoldable pub assigned : Plan → ℕ → Assignment
assigned p j = get_or p.assignments j unassigned

-- the fibre that plan p gives to circuit j
unfoldable pub fibre_under : Plan → ℕ → Fibre
fibre_under p j = get_or p.fibres ((assigned p j).fibre - 1) no_fibre

-- a plan is valid if every circuit's links lie within its fibre's, every wavelength is 1 to w, and no two overlapping circuits have the same fibre and wavelength
pub record Valid (w : ℕ) (cs : List Circuit) (p : Plan) : Type 0 where
  pub all_assigned : length p.assignments ≡ length cs
  pub numbered : (j : ℕ) → j < length cs → (1 ≤ (assigned p j).fibre) × ((assigned p j).fibre ≤ length p.fibres)
  pub within : (j : ℕ) → j < length cs → ((fibre_under p j).first ≤ (circuit cs j).first) × ((circuit cs j).last ≤ (fibre_under p j).last)
  pub wavelength_in : (j : ℕ) → j < length cs → (1 ≤ (assigned p j).wavelength) × ((assigned p j).wavelength ≤ w)
  pub apart : (i j : ℕ) → i < length cs → j < length cs → i ≢ j → overlap (circuit cs i) (circuit cs j) ≡ true
      → (assigned p i).fibre ≡ (assigned p j).fibre → (assigned p i).wavelength ≢ (assigned p j).wavelength
