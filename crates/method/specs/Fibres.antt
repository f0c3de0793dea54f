-- From rows to fibres. What a reader must believe.
-- Assumes nothing.
use Rattle.std.specs.Prelude.{◌*◌, ◌+◌, ◌-◌, ◌/◌, suc, zero, ℕ, eqb, leb, get_or, length, Bool, ◌&&◌, cond, false, not, List, [], ◌++◌, ◌∷◌}
use Rattle.basics.specs.Tools.{any, each, sum}
use Rattle.records.specs.declared.Circuit.{Circuit}
use Rattle.method.specs.Line.{Assignment, Fibre, Plan, circuit, over, overlap}
use Rattle.method.specs.Sheet.{most, need, rows}

-- RUNS. Link i joins the run that starts at i + 1, if there is one, and else is a run of its own
unfoldable pub join : ℕ → ℕ → List Fibre → List Fibre
join h i [] = record { first = i; last = i; layer = h } ∷ []
join h i (f ∷ fs) =
    cond
    (eqb f.first (suc i))
    (record { first = i; last = f.last; layer = h } ∷ fs)
    (record { first = i; last = i; layer = h } ∷ f ∷ fs)

-- the maximal runs of links that pass among i, i + 1, .. (k of them), from left to right, each as a fibre of layer h
unfoldable pub runs : ℕ → (ℕ → Bool) → ℕ → ℕ → List Fibre
runs h p i zero = []
runs h p i (suc k) = cond (p i) (join h i (runs h p (suc i) k)) (runs h p (suc i) k)

-- LAYERS. Row k is of layer h if it is one of rows (h − 1) × w + 1 to h × w
unfoldable pub layer_of : ℕ → ℕ → ℕ
layer_of w k = suc ((k - 1) / w)

-- a circuit in row k of layer h gets wavelength k − (h − 1) × w
unfoldable pub wavelength_of : ℕ → ℕ → ℕ
wavelength_of w k = k - (layer_of w k - 1) * w

-- each fibre twice: the first and the second of the pair
unfoldable pub twice : List Fibre → List Fibre
twice [] = []
twice (f ∷ fs) = f ∷ f ∷ twice fs

module _ (n w : ℕ) (cs : List Circuit) where
  -- whether link i is in layer h: c(i) ≥ M − h + 1
  unfoldable pub in_layer : ℕ → ℕ → Bool
  in_layer h i = leb (suc (most n w cs) - h) (need w cs i)

  -- the runs of layer h: the maximal runs of its links
  unfoldable pub layer : ℕ → List Fibre
  layer h = runs h (in_layer h) 1 n

  -- the runs of layers 1 to h, by layer and then by left end
  unfoldable pub layers : ℕ → List Fibre
  layers zero = []
  layers (suc h) = layers h ++ layer (suc h)

  -- one pair for each run of layers 1 to M
  unfoldable pub pairs : List Fibre
  pairs = layers (most n w cs)

  -- the fibres, numbered by layer, then by left end, then first and second of the pair
  unfoldable pub fibres : List Fibre
  fibres = twice pairs

  -- the floor: the sum over links of c(i)
  unfoldable pub floor : ℕ
  floor = sum (need w cs) n

-- FIRST AND SECOND. `rows` has the row of each circuit, `run` its run
module _ (cs : List Circuit) (rows : List ℕ) (run : ℕ → ℕ) where
  -- circuits d and j are of one row and one run
  unfoldable pub together : ℕ → ℕ → Bool
  together d j = eqb (get_or rows d 0) (get_or rows j 0) && eqb (run d) (run j)

  -- By rising last link, up to link e: has circuit j the first fibre? Not if it overlaps one of its row and run that already has it
  unfoldable pub on_first_by : ℕ → ℕ → Bool
  on_first_by zero j = false
  on_first_by (suc e) j =
      cond
      (eqb (circuit cs j).last (suc e))
      (not (any (λ d. together d j && leb (circuit cs d).last e && overlap (circuit cs d) (circuit cs j) && on_first_by e d) (length cs)))
      (on_first_by e j)

  -- whether circuit j has the first fibre of its pair; else it has the second
  unfoldable pub on_first : ℕ → Bool
  on_first j = on_first_by (circuit cs j).last j

-- THE PLAN
-- the place of the first fibre that passes, counted from 0, or the length of the list if none does
unfoldable pub find : (Fibre → Bool) → List Fibre → ℕ
find p [] = 0
find p (f ∷ fs) = cond (p f) 0 (suc (find p fs))

module _ (n w : ℕ) (cs : List Circuit) where
  -- the run of circuit j, as the place of its pair, counted from 0: the run of its layer over its first link
  unfoldable pub pair_of : List ℕ → ℕ → ℕ
  pair_of rows j = find (λ f. eqb f.layer (layer_of w (get_or rows j 0)) && over f (circuit cs j).first) (pairs n w cs)

  -- what circuit j is given
  unfoldable pub given : List ℕ → ℕ → Assignment
  given rows j =
      record {
        fibre = 2 * pair_of rows j + cond (on_first cs rows (pair_of rows) j) 1 2;
        wavelength = wavelength_of w (get_or rows j 0);
      }

  -- for each circuit, in the order of the file
  unfoldable pub assignments : List Assignment
  assignments = each (given (rows n w cs)) 0 (length cs)

  -- the plan of the two-phase method
  unfoldable pub plan : Plan
  plan = record { fibres = fibres n w cs; assignments = assignments }
