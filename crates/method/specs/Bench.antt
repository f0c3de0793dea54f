-- Bench cases 1 to 8, and a table of our own with the slips that they miss. `proofs/Bench.antt` shows that each holds. What a reader must believe.
-- Assumes nothing.
use Rattle.std.specs.Prelude.{◌<◌, ◌≤◌, ℕ, length, Bool, true, List, [], ◌∷◌, ◌≢◌, ◌≡◌}
use Rattle.records.specs.declared.Circuit.{Circuit}
use Rattle.method.specs.Demands.{during, in_row}
use Rattle.method.specs.Fibres.{floor, plan}
use Rattle.method.specs.Line.{Assignment, Fibre, Lies, Plan, Valid, circuit, total, uses}
use Rattle.method.specs.Lit.{lit_plan}
use Rattle.method.specs.Sheet.{load}

-- what a case says
pub data Case : Type 0 where
  -- the method's plan with its total and floor
  planned : (n w : ℕ) → List Circuit → List Fibre → List Assignment → (length floor : ℕ) → Case
  -- R-1's plan with its total and floor
  rented : (n w : ℕ) → List Circuit → List Fibre → List Assignment → (length floor : ℕ) → Case
  -- the least valid length
  least : (w : ℕ) → List Circuit → (length : ℕ) → Case
  -- circuits that are no row of any sheet
  no_row : List Circuit → (inner outer : ℕ) → Case

-- plan p is just this
pub record Planned (p : Plan) (n w : ℕ) (cs : List Circuit) (fs : List Fibre) (gs : List Assignment) (t f : ℕ) : Type 0 where
  pub the_plan : p ≡ record { fibres = fs; assignments = gs }
  pub the_total : total fs ≡ t
  pub the_floor : floor n w cs ≡ f

-- no valid plan is shorter than t, and one has that length
pub record Least (w : ℕ) (cs : List Circuit) (t : ℕ) : Type 0 where
  pub none_shorter : (p : Plan) → Valid w cs p → t ≤ total p.fibres
  pub best : Plan
  pub best_valid : Valid w cs best
  pub best_total : total best.fibres ≡ t

-- among the circuits of ds that pass there is, for each of cs, one with the same ends
abbrev pub HoldsEnds : (ℕ → Bool) → List Circuit → List Circuit → Type 0
HoldsEnds of ds cs = (a : ℕ) → a < length cs → (j : ℕ) × (of j ≡ true) × ((circuit ds j).first ≡ (circuit cs a).first) × ((circuit ds j).last ≡ (circuit cs a).last)

-- at most two of cs are on a link, and they are no row of any sheet, by their ends alone: circuit `inner`, a place from 0, has no link that `outer` does not use
pub record NoRow (cs : List Circuit) (inner outer : ℕ) : Type 0 where
  pub two_on_a_link : (i : ℕ) → load cs i ≤ 2
  pub two_of_them : (inner < length cs) × (outer < length cs) × (inner ≢ outer)
  pub no_own_link : (i : ℕ) → uses (circuit cs inner) i ≡ true → uses (circuit cs outer) i ≡ true
  pub no_row_lem : (n w : ℕ) (ds : List Circuit) → Lies n ds → (r f k : ℕ) → 1 ≤ k → HoldsEnds (in_row (during n w ds r f) k) ds cs → ⊥

-- a case holds
abbrev pub Holds : Case → Type 0
Holds (planned n w cs fs gs t f) = Planned (plan n w cs) n w cs fs gs t f
Holds (rented n w cs fs gs t f) = Planned (lit_plan n w cs) n w cs fs gs t f
Holds (least w cs t) = Least w cs t
Holds (no_row cs inner outer) = NoRow cs inner outer

-- every case of a table holds
abbrev pub AllHold : List Case → Type 0
AllHold [] = Unit {0}
AllHold (c ∷ cases) = Holds c × AllHold cases

-- circuit m [a, b]
abbrev pub c : ℕ → ℕ → ℕ → Circuit
c m a b = record { number = m; first = a; last = b }

-- fibre [a, b] of layer h
abbrev pub f : ℕ → ℕ → ℕ → Fibre
f a b h = record { first = a; last = b; layer = h }

-- fibre q, wavelength v
abbrev pub g : ℕ → ℕ → Assignment
g q v = record { fibre = q; wavelength = v }

-- the three circuits of case 5
abbrev pub three : List Circuit
three = c 1 1 3 ∷ c 2 1 2 ∷ c 3 2 3 ∷ []

-- the four circuits of the clash
abbrev pub clashing : List Circuit
clashing = c 1 1 2 ∷ c 2 2 4 ∷ c 3 5 6 ∷ c 4 4 9 ∷ []

-- cases 1 to 8; the least valid length of case 5 stands after it
unfoldable pub cases : List Case
cases =
    planned 1 1 [] [] [] 0 0 ∷
    planned 1 1 (c 7 1 1 ∷ []) (f 1 1 1 ∷ f 1 1 1 ∷ []) (g 1 1 ∷ []) 2 1 ∷
    planned 1 2 (c 1 1 1 ∷ c 2 1 1 ∷ c 3 1 1 ∷ []) (f 1 1 1 ∷ f 1 1 1 ∷ f 1 1 2 ∷ f 1 1 2 ∷ []) (g 1 1 ∷ g 1 2 ∷ g 3 1 ∷ []) 4 2 ∷
    planned 3 1 (c 1 1 1 ∷ c 2 3 3 ∷ []) (f 1 1 1 ∷ f 1 1 1 ∷ f 3 3 1 ∷ f 3 3 1 ∷ []) (g 1 1 ∷ g 3 1 ∷ []) 4 2 ∷
    planned 3 2 three (f 2 2 1 ∷ f 2 2 1 ∷ f 1 3 2 ∷ f 1 3 2 ∷ []) (g 3 2 ∷ g 3 1 ∷ g 4 1 ∷ []) 8 4 ∷
    least 2 three 5 ∷
    planned 5 2 (c 10 1 3 ∷ c 20 2 5 ∷ c 30 1 2 ∷ c 40 4 5 ∷ []) (f 2 2 1 ∷ f 2 2 1 ∷ f 1 5 2 ∷ f 1 5 2 ∷ []) (g 3 2 ∷ g 4 1 ∷ g 3 1 ∷ g 3 2 ∷ []) 12 6 ∷
    planned 5 2 (c 40 4 5 ∷ c 30 1 2 ∷ c 20 2 5 ∷ c 10 1 3 ∷ []) (f 2 2 1 ∷ f 2 2 1 ∷ f 1 5 2 ∷ f 1 5 2 ∷ []) (g 3 2 ∷ g 3 1 ∷ g 4 1 ∷ g 3 2 ∷ []) 12 6 ∷
    no_row clashing 2 3 ∷
    []

-- slips that cases 1 to 8 let pass, each with an instance that it gets wrong
unfoldable pub slips : List Case
slips =
    -- the rightmost run first
    planned 3 2 (c 1 1 3 ∷ c 2 1 2 ∷ c 3 2 2 ∷ []) (f 2 2 1 ∷ f 2 2 1 ∷ f 1 3 2 ∷ f 1 3 2 ∷ []) (g 3 2 ∷ g 3 1 ∷ g 1 1 ∷ []) 8 4 ∷
    -- the longest run first
    planned 4 2 (c 1 1 3 ∷ c 2 2 2 ∷ c 3 2 4 ∷ []) (f 2 2 1 ∷ f 2 2 1 ∷ f 1 4 2 ∷ f 1 4 2 ∷ []) (g 3 1 ∷ g 1 1 ∷ g 3 2 ∷ []) 10 5 ∷
    -- the lowest first link, and then the number
    planned 2 2 (c 1 2 2 ∷ c 2 1 2 ∷ []) (f 1 2 1 ∷ f 1 2 1 ∷ []) (g 1 1 ∷ g 1 2 ∷ []) 4 2 ∷
    -- the second fibre to one that meets any earlier circuit of its row
    planned 5 1 (c 1 4 5 ∷ c 2 1 2 ∷ c 3 2 4 ∷ []) (f 2 2 1 ∷ f 2 2 1 ∷ f 4 4 1 ∷ f 4 4 1 ∷ f 1 5 2 ∷ f 1 5 2 ∷ []) (g 5 1 ∷ g 5 1 ∷ g 6 1 ∷ []) 14 7 ∷
    -- what stays open left of a placed circuit is forgotten
    planned 3 1 (c 1 1 3 ∷ c 2 1 1 ∷ c 3 3 3 ∷ c 4 2 2 ∷ []) (f 1 3 1 ∷ f 1 3 1 ∷ f 1 3 2 ∷ f 1 3 2 ∷ []) (g 1 1 ∷ g 3 1 ∷ g 3 1 ∷ g 3 1 ∷ []) 12 6 ∷
    -- the shortest run first
    planned 5 1 (c 1 1 4 ∷ c 2 2 5 ∷ c 3 4 5 ∷ []) (f 4 4 1 ∷ f 4 4 1 ∷ f 2 5 2 ∷ f 2 5 2 ∷ f 1 5 3 ∷ f 1 5 3 ∷ []) (g 5 1 ∷ g 3 1 ∷ g 6 1 ∷ []) 20 10 ∷
    -- the longest run of a layer numbered first
    planned 5 1 (c 1 2 4 ∷ c 2 1 1 ∷ c 3 1 1 ∷ c 4 3 5 ∷ []) (f 1 1 1 ∷ f 1 1 1 ∷ f 3 4 1 ∷ f 3 4 1 ∷ f 1 5 2 ∷ f 1 5 2 ∷ []) (g 5 1 ∷ g 1 1 ∷ g 5 1 ∷ g 6 1 ∷ []) 16 8 ∷
    -- no more steps in a row than circuits
    planned 5 2 (c 1 2 2 ∷ c 2 1 3 ∷ c 3 5 5 ∷ []) (f 1 3 1 ∷ f 1 3 1 ∷ f 5 5 1 ∷ f 5 5 1 ∷ []) (g 1 1 ∷ g 1 2 ∷ g 3 1 ∷ []) 8 4 ∷
    -- a placed circuit makes the blue links that it crosses open
    planned 3 1 (c 1 2 3 ∷ c 2 2 3 ∷ c 3 1 2 ∷ c 4 1 2 ∷ []) (f 2 2 1 ∷ f 2 2 1 ∷ f 2 2 2 ∷ f 2 2 2 ∷ f 1 3 3 ∷ f 1 3 3 ∷ f 1 3 4 ∷ f 1 3 4 ∷ []) (g 6 1 ∷ g 8 1 ∷ g 5 1 ∷ g 7 1 ∷ []) 16 8 ∷
    -- one that crosses blue links first, and then the number
    planned 3 1 (c 1 3 3 ∷ c 2 1 2 ∷ c 3 2 3 ∷ c 4 1 2 ∷ []) (f 2 2 1 ∷ f 2 2 1 ∷ f 1 3 2 ∷ f 1 3 2 ∷ f 1 3 3 ∷ f 1 3 3 ∷ []) (g 3 1 ∷ g 3 1 ∷ g 6 1 ∷ g 5 1 ∷ []) 14 7 ∷
    -- one that ends within the run first, and then the number
    planned 3 1 (c 1 1 2 ∷ c 2 2 3 ∷ c 3 1 1 ∷ c 4 2 3 ∷ []) (f 2 2 1 ∷ f 2 2 1 ∷ f 1 3 2 ∷ f 1 3 2 ∷ f 1 3 3 ∷ f 1 3 3 ∷ []) (g 3 1 ∷ g 4 1 ∷ g 5 1 ∷ g 5 1 ∷ []) 14 7 ∷
    []
