-- What is promised of the plan of the two-phase method: demands 2 and 3. `proofs/Demands.antt` shows that it holds for every n, every w ≥ 1 and every list of
-- circuits that lie on the line. What a reader must believe.
-- Assumes nothing.
use Rattle.std.specs.Prelude.{◌*◌, ◌+◌, ◌-◌, ◌<◌, ◌≤◌, suc, ℕ, eqb, get_or, length, Bool, ◌&&◌, true, List, ◌≢◌, ◌≡◌}
use Rattle.basics.specs.Tools.{count}
use Rattle.records.specs.declared.Circuit.{Circuit}
use Rattle.method.specs.Fibres.{fibres, floor, on_first, pair_of, pairs, plan}
use Rattle.method.specs.Line.{Distinct, Plan, Valid, assigned, circuit, fibres_over, no_fibre, total, uses}
use Rattle.method.specs.Sheet.{State, begun, most, need, row_of, rows, sheet, steps}

-- the same records in another file order: each record of one file stands at a place of the other, there and back
pub record Rearranged (cs ds : List Circuit) : Type 0 where
  pub there : ℕ → ℕ
  pub back : ℕ → ℕ
  pub to : (i : ℕ) → i < length cs → (there i < length ds) × (back (there i) ≡ i) × (circuit cs i ≡ circuit ds (there i))
  pub fro : (j : ℕ) → j < length ds → (back j < length cs) × (there (back j) ≡ j) × (circuit ds j ≡ circuit cs (back j))

-- plan p of file cs and plan q of file ds are the same: fibres, total and floor, and each circuit, by its number, has the same fibre and wavelength
pub record SamePlan (n w : ℕ) (cs ds : List Circuit) (p q : Plan) : Type 0 where
  pub fibres_same : p.fibres ≡ q.fibres
  pub total_same : total p.fibres ≡ total q.fibres
  pub floor_same : floor n w cs ≡ floor n w ds
  pub assigned_same : (i j : ℕ) → i < length cs → j < length ds → (circuit cs i).number ≡ (circuit ds j).number → assigned p i ≡ assigned q j

-- demand 2: the plan is valid, it carries every circuit, and file order does not matter
pub record Demand2 (n w : ℕ) (cs : List Circuit) : Type 0 where
  -- every circuit is placed, in one of the M × w rows
  pub placed : (j : ℕ) → j < length cs → (1 ≤ get_or (rows n w cs) j 0) × (get_or (rows n w cs) j 0 ≤ most n w cs * w)
  -- M × w is at most circuits + w − 1
  pub few_rows : most n w cs * w ≤ length cs + (w - 1)
  -- each circuit is inside its fibre, wavelengths are 1 to w, and no two overlapping circuits share fibre and wavelength
  pub valid : Valid w cs (plan n w cs)
  -- the fibres lie on the line
  pub fibres_on_line : (q : ℕ) → q < length (fibres n w cs)
      → (1 ≤ (get_or (fibres n w cs) q no_fibre).first) × ((get_or (fibres n w cs) q no_fibre).first ≤ (get_or (fibres n w cs) q no_fibre).last) × ((get_or (fibres n w cs) q no_fibre).last ≤ n)
  -- the same records in another file order give the same plan
  pub any_order : (ds : List Circuit) → Distinct cs → Rearranged cs ds → SamePlan n w cs ds (plan n w cs) (plan n w ds)
  -- that first and second are of one row "and one run" makes no difference
  pub run_idle : (j : ℕ) → j < length cs → on_first cs (rows n w cs) (pair_of n w cs (rows n w cs)) j ≡ on_first cs (rows n w cs) (λ d. 0) j

-- after any number of placements: r whole rows, then f steps of the next
unfoldable pub during : ℕ → ℕ → List Circuit → ℕ → ℕ → State
during n w cs r f = steps n cs f (suc r) (begun n w cs (suc r) (sheet n w cs r))

-- whether circuit j is of row k
abbrev pub in_row : State → ℕ → ℕ → Bool
in_row s k j = eqb (row_of s j) k

-- each of the circuits that pass has a link that no other of them uses
abbrev pub OwnLinks : List Circuit → (ℕ → Bool) → Type 0
OwnLinks cs of = (j : ℕ) → of j ≡ true → (i : ℕ) × (uses (circuit cs j) i ≡ true) × ((d : ℕ) → of d ≡ true → uses (circuit cs d) i ≡ true → d ≡ j)

-- how many of the circuits that pass use link i
abbrev pub load_of : List Circuit → (ℕ → Bool) → ℕ → ℕ
load_of cs of i = count (λ j. of j && uses (circuit cs j) i) (length cs)

-- demand 3: the rows, and so at most twice the fibres over each link and twice the length of any valid plan whatsoever
pub record Demand3 (n w : ℕ) (cs : List Circuit) : Type 0 where
  -- after any number of placements each circuit of a row has a link that no other circuit of its row uses
  pub own : (r f k : ℕ) → 1 ≤ k → OwnLinks cs (in_row (during n w cs r f) k)
  -- and no link carries more than two circuits of a row
  pub two : (r f k i : ℕ) → 1 ≤ k → load_of cs (in_row (during n w cs r f) k) i ≤ 2
  -- no circuit of a row lies within another
  pub none_within : (r f k : ℕ) → 1 ≤ k → (c d : ℕ) → in_row (during n w cs r f) k c ≡ true → in_row (during n w cs r f) k d ≡ true → c ≢ d
      → (circuit cs d).first ≤ (circuit cs c).first → (circuit cs c).last ≤ (circuit cs d).last → ⊥
  -- so their last links differ
  pub lasts_differ : (r f k : ℕ) → 1 ≤ k → (c d : ℕ) → in_row (during n w cs r f) k c ≡ true → in_row (during n w cs r f) k d ≡ true → c ≢ d
      → (circuit cs c).last ≢ (circuit cs d).last
  -- exactly 2 c(i) fibres pass over link i, and the total is twice the floor
  pub over : (i : ℕ) → 1 ≤ i → i ≤ n → fibres_over (fibres n w cs) i ≡ 2 * need w cs i
  pub total_is : total (fibres n w cs) ≡ 2 * floor n w cs
  -- at most one pair for each circuit
  pub few_pairs : length (pairs n w cs) ≤ length cs
  pub few_fibres : length (fibres n w cs) ≤ 2 * length cs
  -- any valid plan has at least c(i) fibres over link i, and at least the floor's length
  pub over_any : (p : Plan) → Valid w cs p → (i : ℕ) → need w cs i ≤ fibres_over p.fibres i
  pub total_any : (p : Plan) → Valid w cs p → floor n w cs ≤ total p.fibres
  -- so ours has at most twice as many over each link, and at most twice the length
  pub twice_over : (p : Plan) → Valid w cs p → (i : ℕ) → 1 ≤ i → i ≤ n → fibres_over (fibres n w cs) i ≤ 2 * fibres_over p.fibres i
  pub twice_total : (p : Plan) → Valid w cs p → total (fibres n w cs) ≤ 2 * total p.fibres
