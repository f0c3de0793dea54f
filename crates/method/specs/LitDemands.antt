-- What is promised of the plan of request R-1. `proofs/LitDemands.antt` shows that it holds for every n, every w ≥ 1 and every list of circuits that lie on the
-- line. What a reader must believe.
-- Assumes nothing.
use Rattle.std.specs.Prelude.{◌*◌, ◌-◌, ◌<◌, ◌≤◌, suc, ℕ, get_or, length, false, true, List, ◌≡◌}
use Rattle.records.specs.declared.Circuit.{Circuit}
use Rattle.method.specs.Demands.{Rearranged, SamePlan}
use Rattle.method.specs.Fibres.{floor, plan}
use Rattle.method.specs.Line.{Distinct, Fibre, Plan, Valid, assigned, circuit, fibre_under, fibres_over, no_fibre, over, total, uses}
use Rattle.method.specs.Lit.{fibre_number, lit_plan}
use Rattle.method.specs.Sheet.{need}

-- the rules of R-1 for a plan p beside `old`, the plan of 01: only one plan keeps them
pub record LitRules (n w : ℕ) (cs : List Circuit) (old p : Plan) : Type 0 where
  -- every circuit is carried, inside its fibre, on one of wavelengths 1 to w, and no two overlapping circuits share fibre and wavelength
  pub valid : Valid w cs p
  -- the fibres lie on the line
  pub fibres_on_line : (q : ℕ) → q < length p.fibres
      → (1 ≤ (get_or p.fibres q no_fibre).first) × ((get_or p.fibres q no_fibre).first ≤ (get_or p.fibres q no_fibre).last) × ((get_or p.fibres q no_fibre).last ≤ n)
  -- wavelengths stay
  pub wavelength_stays : (j : ℕ) → j < length cs → (assigned p j).wavelength ≡ (assigned old j).wavelength
  -- a circuit's fibre has the layer of its old one
  pub layer_stays : (j : ℕ) → j < length cs → (fibre_under p j).layer ≡ (fibre_under old j).layer
  -- and lies within it
  pub within_old : (j : ℕ) → j < length cs → ((fibre_under old j).first ≤ (fibre_under p j).first) × ((fibre_under p j).last ≤ (fibre_under old j).last)
  -- no fibre and no link of a fibre is dark: a circuit of the fibre uses it
  pub none_dark : (q x : ℕ) → q < length p.fibres → over (get_or p.fibres q no_fibre) x ≡ true
      → (j : ℕ) × (j < length cs) × (fibre_number p j ≡ suc q) × (uses (circuit cs j) x ≡ true)
  -- the runs are maximal: no circuit of the old fibre uses the link before the new fibre, or the link after
  pub maximal : (j d : ℕ) → j < length cs → d < length cs → fibre_number old d ≡ fibre_number old j
      → (uses (circuit cs d) ((fibre_under p j).first - 1) ≡ false) × (uses (circuit cs d) (suc (fibre_under p j).last) ≡ false)
  -- fibres are numbered by old fibre
  pub by_old : (d j : ℕ) → d < length cs → j < length cs → fibre_number old d < fibre_number old j → fibre_number p d < fibre_number p j
  -- then by left end
  pub by_left_end : (d j : ℕ) → d < length cs → j < length cs → fibre_number old d ≡ fibre_number old j
      → (fibre_under p d).first < (fibre_under p j).first → fibre_number p d < fibre_number p j
  -- and a run becomes one fibre
  pub one_for_a_run : (d j : ℕ) → d < length cs → j < length cs → fibre_number old d ≡ fibre_number old j
      → (fibre_under p d).first ≡ (fibre_under p j).first → fibre_number p d ≡ fibre_number p j

-- the fibres of R-1's plan
unfoldable pub lit_fibres : ℕ → ℕ → List Circuit → List Fibre
lit_fibres n w cs = (lit_plan n w cs).fibres

-- all that is promised of R-1's plan
pub record LitDemand (n w : ℕ) (cs : List Circuit) : Type 0 where
  -- the plan keeps the rules
  pub rules : LitRules n w cs (plan n w cs) (lit_plan n w cs)
  -- and no other plan does
  pub no_other : (p : Plan) → LitRules n w cs (plan n w cs) p → p ≡ lit_plan n w cs
  -- at most 2 c(i) fibres pass over link i
  pub over_few : (i : ℕ) → 1 ≤ i → i ≤ n → fibres_over (lit_fibres n w cs) i ≤ 2 * need w cs i
  -- the total is at most twice the floor
  pub total_few : total (lit_fibres n w cs) ≤ 2 * floor n w cs
  -- so it has at most twice as many fibres over each link as any valid plan
  pub twice_over : (p : Plan) → Valid w cs p → (i : ℕ) → 1 ≤ i → i ≤ n → fibres_over (lit_fibres n w cs) i ≤ 2 * fibres_over p.fibres i
  -- and at most twice the length of any
  pub twice_total : (p : Plan) → Valid w cs p → total (lit_fibres n w cs) ≤ 2 * total p.fibres
  -- at most one fibre for each circuit, so 8 bytes a circuit hold the fibre list
  pub few_fibres : length (lit_fibres n w cs) ≤ length cs
  -- the same records in another file order give the same plan
  pub any_order : (ds : List Circuit) → Distinct cs → Rearranged cs ds → SamePlan n w cs ds (lit_plan n w cs) (lit_plan n w ds)
