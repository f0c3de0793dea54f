-- Request R-1, no dark strands: each maximal run of links that the circuits of a fibre use becomes a fibre of the same layer in its place. What a reader must
-- believe.
-- Assumes nothing.
use Rattle.std.specs.Prelude.{◌+◌, ◌-◌, suc, zero, ℕ, eqb, get_or, length, Bool, ◌&&◌, List, [], ◌++◌}
use Rattle.basics.specs.Tools.{any, each}
use Rattle.records.specs.declared.Circuit.{Circuit}
use Rattle.method.specs.Fibres.{find, plan, runs}
use Rattle.method.specs.Line.{Assignment, Fibre, Plan, assigned, circuit, no_fibre, over, uses}

-- the number of the fibre that plan p gives to circuit j
abbrev pub fibre_number : Plan → ℕ → ℕ
fibre_number p j = (assigned p j).fibre

-- ANY PLAN p. Its fibres are the old ones, numbered from 1
-- whether link i of fibre q is lit: a circuit of the fibre uses it
unfoldable pub lit : List Circuit → Plan → ℕ → ℕ → Bool
lit cs p q i = any (λ j. eqb (fibre_number p j) q && uses (circuit cs j) i) (length cs)

module _ (n : ℕ) (cs : List Circuit) (p : Plan) where
  -- what fibre q becomes: the maximal runs of its lit links, from left to right, each as a fibre of the same layer
  unfoldable pub stretches : ℕ → List Fibre
  stretches q = runs (get_or p.fibres (q - 1) no_fibre).layer (lit cs p q) 1 n

  -- what fibres 1 to q become, by old fibre and then by left end
  unfoldable pub stretches_to : ℕ → List Fibre
  stretches_to zero = []
  stretches_to (suc q) = stretches_to q ++ stretches (suc q)

  -- the number of circuit j's new fibre: the stretch of its old fibre over its first link, counted on from what the fibres before that one become
  unfoldable pub new_fibre : ℕ → ℕ
  new_fibre j = suc (length (stretches_to (fibre_number p j - 1)) + find (λ f. over f (circuit cs j).first) (stretches (fibre_number p j)))

  -- what circuit j is given: its new fibre, and its wavelength stays
  unfoldable pub regiven : ℕ → Assignment
  regiven j = record { fibre = new_fibre j; wavelength = (assigned p j).wavelength }

  -- the plan without its dark fibres and links
  unfoldable pub trimmed : Plan
  trimmed = record { fibres = stretches_to (length p.fibres); assignments = each regiven 0 (length cs) }

-- THE PLAN OF R-1: that of the two-phase method, without its dark fibres and links
unfoldable pub lit_plan : ℕ → ℕ → List Circuit → Plan
lit_plan n w cs = trimmed n cs (plan n w cs)
