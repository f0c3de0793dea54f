-- The layer is ignored. Assumes nothing.
use Prim.Native.Nat.{ℕ, suc, ◌-◌, ◌/◌}
use mathlib.Core.Path.{◌≡◌, refl}
use mathlib.Core.Bool.{not, ◌&&◌, ◌||◌}
use mathlib.Core.List.{List, [], ◌∷◌}
use native.Mathlib.Omega.{arith}
use lib.Dec.{leb, ltb, eqb}
use lib.ListN.{length}
use Rattle.records.specs.Records.{circuits_of}
use Rattle.records.specs.declared.Circuit.{Circuit}
use Rattle.records.specs.declared.FibreRecord.{FibreRecord}
use Rattle.records.specs.declared.AssignmentRecord.{AssignmentRecord}
use Rattle.records.specs.declared.Line.{Line}
use Rattle.method.specs.Line.{circuit, span_length, total}
use Rattle.method.specs.Fibres.{floor}
use Rattle.refusals.specs.Table.{verdict}
use Rattle.checker.specs.Rules.{rule4, rule5, rule7, rule8, first_fault, first_of, count_fault, fibre_rules, assignment_at, assignment_rules, clashes_before, first_broken}
use Rattle.checker.specs.Sound.{ButLayers}
use Rattle.checker.specs.Checked.{answer_by, assignments_of, check_table, checked, fibres_of, finding_by, found, judged, length_in}

-- the length is that of first and last links
length_idle : (fs fs' : List FibreRecord) → ButLayers fs fs' → length_in fs ≡ length_in fs'
unfolding total span_length
length_idle [] [] b = refl
length_idle [] (f ∷ fs) b = absurd (omega (arith, b.long))
length_idle (f ∷ fs) [] b = absurd (omega (arith, b.long))
length_idle (f ∷ fs) (f' ∷ fs') b =
    let rest : ButLayers fs fs' =
    record {
      long = omega (arith, b.long);
      numbers = λ i. b.numbers (suc i);
      firsts = λ i. b.firsts (suc i);
      lasts = λ i. b.lasts (suc i);
    } in
    omega (arith, b.firsts 0, b.lasts 0, length_idle fs fs' rest)

module _ (line : Line) (cs : List Circuit) (fs fs' : List FibreRecord) (gs : List AssignmentRecord) (b : ButLayers fs fs') where
  -- the rules of a fibre
  fibre_idle : (i : ℕ) → fibre_rules line.links fs i ≡ fibre_rules line.links fs' i
  fibre_idle i =
      λ x. record { number = 1; broken = not (eqb (b.numbers i x) (suc i)) }
      ∷ record { number = 2; broken = eqb (b.firsts i x) 0 || ltb (b.lasts i x) (b.firsts i x) || ltb line.links (b.lasts i x) }
      ∷ []

  -- the rules of an assignment
  assignment_idle : (j : ℕ) → assignment_rules line.wavelengths cs fs gs j ≡ assignment_rules line.wavelengths cs fs' gs j
  assignment_idle j =
      let q = (assignment_at gs j).fibre - 1 in
      λ x. rule4 (circuit cs j) (assignment_at gs j)
      ∷ rule5 (b.long x) (assignment_at gs j)
      ∷ record { number = 6; broken = not (leb (b.firsts q x) (circuit cs j).first && leb (circuit cs j).last (b.lasts q x)) }
      ∷ rule7 line.wavelengths (assignment_at gs j)
      ∷ rule8 (clashes_before cs gs j)
      ∷ []

  -- the first broken rule
  broken_idle : first_broken line cs fs gs ≡ first_broken line cs fs' gs
  unfolding first_broken
  broken_idle =
      λ x. first_of
      (first_fault (λ i. fibre_idle i x) (b.long x) ∷
      count_fault cs gs ∷
      first_fault (λ j. assignment_idle j x) (length gs) ∷
      [])

  -- so what is found does not depend on layers
  pub layers_idle : found line cs fs gs ≡ found line cs fs' gs
  unfolding found
  layers_idle = λ x. finding_by (broken_idle x) (length_idle fs fs' b x) (floor line.links line.wavelengths cs)

-- nor does the answer, of lists of bytes of one length
pub layers_unread : (line : Line) (s fibres fibres' assigns : List ℕ) → length fibres ≡ length fibres' → ButLayers (fibres_of fibres) (fibres_of fibres')
    → checked line s fibres assigns ≡ checked line s fibres' assigns
unfolding checked judged
layers_unread line s fibres fibres' assigns e b =
    λ x. answer_by (verdict (check_table line s (e x) (length assigns)) (length s / 8)) (layers_idle line (circuits_of s) (fibres_of fibres) (fibres_of fibres') (assignments_of assigns) b x)
