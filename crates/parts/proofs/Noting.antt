-- The circuits that have no place, noted one after the other in the cells of a table. Assumes nothing.
use Prim.Native.Nat.{◌*◌, ◌+◌, ◌<◌, ◌≤◌, suc, ℕ}
use lib.Dec.{eqb}
use lib.ListN.{length, length-set, set, take}
use lib.Seq.{get_or-set_same, take-set-le, take-suc}
use mathlib.Core.Bool.{Bool, cond, false, true}
use mathlib.Core.List.{List, [], ◌++◌, ◌∷◌, append-nil}
use mathlib.Core.Path.{◌∙◌, ◌≡◌, ap, ap₂, refl, sym}
use native.Mathlib.Nat.{add-zero, zero-add}
use native.Mathlib.Omega.{arith}
use Rattle.additions.specs.Adding.{unplaced}
use Rattle.basics.proofs.Bools.{on}
use Rattle.basics.proofs.Counts.{count_turn}
use Rattle.basics.proofs.Tables.{get_d_each}
use Rattle.basics.specs.Tools.{count}
use Rattle.method.specs.Line.{unassigned}
use Rattle.places.specs.Parts.{those}
use Rattle.places.specs.Places.{given_to}
use Rattle.records.proofs.CellLaws.{cells_room, cells_of_set}
use Rattle.records.specs.Bytes.{cells_of, set_cell}
use Rattle.records.specs.Records.{assignment_of, record_at}
use Rattle.register.specs.Plans.{place_of}
use Rattle.parts.specs.Left.{said_behind}

-- what circuit j has, as its record says
pub said_at : (b m : ℕ) (s : List ℕ) (j : ℕ) → j < m → given_to (said_behind b m s) j ≡ place_of (assignment_of (record_at s (b + j)))
unfolding given_to said_behind
said_at b m s j l =
    get_d_each (λ i. place_of (assignment_of (record_at s (b + i)))) 0 m j unassigned l ∙ ap (λ i. place_of (assignment_of (record_at s (b + i)))) (zero-add j)

-- and whether that is no place
pub left_at : (b m : ℕ) (s : List ℕ) (j : ℕ) → j < m → eqb (assignment_of (record_at s (b + j))).fibre 0 ≡ unplaced (said_behind b m s) j
unfolding unplaced
left_at b m s j l = sym (ap (λ g. eqb g.fibre 0) (said_at b m s j l))

-- of the places below j those that pass are noted: k of them, in the first k cells
pub record Noted (p : ℕ → Bool) (j k : ℕ) (places : List ℕ) : Type 0 where
  pub many : k ≡ count p j
  pub are : take k (cells_of places) ≡ those p j

-- none is noted yet
pub noted_none : (p : ℕ → Bool) (places : List ℕ) → Noted p 0 0 places
unfolding count those
noted_none p places = record { many = refl; are = refl }

-- one place more is asked
pub noted_more : (p : ℕ → Bool) (j k r : ℕ) (t : Bool) (places places' : List ℕ) → t ≡ p j → 2 * k + 2 ≤ length places → r ≡ cond t (k + 1) k
    → places' ≡ cond t (set_cell places k j) places → Noted p j k places → Noted p (j + 1) r places'
unfolding those
noted_more p j k r t places places' q room e f h =
    let z : suc j ≡ j + 1 = omega arith in
    let y : suc k ≡ k + 1 = omega arith in
    let C = cells_of places in
    let here : k < length C = omega (arith, cells_room places (k + 1) (omega arith)) in
    on t
    (λ yes.
    let e₁ : r ≡ k + 1 = e ∙ ap (λ x. cond x (k + 1) k) yes in
    let f₁ : cells_of places' ≡ set C k j = ap cells_of (f ∙ ap (λ x. cond x (set_cell places k j) places) yes) ∙ cells_of_set places k j in
    record {
      many = e₁ ∙ count_turn p j k 1 true h.many refl (sym yes ∙ q);
      are = ap₂ take (e₁ ∙ sym y) f₁ ∙ take-suc (set C k j) k 0 (omega (arith, length-set C k j))
          ∙ ap₂ (λ x v. x ++ (v ∷ [])) (take-set-le k C k j (omega arith) ∙ h.are) (get_or-set_same C k j 0 here)
          ∙ ap (λ x. those p j ++ cond x (j ∷ []) []) (sym yes ∙ q) ∙ ap (those p) z;
    })
    (λ no.
    let e₁ : r ≡ k = e ∙ ap (λ x. cond x (k + 1) k) no in
    record {
      many = e₁ ∙ sym (add-zero k) ∙ count_turn p j k 0 false h.many refl (sym no ∙ q);
      are = ap₂ take e₁ (ap cells_of (f ∙ ap (λ x. cond x (set_cell places k j) places) no)) ∙ h.are ∙ sym (append-nil (those p j))
          ∙ ap (λ x. those p j ++ cond x (j ∷ []) []) (sym no ∙ q) ∙ ap (those p) z;
    })
