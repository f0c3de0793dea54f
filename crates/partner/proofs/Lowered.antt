-- The partner's circuits, on wavelengths 1 to s: what its floor bounds. Assumes nothing.
use Prim.Native.Nat.{◌-◌, ◌<◌, ◌≤◌, ℕ}
use lib.ListN.{length}
use mathlib.Core.List.{List}
use mathlib.Core.Path.{◌∙◌, ◌≡◌, ap, sym}
use native.Mathlib.Nat.{zero-add}
use native.Mathlib.Omega.{arith}
use Rattle.basics.specs.Tools.{each}
use Rattle.basics.proofs.Tables.{get_d_each, length_each}
use Rattle.records.specs.declared.Circuit.{Circuit}
use Rattle.method.specs.Fibres.{floor}
use Rattle.method.specs.Line.{Assignment, Plan, Valid, assigned, fibre_under, fibres_over, total, unassigned}
use Rattle.method.specs.Sheet.{need}
use Rattle.method.proofs.Bound.{floor_least, need_fits}
use Rattle.partner.specs.Asking.{PartnerValid}

module _ (w s : ℕ) (ds : List Circuit) (p : Plan) where
  -- each wavelength less w − s
  lowered : ℕ → Assignment
  lowered j = record { fibre = (assigned p j).fibre; wavelength = (assigned p j).wavelength - (w - s) }

  -- the plan with these
  abbrev down : Plan
  down = record { fibres = p.fibres; assignments = each lowered 0 (length ds) }

  -- what it gives
  down_is : (j : ℕ) → j < length ds → assigned down j ≡ lowered j
  unfolding assigned
  down_is j l = get_d_each lowered 0 (length ds) j unassigned l ∙ ap lowered (zero-add j)

  -- the same fibre
  down_fibre : (j : ℕ) → j < length ds → (assigned down j).fibre ≡ (assigned p j).fibre
  unfolding lowered
  down_fibre j l = ap (λ a. a.fibre) (down_is j l)

  -- and the lower wavelength
  down_wavelength : (j : ℕ) → j < length ds → (assigned down j).wavelength ≡ (assigned p j).wavelength - (w - s)
  unfolding lowered
  down_wavelength j l = ap (λ a. a.wavelength) (down_is j l)

  -- it is valid for s
  down_valid : s ≤ w → PartnerValid w s ds p → Valid s ds down
  unfolding fibre_under
  down_valid below y =
      let v = y.valid in
      record {
        all_assigned = length_each lowered 0 (length ds);
        numbered = λ j l. rw (down_fibre j l) (v.numbered j l);
        within = λ j l. rw (down_fibre j l) (v.within j l);
        wavelength_in = λ j l. let a = v.wavelength_in j l in let b = y.top j l in let f = down_wavelength j l in (omega arith, omega arith);
        apart = λ i j a b q o e u.
            let ti = y.top i a in
            let tj = y.top j b in
            v.apart i j a b q o (sym (down_fibre i a) ∙ e ∙ down_fibre j b) (let x = down_wavelength i a in let z = down_wavelength j b in omega arith);
      }

  -- THE FLOOR: over each link pass at least as many fibres as s wavelengths need
  pub least_over : s ≤ w → 1 ≤ s → PartnerValid w s ds p → (i : ℕ) → need s ds i ≤ fibres_over p.fibres i
  least_over below pos y = need_fits s ds pos down (down_valid below y)

  -- and they are at least as long
  pub least_total : (n : ℕ) → s ≤ w → 1 ≤ s → PartnerValid w s ds p → floor n s ds ≤ total p.fibres
  least_total n below pos y = floor_least n s ds pos down (down_valid below y)
