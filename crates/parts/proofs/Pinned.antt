-- What is promised of a part fixes the answer and every byte. Assumes nothing.
use Prim.Native.Nat.{ℕ, ◌+◌, ◌*◌, ◌/◌, ◌%◌, ◌<◌}
use lib.Dec.{eqb}
use lib.ListN.{drop, get_or, length}
use lib.Seq.{ext_get_or, get_or-drop, get_or-take}
use mathlib.Core.List.{List}
use mathlib.Core.Logic.{◌≢◌}
use mathlib.Core.Path.{◌≡◌, ap, ◌∙◌, sym}
use native.Mathlib.Omega.{arith}
use borrow.Author.Tests.{eq-eqb, eqb-true}
use Rattle.basics.specs.Tools.{any}
use Rattle.basics.proofs.Bools.{clash, on}
use Rattle.basics.proofs.Searches.{any_false, any_true}
use Rattle.records.specs.Records.{record_at}
use Rattle.records.specs.declared.Circuit.{Circuit}
use Rattle.register.specs.Areas.{Areas}
use Rattle.register.specs.declared.Counts.{Counts}
use Rattle.parts.specs.Part.{PartSettled, Scattered}

-- a byte stands in its record
pub byte_in : (s : List ℕ) (j : ℕ) → get_or s j 0 ≡ get_or (record_at s (j / 8)) (j % 8) 0
byte_in s j =
    let z : j ≡ 8 * (j / 8) + j % 8 = omega arith in
    ap (λ x. get_or s x 0) z ∙ sym (get_or-take 8 (drop (8 * (j / 8)) s) (j % 8) 0 (omega arith) ∙ get_or-drop (8 * (j / 8)) s (j % 8) 0)

module _ (b k : ℕ) (js : List ℕ) (f : ℕ → List ℕ) (s x y : List ℕ) (h : Scattered b k js f s x) (g : Scattered b k js f s y) where
  -- record by record the same
  same_record : (i : ℕ) → record_at x i ≡ record_at y i
  same_record i =
      on (any (λ t. eqb i (b + get_or js t 0)) k)
      (λ e.
      let z = any_true (λ t. eqb i (b + get_or js t 0)) k e in
      let q : i ≡ b + get_or js z.0 0 = eqb-true i (b + get_or js z.0 0) z.2 in
      ap (record_at x) q ∙ h.put z.0 z.1 ∙ sym (ap (record_at y) q ∙ g.put z.0 z.1))
      (λ e.
      let away : (t : ℕ) → t < k → i ≢ b + get_or js t 0 = λ t l q. clash (eqb i (b + get_or js t 0)) (eq-eqb i (b + get_or js t 0) q) (any_false (λ t. eqb i (b + get_or js t 0)) k e t l) in
      h.kept i away ∙ sym (g.kept i away))

  -- so byte by byte
  pub scattered_pins : x ≡ y
  scattered_pins = ext_get_or 0 x y (h.sized ∙ sym g.sized) (λ j l. byte_in x j ∙ ap (λ r. get_or r (j % 8) 0) (same_record (j / 8)) ∙ sym (byte_in y j))

-- two answers, with what they leave, are equal
pub part_pins : (n w from b : ℕ) (part : List Circuit) (js : List ℕ) (before one two : Areas) (c d : Counts) → PartSettled n w from b part js before one c → PartSettled n w from b part js before two d
    → (c ≡ d) × (one.fibres ≡ two.fibres) × (one.assigns ≡ two.assigns) × (one.work ≡ two.work)
part_pins n w from b part js before one two c d h g =
    (h.counted ∙ sym g.counted, h.listed ∙ sym g.listed, scattered_pins b (length js) js _ before.assigns one.assigns two.assigns h.assigned_each g.assigned_each, h.cleared ∙ sym g.cleared)
