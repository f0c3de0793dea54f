-- The report: its lines, and who stands in it. Assumes nothing.
use Prim.Native.Nat.{◌<◌, ◌≤◌, suc, zero, ℕ}
use borrow.Author.Tests.{eq-eqb, eqb-true}
use lib.Dec.{eqb}
use lib.ListN.{get_or, length, length-map}
use mathlib.Core.Bool.{Bool, true}
use mathlib.Core.List.{List, [], ◌∷◌, map}
use mathlib.Core.Path.{◌∙◌, ◌≡◌, ap, refl, sym}
use native.Mathlib.Omega.{arith}
use Rattle.basics.specs.Tools.{any, count, seek}
use Rattle.basics.proofs.Bools.{by_le, clash, never, on}
use Rattle.basics.proofs.Counts.{count_all, pigeonhole}
use Rattle.basics.proofs.Searches.{any_hit, any_true, seek_hit, seek_miss}
use Rattle.records.specs.declared.Circuit.{Circuit}
use Rattle.method.specs.Line.{Distinct}
use Rattle.places.specs.Turns.{by_number, number}
use Rattle.places.proofs.RisingLaws.{each_at, rise_at, rising_are, rising_rise, turn_of_lem}
use Rattle.mending.specs.Mending.{ReportLine}
use Rattle.mending.specs.Mended.{no_line}

-- line t is that of the circuit whose turn it is
line_at : (f : ℕ → ReportLine) (js : List ℕ) (t : ℕ) → t < length js → get_or (map f js) t no_line ≡ f (get_or js t 0)
line_at f [] t l = absurd (omega arith)
line_at f (j ∷ js) zero l = refl
line_at f (j ∷ js) (suc t) l = line_at f js t (omega arith)

-- A LIST THAT HAS EACH PLACE BELOW m THAT PASSES, and each once, is as long as they are many
module _ (who : ℕ → Bool) (m : ℕ) (js : List ℕ)
    (has : (j : ℕ) → j < m → who j ≡ true → (t : ℕ) × (t < length js) × (get_or js t 0 ≡ j))
    (are : (t : ℕ) → t < length js → (get_or js t 0 < m) × (who (get_or js t 0) ≡ true))
    (differ : (s t : ℕ) → s < t → t < length js → get_or js s 0 ≡ get_or js t 0 → ⊥) where
  -- where j stands in it
  turn_of : ℕ → ℕ
  turn_of j = seek (λ t. eqb (get_or js t 0) j) 0 (length js)

  -- one that passes does
  turn_in : (j : ℕ) → j < m → who j ≡ true → turn_of j < length js
  unfolding turn_of
  turn_in j l e =
      let r = has j l e in
      let r₁ = r.1 in
      by_le (suc (turn_of j)) (length js) (λ b. b)
      (λ b. clash (eqb (get_or js r.0 0) j) (eq-eqb (get_or js r.0 0) j r.2) (seek_miss (λ t. eqb (get_or js t 0) j) 0 (length js) r.0 (omega arith) (omega arith)))

  -- there
  turn_is : (j : ℕ) → j < m → who j ≡ true → get_or js (turn_of j) 0 ≡ j
  unfolding turn_of
  turn_is j l e = let b = turn_in j l e in eqb-true (get_or js (turn_of j) 0) j (seek_hit (λ t. eqb (get_or js t 0) j) 0 (length js) (omega arith))

  -- two turns of one circuit are one
  turn_one : (s t : ℕ) → s < length js → t < length js → get_or js s 0 ≡ get_or js t 0 → s ≡ t
  turn_one s t a b e = by_le (suc s) t (λ h. absurd (differ s t h b e)) (λ h. by_le (suc t) s (λ g. absurd (differ t s g a (sym e))) (λ g. omega arith))

  -- so the one is as long as the others are many
  listed_counts : length js ≡ count who m
  listed_counts =
      let all = count_all (λ t. true) true (length js) (λ t l. refl) in
      let no_more = pigeonhole who m (λ t. true) (length js) turn_of (λ j l e. (turn_in j l e, refl))
      (λ i j li lj ei ej q. sym (turn_is i li ei) ∙ ap (λ t. get_or js t 0) q ∙ turn_is j lj ej) in
      let no_less = pigeonhole (λ t. true) (length js) who m (λ t. get_or js t 0) (λ t l e. are t l) (λ s t ls lt es et q. turn_one s t ls lt q) in
      omega arith

-- the lines of those that pass, by rising number
module _ (cs : List Circuit) (once : Distinct cs) (numbers : (j : ℕ) → j < length cs → 1 ≤ number cs j) (who : ℕ → Bool) (f : ℕ → ReportLine)
    (named : (j : ℕ) → (f j).number ≡ number cs j) where
  -- the turns
  abbrev J : List ℕ
  J = by_number who cs

  -- the report
  abbrev report : List ReportLine
  report = map f J

  -- how many
  report_length : length report ≡ length J
  report_length = length-map J f

  -- each line is of a circuit that passes
  pub report_line : (t : ℕ) → t < length report → (j : ℕ) × (j < length cs) × (who j ≡ true) × (get_or report t no_line ≡ f j)
  report_line t l =
      let b : t < length J = omega (arith, report_length) in
      let a = each_at (λ j. (j < length cs) × (who j ≡ true)) J (rising_are who cs (length cs) 0) t b in
      (get_or J t 0, a.0, a.1, line_at f J t b)

  -- their numbers rise
  pub report_rise : (s t : ℕ) → s < t → t < length report → (get_or report s no_line).number < (get_or report t no_line).number
  report_rise s t h l =
      let b : t < length J = omega (arith, report_length) in
      omega (
        arith,
        ap (λ x. x.number) (line_at f J s (omega arith)) ∙ named (get_or J s 0),
        ap (λ x. x.number) (line_at f J t b) ∙ named (get_or J t 0),
        rise_at cs 0 J (rising_rise who cs (length cs) 0) s t h b,
      )

  -- a circuit stands in the report exactly if it passes
  pub report_has : (j : ℕ) → j < length cs → any (λ t. eqb (get_or report t no_line).number (number cs j)) (length report) ≡ who j
  report_has j l =
      let p : ℕ → Bool = λ t. eqb (get_or report t no_line).number (number cs j) in
      on (who j)
      (λ e.
      let t = turn_of_lem who cs once j l e (numbers j l) in
      let t₁ = t.1 in
      any_hit p (length report) t.0 (omega (arith, report_length))
      (eq-eqb _ (number cs j) (ap (λ x. x.number) (line_at f J t.0 t.1) ∙ named (get_or J t.0 0) ∙ ap (number cs) t.2))
      ∙ sym e)
      (λ e.
      never (any p (length report))
      (λ u.
      let r = any_true p (length report) u in
      let x = report_line r.0 r.1 in
      let z : x.0 ≡ j = once x.0 j x.1 l (sym (named x.0) ∙ sym (ap (λ y. y.number) x.3) ∙ eqb-true _ (number cs j) r.2) in
      clash (who j) (ap who (sym z) ∙ x.2) e)
      ∙ sym e)

  -- as many lines as circuits that pass
  pub report_counts : length report ≡ count who (length cs)
  report_counts =
      report_length
      ∙ listed_counts who (length cs) J (λ j l e. turn_of_lem who cs once j l e (numbers j l))
      (λ t l. each_at (λ j. (j < length cs) × (who j ≡ true)) J (rising_are who cs (length cs) 0) t l)
      (λ s t h l e.
      let z : number cs (get_or J s 0) ≡ number cs (get_or J t 0) = ap (number cs) e in
      omega (arith, rise_at cs 0 J (rising_rise who cs (length cs) 0) s t h l))
