-- One side of an idle link, planned alone, about what a caller sees (R-9). Assumes nothing.
use Prim.Native.Nat.{◌/◌, ◌<◌, ℕ}
use lib.ListN.{length}
use mathlib.Core.List.{List}
use mathlib.Core.Logic.{⊎_elim}
use mathlib.Core.Path.{◌∙◌, ◌≡◌, ap, sym}
use native.Mathlib.Omega.{arith}
use Rattle.std.specs.Prelude.{Ok}
use Rattle.records.specs.Records.{circuits_of, number_in}
use Rattle.records.specs.declared.Circuit.{Circuit}
use Rattle.records.specs.declared.Line.{Line}
use Rattle.records.proofs.Files.{length_circuits_in}
use Rattle.method.specs.Line.{assigned, circuit, fibre_under}
use Rattle.method.specs.Sides.{SideAlone, SideDemand}
use Rattle.method.proofs.Sides.{side_demand}
use Rattle.refusals.specs.Given.{NoneApplies}
use Rattle.register.specs.Areas.{Areas}
use Rattle.register.specs.Plans.{place_of, span_of}
use Rattle.register.specs.declared.Counts.{Counts}
use Rattle.register.proofs.Reading.{assigned_in, fibre_in_lem}
use Rattle.planner.specs.Outcome.{Answer, Outcome, plan_of, table_for}
use Rattle.planner.specs.Sides.{SideCalls, SideSheet, assignment_at, fibre_for}
use Rattle.planner.proofs.Accepting.{accepted, of_areas, of_circuits}
use Rattle.planner.proofs.Among.{Among, areas_pass, circuits_pass, table_passes}
use Rattle.planner.proofs.Demands.{number_read, planned_so, seen_1, seen_2}

-- THE RECORDS OF A PLANNED CALL hold its plan
module _ (line : Line) (s : List ℕ) (before after : Areas) (answer : Answer) (o : Outcome line s before after answer) (counts : Counts) (e : answer ≡ Ok counts)
    (j : ℕ) (l : j < length s / 8) where
  -- what circuit j is given
  given_read : assigned (plan_of line s) j ≡ place_of (assignment_at after j)
  given_read = ap (λ p. assigned p j) (sym (seen_2 line s before after answer o counts e).the_plan) ∙ assigned_in counts.fibres (length s / 8) after.fibres after.assigns j l

  -- its fibre
  fibre_read : fibre_under (plan_of line s) j ≡ span_of (fibre_for after j)
  fibre_read =
      let d = seen_2 line s before after answer o counts e in
      ap (λ p. fibre_under p j) (sym d.the_plan)
      ∙ fibre_in_lem counts.fibres (length s / 8) after.fibres after.assigns j l (d.valid.numbered j (omega (arith, length_circuits_in (length s / 8) s)))

-- TWO CALLS, of the whole file and of one side of an idle link
module _ (line : Line) (z : ℕ) (s s' : List ℕ) (before after before' after' : Areas) (answer answer' : Answer)
    (calls : SideCalls line z s s' before after before' after' answer answer') (counts : Counts) (e : answer ≡ Ok counts) where
  -- what the tests left of the whole
  passed : NoneApplies (table_for line s before)
  passed = (planned_so line s before after answer calls.whole counts e).0

  -- what is promised of each side
  due : SideDemand line.links line.wavelengths z (circuits_of s)
  due =
      let a = accepted line s (of_circuits line s _ _ _ passed) in
      side_demand line.links line.wavelengths z (circuits_of s) a.file.lies a.file.distinct a.waves.0 calls.on_line.0 calls.on_line.1 calls.idle

  -- of the side that was planned
  module _ (On : Circuit → Type 0) (side : SideAlone line.links line.wavelengths (circuits_of s) (circuits_of s') On) where
    -- its records are among those of the whole
    among : Among s s'
    among =
        record {
          whole = calls.whole_records;
          few = omega (arith, side.no_more, length_circuits_in (length s / 8) s, length_circuits_in (length s' / 8) s');
          once = side.once;
          from = λ j l. (let x = side.no_other j l in (x.0, x.1, x.2));
        }

    -- a circuit of the same number is the same circuit
    same_circuit : (i j : ℕ) → i < length s / 8 → j < length s' / 8 → number_in s i ≡ number_in s' j → circuit (circuits_of s') j ≡ circuit (circuits_of s) i
    unfolding circuit
    same_circuit i j a b q =
        let x = side.no_other j (omega (arith, length_circuits_in (length s' / 8) s')) in
        let k : x.0 ≡ i =
        (accepted line s (of_circuits line s _ _ _ passed)).file.distinct x.0 i x.1 (omega (arith, length_circuits_in (length s / 8) s))
        (ap (λ c. c.number) (sym x.2) ∙ number_read s' j b ∙ sym q ∙ sym (number_read s i a)) in
        x.2 ∙ ap (circuit (circuits_of s)) k

    -- the side's call
    alone : SideSheet line s s' before after before' after' answer'
    alone =
        let tests = circuits_pass line s s' among (of_circuits line s _ _ _ passed) in
        record {
          circuits_pass = tests;
          planned = λ areas. (seen_1 line s' before' after' answer' calls.alone).otherwise_planned (table_passes line s' _ _ _ tests areas);
          planned_only = λ counts' e'. of_areas line s' _ _ _ (planned_so line s' before' after' answer' calls.alone counts' e').0;
          long_enough = λ a b c. areas_pass line s s' among _ _ _ _ _ _ a b c passed;
          as_full = λ counts' e' i j a b q.
              let same = side.as_full j i (omega (arith, length_circuits_in (length s' / 8) s')) (omega (arith, length_circuits_in (length s / 8) s)) (same_circuit i j a b q) in
              let g = given_read line s before after answer calls.whole counts e i a in
              let g' = given_read line s' before' after' answer' calls.alone counts' e' j b in
              let f = fibre_read line s before after answer calls.whole counts e i a in
              let f' = fibre_read line s' before' after' answer' calls.alone counts' e' j b in
              record {
                wavelength = ap (λ g. g.wavelength) (sym g) ∙ sym same.wavelength ∙ ap (λ g. g.wavelength) g';
                first = ap (λ f. f.first) (sym f) ∙ sym same.first ∙ ap (λ f. f.first) f';
                last = ap (λ f. f.last) (sym f) ∙ sym same.last ∙ ap (λ f. f.last) f';
              };
        }

  -- so each side alone has what the whole has
  pub side_sheet : SideSheet line s s' before after before' after' answer'
  side_sheet =
      ⊎_elim (λ r. alone (λ c. c.last < z) (due.left (circuits_of s') r)) (λ r. alone (λ c. z < c.first) (due.right (circuits_of s') r)) calls.side
