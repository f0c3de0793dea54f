-- What the tests leave where none of them applies. Assumes nothing.
use Prim.Native.Nat.{◌*◌, ◌+◌, ◌/◌, ◌<◌, ◌≤◌, ℕ}
use lib.ListN.{length}
use mathlib.Core.List.{List}
use mathlib.Core.Path.{◌∙◌, ap, sym}
use native.Mathlib.Omega.{arith}
use Rattle.records.specs.Records.{circuits_of}
use Rattle.records.specs.declared.Line.{Line}
use Rattle.records.proofs.Files.{circuits_in_at, length_circuits_in}
use Rattle.grid.specs.Frequencies.{limit_of}
use Rattle.grid.proofs.FrequencyLaws.{limit_small}
use Rattle.method.specs.Line.{Distinct, Lies, circuit, nobody}
use Rattle.method.specs.LitDemands.{LitDemand}
use Rattle.method.proofs.LitDemands.{lit_demand}
use Rattle.refusals.specs.declared.Reason.TheVariants.{FibreRoom, AssignmentRoom, WorkRoom}
use Rattle.refusals.specs.Given.{NoneApplies}
use Rattle.refusals.specs.Table.{file_rows, line_rows, record_rows, circuit_rows, area_rows, plan_table}
use Rattle.refusals.proofs.Passed.{passed_room, passed1, passed2, passed3, passed4, passed6, passed7}
use Rattle.refusals.proofs.Pieces.{none_first, none_left, none_rest, none_right}
use Rattle.rows.specs.Accepted.{Accepted}

module _ (line : Line) (s : List ℕ) (passed : NoneApplies (circuit_rows line s)) where
  -- no test of the file applies
  pub of_file : NoneApplies (file_rows s)
  unfolding circuit_rows
  of_file = none_left (file_rows s) _ passed

  -- no test of the line
  pub of_line : NoneApplies (line_rows line)
  unfolding circuit_rows
  of_line = none_left (line_rows line) _ (none_right (file_rows s) _ passed)

  -- no test of the records
  pub of_records : NoneApplies (record_rows line.links (length s / 8) s)
  unfolding circuit_rows
  of_records = none_left (record_rows line.links (length s / 8) s) _ (none_right (line_rows line) _ (none_right (file_rows s) _ passed))

  -- every circuit lies on the line
  lies : Lies line.links (circuits_of s)
  unfolding record_rows
  lies j l =
      let m = length s / 8 in
      let b : j < m = omega (arith, length_circuits_in m s) in
      rw (circuits_in_at m s j nobody b) (passed6 line.links s m (none_first _ _ (none_rest _ _ of_records)) j b)

  -- no number stands twice
  distinct : Distinct (circuits_of s)
  unfolding record_rows circuit
  distinct i j a b e =
      let m = length s / 8 in
      let k = length_circuits_in m s in
      let x : i < m = omega arith in
      let y : j < m = omega arith in
      passed7 s m (none_first _ _ (none_rest _ _ (none_rest _ _ of_records))) i j x y
      (ap (λ c. c.number) (sym (circuits_in_at m s i nobody x)) ∙ e ∙ ap (λ c. c.number) (circuits_in_at m s j nobody y))

  -- the file is accepted
  pub accepted : Accepted line.links line.wavelengths (length s / 8) s
  unfolding file_rows line_rows
  accepted =
      let g = limit_small line.grid in
      let v = passed4 (limit_of line.grid) line.wavelengths (none_first _ _ (none_rest _ _ (none_rest _ _ of_line))) in
      record {
        file = record {
          line = (passed3 512 line.links (none_first _ _ of_line)).1;
          few = passed2 (length s / 8) (none_first _ _ (none_rest _ _ of_file));
          whole = passed1 s (none_first _ _ of_file);
          lies = lies;
          distinct = distinct;
        };
        waves = (v.0, omega (arith, v.1));
      }

  -- all that is promised of its plan
  pub promised : LitDemand line.links line.wavelengths (circuits_of s)
  promised = lit_demand line.links line.wavelengths (circuits_of s) lies accepted.waves.0

module _ (line : Line) (s : List ℕ) (fibres assigns work : ℕ) (passed : NoneApplies (plan_table line s fibres assigns work)) where
  -- no test of the circuits applies
  pub of_circuits : NoneApplies (circuit_rows line s)
  unfolding plan_table
  of_circuits = none_left (circuit_rows line s) _ passed

  -- no test of the lent areas
  pub of_areas : NoneApplies (area_rows line.links (length s / 8) fibres assigns work)
  unfolding plan_table
  of_areas = none_left (area_rows line.links (length s / 8) fibres assigns work) _ (none_right (circuit_rows line s) _ passed)

  -- the lent areas are long enough
  pub rooms : (8 * (length s / 8) ≤ fibres) × (8 * (length s / 8) ≤ assigns) × (4 * line.links + 4 * (length s / 8) ≤ work)
  unfolding area_rows
  rooms =
      let m = length s / 8 in (
        passed_room FibreRoom (8 * m) fibres (none_first _ _ of_areas),
        passed_room AssignmentRoom (8 * m) assigns (none_first _ _ (none_rest _ _ of_areas)),
        passed_room WorkRoom (4 * line.links + 4 * m) work (none_first _ _ (none_rest _ _ (none_rest _ _ of_areas))),
      )
