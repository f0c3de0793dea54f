-- A part of a file as a file of its own: it may be settled, and what that leaves is what the part is given. Assumes nothing.
use Prim.Native.Nat.{ℕ, ◌+◌, ◌*◌, ◌/◌, ◌<◌, ◌≤◌}
use lib.ListN.{get_or, length, length-map, take}
use lib.Seq.{take_at}
use mathlib.Core.List.{List, ◌++◌}
use mathlib.Core.Path.{◌≡◌, ap, ◌∙◌, subst, sym}
use native.Mathlib.Omega.{arith}
use Rattle.records.specs.Bytes.{cells_of}
use Rattle.records.specs.Records.{assignment_bytes, assignment_of, circuits_in, circuits_of, file_of, record_at}
use Rattle.records.specs.declared.Circuit.{Circuit}
use Rattle.records.proofs.CellLaws.{length_cells_of}
use Rattle.records.proofs.Files.{file_read_written, length_circuits_in, length_file_of}
use Rattle.records.proofs.Inverse.{assignment_read_written}
use Rattle.method.specs.Line.{Distinct, Lies, assigned, circuit}
use Rattle.method.specs.Lit.{lit_plan}
use Rattle.method.proofs.LitDemands.{lit_demand}
use Rattle.register.specs.Areas.{Areas, areas, zeroed_to}
use Rattle.register.specs.Lists.{assignment_list, assignment_record}
use Rattle.register.specs.declared.Counts.{Counts}
use Rattle.register.proofs.Reading.{assignment_record_lem}
use Rattle.places.proofs.Parts.{get_d_map}
use Rattle.planner.specs.Settled.{Admitted, Settled}
use Rattle.parts.specs.Part.{ApartAsked, Once, PartAsked, PartSettled, Scattered, chosen}
use Rattle.parts.proofs.Scattering.{scattered_same}

-- THE PART'S FILE. Its circuits are the part
part_read : (part : List Circuit) (k : ℕ) (s : List ℕ) → length part ≡ k → s ≡ file_of part → circuits_in k s ≡ part
part_read part k s n e =
    let l = length_file_of part in
    let z : k ≡ length (file_of part) / 8 = omega arith in
    ap (circuits_in k) e ∙ ap (λ x. circuits_in x (file_of part)) z ∙ file_read_written part

-- the first 8 k bytes, where the part was copied
pub part_lent : (part : List Circuit) (k : ℕ) (file rest : List ℕ) → length part ≡ k → file ≡ file_of part ++ rest → take (8 * k) file ≡ file_of part
part_lent part k file rest n e = ap (take (8 * k)) e ∙ take_at (file_of part) rest (8 * k) (let l = length_file_of part in omega arith)

-- numbers that differ stand at places that differ
once_distinct : (cs : List Circuit) (js : List ℕ) (k : ℕ) → length js ≡ k → Distinct (chosen cs js) → Once k js
unfolding circuit
once_distinct cs js k n once t r lt lr e =
    let l = length-map js (circuit cs) in
    once t r (omega arith) (omega arith)
    (ap (λ (c : Circuit). c.number) (get_d_map (circuit cs) js t (omega arith) ∙ ap (circuit cs) e ∙ sym (get_d_map (circuit cs) js r (omega arith))))

module _ (n w k from b : ℕ) (places fibres assigns work : List ℕ) where
  -- it may be planned as a file of its own
  pub apart_asked : (s part : List ℕ) → PartAsked n w k from b s places (areas fibres assigns work) → part ≡ file_of (chosen (circuits_of s) (cells_of places))
      → ApartAsked n w k from b (length s / 8) part places (areas fibres assigns work)
  apart_asked s part h e =
      let js = cells_of places in
      let l : length (chosen (circuits_of s) js) ≡ k = length-map js (circuit (circuits_of s)) ∙ length_cells_of places k h.listed in
      let q = part_read (chosen (circuits_of s) js) k part l e in
      record {
        accepted = record {
          file = record {
            line = h.line;
            few = h.few;
            whole = ap length e ∙ length_file_of (chosen (circuits_of s) js) ∙ ap (λ x. 8 * x) l;
            lies = subst (Lies n) (sym q) h.lies;
            distinct = subst Distinct (sym q) h.distinct;
          };
          waves = h.waves;
        };
        listed = h.listed;
        once = once_distinct (circuits_of s) js k (length_cells_of places k h.listed) h.distinct;
        rooms = h.rooms;
      }

  module _ (m : ℕ) (part : List ℕ) (h : ApartAsked n w k from b m part places (areas fibres assigns work)) where
    -- SETTLED, with a list of its own for the assignments
    pub admitted : (list : List ℕ) → length list ≡ 16384 → Admitted n w k from part (areas fibres list work)
    admitted list l =
        let few = h.accepted.file.few in
        record { accepted = h.accepted; fibre_room = h.rooms.fibre_room; assign_room = omega arith; work_room = h.rooms.work_room; number_room = h.rooms.number_room }

    -- the record of each place is there
    pub place_room : (t : ℕ) → t < k → 8 * (b + get_or (cells_of places) t 0) + 8 ≤ length assigns
    place_room t l = let x = h.rooms.places t (omega (arith, length_cells_of places k h.listed)) in let y = h.rooms.assign_room in omega arith

    -- a record of that list, read and written, is what the plan gives
    given_record : (list₀ list : List ℕ) → list ≡ assignment_list from (circuits_in k part) (lit_plan n w (circuits_in k part)).assignments list₀ → (t : ℕ) → t < k
        → assignment_bytes (assignment_of (record_at list t)) ≡ assignment_record from (circuit (circuits_in k part) t) (assigned (lit_plan n w (circuits_in k part)) t)
    unfolding assignment_list assignment_record circuit assigned
    given_record list₀ list e t l =
        let cs = circuits_in k part in
        let p = lit_plan n w cs in
        let v = (lit_demand n w cs h.accepted.file.lies h.accepted.waves.0).rules.valid.all_assigned in
        let c = circuit cs t in
        let g = assigned p t in
        ap (λ x. assignment_bytes (assignment_of x)) (ap (λ x. record_at x t) e ∙ assignment_record_lem from cs p.assignments _ t v (omega (arith, length_circuits_in k part)))
        ∙ ap assignment_bytes (assignment_read_written (record { circuit = c.number; fibre = from + g.fibre; wavelength = g.wavelength }))

    -- what is left when its records are put at their places
    pub settled_part : (list₀ list fibres' assigns' work' : List ℕ) (counts : Counts) → Settled n w k from part (areas fibres list₀ work) (areas fibres' list work') counts
        → Scattered b k (cells_of places) (λ t. assignment_bytes (assignment_of (record_at list t))) assigns assigns'
        → PartSettled n w from b (circuits_in k part) (cells_of places) (areas fibres assigns work) (areas fibres' assigns' work') counts
    settled_part list₀ list fibres' assigns' work' counts s y =
        let js = cells_of places in
        let cs = circuits_in k part in
        let many = length_cells_of places k h.listed in
        record {
          counted = s.registered.counted;
          listed = s.registered.listed;
          assigned_each = subst (λ x. Scattered b x js (λ t. assignment_record from (circuit cs t) (assigned (lit_plan n w cs) t)) assigns assigns') (sym many)
              (scattered_same b js (λ t. assignment_bytes (assignment_of (record_at list t))) (λ t. assignment_record from (circuit cs t) (assigned (lit_plan n w cs) t)) k assigns assigns'
              (given_record list₀ list s.registered.assigned) y);
          cleared = s.cleared ∙ ap (λ x. zeroed_to (4 * n + 4 * x) work) (sym many);
        }

-- what is left of the part's file is left of the part
pub part_settled : (n w from b k : ℕ) (js : List ℕ) (part : List Circuit) (s : List ℕ) (before after : Areas) (counts : Counts) → length part ≡ k → s ≡ file_of part
    → PartSettled n w from b (circuits_in k s) js before after counts → PartSettled n w from b part js before after counts
part_settled n w from b k js part s before after counts l e = subst (λ x. PartSettled n w from b x js before after counts) (part_read part k s l e)
