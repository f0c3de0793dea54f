-- Records that are written one after the other are those of the list. Assumes nothing.
use Prim.Native.Nat.{ℕ, zero, suc, ◌+◌, ◌*◌}
use mathlib.Core.Path.{◌≡◌, refl, sym, ap, ◌∙◌}
use mathlib.Core.List.{List, ◌++◌, append_assoc, append-nil}
use native.Mathlib.Omega.{arith}
use lib.ListN.{length, drop}
use Rattle.basics.specs.Tools.{each}
use Rattle.basics.proofs.Tables.{each_same, length_each}
use Rattle.records.specs.Records.{circuit_of, circuits_in, put_record, record_at}
use Rattle.records.specs.declared.Circuit.{Circuit}
use Rattle.records.proofs.Series.{put_record_more}
use Rattle.method.specs.Line.{Assignment, Fibre, circuit}
use Rattle.method.proofs.Circuits.{circuit_in_lem}
use Rattle.register.specs.Lists.{assignment_list, assignment_record, assignment_records, fibre_record}
use Rattle.register.proofs.Reading.{length_assignment_records}

-- a fibre record has 8 bytes
pub length_fibre_record : (number : ℕ) (f : Fibre) → length (fibre_record number f) ≡ 8
unfolding fibre_record
length_fibre_record number f = refl

-- an assignment record has 8 bytes
length_assignment_record : (from : ℕ) (c : Circuit) (g : Assignment) → length (assignment_record from c g) ≡ 8
unfolding assignment_record
length_assignment_record from c g = refl

-- the circuits one by one are the file
pub each_circuit : (m : ℕ) (s : List ℕ) → each (circuit (circuits_in m s)) 0 m ≡ circuits_in m s
each_circuit m s =
    each_same (circuit (circuits_in m s)) (λ i. circuit_of (record_at s i)) 0 m (λ j a b. circuit_in_lem m s j (omega arith))
    ∙ unfold circuits_in in sym (λ k. circuits_in m s)

-- an assignment list is the same over all lists that have the same rest
pub same_rest : (from : ℕ) (cs : List Circuit) (gs : List Assignment) (old new : List ℕ) → drop (8 * length cs) new ≡ drop (8 * length cs) old
    → assignment_list from cs gs new ≡ assignment_list from cs gs old
unfolding assignment_list
same_rest from cs gs old new e = ap (λ (x : List ℕ). assignment_records from cs gs ++ x) e

module _ (from : ℕ) (c : ℕ → Circuit) (g : ℕ → Assignment) where
  -- one more record at the end
  records_more : (i k : ℕ) → assignment_records from (each c i (suc k)) (each g i (suc k)) ≡ assignment_records from (each c i k) (each g i k) ++ assignment_record from (c (i + k)) (g (i + k))
  unfolding assignment_records each
  records_more i zero = let e : i + 0 ≡ i = omega arith in rw (e, append-nil (assignment_record from (c i) (g i)))
  records_more i (suc k) =
      let e : i + suc k ≡ suc i + k = omega arith in
      rw e (ap (λ r. assignment_record from (c i) (g i) ++ r) (records_more (suc i) k) ∙ sym (append_assoc (assignment_record from (c i) (g i)) _ _))

  -- record j is written after the j records before it
  pub records_turn : (j : ℕ) (out₀ out out' : List ℕ) → out ≡ assignment_records from (each c 0 j) (each g 0 j) ++ drop (8 * j) out₀
      → out' ≡ put_record out j (assignment_record from (c j) (g j))
      → out' ≡ assignment_records from (each c 0 (j + 1)) (each g 0 (j + 1)) ++ drop (8 * (j + 1)) out₀
  records_turn j out₀ out out' o q =
      let d : List ℕ = assignment_records from (each c 0 j) (each g 0 j) in
      let r : List ℕ = assignment_record from (c j) (g j) in
      let z : 0 + j ≡ j = omega arith in
      let e : suc j ≡ j + 1 = omega arith in
      let l : length d ≡ 8 * j = length_assignment_records from (each c 0 j) (each g 0 j) (length_each g 0 j ∙ sym (length_each c 0 j)) ∙ ap (λ (x : ℕ). 8 * x) (length_each c 0 j) in
      let more : d ++ r ≡ assignment_records from (each c 0 (j + 1)) (each g 0 (j + 1)) =
      ap (λ (x : ℕ). d ++ assignment_record from (c x) (g x)) (sym z) ∙ sym (records_more 0 j) ∙ ap (λ (x : ℕ). assignment_records from (each c 0 x) (each g 0 x)) e in
      q ∙ ap (λ (x : List ℕ). put_record x j r) o ∙ put_record_more d r out₀ j l (length_assignment_record from (c j) (g j)) ∙ ap (λ (x : List ℕ). x ++ drop (8 * (j + 1)) out₀) more
