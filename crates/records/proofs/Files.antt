-- Laws of files: a file is the list of its circuits. Assumes nothing.
use Prim.Native.Nat.{ℕ, zero, suc, ◌+◌, ◌*◌, ◌/◌, ◌<◌, ◌≤◌}
use mathlib.Core.Path.{◌≡◌, refl, ap, ◌∙◌, sym}
use mathlib.Core.List.{List, [], ◌∷◌, ◌++◌}
use native.Mathlib.Nat.{zero-add}
use native.Mathlib.Omega.{arith}
use lib.ListN.{length, get_or, take, drop, length-drop, drop_of_length-le, take-append-drop}
use lib.Seq.{length-take-le, drop-drop, get_or-drop, ext_get_or}
use Rattle.basics.specs.Tools.{each}
use Rattle.basics.proofs.Tables.{length_each, get_d_each}
use Rattle.records.specs.Records.{record_at, circuit_of, circuit_bytes, circuits_in, circuits_of, file_of}
use Rattle.records.specs.declared.Circuit.{Circuit}
use Rattle.records.proofs.Encode.{take_bytes}
use Rattle.records.proofs.Inverse.{circuit_read_written, circuit_written_read}

-- the list of the first m circuits has m elements
pub length_circuits_in : (m : ℕ) (s : List ℕ) → length (circuits_in m s) ≡ m
unfolding circuits_in
length_circuits_in m s = length_each (λ i. circuit_of (record_at s i)) 0 m

-- element j of the list of circuits is the circuit that record j holds
pub circuits_in_at : (m : ℕ) (s : List ℕ) (j : ℕ) (d : Circuit) → j < m → get_or (circuits_in m s) j d ≡ circuit_of (record_at s j)
unfolding circuits_in
circuits_in_at m s j d h =
    get_d_each (λ i. circuit_of (record_at s i)) 0 m j d h ∙ ap (λ (i : ℕ). circuit_of (record_at s i)) (zero-add j)

-- a file of n circuits has 8 n bytes
pub length_file_of : (cs : List Circuit) → length (file_of cs) ≡ 8 * length cs
unfolding file_of
length_file_of [] = refl
length_file_of (c ∷ cs) = let h = length_file_of cs in omega arith

-- record j of a file is circuit j, written
pub record_at_file_of : (cs : List Circuit) (j : ℕ) (d : Circuit) → j < length cs → record_at (file_of cs) j ≡ circuit_bytes (get_or cs j d)
unfolding file_of
record_at_file_of [] j d h = absurd (omega arith)
record_at_file_of (c ∷ cs) zero d h = refl
record_at_file_of (c ∷ cs) (suc j) d h =
    let k : 8 * suc j ≡ 8 + 8 * j = omega arith in
    ap (λ (n : ℕ). take 8 (drop n (circuit_bytes c ++ file_of cs))) k
    ∙ ap (take 8) (sym (drop-drop (8 * j) 8 (circuit_bytes c ++ file_of cs))) ∙ record_at_file_of cs j d (omega arith)

-- circuits that are written to a file are read back as they were
pub file_read_written : (cs : List Circuit) → circuits_of (file_of cs) ≡ cs
file_read_written cs =
    let l = length_file_of cs in
    let n : length (file_of cs) / 8 ≡ length cs = omega arith in
    let d : Circuit = circuit_of [] in
    let s = file_of cs in
    ap (λ (m : ℕ). circuits_in m s) n
    ∙ ext_get_or d (circuits_in (length cs) s) cs (length_circuits_in (length cs) s)
    (λ j h. let b : j < length cs = omega (arith, length_circuits_in (length cs) s) in
    circuits_in_at (length cs) s j d b ∙ ap circuit_of (record_at_file_of cs j d b) ∙ circuit_read_written (get_or cs j d))

-- record k of a list of bytes is bytes
pub record_at_bytes : (s : List ℕ) (k : ℕ) → ((i : ℕ) → get_or s i 0 < 256) → (i : ℕ) → get_or (record_at s k) i 0 < 256
record_at_bytes s k h = take_bytes 8 (drop (8 * k) s) (λ i. rw (get_or-drop (8 * k) s i 0) (h (8 * k + i)))

-- a record within a list has 8 bytes
pub length_record_at : (s : List ℕ) (k : ℕ) → 8 * k + 8 ≤ length s → length (record_at s k) ≡ 8
length_record_at s k h = length-take-le 8 (drop (8 * k) s) (let l = length-drop (8 * k) s in omega arith)

-- the circuits from record k on are written as the bytes from there on
pub written_from : (m k : ℕ) (s : List ℕ) → length s ≡ 8 * (k + m) → ((i : ℕ) → get_or s i 0 < 256)
    → file_of (each (λ i. circuit_of (record_at s i)) k m) ≡ drop (8 * k) s
unfolding each file_of
written_from zero k s l h = sym (drop_of_length-le s {i = 8 * k} (omega arith))
written_from (suc m) k s l h =
    let n : 8 * suc k ≡ 8 * k + 8 = omega arith in
    let rest : file_of (each (λ i. circuit_of (record_at s i)) (suc k) m) ≡ drop 8 (drop (8 * k) s) =
    written_from m (suc k) s (omega arith) h ∙ ap (λ (j : ℕ). drop j s) n ∙ sym (drop-drop 8 (8 * k) s) in
    (λ i. circuit_written_read (record_at s k) (length_record_at s k (omega arith)) (record_at_bytes s k h) i ++ rest i) ∙ take-append-drop 8 (drop (8 * k) s)

-- whole records of bytes are what the circuits in them are written as
pub file_written_read : (m : ℕ) (s : List ℕ) → length s ≡ 8 * m → ((i : ℕ) → get_or s i 0 < 256) → file_of (circuits_of s) ≡ s
unfolding circuits_in
file_written_read m s l h =
    let n : length s / 8 ≡ m = omega arith in
    ap (λ (j : ℕ). file_of (circuits_in j s)) n ∙ written_from m 0 s (omega arith) h
