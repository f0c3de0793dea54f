-- The circuits at some places of a file, copied one after the other. Assumes nothing.
use Prim.Native.Nat.{ℕ, suc, ◌+◌, ◌*◌, ◌/◌, ◌<◌}
use lib.ListN.{drop, get_or, length, take}
use lib.Seq.{length-take-le, take-suc}
use mathlib.Core.List.{List, [], ◌∷◌, ◌++◌, append_assoc}
use mathlib.Core.Path.{◌≡◌, refl, ap, ◌∙◌, sym}
use native.Mathlib.Omega.{arith}
use Rattle.records.specs.Bytes.{cell, cells_of}
use Rattle.records.specs.Records.{circuit_bytes, circuit_of, circuits_of, file_of, put_record, record_at}
use Rattle.records.specs.declared.Circuit.{Circuit}
use Rattle.records.proofs.CellLaws.{cell_is}
use Rattle.records.proofs.Files.{length_file_of}
use Rattle.records.proofs.Series.{put_record_more}
use Rattle.method.specs.Line.{circuit, nobody}
use Rattle.method.proofs.Circuits.{circuit_in_lem}
use Rattle.places.proofs.Parts.{get_d_map}
use Rattle.parts.specs.Part.{PlacesOf, chosen}

-- the place that cell t names
pub place_read : (places : List ℕ) (k t x i : ℕ) → length places ≡ 2 * k → t < k → x ≡ cell places t → i ≡ x → i ≡ get_or (cells_of places) t 0
place_read places k t x i n l e q = q ∙ e ∙ cell_is places t (omega arith)

-- what is read at a place is the circuit of the part
pub chosen_read : (s js : List ℕ) (t i : ℕ) (c : Circuit) → t < length js → PlacesOf (length s / 8) js → i ≡ get_or js t 0 → c ≡ circuit_of (record_at s i)
    → c ≡ get_or (chosen (circuits_of s) js) t nobody
chosen_read s js t i c l there q e =
    e ∙ ap (λ x. circuit_of (record_at s x)) q ∙ sym (get_d_map (circuit (circuits_of s)) js t l ∙ circuit_in_lem (length s / 8) s (get_or js t 0) (there t l))

-- a file of one circuit more
file_more : (cs : List Circuit) (c : Circuit) → file_of (cs ++ (c ∷ [])) ≡ file_of cs ++ circuit_bytes c
unfolding file_of
file_more [] c = refl
file_more (d ∷ cs) c = ap (λ x. circuit_bytes d ++ x) (file_more cs c) ∙ sym (append_assoc (circuit_bytes d) (file_of cs) (circuit_bytes c))

-- one circuit more is copied
pub copied_more : (part : List Circuit) (t : ℕ) (c : Circuit) (file₀ file file' : List ℕ) → t < length part → c ≡ get_or part t nobody
    → file ≡ file_of (take t part) ++ drop (8 * t) file₀ → file' ≡ put_record file t (circuit_bytes c) → file' ≡ file_of (take (t + 1) part) ++ drop (8 * (t + 1)) file₀
copied_more part t c file₀ file file' l q h e =
    let z : suc t ≡ t + 1 = omega arith in
    let n : length (file_of (take t part)) ≡ 8 * t = length_file_of (take t part) ∙ ap (λ x. 8 * x) (length-take-le t part (omega arith)) in
    e ∙ ap (λ x. put_record x t (circuit_bytes c)) h ∙ put_record_more (file_of (take t part)) (circuit_bytes c) file₀ t n refl
    ∙ ap (λ x. x ++ drop (8 * (t + 1)) file₀)
    (ap (λ x. file_of (take t part) ++ circuit_bytes x) q ∙ sym (file_more (take t part) (get_or part t nobody)) ∙ ap file_of (sym (take-suc part t nobody l) ∙ ap (λ x. take x part) z))
