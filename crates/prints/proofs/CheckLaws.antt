-- What is printed of a check, by what was read of each file, and that what is left unread changes nothing. Assumes nothing.
use Prim.Native.Nat.{ℕ, ◌+◌, ◌*◌, ◌/◌, ◌%◌, ◌≤◌}
use mathlib.Core.Path.{◌≡◌, refl, ap, subst, sym, ◌∙◌}
use mathlib.Core.Bool.{not}
use mathlib.Core.List.{List, [], ◌∷◌, ◌++◌}
use mathlib.Core.Option.{some}
use native.Mathlib.Omega.{arith}
use lib.ListN.{length, take}
use lib.Dec.{eqb, ltb}
use lib.Seq.{length-take-le, take_all, take-take}
use borrow.Author.Tests.{lt-ltb}
use Rattle.basics.proofs.Bools.{by_le, or_r}
use Rattle.records.specs.LineFiles.{line_in}
use Rattle.records.specs.Records.{circuits_of}
use Rattle.records.specs.declared.Line.{Line}
use Rattle.std.specs.Prelude.{Option, Some, None, Result, Ok, Err}
use Rattle.refusals.specs.Table.{circuit_rows, no_end, verdict, wherever}
use Rattle.refusals.specs.declared.Refusal.{Refusal}
use Rattle.refusals.specs.declared.Reason.TheVariants.{PartList}
use Rattle.refusals.proofs.First.{verdict_passed}
use Rattle.checker.specs.Checked.{answer_by, assignments_of, checked, check_table, fibres_of, found, judged, list_rows, row16}
use Rattle.checker.specs.declared.Finding.{Finding}
use Rattle.checker.proofs.Passing.{assigns_whole, fibres_whole}
use Rattle.prints.specs.Checks.{check_of, check_printed, check_printed_by, finding_text}
use Rattle.prints.specs.Reads.{AtMost}
use Rattle.prints.proofs.Printing.{line_cut}

-- all four files were read, `line.rec` says a line, and no more bytes of `circuits.rec` were read than count
pub line_checked : (line circuits fibres assigns : Option (List ℕ)) (s t f a : List ℕ) (l : Line) → line ≡ Some s → circuits ≡ Some t → fibres ≡ Some f → assigns ≡ Some a → line_in s ≡ Some l → AtMost 16392 circuits
    → check_printed line circuits fibres assigns ≡ check_of l t f a
unfolding check_printed
line_checked line circuits fibres assigns s t f a l e q p r u h =
    (λ i. check_printed (e i) (q i) (p i) (r i)) ∙ ap (λ (x : Option Line). check_printed_by x t f a) u
    ∙ ap (λ (x : List ℕ). check_of l x f a) (take_all 16392 t (subst (AtMost 16392) q h))

-- THE READ CAPS LOSE NOTHING. A record more than a list may have tells all that its length can
row_cut : (place limit : ℕ) (list : List ℕ) → row16 place limit (length (take (8 * limit + 8) list)) ≡ row16 place limit (length list)
row_cut place limit list =
    by_le (length list) (8 * limit + 8)
    (λ h. ap (λ (t : List ℕ). row16 place limit (length t)) (take_all (8 * limit + 8) list h))
    (λ h.
    let cut : length (take (8 * limit + 8) list) ≡ 8 * limit + 8 = length-take-le (8 * limit + 8) list (omega arith) in
    long (length (take (8 * limit + 8) list)) (omega (arith, cut)) ∙ sym (long (length list) (omega arith)))
  where
    long : (has : ℕ) → 8 * limit + 8 ≤ has → row16 place limit has ≡ wherever PartList no_end (some place)
    long has h = rw (or_r (not (eqb (has % 8) 0)) (ltb limit (has / 8)) (lt-ltb limit (has / 8) (omega arith)))

-- so a check of the lists as far as they are read finds what one of the whole lists does: a list with a byte unread is refused with 16
pub check_cut : (line : Line) (s fibres assigns : List ℕ) → checked line s (take 32776 fibres) (take 16392 assigns) ≡ checked line s fibres assigns
unfolding checked judged check_table list_rows
check_cut line s fibres assigns = go (judged line s fibres assigns) refl
  where
    cut : Finding
    cut = found line (circuits_of s) (fibres_of (take 32776 fibres)) (assignments_of (take 16392 assigns))

    whole : Finding
    whole = found line (circuits_of s) (fibres_of fibres) (assignments_of assigns)

    same : judged line s (take 32776 fibres) (take 16392 assigns) ≡ judged line s fibres assigns
    same = λ i. verdict (circuit_rows line s ++ ((row_cut 1 4096 fibres i ∷ row_cut 2 2048 assigns i ∷ []) ++ [])) (length s / 8)

    go : (t : Result ℕ Refusal) → judged line s fibres assigns ≡ t → checked line s (take 32776 fibres) (take 16392 assigns) ≡ checked line s fibres assigns
    go (Err r) q = ap (λ (v : Result ℕ Refusal). answer_by v cut) (same ∙ q) ∙ sym (ap (λ (v : Result ℕ Refusal). answer_by v whole) q)
    go (Ok m) q =
        let passed = (verdict_passed (check_table line s (length fibres) (length assigns)) (length s / 8) m q).1 in
        let one : length fibres ≤ 32776 = let z = fibres_whole line s (length fibres) (length assigns) passed in omega (arith, z.0, z.1) in
        let two : length assigns ≤ 16392 = let z = assigns_whole line s (length fibres) (length assigns) passed in omega (arith, z.0, z.1) in
        λ i. checked line s (take_all 32776 fibres one i) (take_all 16392 assigns two i)

-- the program reads no more than 7 bytes of `line.rec`, 16,392 of `circuits.rec`, 32,776 of `fibres.rec` and 16,392 of `assign.rec`, and prints what the whole files call for
pub check_first_bytes : (line s fibres assigns : List ℕ)
    → check_printed (Some (take 7 line)) (Some (take 16392 s)) (Some (take 32776 fibres)) (Some (take 16392 assigns)) ≡ check_printed (Some line) (Some s) (Some fibres) (Some assigns)
unfolding check_printed check_of
check_first_bytes line s fibres assigns =
    ap (λ (t : Option Line). check_printed_by t (take 16392 s) (take 32776 fibres) (take 16392 assigns)) (line_cut line) ∙ again (line_in line)
  where
    again : (t : Option Line) → check_printed_by t (take 16392 s) (take 32776 fibres) (take 16392 assigns) ≡ check_printed_by t s fibres assigns
    again None = refl
    again (Some l) =
        ap (λ (x : List ℕ). finding_text (checked l x (take 32776 fibres) (take 16392 assigns))) (take-take 16392 16392 s (omega arith))
        ∙ ap finding_text (check_cut l (take 16392 s) fibres assigns)
