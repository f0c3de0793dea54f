-- What the sheet program leaves unread of long files changes nothing. Assumes nothing.
use Prim.Native.Nat.{ℕ, ◌-◌}
use mathlib.Core.Path.{◌≡◌, refl, ap, subst, ◌∙◌}
use mathlib.Core.List.{List}
use native.Mathlib.Omega.{arith}
use lib.ListN.{length, take}
use lib.Seq.{length-take-le, take_all, take-take}
use borrow.Author.Tests.{ne_eqb}
use Rattle.basics.proofs.Bools.{by_le}
use Rattle.records.specs.LineFiles.{line_in}
use Rattle.records.specs.declared.Line.{Line}
use Rattle.std.specs.Prelude.{Option, Some, None}
use Rattle.prints.specs.Reads.{AtMost}
use Rattle.prints.specs.Sheets.{printed, printed_by, sheet_of}

-- the first k bytes, as they are lent
pub lent : (k : ℕ) (s : List ℕ) → take (k - 0) s ≡ take k s
lent k s = let e : k - 0 ≡ k = omega arith in ap (λ (n : ℕ). take n s) e

-- both files were read, `line.rec` says a line, and no more bytes of `circuits.rec` were read than count
pub line_printed : (line circuits : Option (List ℕ)) (s t : List ℕ) (l : Line) → line ≡ Some s → circuits ≡ Some t → line_in s ≡ Some l → AtMost 16392 circuits → printed line circuits ≡ sheet_of l t
unfolding printed
line_printed line circuits s t l e q u h =
    (λ i. printed (e i) (q i)) ∙ ap (λ (x : Option Line). printed_by x t) u ∙ ap (sheet_of l) (take_all 16392 t (subst (AtMost 16392) q h))

-- a seventh byte tells all that the length of `line.rec` can
pub line_cut : (l : List ℕ) → line_in (take 7 l) ≡ line_in l
unfolding line_in
line_cut l =
    by_le (length l) 7
    (λ h. ap line_in (take_all 7 l h))
    (λ h. let e : length (take 7 l) ≡ 7 = length-take-le 7 l (omega arith) in rw (e, ne_eqb (length l) 4 (λ z. omega arith), ne_eqb (length l) 6 (λ z. omega arith)))

-- the program reads no more than 7 bytes of `line.rec` and 16,392 of `circuits.rec`, and prints what the whole files call for
pub first_bytes_lem : (l s : List ℕ) → printed (Some (take 7 l)) (Some (take 16392 s)) ≡ printed (Some l) (Some s)
unfolding printed
first_bytes_lem l s = ap (λ (t : Option Line). printed_by t (take 16392 s)) (line_cut l) ∙ again (line_in l)
  where
    again : (t : Option Line) → printed_by t (take 16392 s) ≡ printed_by t s
    again None = refl
    again (Some line) = ap (sheet_of line) (take-take 16392 16392 s (omega arith))
