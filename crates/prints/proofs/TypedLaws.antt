-- The parts of what is printed for a text: how long they are, and how they stand one after the other. Assumes nothing.
use Prim.Native.Nat.{ℕ, ◌+◌, ◌-◌, ◌*◌, ◌/◌, ◌≤◌}
use mathlib.Core.Path.{◌≡◌, refl, ap, subst, sym, ◌∙◌}
use mathlib.Core.List.{List, ◌++◌, append_assoc}
use native.Mathlib.Omega.{arith}
use lib.ListN.{length, length-append, drop, take, take-append-drop}
use lib.Seq.{drop-append-le, length-take-le, take_at}
use lib.Dec.{ltb}
use borrow.Author.Tests.{leb-true, ltb-false}
use borrow.Rule.Slice.PartMut.{mid_of, put_mid}
use Rattle.basics.proofs.Bools.{on}
use Rattle.records.specs.Records.{file_of}
use Rattle.records.specs.declared.Line.{Line}
use Rattle.records.proofs.Files.{length_file_of}
use Rattle.refusals.specs.Table.{verdict, circuit_rows}
use Rattle.refusals.specs.declared.Refusal.{Refusal}
use Rattle.refusals.specs.declared.Reason.{Reason}
use Rattle.refusals.specs.declared.Reason.TheVariants.{PartRecord, TooManyCircuits, Links, Wavelengths, NumberZero, WrongEnd, NumberTwice, FibreRoom, AssignmentRoom, WorkRoom, Unread, Grid, UnfitPlan, NumberTaken, IndexRoom, PartList, UnfitFibres, SheetRoom, ReportRoom}
use Rattle.refusals.specs.declared.End.{End}
use Rattle.refusals.specs.declared.End.TheVariants.{FirstZero, FirstPastLast, LastPastLine}
use Rattle.std.specs.Prelude.{Option, Some, None, Result, Ok, Err}
use Rattle.grid.specs.Frequencies.{limit_of}
use Rattle.text.specs.Decimals.{decimal}
use Rattle.text.specs.Words.{words, codes}
use Rattle.text.specs.Wrote.{Wrote}
use Rattle.text.proofs.Lengths.{length_twenty}
use Rattle.text.proofs.Writing.{then_part, within}
use Rattle.entry_text.specs.Entered.{entry_of, Enters}
use Rattle.entry_text.specs.Entries.{read, too_long}
use Rattle.entry_text.specs.Messages.{message_by}
use Rattle.entry_text.specs.declared.Entry.{Entry}
use Rattle.entry_text.specs.declared.Wrong.{Wrong}
use Rattle.entry_text.specs.Pair.{grid_of}
use Rattle.entry_text.proofs.PairLaws.{counted}
use Rattle.prints.specs.Sheets.{sheet_of}
use Rattle.prints.specs.Typed.{end_words, explained, refusal_words, typed_by, typed_sheet, typed_text}

-- the words with the grid's limit are at most 64 bytes
limit_room : (grid : ℕ) → length (words "not 1 to " ++ decimal (limit_of grid) ++ words " wavelengths\n") ≤ 64
unfolding words codes
limit_room grid =
    let d = decimal (limit_of grid) in
    omega (arith, length_twenty (limit_of grid), length-append (words "not 1 to ") d, length-append (words "not 1 to " ++ d) (words " wavelengths\n"))

-- so are those of an end
end_room : (end : Option End) → length (end_words end) ≤ 64
unfolding end_words words codes
end_room (Some FirstZero) = leb-true _ _ refl
end_room (Some FirstPastLast) = leb-true _ _ refl
end_room (Some LastPastLine) = leb-true _ _ refl
end_room None = leb-true _ _ refl

-- and all words of a refusal
pub words_room : (grid : ℕ) (reason : Reason) (end : Option End) → length (refusal_words grid reason end) ≤ 64
unfolding refusal_words words codes
words_room grid Wavelengths end = limit_room grid
words_room grid WrongEnd end = end_room end
words_room grid Links end = leb-true _ _ refl
words_room grid NumberZero end = leb-true _ _ refl
words_room grid NumberTwice end = leb-true _ _ refl
words_room grid Grid end = leb-true _ _ refl
words_room grid PartRecord end = leb-true _ _ refl
words_room grid TooManyCircuits end = leb-true _ _ refl
words_room grid FibreRoom end = leb-true _ _ refl
words_room grid AssignmentRoom end = leb-true _ _ refl
words_room grid WorkRoom end = leb-true _ _ refl
words_room grid Unread end = leb-true _ _ refl
words_room grid UnfitPlan end = leb-true _ _ refl
words_room grid NumberTaken end = leb-true _ _ refl
words_room grid IndexRoom end = leb-true _ _ refl
words_room grid PartList end = leb-true _ _ refl
words_room grid UnfitFibres end = leb-true _ _ refl
words_room grid SheetRoom end = leb-true _ _ refl
words_room grid ReportRoom end = leb-true _ _ refl

-- the first k bytes were lent, text was written at their start, and they came back
front_part : (d xs ys : List ℕ) (n k : ℕ) → length ys ≡ length (take k xs) → Wrote d n (take k xs) ys → Wrote d n xs (ys ++ drop k xs)
front_part d xs ys n k l w =
    let short = within d (take k xs) ys n w l in (
      w.0,
      ap (λ (t : List ℕ). t ++ drop k xs) w.1
          ∙ append_assoc d (drop n (take k xs)) (drop k xs)
          ∙ ap (λ (t : List ℕ). d ++ t) (sym (drop-append-le n (take k xs) (drop k xs) short) ∙ ap (drop n) (take-append-drop k xs)),
    )

-- what was written in the first k bytes ends there
pub front_within : (d xs ys : List ℕ) (n k : ℕ) → k ≤ length xs → length ys ≡ length (take k xs) → Wrote d n (take k xs) ys → n ≤ k
front_within d xs ys n k h l w = omega (arith, within d (take k xs) ys n w l, length-take-le k xs h)

-- the sheet was written in the first k bytes, and what comes after it in the rest
pub sheet_then : (text : List ℕ) (line : Line) (s xs ys zs : List ℕ) (v : Result ℕ Refusal) (n k b : ℕ) → length ys ≡ length (take k xs)
    → Wrote (sheet_of line s) n (take k xs) ys → v ≡ verdict (circuit_rows line s) (length s / 8)
    → Wrote (explained text line v) b (mid_of n (length (ys ++ drop k xs) - n) (ys ++ drop k xs)) zs
    → Wrote (typed_sheet text line s) (n + b) xs (put_mid n (length (ys ++ drop k xs) - n) (ys ++ drop k xs) zs)
unfolding typed_sheet
sheet_then text line s xs ys zs v n k b l w e p =
    let whole : List ℕ = ys ++ drop k xs in
    let both : Wrote (sheet_of line s ++ explained text line v) (n + b) xs (put_mid n (length whole - n) whole zs) =
    then_part (sheet_of line s) (explained text line v) xs whole zs n b (front_part (sheet_of line s) xs ys n k l w) p in
    subst (λ (x : Result ℕ Refusal). Wrote (sheet_of line s ++ explained text line x) (n + b) xs (put_mid n (length whole - n) whole zs)) e both

-- a text that was entered is not too long
pub not_long : (s : List ℕ) (room : ℕ) (e : Entry) (a : Result Entry Wrong) → a ≡ entry_of s room → a ≡ Ok e → length s ≤ 1048576
unfolding entry_of too_long
not_long s room e a is told =
    on (ltb 1048576 (length s))
    (λ q. let z = sym told ∙ rw q at is in cc)
    (λ q. ltb-false 1048576 (length s) q)

-- what is wrong with a text is printed
pub wrong_typed : (s : List ℕ) (a : Result Entry Wrong) (room r : ℕ) (w : Wrong) (before after : List ℕ) → room ≡ 2048 → a ≡ entry_of s room → a ≡ Err w → Wrote (message_by s a) r before after
    → Wrote (typed_text s) r before after
unfolding typed_text
wrong_typed s a room r w before after e is told x =
    let t : entry_of s 2048 ≡ Err w = sym (is ∙ ap (entry_of s) e) ∙ told in
    subst (λ (z : Result Entry Wrong). Wrote (typed_by s z) r before after) (sym t) (subst (λ (z : Result Entry Wrong). Wrote (message_by s z) r before after) told x)

-- the sheet of the circuits that were entered is printed
pub entered_typed : (s out₀ out before after : List ℕ) (line : Line) (a : Result Entry Wrong) (room : ℕ) (n : Entry) (r : ℕ) → room ≡ 2048 → Enters s room out₀ a out → a ≡ Ok n
    → line.links ≡ n.header.n → line.wavelengths ≡ n.header.w → line.grid ≡ grid_of n.header.grid → Wrote (typed_sheet s line (take (8 * n.circuits) out)) r before after → Wrote (typed_text s) r before after
unfolding typed_text
entered_typed s out₀ out before after line a room n r e entered told p q t x =
    let h = n.header in
    let m = n.circuits in
    let cs = (read s 2048).circuits in
    let is : a ≡ entry_of s 2048 = entered.0 ∙ ap (entry_of s) e in
    let many : m ≡ length cs = counted s 2048 h m a is told in
    let o : out ≡ file_of cs ++ drop (8 * length cs) out₀ = rw e at entered.1 in
    let file : take (8 * m) out ≡ file_of cs = ap (take (8 * m)) o ∙ take_at (file_of cs) (drop (8 * length cs) out₀) (8 * m) (omega (arith, many, length_file_of cs)) in
    let answer : entry_of s 2048 ≡ Ok n = sym is ∙ told in
    subst (λ (z : Result Entry Wrong). Wrote (typed_by s z) r before after) (sym answer)
    (subst (λ (z : List ℕ). Wrote (typed_sheet s (record { links = h.n; wavelengths = h.w; grid = grid_of h.grid }) z) r before after) file
    (subst (λ (l : Line). Wrote (typed_sheet s l (take (8 * m) out)) r before after) (λ i. record { links = p i; wavelengths = q i; grid = t i }) x))
